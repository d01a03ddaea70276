-- What is left out of a router's text: an IPv6 router whose AS number fits no community of two parts, without
-- a blackhole address, bounds and public lists, and a session of it whose member isn't held to its lists. And
-- the import filter of a member that is held to its lists and has none.
use Rattle.std.specs.Prelude.{ℕ, true, false, List, [], ◌∷◌, Some, None, codes}
use Rattle.std.proofs.Common.{lit<}
use Rattle.ixp_num.specs.declared.addr.Addr.{Addr}
use Rattle.ixp_num.specs.declared.family.Family.TheVariants.{V6}
use Rattle.ixp_registry.specs.declared.router.Router.{Router}
use Rattle.ixp_registry.specs.declared.rules.Action.TheVariants.{AsIs, Stop}
use Rattle.ixp_registry.specs.declared.rules.MemberRule.{MemberRule}
use Rattle.ixp_registry.specs.declared.rules.Way.TheVariants.{Advertise, Receive}
use Rattle.ixp_compile.specs.declared.inputs.HeaderInputs.{HeaderInputs}
use Rattle.ixp_compile.specs.declared.inputs.Inputs.{Inputs}
use Rattle.ixp_compile.specs.Example.{asn, private_net, member_net, example_inputs}

-- 2001:db8:1::fe
abbrev pub own_addr_6 : Addr
own_addr_6 = record { family = V6; value = 42540766411283801782723599580828532990; fits = lit< tt }

-- 2001:db8:1::1
abbrev pub first_addr_6 : Addr
first_addr_6 = record { family = V6; value = 42540766411283801782723599580828532737; fits = lit< tt }

abbrev pub plain_router : Router
plain_router = record {
  handle = codes "rs6";
  vlan = 1;
  family = V6;
  addr = own_addr_6;
  asn = asn 4200000001;
  id = 167837950;
  low = 16;
  high = 48;
  rpki = false;
  blackhole = None;
  max_comms = 0;
}

-- the one bogon is of the other family
abbrev pub plain_header : HeaderInputs
plain_header =
    record {
      router = plain_router;
      bogons = record { prefix = private_net; low = 8; high = 32 } ∷ [];
      bogon_as = [];
      transit = [];
    }

-- about the router's own AS, and about a prefix of the other family: neither is written
abbrev pub plain_rules : List MemberRule
plain_rules =
    record {
      member = 1;
      place = 1;
      way = Advertise;
      peer = Some (asn 4200000001);
      prefix = None;
      action = Stop;
    }
    ∷ record { member = 1; place = 2; way = Advertise; peer = None; prefix = Some member_net; action = Stop }
    ∷ record { member = 1; place = 3; way = Advertise; peer = Some (asn 65002); prefix = None; action = AsIs }
    ∷ record { member = 1; place = 4; way = Receive; peer = None; prefix = Some member_net; action = Stop }
    ∷ record {
      member = 1;
      place = 5;
      way = Receive;
      peer = Some (asn 4200000001);
      prefix = None;
      action = Stop;
    }
    ∷ []

abbrev pub plain_inputs : Inputs
plain_inputs = record {
  rs = asn 4200000001;
  family = V6;
  high = 48;
  rpki = false;
  blackhole = None;
  local = own_addr_6;
  interface = 7;
  address = record { addr = first_addr_6; max_prefix = 0; rs = true; irr = false; more = false; secret = [] };
  asn = asn 65001;
  addresses = first_addr_6 ∷ [];
  transit_free = true;
  prefixes = [];
  origins = [];
  rules = plain_rules;
}

-- no origins
abbrev pub unlisted_inputs : Inputs
unlisted_inputs = record example_inputs { origins = [] }

abbrev pub plain_head_lines : List (List ℕ)
plain_head_lines =
    codes "router id 10.1.0.254;"
    ∷ codes "ipv6 table master6;"
    ∷ codes "roa6 table roas6;"
    ∷ codes "function ixp_drop(int n) {"
    ∷ codes "  bgp_large_community.add((4200000001, 1101, n));"
    ∷ codes "  accept;"
    ∷ codes "}"
    ∷ codes "function ixp_net() {"
    ∷ codes "  if net.len > 48 then {"
    ∷ codes "    ixp_drop(1);"
    ∷ codes "  }"
    ∷ codes "  if net.len < 16 then {"
    ∷ codes "    ixp_drop(2);"
    ∷ codes "  }"
    ∷ codes "  if bgp_path.len = 0 then {"
    ∷ codes "    ixp_drop(6);"
    ∷ codes "  }"
    ∷ codes "  if bgp_path.len > 64 then {"
    ∷ codes "    ixp_drop(5);"
    ∷ codes "  }"
    ∷ codes "}"
    ∷ codes "function ixp_as() {"
    ∷ codes "}"
    ∷ codes "function ixp_transit() {"
    ∷ codes "}"
    ∷ codes "function ixp_sends(int p) {"
    ∷ codes "  if (4200000001, 0, p) ~ bgp_large_community then {"
    ∷ codes "    return false;"
    ∷ codes "  }"
    ∷ codes "  if (4200000001, 1, p) ~ bgp_large_community then {"
    ∷ codes "    return true;"
    ∷ codes "  }"
    ∷ codes "  if (4200000001, 0, 0) ~ bgp_large_community then {"
    ∷ codes "    return false;"
    ∷ codes "  }"
    ∷ codes "  if (4200000001, 1, 0) ~ bgp_large_community then {"
    ∷ codes "    return true;"
    ∷ codes "  }"
    ∷ codes "  return true;"
    ∷ codes "}"
    ∷ codes "function ixp_count(int p) {"
    ∷ codes "  if (4200000001, 103, p) ~ bgp_large_community then {"
    ∷ codes "    return 3;"
    ∷ codes "  }"
    ∷ codes "  if (4200000001, 102, p) ~ bgp_large_community then {"
    ∷ codes "    return 2;"
    ∷ codes "  }"
    ∷ codes "  if (4200000001, 101, p) ~ bgp_large_community then {"
    ∷ codes "    return 1;"
    ∷ codes "  }"
    ∷ codes "  if (4200000001, 1, p) ~ bgp_large_community then {"
    ∷ codes "    return 0;"
    ∷ codes "  }"
    ∷ codes "  if (4200000001, 103, 0) ~ bgp_large_community then {"
    ∷ codes "    return 3;"
    ∷ codes "  }"
    ∷ codes "  if (4200000001, 102, 0) ~ bgp_large_community then {"
    ∷ codes "    return 2;"
    ∷ codes "  }"
    ∷ codes "  if (4200000001, 101, 0) ~ bgp_large_community then {"
    ∷ codes "    return 1;"
    ∷ codes "  }"
    ∷ codes "  return 0;"
    ∷ codes "}"
    ∷ codes "function ixp_pad(int n) {"
    ∷ codes "  if n >= 1 then {"
    ∷ codes "    bgp_path.prepend(bgp_path.first);"
    ∷ codes "  }"
    ∷ codes "  if n >= 2 then {"
    ∷ codes "    bgp_path.prepend(bgp_path.first);"
    ∷ codes "  }"
    ∷ codes "  if n >= 3 then {"
    ∷ codes "    bgp_path.prepend(bgp_path.first);"
    ∷ codes "  }"
    ∷ codes "}"
    ∷ codes "filter ixp_out {"
    ∷ codes "  bgp_large_community.delete([(4200000001, 0, *), (4200000001, 1, *), (4200000001, 101, *), (4200000001, 102, *), (4200000001, 103, *), (4200000001, 1000, *), (4200000001, 1001, *), (4200000001, 1101, *)]);"
    ∷ codes "  accept;"
    ∷ codes "}"
    ∷ []

abbrev pub plain_part_lines : List (List ℕ)
plain_part_lines =
    codes "ipv6 table t_7;"
    ∷ codes "filter in_7 {"
    ∷ codes "  bgp_large_community.delete([(4200000001, 1000, *), (4200000001, 1001, *), (4200000001, 1101, *)]);"
    ∷ codes "  ixp_net();"
    ∷ codes "  if bgp_path.first != 65001 then {"
    ∷ codes "    ixp_drop(7);"
    ∷ codes "  }"
    ∷ codes "  if bgp_next_hop != from then {"
    ∷ codes "    if bgp_next_hop ~ [2001:db8:1::1] then {"
    ∷ codes "      bgp_large_community.add((4200000001, 1001, 1200));"
    ∷ codes "    } else {"
    ∷ codes "      ixp_drop(8);"
    ∷ codes "    }"
    ∷ codes "  }"
    ∷ codes "  ixp_as();"
    ∷ codes "  bgp_large_community.add((4200000001, 1001, 2));"
    ∷ codes "  bgp_large_community.add((4200000001, 1000, 3));"
    ∷ codes "  accept;"
    ∷ codes "}"
    ∷ codes "filter up_7 {"
    ∷ codes "  if bgp_large_community ~ [(4200000001, 1101, *)] then {"
    ∷ codes "    reject;"
    ∷ codes "  }"
    ∷ codes "  bgp_large_community.delete([(4200000001, 0, 65002), (4200000001, 1, 65002), (4200000001, 101, 65002), (4200000001, 102, 65002), (4200000001, 103, 65002)]);"
    ∷ codes "  bgp_large_community.add((4200000001, 1, 65002));"
    ∷ codes "  accept;"
    ∷ codes "}"
    ∷ codes "function rx_7() {"
    ∷ codes "  if bgp_path.first = 4200000001 then {"
    ∷ codes "    return false;"
    ∷ codes "  }"
    ∷ codes "  return true;"
    ∷ codes "}"
    ∷ codes "filter down_7 {"
    ∷ codes "  if !rx_7() then {"
    ∷ codes "    reject;"
    ∷ codes "  }"
    ∷ codes "  if !ixp_sends(65001) then {"
    ∷ codes "    reject;"
    ∷ codes "  }"
    ∷ codes "  ixp_pad(ixp_count(65001));"
    ∷ codes "  accept;"
    ∷ codes "}"
    ∷ codes "protocol pipe pp_7 {"
    ∷ codes "  table master6;"
    ∷ codes "  peer table t_7;"
    ∷ codes "  import filter up_7;"
    ∷ codes "  export filter down_7;"
    ∷ codes "}"
    ∷ codes "protocol bgp b_7 {"
    ∷ codes "  local 2001:db8:1::fe as 4200000001;"
    ∷ codes "  neighbor 2001:db8:1::1 as 65001;"
    ∷ codes "  rs client;"
    ∷ codes "  ipv6 {"
    ∷ codes "    table t_7;"
    ∷ codes "    import filter in_7;"
    ∷ codes "    export filter ixp_out;"
    ∷ codes "  };"
    ∷ codes "}"
    ∷ []

abbrev pub unlisted_lines : List (List ℕ)
unlisted_lines =
    codes "filter in_1 {"
    ∷ codes "  bgp_large_community.delete([(65500, 1000, *), (65500, 1001, *), (65500, 1101, *)]);"
    ∷ codes "  ixp_net();"
    ∷ codes "  if bgp_path.first != 65001 then {"
    ∷ codes "    ixp_drop(7);"
    ∷ codes "  }"
    ∷ codes "  if bgp_next_hop != from then {"
    ∷ codes "    if bgp_next_hop ~ [10.1.0.1, 10.1.0.9] then {"
    ∷ codes "      bgp_large_community.add((65500, 1001, 1200));"
    ∷ codes "    } else {"
    ∷ codes "      ixp_drop(8);"
    ∷ codes "    }"
    ∷ codes "  }"
    ∷ codes "  ixp_as();"
    ∷ codes "  ixp_transit();"
    ∷ codes "  bgp_large_community.add((65500, 1001, 1002));"
    ∷ codes "  ixp_drop(10);"
    ∷ codes "  if ixp_bh() then {"
    ∷ codes "    bgp_large_community.add((65500, 1000, 3));"
    ∷ codes "    ixp_drop(9);"
    ∷ codes "    bgp_large_community.add((65500, 1001, 1));"
    ∷ codes "    accept;"
    ∷ codes "  }"
    ∷ codes "  if roa_check(roas4, net, bgp_path.last) = ROA_INVALID then {"
    ∷ codes "    ixp_drop(13);"
    ∷ codes "  }"
    ∷ codes "  if roa_check(roas4, net, bgp_path.last) = ROA_VALID then {"
    ∷ codes "    bgp_large_community.add((65500, 1000, 1));"
    ∷ codes "    accept;"
    ∷ codes "  }"
    ∷ codes "  bgp_large_community.add((65500, 1000, 2));"
    ∷ codes "  ixp_drop(9);"
    ∷ codes "  bgp_large_community.add((65500, 1001, 1));"
    ∷ codes "  accept;"
    ∷ codes "}"
    ∷ []
