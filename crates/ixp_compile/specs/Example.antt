-- A router's text on a small example, line by line: a router of AS 65500 with a blackhole address and a bound
-- on communities, and one session of it, whose member is held to its lists and has four rules.
use Rattle.std.specs.Prelude.{ℕ, true, false, List, [], ◌∷◌, ◌++◌, Some, None, codes, refl}
use Rattle.std.proofs.Common.{lit<, lit≤}
use Rattle.ixp_num.specs.declared.addr.Addr.{Addr}
use Rattle.ixp_num.specs.declared.asn.Asn.{Asn}
use Rattle.ixp_num.specs.declared.family.Family.TheVariants.{V4}
use Rattle.ixp_num.specs.declared.pattern.Pattern.{Pattern}
use Rattle.ixp_num.specs.declared.prefix.Prefix.{Prefix}
use Rattle.ixp_registry.specs.declared.network.IfAddr.{IfAddr}
use Rattle.ixp_registry.specs.declared.router.Router.{Router}
use Rattle.ixp_registry.specs.declared.rules.Action.TheVariants.{AsIs, Prepend, Stop}
use Rattle.ixp_registry.specs.declared.rules.MemberRule.{MemberRule}
use Rattle.ixp_registry.specs.declared.rules.Way.TheVariants.{Advertise, Receive}
use Rattle.ixp_compile.specs.declared.inputs.HeaderInputs.{HeaderInputs}
use Rattle.ixp_compile.specs.declared.inputs.Inputs.{Inputs}

-- 10.1.0.254
abbrev pub own_addr : Addr
own_addr = record { family = V4; value = 167837950; fits = lit< tt }

-- 10.1.0.66
abbrev pub drop_addr : Addr
drop_addr = record { family = V4; value = 167837762; fits = lit< tt }

-- 10.1.0.1
abbrev pub first_addr : Addr
first_addr = record { family = V4; value = 167837697; fits = lit< tt }

-- 10.1.0.9
abbrev pub second_addr : Addr
second_addr = record { family = V4; value = 167837705; fits = lit< tt }

-- 10.0.0.0/8
abbrev pub private_net : Prefix
private_net =
    record { family = V4; value = 167772160; len = 8; short = lit≤ tt; fits = lit< tt; no_host_bits = refl }

-- 203.0.113.0/24
abbrev pub member_net : Prefix
member_net =
    record { family = V4; value = 3405803776; len = 24; short = lit≤ tt; fits = lit< tt; no_host_bits = refl }

abbrev pub asn : ℕ → Asn
asn n = record { 0 = n }

abbrev pub example_router : Router
example_router = record {
  handle = codes "rs1";
  vlan = 1;
  family = V4;
  addr = own_addr;
  asn = asn 65500;
  id = 167837950;
  low = 8;
  high = 24;
  rpki = true;
  blackhole = Some drop_addr;
  max_comms = 2;
}

-- two of the ranges overlap
abbrev pub example_header : HeaderInputs
example_header = record {
  router = example_router;
  bogons = record { prefix = private_net; low = 8; high = 32 } ∷ [];
  bogon_as = (asn 0, asn 0) ∷ (asn 23456, asn 23456) ∷ (asn 64512, asn 65534) ∷ (asn 65000, asn 65535) ∷ [];
  transit = asn 64800 ∷ [];
}

abbrev pub example_address : IfAddr
example_address =
    record { addr = first_addr; max_prefix = 100; rs = true; irr = true; more = false; secret = codes "s1" }

-- to 65002 two times more; of the prefix nothing to anybody; from 65003 nothing of the prefix; else all
abbrev pub example_rules : List MemberRule
example_rules =
    record {
      member = 1;
      place = 1;
      way = Advertise;
      peer = Some (asn 65002);
      prefix = None;
      action = Prepend 2;
    }
    ∷ record { member = 1; place = 2; way = Advertise; peer = None; prefix = Some member_net; action = Stop }
    ∷ record {
      member = 1;
      place = 3;
      way = Receive;
      peer = Some (asn 65003);
      prefix = Some member_net;
      action = Stop;
    }
    ∷ record { member = 1; place = 4; way = Receive; peer = None; prefix = None; action = AsIs }
    ∷ []

abbrev pub example_inputs : Inputs
example_inputs = record {
  rs = asn 65500;
  family = V4;
  high = 24;
  rpki = true;
  blackhole = Some drop_addr;
  local = own_addr;
  interface = 1;
  address = example_address;
  asn = asn 65001;
  addresses = first_addr ∷ second_addr ∷ [];
  transit_free = false;
  prefixes = member_net ∷ [];
  origins = asn 65001 ∷ [];
  rules = example_rules;
}

-- the merged sets of the one prefix
abbrev pub example_allowed : List Pattern
example_allowed = record { prefix = member_net; low = 24; high = 24 } ∷ []

abbrev pub example_covered : List Pattern
example_covered = record { prefix = member_net; low = 24; high = 32 } ∷ []

-- lines, each with its end
abbrev pub text_of : List (List ℕ) → List ℕ
text_of [] = []
text_of (line ∷ lines) = line ++ 10 ∷ text_of lines

abbrev pub head_lines : List (List ℕ)
head_lines =
    codes "router id 10.1.0.254;"
    ∷ codes "ipv4 table master4;"
    ∷ codes "roa4 table roas4;"
    ∷ codes "define ixp_bogons = [10.0.0.0/8{8,32}];"
    ∷ codes "define ixp_bogon_as = [0, 23456, 64512..65535];"
    ∷ codes "define ixp_transit_as = [64800];"
    ∷ codes "function ixp_drop(int n) {"
    ∷ codes "  bgp_large_community.add((65500, 1101, n));"
    ∷ codes "  accept;"
    ∷ codes "}"
    ∷ codes "function ixp_bh() {"
    ∷ codes "  if net.len = 32 && (65535, 666) ~ bgp_community then {"
    ∷ codes "    return true;"
    ∷ codes "  }"
    ∷ codes "  return false;"
    ∷ codes "}"
    ∷ codes "function ixp_net() {"
    ∷ codes "  if net.len > 24 && !ixp_bh() then {"
    ∷ codes "    ixp_drop(1);"
    ∷ codes "  }"
    ∷ codes "  if net.len < 8 then {"
    ∷ codes "    ixp_drop(2);"
    ∷ codes "  }"
    ∷ codes "  if net ~ ixp_bogons then {"
    ∷ codes "    ixp_drop(3);"
    ∷ codes "  }"
    ∷ codes "  if bgp_path.len = 0 then {"
    ∷ codes "    ixp_drop(6);"
    ∷ codes "  }"
    ∷ codes "  if bgp_path.len > 64 then {"
    ∷ codes "    ixp_drop(5);"
    ∷ codes "  }"
    ∷ codes "  if bgp_community.len > 2 then {"
    ∷ codes "    ixp_drop(15);"
    ∷ codes "  }"
    ∷ codes "  if bgp_large_community.len > 2 then {"
    ∷ codes "    ixp_drop(15);"
    ∷ codes "  }"
    ∷ codes "}"
    ∷ codes "function ixp_as() {"
    ∷ codes "  if bgp_path ~ ixp_bogon_as then {"
    ∷ codes "    ixp_drop(4);"
    ∷ codes "  }"
    ∷ codes "}"
    ∷ codes "function ixp_transit() {"
    ∷ codes "  if bgp_path ~ ixp_transit_as then {"
    ∷ codes "    ixp_drop(14);"
    ∷ codes "  }"
    ∷ codes "}"
    ∷ codes "function ixp_sends(int p) {"
    ∷ codes "  if (65500, 0, p) ~ bgp_large_community then {"
    ∷ codes "    return false;"
    ∷ codes "  }"
    ∷ codes "  if (65500, 1, p) ~ bgp_large_community then {"
    ∷ codes "    return true;"
    ∷ codes "  }"
    ∷ codes "  if (65500, 0, 0) ~ bgp_large_community then {"
    ∷ codes "    return false;"
    ∷ codes "  }"
    ∷ codes "  if (65500, 1, 0) ~ bgp_large_community then {"
    ∷ codes "    return true;"
    ∷ codes "  }"
    ∷ codes "  if p <= 65535 then {"
    ∷ codes "    if (0, p) ~ bgp_community then {"
    ∷ codes "      return false;"
    ∷ codes "    }"
    ∷ codes "    if (65500, p) ~ bgp_community then {"
    ∷ codes "      return true;"
    ∷ codes "    }"
    ∷ codes "    if (0, 65500) ~ bgp_community then {"
    ∷ codes "      return false;"
    ∷ codes "    }"
    ∷ codes "    if (65500, 65500) ~ bgp_community then {"
    ∷ codes "      return true;"
    ∷ codes "    }"
    ∷ codes "  }"
    ∷ codes "  return true;"
    ∷ codes "}"
    ∷ codes "function ixp_count(int p) {"
    ∷ codes "  if (65500, 103, p) ~ bgp_large_community then {"
    ∷ codes "    return 3;"
    ∷ codes "  }"
    ∷ codes "  if (65500, 102, p) ~ bgp_large_community then {"
    ∷ codes "    return 2;"
    ∷ codes "  }"
    ∷ codes "  if (65500, 101, p) ~ bgp_large_community then {"
    ∷ codes "    return 1;"
    ∷ codes "  }"
    ∷ codes "  if (65500, 1, p) ~ bgp_large_community then {"
    ∷ codes "    return 0;"
    ∷ codes "  }"
    ∷ codes "  if (65500, 103, 0) ~ bgp_large_community then {"
    ∷ codes "    return 3;"
    ∷ codes "  }"
    ∷ codes "  if (65500, 102, 0) ~ bgp_large_community then {"
    ∷ codes "    return 2;"
    ∷ codes "  }"
    ∷ codes "  if (65500, 101, 0) ~ bgp_large_community then {"
    ∷ codes "    return 1;"
    ∷ codes "  }"
    ∷ codes "  return 0;"
    ∷ codes "}"
    ∷ codes "function ixp_pad(int n) {"
    ∷ codes "  if n >= 1 then {"
    ∷ codes "    bgp_path.prepend(bgp_path.first);"
    ∷ codes "  }"
    ∷ codes "  if n >= 2 then {"
    ∷ codes "    bgp_path.prepend(bgp_path.first);"
    ∷ codes "  }"
    ∷ codes "  if n >= 3 then {"
    ∷ codes "    bgp_path.prepend(bgp_path.first);"
    ∷ codes "  }"
    ∷ codes "}"
    ∷ codes "filter ixp_out {"
    ∷ codes "  if ixp_bh() then {"
    ∷ codes "    bgp_next_hop = 10.1.0.66;"
    ∷ codes "  }"
    ∷ codes "  bgp_large_community.delete([(65500, 0, *), (65500, 1, *), (65500, 101, *), (65500, 102, *), (65500, 103, *), (65500, 1000, *), (65500, 1001, *), (65500, 1101, *)]);"
    ∷ codes "  bgp_community.delete([(0, *), (65500, *)]);"
    ∷ codes "  accept;"
    ∷ codes "}"
    ∷ []

abbrev pub part_lines : List (List ℕ)
part_lines =
    codes "ipv4 table t_1;"
    ∷ codes "define irr_1 = [203.0.113.0/24];"
    ∷ codes "define org_1 = [65001];"
    ∷ codes "define bh_1 = [203.0.113.0/24{24,32}];"
    ∷ codes "filter in_1 {"
    ∷ codes "  bgp_large_community.delete([(65500, 1000, *), (65500, 1001, *), (65500, 1101, *)]);"
    ∷ codes "  ixp_net();"
    ∷ codes "  if bgp_path.first != 65001 then {"
    ∷ codes "    ixp_drop(7);"
    ∷ codes "  }"
    ∷ codes "  if bgp_next_hop != from then {"
    ∷ codes "    if bgp_next_hop ~ [10.1.0.1, 10.1.0.9] then {"
    ∷ codes "      bgp_large_community.add((65500, 1001, 1200));"
    ∷ codes "    } else {"
    ∷ codes "      ixp_drop(8);"
    ∷ codes "    }"
    ∷ codes "  }"
    ∷ codes "  ixp_as();"
    ∷ codes "  ixp_transit();"
    ∷ codes "  if bgp_path.last !~ org_1 then {"
    ∷ codes "    ixp_drop(10);"
    ∷ codes "  }"
    ∷ codes "  if ixp_bh() then {"
    ∷ codes "    bgp_large_community.add((65500, 1000, 3));"
    ∷ codes "    if net !~ bh_1 then {"
    ∷ codes "      ixp_drop(9);"
    ∷ codes "    }"
    ∷ codes "    bgp_large_community.add((65500, 1001, 1));"
    ∷ codes "    accept;"
    ∷ codes "  }"
    ∷ codes "  if roa_check(roas4, net, bgp_path.last) = ROA_INVALID then {"
    ∷ codes "    ixp_drop(13);"
    ∷ codes "  }"
    ∷ codes "  if roa_check(roas4, net, bgp_path.last) = ROA_VALID then {"
    ∷ codes "    bgp_large_community.add((65500, 1000, 1));"
    ∷ codes "    accept;"
    ∷ codes "  }"
    ∷ codes "  bgp_large_community.add((65500, 1000, 2));"
    ∷ codes "  if net !~ irr_1 then {"
    ∷ codes "    ixp_drop(9);"
    ∷ codes "  }"
    ∷ codes "  bgp_large_community.add((65500, 1001, 1));"
    ∷ codes "  accept;"
    ∷ codes "}"
    ∷ codes "filter up_1 {"
    ∷ codes "  if bgp_large_community ~ [(65500, 1101, *)] then {"
    ∷ codes "    reject;"
    ∷ codes "  }"
    ∷ codes "  if net ~ [203.0.113.0/24{24,32}] then {"
    ∷ codes "    bgp_community.delete([(0, *), (65500, *)]);"
    ∷ codes "    bgp_large_community.delete([(65500, 0, *), (65500, 1, *), (65500, 101, *), (65500, 102, *), (65500, 103, *)]);"
    ∷ codes "    bgp_large_community.add((65500, 0, 0));"
    ∷ codes "  }"
    ∷ codes "  bgp_community.delete([(0, 65002), (65500, 65002)]);"
    ∷ codes "  bgp_large_community.delete([(65500, 0, 65002), (65500, 1, 65002), (65500, 101, 65002), (65500, 102, 65002), (65500, 103, 65002)]);"
    ∷ codes "  bgp_large_community.add((65500, 1, 65002));"
    ∷ codes "  bgp_large_community.add((65500, 102, 65002));"
    ∷ codes "  accept;"
    ∷ codes "}"
    ∷ codes "function rx_1() {"
    ∷ codes "  if bgp_path.first = 65003 && net ~ [203.0.113.0/24{24,32}] then {"
    ∷ codes "    return false;"
    ∷ codes "  }"
    ∷ codes "  if true then {"
    ∷ codes "    return true;"
    ∷ codes "  }"
    ∷ codes "  return true;"
    ∷ codes "}"
    ∷ codes "filter down_1 {"
    ∷ codes "  if !rx_1() then {"
    ∷ codes "    reject;"
    ∷ codes "  }"
    ∷ codes "  if !ixp_sends(65001) then {"
    ∷ codes "    reject;"
    ∷ codes "  }"
    ∷ codes "  ixp_pad(ixp_count(65001));"
    ∷ codes "  accept;"
    ∷ codes "}"
    ∷ codes "protocol pipe pp_1 {"
    ∷ codes "  table master4;"
    ∷ codes "  peer table t_1;"
    ∷ codes "  import filter up_1;"
    ∷ codes "  export filter down_1;"
    ∷ codes "}"
    ∷ codes "protocol bgp b_1 {"
    ∷ codes "  local 10.1.0.254 as 65500;"
    ∷ codes "  neighbor 10.1.0.1 as 65001;"
    ∷ codes "  rs client;"
    ∷ codes "  password \"s1\";"
    ∷ codes "  ipv4 {"
    ∷ codes "    table t_1;"
    ∷ codes "    import filter in_1;"
    ∷ codes "    export filter ixp_out;"
    ∷ codes "    import limit 100 action block;"
    ∷ codes "  };"
    ∷ codes "}"
    ∷ []

abbrev pub foot_lines : List (List ℕ)
foot_lines =
    codes "protocol device {"
    ∷ codes "}"
    ∷ []
