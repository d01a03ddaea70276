-- The demo exchange, to try the program on and to measure it by: one VLAN, one switch and one route server,
-- and so many members, each with a port, an interface and lists of its own. Addresses are numbers of 32 bits;
-- with 4000 members none is cut.
use Rattle.std.specs.Prelude.{ℕ, ◌+◌, ◌*◌, ◌/◌, ◌%◌, ◌^◌, true, false, List, [], ◌∷◌, Some, None, map, codes, decimal, refl}
use Rattle.std.specs.List.{range_with_len}
use Rattle.std.proofs.Common.{lit<, lit≤}
use Rattle.std.proofs.Math.Nat.{mod-lt, mul-mod_left, div-mul-le_self, lt_of_le_of_lt}
use Rattle.ixp_num.specs.declared.addr.Addr.{Addr}
use Rattle.ixp_num.specs.declared.family.Family.TheVariants.{V4}
use Rattle.ixp_num.specs.declared.prefix.Prefix.{Prefix}
use Rattle.ixp_registry.specs.declared.members.ApiKey.{ApiKey}
use Rattle.ixp_registry.specs.declared.members.Member.{Member}
use Rattle.ixp_registry.specs.declared.members.Owner.TheVariants.{Staff}
use Rattle.ixp_registry.specs.declared.members.Status.TheVariants.{Connected}
use Rattle.ixp_registry.specs.declared.network.IfAddr.{IfAddr}
use Rattle.ixp_registry.specs.declared.network.Interface.{Interface}
use Rattle.ixp_registry.specs.declared.network.Port.{Port}
use Rattle.ixp_registry.specs.declared.network.Switch.{Switch}
use Rattle.ixp_registry.specs.declared.network.Vlan.{Vlan}
use Rattle.ixp_registry.specs.declared.lists.IrrList.{IrrList}
use Rattle.ixp_registry.specs.declared.lists.OriginList.{OriginList}
use Rattle.ixp_registry.specs.declared.router.Router.{Router}
use Rattle.ixp_registry.specs.declared.registry.Registry.{Registry}

-- the number of the IPv4 address a.b.c.d
abbrev pub dotted : ℕ → ℕ → ℕ → ℕ → ℕ
dotted a b c d = ((a * 256 + b) * 256 + c) * 256 + d

abbrev pub address : ℕ → Addr
address n = record { family = V4; value = n % 2 ^ 32; fits = mod-lt n {m = 2 ^ 32} (lit< tt) }

-- the prefix of length 24 in which the address lies
abbrev pub net : ℕ → Prefix
net n = record {
  family = V4;
  value = n % 2 ^ 32 / 2 ^ 8 * 2 ^ 8;
  len = 24;
  short = lit≤ tt;
  fits = lt_of_le_of_lt (div-mul-le_self (n % 2 ^ 32) (2 ^ 8)) (mod-lt n {m = 2 ^ 32} (lit< tt));
  no_host_bits = mul-mod_left (n % 2 ^ 32 / 2 ^ 8) (2 ^ 8);
}

-- a letter and a number
abbrev pub name : ℕ → ℕ → List ℕ
name letter k = letter ∷ decimal k

-- The member with a number, and what it has. The members' AS numbers go on from 100000.

abbrev pub demo_member : ℕ → Member
demo_member k = record {
  number = k;
  asn = record { 0 = 100000 + k };
  status = Connected;
  as_macro = [];
  name = name 109 k;
}

abbrev pub demo_port : ℕ → Port
demo_port k = record { number = k; switch = 1; speed = 10000; member = k; name = name 112 k }

abbrev pub host : ℕ → IfAddr
host k = record {
  addr = address (dotted 10 64 0 0 + k);
  max_prefix = 0;
  rs = true;
  irr = true;
  more = false;
  secret = [];
}

abbrev pub demo_interface : ℕ → Interface
demo_interface k = record { number = k; member = k; port = k; vlan = 1; v4 = Some (host k); v6 = None }

-- the j-th of a member's four prefixes, from 0 on: those of all members stand one behind the other
abbrev pub net_of : ℕ → ℕ → Prefix
net_of k j = net (dotted 20 0 0 0 + 256 * (4 * k + j))

abbrev pub demo_prefixes : ℕ → IrrList
demo_prefixes k = record {
  member = k;
  family = V4;
  prefixes = net_of k 0 ∷ net_of k 1 ∷ net_of k 2 ∷ net_of k 3 ∷ [];
}

abbrev pub demo_origins : ℕ → OriginList
demo_origins k = record { member = k; family = V4; asns = record { 0 = 100000 + k } ∷ [] }

-- What the members share.

abbrev pub staff_key : ApiKey
staff_key = record { number = 1; owner = Staff 1; secret = codes "staff00000000001" }

abbrev pub demo_switch : Switch
demo_switch = record { number = 1; name = codes "sw1" }

-- 10.0.0.0/8
abbrev pub lan_prefix : Prefix
lan_prefix =
    record { family = V4; value = dotted 10 0 0 0; len = 8; short = lit≤ tt; fits = lit< tt; no_host_bits = refl }

abbrev pub lan : Vlan
lan = record {
  number = 1;
  tag = 100;
  v4 = Some lan_prefix;
  v6 = None;
  name = codes "lan";
}

abbrev pub demo_router : Router
demo_router = record {
  handle = codes "rs1";
  vlan = 1;
  family = V4;
  addr = address (dotted 10 255 0 1);
  asn = record { 0 = 65500 };
  id = dotted 10 255 0 1;
  low = 8;
  high = 24;
  rpki = false;
  blackhole = None;
  max_comms = 0;
}

-- one row for each number from 1 to n
abbrev pub each : {R : Type 0} → (ℕ → R) → ℕ → List R
each row n = map row (range_with_len 1 n)

-- the exchange with n members
abbrev pub demo : ℕ → Registry
demo n = record {
  site = record { ixp_id = 1; ixf_id = 0; shortname = codes "DEMO" };
  members = each demo_member n;
  contacts = [];
  keys = staff_key ∷ [];
  switches = demo_switch ∷ [];
  ports = each demo_port n;
  vlans = lan ∷ [];
  interfaces = each demo_interface n;
  routers = demo_router ∷ [];
  irr = each demo_prefixes n;
  origins = each demo_origins n;
  rules = [];
  public = record { bogons = []; bogon_as = []; transit = []; roas = [] };
}
