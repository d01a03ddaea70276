-- The texts of the export's parts, as they are written one behind the other. That they are the compact texts
-- of the trees is shown in `proofs/Compact`.
use Rattle.std.specs.Prelude.{ℕ, List, [], ◌++◌, Bool, true, false, Option, Some, None, codes}
use Rattle.json.specs.Print.{quoted}
use Rattle.ixp_num_tables.specs.Joined.{joined}
use Rattle.ixp_api_json.specs.Members.{number_member, text_member}
use Rattle.ixp_num.specs.declared.prefix.Prefix.{Prefix}
use Rattle.ixp_num.specs.Printing.{value_text, addr_text}
use Rattle.ixp_registry.specs.declared.members.Member.{Member}
use Rattle.ixp_registry.specs.declared.network.Switch.{Switch}
use Rattle.ixp_registry.specs.declared.network.Port.{Port}
use Rattle.ixp_registry.specs.declared.network.Vlan.{Vlan}
use Rattle.ixp_registry.specs.declared.network.IfAddr.{IfAddr}
use Rattle.ixp_registry.specs.declared.network.Interface.{Interface}
use Rattle.ixp_registry.specs.declared.registry.Registry.{Registry}
use Rattle.ixp_ixf.specs.Export.{some_text, some_number, interfaces_on, ports_of, connected_members}
use Rattle.ixp_ixf.specs.Moments.{moment_text}

-- a name behind a mark, and its colon
unfoldable pub name_text : List ℕ → List ℕ → List ℕ
name_text mark name = mark ++ (quoted name ++ codes ":")

abbrev pub list_text : {A : Type 0} → (A → List ℕ) → List A → List ℕ
list_text text xs = codes "[" ++ (joined (codes ",") text xs ++ codes "]")

unfoldable pub list_member : {A : Type 0} → List ℕ → List ℕ → (A → List ℕ) → List A → List ℕ
list_member mark name text xs = name_text mark name ++ list_text text xs

-- a list of one
unfoldable pub single_member : List ℕ → List ℕ → List ℕ → List ℕ
single_member mark name text = name_text mark name ++ (codes "[" ++ (text ++ codes "]"))

-- the text of the first address
unfoldable pub first_address : Prefix → List ℕ
first_address p = value_text p.family p.value

unfoldable pub length_member : Prefix → List ℕ
length_member p = number_member (codes "{") (codes "mask_length") p.len

abbrev pub network_text : Prefix → List ℕ
network_text p =
    length_member p
    ++ (text_member (codes ",") (codes "prefix") (first_address p) ++ codes "}")

unfoldable pub network_member : List ℕ → List ℕ → Option Prefix → List ℕ
network_member mark name None = []
network_member mark name (Some p) = name_text mark name ++ network_text p

abbrev pub vlan_text : Vlan → List ℕ
vlan_text v =
    number_member (codes "{") (codes "id") v.number
    ++ (network_member (codes ",") (codes "ipv4") v.v4
    ++ (network_member (codes ",") (codes "ipv6") v.v6
    ++ (text_member (codes ",") (codes "name") v.name ++ codes "}")))

abbrev pub switch_text : Switch → List ℕ
switch_text s =
    number_member (codes "{") (codes "id") s.number
    ++ (text_member (codes ",") (codes "name") s.name ++ codes "}")

abbrev pub exchange_text : Registry → List ℕ
exchange_text r =
    number_member (codes "{") (codes "ixf_id") r.site.ixf_id
    ++ (number_member (codes ",") (codes "ixp_id") r.site.ixp_id
    ++ (text_member (codes ",") (codes "shortname") r.site.shortname
    ++ (list_member (codes ",") (codes "switch") switch_text r.switches
    ++ (list_member (codes ",") (codes "vlan") vlan_text r.vlans ++ codes "}"))))

unfoldable pub text_if_any : List ℕ → List ℕ → Option (List ℕ) → List ℕ
text_if_any mark name None = []
text_if_any mark name (Some text) = text_member mark name text

unfoldable pub number_if_any : List ℕ → List ℕ → Option ℕ → List ℕ
number_if_any mark name None = []
number_if_any mark name (Some n) = number_member mark name n

abbrev pub flag_text : Bool → List ℕ
flag_text true = codes "true"
flag_text false = codes "false"

unfoldable pub flag_member : List ℕ → List ℕ → Bool → List ℕ
flag_member mark name flag = name_text mark name ++ flag_text flag

abbrev pub address_text : List ℕ → IfAddr → List ℕ
address_text as_macro a =
    text_member (codes "{") (codes "address") (addr_text a.addr)
    ++ (text_if_any (codes ",") (codes "as_macro") (some_text as_macro)
    ++ (number_if_any (codes ",") (codes "max_prefix") (some_number a.max_prefix)
    ++ (flag_member (codes ",") (codes "routeserver") a.rs ++ codes "}")))

-- an address that is there, and a comma
unfoldable pub address_member : List ℕ → List ℕ → Option IfAddr → List ℕ
address_member name as_macro None = []
address_member name as_macro (Some a) = name_text [] name ++ (address_text as_macro a ++ codes ",")

abbrev pub interface_text : List ℕ → Interface → List ℕ
interface_text as_macro i =
    codes "{"
    ++ (address_member (codes "ipv4") as_macro i.v4
    ++ (address_member (codes "ipv6") as_macro i.v6
    ++ (number_member [] (codes "vlan_id") i.vlan ++ codes "}")))

abbrev pub port_text : Port → List ℕ
port_text p =
    number_member (codes "{") (codes "if_speed") p.speed
    ++ (number_member (codes ",") (codes "switch_id") p.switch ++ codes "}")

abbrev pub connection_text : Registry → Member → Port → List ℕ
connection_text r m p =
    single_member (codes "{") (codes "if_list") (port_text p)
    ++ (number_member (codes ",") (codes "ixp_id") r.site.ixp_id
    ++ (list_member (codes ",") (codes "vlan_list") (interface_text m.as_macro) (interfaces_on r p)
    ++ codes "}"))

unfoldable pub connections_member : Registry → Member → List ℕ
connections_member r m = list_member (codes ",") (codes "connection_list") (connection_text r m)
    (ports_of r m)

abbrev pub member_text : Registry → Member → List ℕ
member_text r m =
    number_member (codes "{") (codes "asnum") m.asn.0
    ++ (connections_member r m
    ++ (text_member (codes ",") (codes "name") m.name ++ codes "}"))

abbrev pub export_text : Registry → ℕ → List ℕ
export_text r second =
    single_member (codes "{") (codes "ixp_list") (exchange_text r)
    ++ (list_member (codes ",") (codes "member_list") (member_text r) (connected_members r)
    ++ (text_member (codes ",") (codes "timestamp") (moment_text second)
    ++ (text_member (codes ",") (codes "version") (codes "1.0") ++ codes "}")))
