-- Edits of VLANs and interfaces: the tests of each, and what it makes of the table.
use Rattle.std.specs.Prelude.{ℕ, List, [], ◌∷◌, length, Option, Some, None, Result, Ok, Err, not, ◌&&◌, ◌||◌, ◌==◌, nat_le, option_map, if◌then◌else◌, find as first_with}
use Rattle.std.specs.List.{list_any, list_all}
use Rattle.ixp_num.specs.declared.family.Family.{Family}
use Rattle.ixp_num.specs.declared.family.Family.TheVariants.{V4, V6}
use Rattle.ixp_num.specs.declared.prefix.Prefix.{Prefix}
use Rattle.ixp_num_tables.specs.Tables.{find, put, without, if_there}
use Rattle.ixp_num_tables.specs.Sums.{count}
use Rattle.ixp_registry.specs.declared.kind.Kind.TheVariants.{Members, Ports, Vlans, Interfaces, Routers}
use Rattle.ixp_registry.specs.declared.members.Status.TheVariants.{Connected, Left}
use Rattle.ixp_registry.specs.declared.network.IfAddr.{IfAddr}
use Rattle.ixp_registry.specs.declared.network.Interface.{Interface}
use Rattle.ixp_registry.specs.declared.network.Port.{Port}
use Rattle.ixp_registry.specs.declared.network.Vlan.{Vlan}
use Rattle.ixp_registry.specs.declared.refusal.Refusal.{Refusal}
use Rattle.ixp_registry.specs.declared.refusal.Refusal.TheVariants.{BadText, Family as OtherFamily, PortTaken, Overlap, StatusMove, BadRule}
use Rattle.ixp_registry.specs.declared.refusal.RowKey.TheVariants.{Number, Handle}
use Rattle.ixp_registry.specs.declared.refusal.TextField.TheVariants.{Name, Secret}
use Rattle.ixp_registry.specs.declared.registry.Registry.{Registry}
use Rattle.ixp_registry.specs.Alphabets.{is_label, is_session_secret}
use Rattle.ixp_registry.specs.Keys.{member_key, port_key, vlan_key, interface_key}
use Rattle.ixp_registry.specs.Lookups.{has_left, vlan_prefixes}
use Rattle.ixp_registry.specs.Weight.{weight}
use Rattle.ixp_registry.specs.Words.{is_of, is_vlan_length, overlaps_any}
use Rattle.ixp_plan.specs.Checks.{address_check}
use Rattle.ixp_machine_edits.specs.Tests.{Tests, refused, unless_there, exists, in_use_by, full, too_heavy, changed}

-- AddVlan
abbrev pub new_vlan : ℕ → List ℕ → ℕ → Option Prefix → Option Prefix → Vlan
new_vlan number name tag v4 v6 = record { number = number; tag = tag; v4 = v4; v6 = v6; name = name }

abbrev pub with_vlan : Vlan → List Vlan → List Vlan
with_vlan v vs = put vlan_key v vs

abbrev pub add_vlan_tests : Registry → Vlan → Tests
add_vlan_tests r v =
    refused (not (is_label v.name)) (BadText Name)
    ∷ refused (not (is_of V4 v.v4)) (OtherFamily V4)
    ∷ refused (not (is_of V6 v.v6)) (OtherFamily V6)
    ∷ exists (λ u. Number u.number) (find vlan_key (v.number ∷ []) r.vlans)
    ∷ option_map (λ u. Overlap u.number)
    (first_with (λ u. list_any (overlaps_any (vlan_prefixes u)) (vlan_prefixes v)) r.vlans)
    ∷ refused (v.number == 0 || not (list_all is_vlan_length (vlan_prefixes v) && nat_le 1 v.tag
    && nat_le v.tag 4094)) (BadRule 0)
    ∷ full Vlans (length r.vlans) 64 ∷ []

-- DropVlan
abbrev pub without_vlan : ℕ → List Vlan → List Vlan
without_vlan vlan vs = without vlan_key (vlan ∷ []) vs

abbrev pub drop_vlan_tests : Registry → ℕ → Tests
drop_vlan_tests r vlan =
    unless_there (find vlan_key (vlan ∷ []) r.vlans) Vlans (Number vlan)
    ∷ in_use_by Interfaces (λ i. Number i.number) (first_with (λ i. i.vlan == vlan) r.interfaces)
    ∷ in_use_by Routers (λ q. Handle q.handle) (first_with (λ q. q.vlan == vlan) r.routers) ∷ []

-- AddInterface
abbrev pub new_interface : ℕ → ℕ → ℕ → ℕ → Interface
new_interface number member port vlan =
    record { number = number; member = member; port = port; vlan = vlan; v4 = None; v6 = None }

abbrev pub with_interface : ℕ → ℕ → ℕ → ℕ → List Interface → List Interface
with_interface number member port vlan is = put interface_key (new_interface number member port vlan) is

-- the member that has the port
abbrev pub holder_of : Port → Option ℕ
holder_of p = if p.member == 0 then None else Some p.member

abbrev pub interfaces_of : ℕ → List Interface → ℕ
interfaces_of member is = count (λ i. i.member == member) is

abbrev pub add_interface_tests : Registry → ℕ → ℕ → ℕ → ℕ → Tests
add_interface_tests r number member port vlan =
    unless_there (find member_key (member ∷ []) r.members) Members (Number member)
    ∷ unless_there (find port_key (port ∷ []) r.ports) Ports (Number port)
    ∷ unless_there (find vlan_key (vlan ∷ []) r.vlans) Vlans (Number vlan)
    ∷ if_there (find port_key (port ∷ []) r.ports) None
    (λ p. refused (not (p.member == member)) (PortTaken (holder_of p)))
    ∷ exists (λ i. Number i.number) (find interface_key (number ∷ []) r.interfaces)
    ∷ refused (has_left r.members member) (StatusMove Left Connected)
    ∷ refused (number == 0) (BadRule 0)
    ∷ full Interfaces (length r.interfaces) 8000
    ∷ full Interfaces (interfaces_of member r.interfaces) 16 ∷ []

-- SetAddress. What the address plan says of the address stands in ixp_plan.
abbrev pub in_column : Family → Family → IfAddr → Option IfAddr → Option IfAddr
in_column V4 V4 x old = Some x
in_column V4 V6 x old = old
in_column V6 V4 x old = old
in_column V6 V6 x old = Some x

abbrev pub addressed : Family → IfAddr → Interface → Interface
addressed f x i = record i { v4 = in_column V4 f x i.v4; v6 = in_column V6 f x i.v6 }

abbrev pub with_address : ℕ → Family → IfAddr → List Interface → List Interface
with_address interface f x is = changed interface_key (interface ∷ []) (addressed f x) is

abbrev pub if_err : Result Unit Refusal → Option Refusal
if_err (Ok u) = None
if_err (Err x) = Some x

abbrev pub set_address_tests : Registry → ℕ → Family → IfAddr → Tests
set_address_tests r interface f x =
    unless_there (find interface_key (interface ∷ []) r.interfaces) Interfaces (Number interface)
    ∷ refused (not (is_session_secret x.secret)) (BadText Secret)
    ∷ if_err (address_check r interface f x.addr)
    ∷ too_heavy (weight r.members (with_address interface f x r.interfaces) r.routers r.irr) ∷ []

-- DropInterface
abbrev pub without_interface : ℕ → List Interface → List Interface
without_interface interface is = without interface_key (interface ∷ []) is

abbrev pub drop_interface_tests : Registry → ℕ → Tests
drop_interface_tests r interface =
    unless_there (find interface_key (interface ∷ []) r.interfaces) Interfaces (Number interface) ∷ []
