-- What interfaces weigh in a registry of which something is changed.
use Rattle.std.specs.Prelude.{ℕ, ◌≤◌, ◌+◌, ◌-◌, ◌*◌, Bool, List, ◌&&◌, ◌==◌, Option, if◌then◌else◌}
use Rattle.ixp_num.specs.declared.family.Family.{Family}
use Rattle.ixp_num.specs.Families.{same_family}
use Rattle.ixp_num_tables.specs.Tables.{if_there}
use Rattle.ixp_registry.specs.declared.lists.IrrList.{IrrList}
use Rattle.ixp_registry.specs.declared.members.Member.{Member}
use Rattle.ixp_registry.specs.declared.network.IfAddr.{IfAddr}
use Rattle.ixp_registry.specs.declared.network.Interface.{Interface}
use Rattle.ixp_registry.specs.declared.router.Router.{Router}
use Rattle.ixp_registry.specs.declared.registry.Registry.{Registry}
use Rattle.ixp_registry.specs.Lookups.{is_member_connected}
use Rattle.ixp_registry.specs.Weight.{vlan_weight, list_length}
use Rattle.ixp_machine_refusals.specs.declared.change.Change.{Change}
use Rattle.ixp_machine_refusals.specs.declared.change.Change.TheVariants.{Nothing, Status, Length, Routers}

abbrev pub connected_by : List Member → Change → ℕ → Bool
connected_by ms Nothing n = is_member_connected ms n
connected_by ms (Status new) n = if new.member == n then new.connected else is_member_connected ms n
connected_by ms (Length new) n = is_member_connected ms n
connected_by ms (Routers new) n = is_member_connected ms n

abbrev pub vlan_weight_by : List Router → Change → ℕ → Family → ℕ
vlan_weight_by qs Nothing vlan f = vlan_weight qs vlan f
vlan_weight_by qs (Status new) vlan f = vlan_weight qs vlan f
vlan_weight_by qs (Length new) vlan f = vlan_weight qs vlan f
vlan_weight_by qs (Routers new) vlan f = if new.vlan == vlan && same_family new.family f
    then vlan_weight qs vlan f + new.more - new.less else vlan_weight qs vlan f

abbrev pub list_length_by : List IrrList → Change → ℕ → Family → ℕ
list_length_by ls Nothing n f = list_length ls n f
list_length_by ls (Status new) n f = list_length ls n f
list_length_by ls (Length new) n f =
    if new.member == n && same_family new.family f then new.length else list_length ls n f
list_length_by ls (Routers new) n f = list_length ls n f

abbrev pub address_weight_by : List Router → List IrrList → Change → ℕ → ℕ → IfAddr → ℕ
address_weight_by qs ls c member vlan a = if a.rs && a.irr
    then vlan_weight_by qs c vlan a.addr.family * list_length_by ls c member a.addr.family else 0

abbrev pub column_weight_by : List Router → List IrrList → Change → ℕ → ℕ → Option IfAddr → ℕ
column_weight_by qs ls c member vlan o = if_there o 0 (address_weight_by qs ls c member vlan)

-- what the sessions of an interface read then
abbrev pub weight_by : Registry → Change → Interface → ℕ
weight_by r c i =
    if connected_by r.members c i.member
    then column_weight_by r.routers r.irr c i.member i.vlan i.v4
    + column_weight_by r.routers r.irr c i.member i.vlan i.v6 else 0

-- the change is one that leaves each list and each VLAN with few rows
abbrev pub IsSmall : Change → Type 0
IsSmall Nothing = Unit {0}
IsSmall (Status new) = Unit {0}
IsSmall (Length new) = new.length ≤ 300000
IsSmall (Routers new) = new.more ≤ 2
