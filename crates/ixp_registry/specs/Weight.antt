-- The weight of a registry: how many rows of prefix lists its routers read, all sessions together. A session
-- reads the list of its member and family where its address is held to it.
use Rattle.std.specs.Prelude.{ℕ, List, [], ◌∷◌, length, ◌+◌, ◌*◌, ◌&&◌, ◌==◌, Option, if◌then◌else◌}
use Rattle.ixp_num.specs.AddressForms.{version_of}
use Rattle.ixp_num.specs.declared.family.Family.{Family}
use Rattle.ixp_num.specs.Families.{same_family}
use Rattle.ixp_num_tables.specs.Tables.{find, if_there}
use Rattle.ixp_num_tables.specs.Sums.{total}
use Rattle.ixp_registry.specs.declared.lists.IrrList.{IrrList}
use Rattle.ixp_registry.specs.declared.members.Member.{Member}
use Rattle.ixp_registry.specs.declared.network.IfAddr.{IfAddr}
use Rattle.ixp_registry.specs.declared.network.Interface.{Interface}
use Rattle.ixp_registry.specs.declared.registry.Registry.{Registry}
use Rattle.ixp_registry.specs.declared.router.Router.{Router}
use Rattle.ixp_registry.specs.Keys.{irr_key}
use Rattle.ixp_registry.specs.Lookups.{is_member_connected}
use Rattle.ixp_registry.specs.Words.{router_weight}

-- how often the routers of the family in the VLAN read a list
abbrev pub vlan_weight : List Router → ℕ → Family → ℕ
vlan_weight qs vlan family =
    total (λ q. if q.vlan == vlan && same_family q.family family then router_weight q else 0) qs

-- how many rows the member's list of the family has
abbrev pub list_length : List IrrList → ℕ → Family → ℕ
list_length ls member family =
    if_there (find irr_key (member ∷ version_of family ∷ []) ls) 0 (λ l. length l.prefixes)

-- what the sessions of a member's address in a VLAN read
abbrev pub address_weight : List Router → List IrrList → ℕ → ℕ → IfAddr → ℕ
address_weight qs ls member vlan a =
    if a.rs && a.irr then vlan_weight qs vlan a.addr.family * list_length ls member a.addr.family else 0

abbrev pub column_weight : List Router → List IrrList → ℕ → ℕ → Option IfAddr → ℕ
column_weight qs ls member vlan o = if_there o 0 (address_weight qs ls member vlan)

-- what the sessions of an interface read; those of a member that isn't connected read nothing
abbrev pub interface_weight : List Member → List Router → List IrrList → Interface → ℕ
interface_weight ms qs ls i =
    if is_member_connected ms i.member
    then column_weight qs ls i.member i.vlan i.v4 + column_weight qs ls i.member i.vlan i.v6 else 0

abbrev pub weight : List Member → List Interface → List Router → List IrrList → ℕ
weight ms is qs ls = total (interface_weight ms qs ls) is

abbrev pub weight_of : Registry → ℕ
weight_of r = weight r.members r.interfaces r.routers r.irr
