-- What is kept of the weights of members' lists: a number that stops at the greatest u64.
use Rattle.std.specs.Prelude.{◌≡◌, ℕ, ◌-◌, ◌^◌, ◌==◌, ◌&&◌, min, Option, Some, None, if◌then◌else◌}
use Rattle.std.specs.Option.{unwrap_or}
use Rattle.std.specs.declared.cmp.Ordering.{Ordering}
use Rattle.std.specs.Ordering.{nat_cmp, ordering_then}
use Rattle.std.specs.BTreeMap as tree
use Rattle.std.specs.BTreeMap.{BTreeMap}
use Rattle.ixp_num.specs.declared.family.Family.{Family}
use Rattle.ixp_num.specs.contracts.family.FamilyOrd.TheImpl as family_ord
use Rattle.ixp_num.specs.Families.{same_family}
use Rattle.ixp_registry.specs.declared.rows.Rows.{Rows}
use Rattle.ixp_registry.specs.declared.network.AddressRow.{AddressRow}
use Rattle.ixp_registry.specs.declared.network.InterfaceRow.{InterfaceRow}
use Rattle.ixp_registry.specs.Lookups.{is_member_connected}
use Rattle.ixp_registry.specs.Rules.{list_weight}
use Rattle.ixp_registry.specs.Weight.{vlan_weight}

-- two numbers are the same as far as a u64 tells
abbrev pub capped : ℕ → ℕ
capped n = min n (2 ^ 64 - 1)

-- a weight, for the list of one member and family
abbrev pub share_of : Option (ℕ × Family × ℕ) → ℕ → Family → ℕ
share_of None member family = 0
share_of (Some s) member family = if s.0 == member && same_family s.1 family then s.2 else 0

abbrev pub list_cmp : ℕ × Family → ℕ × Family → Ordering
list_cmp a b = ordering_then (nat_cmp a.0 b.0) ((family_ord.ghosts).cmp a.1 b.1)

-- the weight that a map has of a list
abbrev pub weight_at : BTreeMap (ℕ × Family) ℕ → ℕ → Family → ℕ
weight_at m member family = unwrap_or (tree.get list_cmp m (member, family)) 0

-- the map has the weight of each member's list of each family
abbrev pub HasWeights : Rows → BTreeMap (ℕ × Family) ℕ → Type 0
HasWeights w m = (member : ℕ) (family : Family)
    → capped (weight_at m member family) ≡ capped (list_weight w member family)

-- what the sessions of an address make of one row of a list, where the address is that of an interface
abbrev pub interface_weight : Rows → ℕ → Family → AddressRow → InterfaceRow → ℕ
interface_weight w member family a i =
    if i.member == member && same_family a.address.addr.family family && a.address.rs && a.address.irr
    && is_member_connected w.members member
    then vlan_weight w.routers i.vlan family else 0
