-- What is asked of a change, so that the weight after it can be counted.
use Rattle.std.specs.Prelude.{◌≡◌, ◌≤◌, ℕ, ◌==◌, ◌&&◌, List, length, Some, if◌then◌else◌}
use Rattle.ixp_num.specs.declared.family.Family.{Family}
use Rattle.ixp_num.specs.Families.{same_family}
use Rattle.ixp_num_tables.specs.Tables.{find}
use Rattle.ixp_registry.specs.declared.lists.IrrList.{IrrList}
use Rattle.ixp_registry.specs.declared.router.Router.{Router}
use Rattle.ixp_registry.specs.declared.registry.Registry.{Registry}
use Rattle.ixp_registry.specs.Keys.{router_key}
use Rattle.ixp_registry.specs.Weight.{list_length}
use Rattle.ixp_registry_change.specs.declared.change.TableChange.{TableChange}
use Rattle.ixp_registry_change.specs.declared.change.TableChange.TheVariants.{Keep, Put, Take}
use Rattle.ixp_registry_change.specs.declared.change.RegistryChange.{RegistryChange}
use Rattle.ixp_registry_change.specs.declared.change.RegistryChange.TheVariants as of

-- a router that is there stays in its VLAN and family
abbrev pub InPlace : List Router → TableChange Router (List ℕ) → Type 0
InPlace qs (Put q) = (p : Router) → find router_key q.handle qs ≡ Some p
    → (p.vlan ≡ q.vlan) × (p.family ≡ q.family)
InPlace qs Keep = Unit {0}
InPlace qs (Take handle) = Unit {0}

-- the list isn't longer than one may be
abbrev pub FewPrefixes : TableChange IrrList (ℕ × Family) → Type 0
FewPrefixes (Put l) = length l.prefixes ≤ 300000
FewPrefixes Keep = Unit {0}
FewPrefixes (Take k) = Unit {0}

abbrev pub IsSmallChange : Registry → RegistryChange → Type 0
IsSmallChange r (of.Routers c) = InPlace r.routers c
IsSmallChange r (of.Irr c) = FewPrefixes c
IsSmallChange r c = Unit {0}

-- these lists are as long as those, but for the member's of the family
abbrev pub HasLength : List IrrList → ℕ → Family → ℕ → List IrrList → Type 0
HasLength was member family count ls = (n : ℕ) (f : Family)
    → list_length ls n f ≡ (if member == n && same_family family f then count else list_length was n f)
