-- What some of the interfaces weigh.
use Rattle.std.specs.Prelude.{ℕ, Bool, List, ◌==◌, if◌then◌else◌}
use Rattle.ixp_num_tables.specs.Sums.{total}
use Rattle.ixp_registry.specs.declared.network.Interface.{Interface}
use Rattle.ixp_registry.specs.declared.registry.Registry.{Registry}
use Rattle.ixp_machine_refusals.specs.declared.change.Change.{Change}
use Rattle.ixp_machine_refusals.specs.declared.parts.Part.{Part}
use Rattle.ixp_machine_refusals.specs.declared.parts.Part.TheVariants.{OfMember, InVlan}
use Rattle.ixp_machine_refusals.specs.Changes.{weight_by}

abbrev pub is_in : Part → Interface → Bool
is_in (OfMember n) i = i.member == n
is_in (InVlan n) i = i.vlan == n

abbrev pub part_weight : Registry → Change → Part → List Interface → ℕ
part_weight r c p is = total (λ i. if is_in p i then weight_by r c i else 0) is
