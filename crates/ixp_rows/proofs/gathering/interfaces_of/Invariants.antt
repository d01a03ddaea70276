use Rattle.std.proofs.Common.{◌≡◌, ◌++◌, map, flat_map, length}
use Rattle.std.specs.List.{AllByRecursion}
use Rattle.ixp_num.specs.declared.family.Family.TheVariants.{V4, V6}
use Rattle.ixp_num_tables.specs.Tables.{Ascends}
use Rattle.ixp_registry.specs.Keys.{address_key, interface_row_key}
use Rattle.ixp_registry.specs.Registries.{bare, addresses_of}
use Rattle.ixp_registry.specs.Valid.{IsIn}
use Rattle.ixp_rows.proofs.Gathered.{AreThere}
use Rattle.ixp_rows.proofs.gathering.interfaces_of.Given as goal

abbrev pub invariant-rows : goal.invariant-rows
invariant-rows l = record {
  rows : map bare l.interfaces.items ++ l.behind ≡ l.rows;
  addresses : flat_map addresses_of l.interfaces.items ++ l.left.items ≡ l.fn.addresses.items;
  families : AllByRecursion (λ i. IsIn V4 i.v4 × IsIn V6 i.v6) l.interfaces.items;
  up : Ascends interface_row_key l.behind;
  ascends : Ascends address_key l.left.items;
  there : AreThere l.behind l.left.items;
}

abbrev pub decreases-rows : goal.decreases-rows
decreases-rows l = length l.behind
