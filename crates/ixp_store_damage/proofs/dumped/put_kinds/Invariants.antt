use Rattle.std.proofs.Common.{◌≡◌, ◌++◌, flat_map, length, map}
use Rattle.ixp_io.specs.Tables.{row_entry}
use Rattle.ixp_registry.specs.declared.registry.Registry.{Registry}
use Rattle.ixp_registry.specs.Registries.{rows_of}
use Rattle.ixp_registry.specs.Valid.{Valid}
use Rattle.ixp_rows_lines.specs.declared.version.Version.TheVariants.{Two}
use Rattle.ixp_rows.specs.Printing.{kind_lines}
use Rattle.ixp_store_damage.specs.Loading.{AreRowsOf}
use Rattle.ixp_store_damage.proofs.dumped.put_kinds.Given as goal

abbrev pub invariant-each : goal.invariant-each
invariant-each l = (r : Registry) → Valid r → AreRowsOf r (map row_entry l.rows) → l.out.items ++ flat_map (kind_lines Two (rows_of r)) l.left ≡ l.fn.out.items ++ flat_map (kind_lines Two (rows_of r)) l.fn.kinds

abbrev pub decreases-each : goal.decreases-each
decreases-each l = length l.left
