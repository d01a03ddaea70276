use Rattle.std.proofs.Common.{◌≡◌, ◌++◌, Some, map, length}
use Rattle.std.specs.List.{AllByRecursion}
use Rattle.ixp_io.specs.Tables.{row_entry}
use Rattle.ixp_rows_lines.specs.declared.version.Version.TheVariants.{Two}
use Rattle.ixp_rows_lines.specs.Lines.{place_of}
use Rattle.ixp_store_damage.specs.Loading.{kind_rows, line_said}
use Rattle.ixp_store_damage.specs.Placing.{placed_entry}
use Rattle.ixp_store_damage.proofs.sections.placed_rows.Given as goal

abbrev pub invariant-rows : goal.invariant-rows
invariant-rows g l = record {
  rows : map placed_entry l.placed.items ++ kind_rows (place_of g.R.Lined.row_kind) (map row_entry l.left) ≡ kind_rows (place_of g.R.Lined.row_kind) (map row_entry l.fn.rows);
  said : AllByRecursion (λ p. line_said g.R.Lined.row_kind (placed_entry p) ≡ Some (g.R.Lined.fields Two p.line)) l.placed.items;
}

abbrev pub decreases-rows : goal.decreases-rows
decreases-rows g l = length l.left
