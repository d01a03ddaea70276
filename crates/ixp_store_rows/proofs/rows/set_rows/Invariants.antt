use Rattle.std.proofs.Common.{◌≡◌, ◌++◌, drop, map}
use Rattle.ixp_rows_lines.specs.declared.version.Version.TheVariants.{Two}
use Rattle.ixp_store_rows.specs.Names.{fields_row}
use Rattle.ixp_store_rows.specs.States.{set_row}
use Rattle.ixp_store_rows.proofs.rows.set_rows.Given as goal

abbrev pub invariant-loop-row : goal.invariant-loop-row
invariant-loop-row g l = l.batch.items ++ map set_row (map (λ row. fields_row g.R.Lined.row_kind (g.R.Lined.fields Two row)) (drop l.row-index l.rows)) ≡ l.fn.batch.items ++ map set_row (map (λ row. fields_row g.R.Lined.row_kind (g.R.Lined.fields Two row)) l.rows)
