use Rattle.std.proofs.Common.{◌≡◌, ◌++◌, drop, flat_map}
use Rattle.ixp_rows_lines.specs.declared.version.Version.TheVariants.{Two}
use Rattle.ixp_rows_lines.specs.Lines.{text_of}
use Rattle.ixp_rows.proofs.printing.put_rows.Given as goal

abbrev pub invariant-loop-row : goal.invariant-loop-row
invariant-loop-row g l =
    l.out.items ++ flat_map (λ row. text_of g.K.Lined.row_kind (g.K.Lined.fields Two row)) (drop l.row-index l.rows)
    ≡ l.fn.out.items ++ flat_map (λ row. text_of g.K.Lined.row_kind (g.K.Lined.fields Two row)) l.rows
