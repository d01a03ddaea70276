use Rattle.std.proofs.Common.{◌≡◌, ◌++◌, ◌∷◌, drop, map, flat_map}
use Rattle.ixp_rows_lines.specs.Fields.{field_text}
use Rattle.ixp_rows_lines.specs.Printing.{shown}
use Rattle.ixp_rows_lines.proofs.printing.put_fields.Given as goal

abbrev pub invariant-loop-field : goal.invariant-loop-field
invariant-loop-field l = l.out.items ++ flat_map (λ field. 32 ∷ field_text field) (map shown (drop l.field-index l.fields)) ≡ l.fn.out.items ++ flat_map (λ field. 32 ∷ field_text field) (map shown l.fields)
