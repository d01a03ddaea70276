use Rattle.std.proofs.Common.{◌+◌, ◌∷◌, [], sym, ap, ◌∙◌}
use Rattle.ixp_io.specs.Tables.{row_entry}
use Rattle.ixp_rows.specs.Reading.{breaks}
use Rattle.ixp_rows.proofs.LinesAgain.{breaks_append}
use Rattle.ixp_store_damage.proofs.BrokenLines.{line_text, whole_text}
use Rattle.ixp_store_damage.proofs.breaking.lines_of.Goals as goal

pub returns-then-has_whole_lines : goal.returns-then-has_whole_lines
returns-then-has_whole_lines c = c.breaks-lines.ensures.count ∙ (ap breaks c.as_slice.ensures ∙ ap breaks (sym (whole_text (row_entry c.args.row.now) (sym c.has_whole_lines.ensures ∙ c.if-has_whole_lines.true))))

pub returns-else-has_whole_lines : goal.returns-else-has_whole_lines
returns-else-has_whole_lines c =
    ap (λ n. n + 1) (c.breaks-lines.ensures.count ∙ ap breaks c.as_slice.ensures)
    ∙ (sym (breaks_append c.args.row.now.body (10 ∷ [])) ∙ ap breaks (sym (line_text (row_entry c.args.row.now) (sym c.has_whole_lines.ensures ∙ c.if-has_whole_lines.false))))
