use Rattle.std.proofs.Common.{◌≡◌, ◌++◌, drop}
use Rattle.ixp_rpsl_text.specs.Texts.{lines_text}
use Rattle.ixp_rpsl_text.proofs.texts.lines_of.Given as goal

abbrev pub invariant-loop-item : goal.invariant-loop-item
invariant-loop-item g l = l.text.items ++ lines_text g.W.Writes.text_of (drop l.item-index l.items) ≡ lines_text g.W.Writes.text_of l.items
