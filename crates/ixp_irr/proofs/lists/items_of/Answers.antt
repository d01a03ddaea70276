use Rattle.std.proofs.Common.{ap, sym, ◌∙◌, ◌∷◌, ◌++◌, [], arith, length-append, append_assoc}
use Rattle.std.specs.Str.Lines.{lines}
use Rattle.ixp_irr.proofs.Growing.{Lists-push}
use Rattle.ixp_irr.proofs.lists.items_of.Goals as goal

pub lines-preserved-in-Ok-push : goal.lines-preserved-in-Ok-push
lines-preserved-in-Ok-push g c =
    let inv = c.lines.invariant in
    let line = c.first_line.result.0.now in
    let rest = lines c.first_line.result.1.now in
    let size = inv.2 in
    let left = inv.3 in
    let shorter = c.first_line.ensures.shorter in
    let grown = Lists-push (g.R.Reads.says c.args.reader.now) inv.0 c.lines.items.items line c.in-Ok.item inv.4 (sym c.counts.ensures ∙ c.if-counts.true) c.in-Ok.ensures in (
      inv.0 ++ line ∷ [],
      inv.1 ∙ (ap (λ r. inv.0 ++ r) c.first_line.ensures.lines ∙ sym (append_assoc inv.0 (line ∷ []) rest)),
      omega (arith, length-append inv.0 (line ∷ [])),
      omega arith,
      rw c.in-Ok-push.ensures.items grown,
    )
