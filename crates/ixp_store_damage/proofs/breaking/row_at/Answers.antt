use Rattle.std.proofs.Common.{◌≡◌, ◌<◌, ◌+◌, ◌-◌, ℕ, List, ◌∷◌, length, map, drop, get_or, add-one, drop-cons, refl, ap, subst, arith}
use Rattle.ixp_store_damage.specs.Placing.{ref_entry}
use Rattle.ixp_store_damage.proofs.BrokenLines.{Skips, skip_next}
use Rattle.ixp_store_damage.proofs.breaking.row_at.Goals as goal

next_item : {X : Type 0} (items : List X) (i : ℕ) (x : X) → i < length items → x ≡ get_or items i x → drop i items ≡ x ∷ drop (i + 1) items
next_item items i x inside at = rw (add-one, drop-cons items i x, ← at) refl

pub loop-row-preserved : goal.loop-row-preserved
loop-row-preserved c =
    let next = ap (map ref_entry) (next_item c.args.rows.now c.loop-row.row-index c.row-item.result c.loop-row-test.true c.row-item.is) in
    skip_next (map ref_entry c.args.rows.now) (ref_entry c.row-item.result) (map ref_entry (drop (c.loop-row.row-index + 1) c.args.rows.now)) c.args.line c.loop-row.skip (c.loop-row.skip - c.lines_of-lines.result)
    (subst (λ l. Skips (map ref_entry c.args.rows.now) l c.args.line c.loop-row.skip) next c.loop-row.invariant) (omega (arith, c.lines_of-lines.ensures, c.if-skip-lines.false))
