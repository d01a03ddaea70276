use Rattle.std.proofs.Common.{◌≡◌, ◌≤◌, Some, length, arith, sym, ap, ◌∙◌, subst}
use Rattle.ixp_io.specs.Told.{WhereTold}
use Rattle.ixp_store_damage.specs.Reading.{ComesNext, above_last}
use Rattle.ixp_store_load.proofs.Reading.{never_below, never_beyond, one_too_many, too_many}
use Rattle.ixp_store_load.proofs.keeper.read_rows.Goals as goal

pub returns-then-not-is_above-clause-many : goal.returns-then-not-is_above-clause-many
returns-then-not-is_above-clause-many g c = λ _.
    never_below _ c.rows.rows.items c.in-Some.row c.rows.invariant.front
    (subst (λ o. WhereTold o (λ t. ComesNext t c.rows.rows.items (Some c.in-Some.row))) c.rows.invariant.kept (rw (c.as_slice.ensures.value, c.in-Some.is) at c.in_ok-row.ensures.next))
    (ap (λ rs. above_last rs c.in-Some.row) (sym c.as_slice-in-rows.ensures.value) ∙ (sym c.is_above.ensures ∙ c.if-not-is_above.true))

pub returns-in-Some-2-clause-many : goal.returns-in-Some-2-clause-many
returns-in-Some-2-clause-many g c = λ _.
    let many : 8000000 ≤ length c.rows.rows.items = omega (arith, c.rows-test.false, c.len.ensures) in
    too_many _ c.rows.rows.items c.in-Some-2.row c.rows.invariant.front
    (subst (λ o. WhereTold o (λ t. ComesNext t c.rows.rows.items (Some c.in-Some-2.row))) c.rows.invariant.kept (rw (c.as_slice-2.ensures.value, c.in-Some-2.is) at c.in_ok-row-2.ensures.next)) many

pub returns-then-not-is_above-clause-beyond : goal.returns-then-not-is_above-clause-beyond
returns-then-not-is_above-clause-beyond g c =
    never_beyond _ c.rows.rows.items c.in-Some.row c.rows.invariant.front
    (subst (λ o. WhereTold o (λ t. ComesNext t c.rows.rows.items (Some c.in-Some.row))) c.rows.invariant.kept (rw (c.as_slice.ensures.value, c.in-Some.is) at c.in_ok-row.ensures.next))
    (ap (λ rs. above_last rs c.in-Some.row) (sym c.as_slice-in-rows.ensures.value) ∙ (sym c.is_above.ensures ∙ c.if-not-is_above.true))

pub returns-in-Some-2-clause-beyond : goal.returns-in-Some-2-clause-beyond
returns-in-Some-2-clause-beyond g c =
    let many : length c.rows.rows.items ≡ 8000000 = omega (arith, c.rows-test.false, c.len.ensures, c.rows.invariant.most) in
    one_too_many _ c.rows.rows.items c.in-Some-2.row c.rows.invariant.front
    (subst (λ o. WhereTold o (λ t. ComesNext t c.rows.rows.items (Some c.in-Some-2.row))) c.rows.invariant.kept (rw (c.as_slice-2.ensures.value, c.in-Some-2.is) at c.in_ok-row-2.ensures.next)) many
