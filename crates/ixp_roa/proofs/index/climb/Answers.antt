use Rattle.std.proofs.Common.{◌≡◌, ◌-◌, ◌||◌, cond, slice_index, sym, ap, subst, ◌∙◌, arith}
use Rattle.ixp_num.specs.declared.roa.Validity.TheVariants.{Invalid, Unknown}
use Rattle.ixp_roa.specs.Climbs.{StandsAt}
use Rattle.ixp_roa.proofs.Climbing.{IsUpTo, ends, goes_on}
use Rattle.ixp_roa.proofs.index.climb.Goals as goal

pub up-preserved : goal.up-preserved
up-preserved c =
    let rows = c.args.rows.now in
    let links = c.args.links.now in
    let net = c.args.net.now in
    let row = c.at-roa.result in
    let i = c.up.at - 1 in
    let some = c.up-test.true in
    let low = c.up.invariant.within in
    let all = c.requires.all in
    let here : StandsAt rows i row = (omega arith, c.at-roa.ensures) in
    let link = c.requires.linked.1 i row (omega arith) here in
    let more = goes_on rows links net c.args.origin.0 c.up.at i (slice_index links i) row c.up.covered (omega arith) c.requires.ascends link.0 link.1 here (sym c.is_match.ensures ∙ c.if-is_match.false) c.up.invariant in
    subst (λ b. IsUpTo rows net c.args.origin.0 (slice_index links i) (c.up.covered || b)) (sym c.covers-covered.ensures) more

pub returns-then-covered : goal.returns-then-covered
returns-then-covered c =
    let none = c.up-test.false in
    let top : c.up.at ≡ 0 = omega arith in
    sym (ap (λ b. cond b Invalid Unknown) c.if-covered.true)
    ∙ ends c.args.rows.now c.args.net.now c.args.origin.0 c.up.covered (subst (λ n. IsUpTo c.args.rows.now c.args.net.now c.args.origin.0 n c.up.covered) top c.up.invariant)

pub returns-else-covered : goal.returns-else-covered
returns-else-covered c =
    let none = c.up-test.false in
    let top : c.up.at ≡ 0 = omega arith in
    sym (ap (λ b. cond b Invalid Unknown) c.if-covered.false)
    ∙ ends c.args.rows.now c.args.net.now c.args.origin.0 c.up.covered (subst (λ n. IsUpTo c.args.rows.now c.args.net.now c.args.origin.0 n c.up.covered) top c.up.invariant)
