use Rattle.std.proofs.Common.{rules, ◌≡◌, ℕ, List, arith, sym, ◌∙◌, ap, true, false, refl, subst, ◌∷◌, Some}
use Rattle.ixp_registry.specs.Places.{first}
use Rattle.ixp_registry.proofs.Placing.{first_here, first_on}
use Rattle.ixp_registry.proofs.places.first.Goals as goal

pub returns-then-breaks : goal.returns-then-breaks
returns-then-breaks g c = λ at all test s a calls.
    let h : test c.in-Some.row.now ≡ true = sym (calls c.in-Some.row.now c.breaks.result (record { shown = c.in-Some.row; shows = refl; says = record { met = c.breaks.ensures } })) ∙ c.if-breaks.true in
    let w = first_here c.rows.at test c.in-Some.row.now c.in-Some.others.now h in
    let v = c.rows.invariant.same test calls in
    let e : c.rows.left.now ≡ c.in-Some.row.now ∷ c.in-Some.others.now = search rules in
    let P : ℕ → Type 0 = λ n. Some c.rows.at ≡ first n test all in
    let Q : List g.row.R.Denot → Type 0 = λ xs. Some c.rows.at ≡ first c.args.start test xs in
    subst P s (subst Q a (sym w ∙ (ap (first c.rows.at test) (sym e) ∙ v)))

pub rows-preserved : goal.rows-preserved
rows-preserved g c = record {
  callable = search rules;
  room = grind arith;
  same = λ test calls.
      let h : test c.in-Some.row.now ≡ false = sym (calls c.in-Some.row.now c.breaks.result (record { shown = c.in-Some.row; shows = refl; says = record { met = c.breaks.ensures } })) ∙ c.if-breaks.false in
      let w = first_on c.rows.at test c.in-Some.row.now c.in-Some.others.now h in
      let v = c.rows.invariant.same test calls in
      let e : c.rows.left.now ≡ c.in-Some.row.now ∷ c.in-Some.others.now = search rules in
      sym w ∙ (ap (first c.rows.at test) (sym e) ∙ v);
}
