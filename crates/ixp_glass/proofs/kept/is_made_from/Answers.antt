use Rattle.std.proofs.Common.{◌≡◌, false, rules, sym, ◌∙◌}
use Rattle.std.specs.Cmp.Lexicographic.{pointwise}
use Rattle.ixp_glass.specs.Same.{same_route}
use Rattle.ixp_glass.proofs.Keeping.{is_made, its_roas, not_both, of_others, other_routes}
use Rattle.ixp_glass.proofs.SameOnes.{routes_decide}
use Rattle.ixp_glass.proofs.kept.is_made_from.Goals as goal

pub returns-then-not-is_of : goal.returns-then-not-is_of
returns-then-not-is_of c = (
  λ bad. absurd (let wrong : ⊥ = cc in wrong),
  λ made. absurd (of_others c.args.router.now c.args.interface c.args.routes.now c.args.text.now c.args.roas.now c.args.kept.now (sym c.is_of.ensures ∙ c.if-not-is_of.true) made),
)

pub returns-then-not-are_same : goal.returns-then-not-are_same
returns-then-not-are_same c =
    let list = c.as_slice-2.ensures ∙ c.get.ensures in
    let un : pointwise same_route c.as_slice-2.result.now c.args.routes.now ≡ false = sym c.are_same.ensures ∙ c.if-not-are_same.true in (
      λ bad. absurd (let wrong : ⊥ = cc in wrong),
      λ made. absurd
          (other_routes c.args.router.now c.args.interface c.args.routes.now c.args.text.now c.args.roas.now c.args.kept.now
          (λ e. not_both (pointwise same_route c.as_slice-2.result.now c.args.routes.now) un ((routes_decide c.as_slice-2.result.now c.args.routes.now).1 (list ∙ e))) made),
    )

pub returns : goal.returns
returns c =
    let text : c.as_slice.result.now ≡ c.args.text.now = search rules in
    let routes = (routes_decide c.as_slice-2.result.now c.args.routes.now).0 (sym c.are_same.ensures ∙ c.if-not-are_same.false) in (
      λ same. is_made c.args.router.now c.args.interface c.args.routes.now c.args.text.now c.args.roas.now c.args.kept.now (sym c.is_of.ensures ∙ c.if-not-is_of.false)
          (sym c.as_slice.ensures ∙ text) (sym (c.as_slice-2.ensures ∙ c.get.ensures) ∙ routes) (c.are_same-2.ensures.0 same),
      λ made. c.are_same-2.ensures.1 (its_roas c.args.router.now c.args.interface c.args.routes.now c.args.text.now c.args.roas.now c.args.kept.now made),
    )
