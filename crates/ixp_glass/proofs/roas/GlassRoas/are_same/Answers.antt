use Rattle.std.proofs.Common.{◌≡◌, List, subst, ◌∙◌}
use Rattle.std.specs.Bool.{Decides}
use Rattle.std.proofs.lemmas.Bool.Decides.{Decides-at}
use Rattle.ixp_num.specs.declared.roa.Roa.{Roa}
use Rattle.ixp_glass.proofs.SameOnes.{roas_decide}
use Rattle.ixp_glass.proofs.roas.GlassRoas.are_same.Goals as goal

pub returns : goal.returns
returns c =
    let mine = c.as_slice.ensures ∙ (c.get.ensures ∙ c.self.view_is) in
    let others = c.as_slice-2.ensures ∙ (c.get-2.ensures ∙ c.other.view_is) in
    let told = subst (λ (xs : List Roa). Decides c.are_same.result (xs ≡ c.as_slice-2.result.now)) mine (Decides-at c.are_same.result _ c.are_same.ensures (roas_decide c.as_slice.result.now c.as_slice-2.result.now)) in
    subst (λ (ys : List Roa). Decides c.are_same.result (c.args.self.now ≡ ys)) others told
