use Rattle.std.proofs.Common.{◌≡◌, ◌≤◌, List, length, ap, sym, ◌∙◌, subst}
use Rattle.std.specs.List.{AllByRecursion}
use Rattle.ixp_glass.specs.declared.kept.KeptReports.{KeptReports}
use Rattle.ixp_glass.specs.Kept.{IsRight, with_newest}
use Rattle.ixp_glass.proofs.Keeping.{few_with, right_with}
use Rattle.ixp_glass.proofs.glass.Glass.keep.Goals as goal

pub invariant_of-self : goal.invariant_of-self
invariant_of-self c =
    let newest = c.in_ok-newest.newest in
    let rows : c.in_ok-self-inside.field-0 ≡ with_newest newest c.self.inside.kept = c.in_ok-self-inside.ensures ∙ ap (with_newest newest) c.as_slice-2.ensures in
    let right : IsRight newest = subst IsRight (sym c.in_ok-newest.ensures) c.requires in (
      subst (λ (ks : List KeptReports). AllByRecursion IsRight ks) (sym rows) (right_with newest c.self.inside.kept right c.self.invariant.0),
      subst (λ (ks : List KeptReports). length ks ≤ 16) (sym rows) (few_with newest c.self.inside.kept),
    )
