-- What passing by objects finds.
use Rattle.std.proofs.Common.{◌≡◌, ℕ, true, false, List, [], ◌∷◌, if◌then◌else◌, refl, sym, ap, ◌∙◌, subst}
use Rattle.ixp_rpsl.specs.Lines.{Line}
use Rattle.ixp_rpsl.specs.Attributes.{is_empty}
use Rattle.ixp_rpsl.specs.Objects.{objects}
use Rattle.ixp_rpsl.proofs.Passing.{past_first}
use Rattle.ixp_rpsl_sources.specs.Said.{AllSay, Said, joined, nothing}
use Rattle.ixp_rpsl_sources.specs.Told.{Finds, Passes}
use Rattle.ixp_rpsl_sources.proofs.Joining.{join_as, join_nothing}

module _ (sources : List (List ℕ)) where
  pub passes_object : (l : Line) (ls rest : List Line) (old new : Said) → is_empty l.bytes ≡ false → Finds sources l ls rest old new → Passes sources (l ∷ ls) rest old new
  passes_object l ls rest old new some (one, says, grown, past) = λ others say.
      let behind : AllSay sources (objects true ls) others = subst (λ os. AllSay sources os others) (ap (objects false) past ∙ sym (past_first ls)) say in
      let all : AllSay sources (objects false (l ∷ ls)) (joined one others) =
      subst (λ b. AllSay sources (if b then objects false ls else (l, ls) ∷ objects true ls) (joined one others)) (sym some) (one, others, says, behind, refl) in
      (joined one others, all, ap (λ f. joined f others) grown ∙ join_as old one others)

  pub passes_empty : (l : Line) (ls : List Line) (old : Said) → is_empty l.bytes ≡ true → Passes sources (l ∷ ls) ls old old
  passes_empty l ls old none = λ others say. (others, subst (λ b. AllSay sources (if b then objects false ls else (l, ls) ∷ objects true ls) others) (sym none) say, refl)

  pub all_passed : (ls : List Line) (new : Said) → Passes sources ls [] nothing new → AllSay sources (objects false ls) new
  all_passed ls new passes =
      let all = passes nothing refl in
      let same : new ≡ all.0 = sym (join_nothing new) ∙ all.2 in
      subst (AllSay sources (objects false ls)) (sym same) all.1
