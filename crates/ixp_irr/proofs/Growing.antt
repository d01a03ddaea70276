-- One more line of a list.
use Rattle.std.proofs.Common.{◌≡◌, ℕ, true, cond, List, [], ◌∷◌, ◌++◌, Result, Ok, sym, ap, ◌∙◌, subst}
use Rattle.std.specs.List.{filter}
use Rattle.std.proofs.lemmas.List.Elements.{filter-append}
use Rattle.ixp_irr.specs.declared.fault.Misfit.{Misfit}
use Rattle.ixp_irr.specs.Lists.{counts, AreItems, Lists}

module _ {A : Type 0} (says : List ℕ → Result A Misfit → Type 0) where
  AreItems-push : (all : List (List ℕ)) (items : List A) (line : List ℕ) (x : A) → AreItems says all items → says line (Ok x) → AreItems says (all ++ line ∷ []) (items ++ x ∷ [])
  AreItems-push [] [] line x are is = (is, tt)
  AreItems-push [] (y ∷ ys) line x are is = absurd are
  AreItems-push (l ∷ ls) [] line x are is = absurd are
  AreItems-push (l ∷ ls) (y ∷ ys) line x are is = (are.0, AreItems-push ls ys line x are.1 is)

  pub Lists-push : (all : List (List ℕ)) (items : List A) (line : List ℕ) (x : A) → Lists says all items → counts line ≡ true → says line (Ok x) → Lists says (all ++ line ∷ []) (items ++ x ∷ [])
  Lists-push all items line x are count is =
      let kept : filter counts (all ++ line ∷ []) ≡ filter counts all ++ line ∷ [] =
      filter-append counts all (line ∷ []) ∙ ap (λ b. filter counts all ++ cond b (line ∷ []) []) count in
      subst (λ ls. AreItems says ls (items ++ x ∷ [])) (sym kept) (AreItems-push (filter counts all) items line x are is)
