use Rattle.std.proofs.Common.{◌≡◌, Bool, true, false, List, ℕ, refl, sym, ap, ◌∙◌, subst}
use Rattle.std.specs.Prelude.{MatchBool}
use Rattle.std.specs.Bool.{Decides}
use Rattle.std.specs.declared.cmp.Ordering.{Ordering}
use Rattle.std.specs.declared.cmp.Ordering.TheVariants.{Equal}
use Rattle.std.specs.Ordering.{is_eq}
use Rattle.std.proofs.lemmas.Slice.Eq.{slice_eq-Decides}
use Rattle.ixp_num_tables.specs.Tables.{order}
use Rattle.ixp_num_tables.proofs.Orders.{order_same}
use Rattle.ixp_rtr.proofs.Keys.{tied}
use Rattle.ixp_rtr.proofs.cache.are_same.Goals as goal

module _ {A : Type 0} (key : A → List ℕ) (cmp : A → A → Ordering) (ordered : (a b : A) → cmp a b ≡ order (key a) (key b)) where
  -- `==` tells items apart whose order is that of their keys
  decides : (eq : A → A → Bool) → ((a b : A) → eq a b ≡ is_eq (cmp a b)) → ((a b : A) → order (key a) (key b) ≡ Equal → a ≡ b) → (a b : A) → Decides (eq a b) (a ≡ b)
  decides eq matches one a b = (by, λ same. subst (λ x. eq x b ≡ true) (sym same) itself) where
    itself : eq b b ≡ true
    itself = matches b b ∙ ap is_eq (ordered b b ∙ order_same (key b))

    by : eq a b ≡ true → a ≡ b
    by e = one a b (sym (ordered a b) ∙ tied (cmp a b) (sym (matches a b) ∙ e))

matched : (r : Bool) (P : Type 0) → Decides r P → MatchBool r P (¬ P)
matched true P p = p.0 refl
matched false P p = λ q. let bad : false ≡ true = p.1 q in cc

pub returns : goal.returns
returns g c =
    matched c.eq.result _ (slice_eq-Decides (decides g.T.Keyed.key g.T.Ord.cmp g.met.T.Keyed.ordered g.T.PartialEq.eq g.met.T.Ord.matches_eq g.T.Keyed.one) _ _ c.eq.result c.eq.ensures)
