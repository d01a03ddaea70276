-- Each two rows, when a row is put in or taken out.
use Rattle.std.proofs.Common.{◌≡◌, ℕ, List, [], ◌∷◌, refl}
use Rattle.std.specs.declared.cmp.Ordering.{Ordering}
use Rattle.std.specs.declared.cmp.Ordering.TheVariants.{Less, Equal, Greater}
use Rattle.std.specs.Ordering.{match_ordering}
use Rattle.std.specs.List.{AllByRecursion}
use Rattle.ixp_num_tables.specs.Tables.{order, Ascends, put, without}
use Rattle.ixp_num_tables.specs.Sums.{Pairs}
use Rattle.ixp_num_tables.proofs.AllItems.{all_both}
use Rattle.ixp_num_tables.proofs.Orders.{all_weaker}
use Rattle.ixp_num_tables.proofs.Places.{above_equal, above_greater}
use Rattle.ixp_num_tables.proofs.TableLaws.{all_put, all_without}

module _ {R : Type 0} (key : R → List ℕ) where
  put_pairs : (P : R → R → Type 0) (r s : R) (rs : List R) (o : Ordering) → order (key s) (key r) ≡ o → AllByRecursion (λ t. order (key s) (key t) ≡ Less) rs
      → AllByRecursion (λ t. (order (key t) (key r) ≡ Equal → ⊥) → P t r × P r t) (s ∷ rs) → AllByRecursion (P s) rs → Pairs P rs → Pairs P (put key r rs) → Pairs P (match_ordering o (s ∷ put key r rs) (r ∷ rs) (r ∷ s ∷ rs))
  put_pairs P r s rs Less e above apart ps rest after = (all_put key (P s) r rs (apart.0 (λ eq. let bad : ⊥ = cc in bad)).0 ps, after)
  put_pairs P r s rs Equal e above apart ps rest after =
      let far = above_equal key s (key r) rs e above in
      (all_weaker (λ t. (order (key t) (key r) ≡ Greater) × ((order (key t) (key r) ≡ Equal → ⊥) → P t r × P r t)) (P r) (λ t x. (x.1 (λ eq. let g = x.0 in let bad : ⊥ = cc in bad)).1) rs (all_both (λ t. order (key t) (key r) ≡ Greater) (λ t. (order (key t) (key r) ≡ Equal → ⊥) → P t r × P r t) rs far apart.1), rest)
  put_pairs P r s rs Greater e above apart ps rest after =
      let far = above_greater key s (key r) rs e above in
      (((apart.0 (λ eq. let bad : ⊥ = cc in bad)).1, all_weaker (λ t. (order (key t) (key r) ≡ Greater) × ((order (key t) (key r) ≡ Equal → ⊥) → P t r × P r t)) (P r) (λ t x. (x.1 (λ eq. let g = x.0 in let bad : ⊥ = cc in bad)).1) rs (all_both (λ t. order (key t) (key r) ≡ Greater) (λ t. (order (key t) (key r) ≡ Equal → ⊥) → P t r × P r t) rs far apart.1)), (ps, rest))

  pub pairs_put : (P : R → R → Type 0) (r : R) (rs : List R) → Ascends key rs → AllByRecursion (λ t. (order (key t) (key r) ≡ Equal → ⊥) → P t r × P r t) rs → Pairs P rs → Pairs P (put key r rs)
  pairs_put P r [] up apart pairs = (tt, tt)
  pairs_put P r (s ∷ rs) up apart pairs = put_pairs P r s rs (order (key s) (key r)) refl up.0 apart pairs.0 pairs.1 (pairs_put P r rs up.1 apart.1 pairs.1)

  without_pairs : (P : R → R → Type 0) (k : List ℕ) (s : R) (rs : List R) (o : Ordering) → AllByRecursion (P s) rs → Pairs P (without key k rs) → Pairs P (match_ordering o (s ∷ without key k rs) (without key k rs) (s ∷ without key k rs))
  without_pairs P k s rs Less ps after = (all_without key (P s) k rs ps, after)
  without_pairs P k s rs Equal ps after = after
  without_pairs P k s rs Greater ps after = (all_without key (P s) k rs ps, after)

  pub pairs_without : (P : R → R → Type 0) (k : List ℕ) (rs : List R) → Pairs P rs → Pairs P (without key k rs)
  pairs_without P k [] pairs = tt
  pairs_without P k (s ∷ rs) pairs = without_pairs P k s rs (order (key s) k) pairs.0 (pairs_without P k rs pairs.1)
