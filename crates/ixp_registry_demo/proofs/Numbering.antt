-- Rows that are made of the numbers from a on, n of them.
use Rattle.std.proofs.Common.{◌≡◌, ℕ, zero, suc, ◌+◌, ◌<◌, ◌≤◌, ◌==◌, Bool, true, false, List, [], ◌∷◌, ◌++◌, map, Option, Some, None, refl, sym, subst, arith}
use Rattle.std.specs.List.{AllByRecursion, range_with_len}
use Rattle.std.specs.declared.cmp.Ordering.TheVariants.{Less, Equal}
use Rattle.std.proofs.lemmas.Bool.{eqb-true, eqb-false}
use Rattle.std.proofs.lemmas.List.FromFn.{map-range_with_len_more}
use Rattle.ixp_num_tables.specs.Tables.{order, Ascends, find, same, if_there}
use Rattle.ixp_num_tables.specs.Sums.{one_if, Often}
use Rattle.ixp_num_tables.proofs.Counts.{same_is}
use Rattle.ixp_num_tables.proofs.FirstNumbers.{less_first}
use Rattle.ixp_num_tables.proofs.Looking.{all_found_there}
use Rattle.ixp_num_tables.proofs.Orders.{order_same}
use Rattle.ixp_num_tables.proofs.SumLaws.{total_at}
use Rattle.ixp_registry_demo.specs.Demo.{each}

module _ {R : Type 0} (f : ℕ → R) where
  -- what holds at each number holds of each row, and the other way round
  pub all_numbered : (P : R → Type 0) (a n : ℕ) → ((k : ℕ) → a ≤ k → k < a + n → P (f k)) → AllByRecursion P (map f (range_with_len a n))
  all_numbered P a zero at = tt
  all_numbered P a (suc n) at = (at a (omega arith) (omega arith), all_numbered P (a + 1) n (λ k low high. at k (omega arith) (omega arith)))

  pub at_number : (P : R → Type 0) (a n k : ℕ) → AllByRecursion P (map f (range_with_len a n)) → a ≤ k → k < a + n → P (f k)
  at_number P a zero k all low high = absurd (let bad : ⊥ = omega arith in bad)
  at_number P a (suc n) k all low high = by_test (k == a) refl (λ above. at_number P (a + 1) n k all.1 above (omega arith)) where
    by_test : (b : Bool) → (k == a) ≡ b → (a + 1 ≤ k → P (f k)) → P (f k)
    by_test true e rest = subst (λ m. P (f m)) (sym (eqb-true k a e)) all.0
    by_test false e rest = let apart = eqb-false k a e in rest (omega (arith, apart))

  -- where keys rise with the numbers, rows ascend
  pub rising : (key : R → List ℕ) (a n : ℕ) → ((j k : ℕ) → a ≤ j → j < k → k < a + n → order (key (f j)) (key (f k)) ≡ Less) → Ascends key (map f (range_with_len a n))
  rising key a zero up = tt
  rising key a (suc n) up = (
    all_numbered (λ s. order (key (f a)) (key s) ≡ Less) (a + 1) n (λ k low high. up a k (omega arith) (omega arith) (omega arith)),
    rising key (a + 1) n (λ j k low less high. up j k (omega arith) less (omega arith)),
  )

  pub keyed_rise : (key : R → List ℕ) (behind : List ℕ) (n : ℕ) → ((k : ℕ) → key (f k) ≡ k ∷ behind) → Ascends key (map f (range_with_len 1 n))
  keyed_rise key behind n keyed =
      rising key 1 n (λ j k low less high. subst (λ q. order q (key (f k)) ≡ Less) (sym (keyed j)) (subst (λ q. order (j ∷ behind) q ≡ Less) (sym (keyed k)) (less_first j k behind behind less)))

  -- and each row is found by its key
  pub found_at : (key : R → List ℕ) (a n k : ℕ) → Ascends key (map f (range_with_len a n)) → a ≤ k → k < a + n → find key (key (f k)) (map f (range_with_len a n)) ≡ Some (f k)
  found_at key a n k up = at_number (λ r. find key (key r) (map f (range_with_len a n)) ≡ Some r) a n k (all_found_there key (map f (range_with_len a n)) up)

-- one row more
pub one_more : {R : Type 0} (f : ℕ → R) (n : ℕ) → each f (n + 1) ≡ each f n ++ f (n + 1) ∷ []
one_more f n = map-range_with_len_more f 1 n (n + 1) (omega arith)

one_at_most : (b : Bool) → one_if b ≤ 1
one_at_most true = omega arith
one_at_most false = omega arith

module _ {R : Type 0} (key : R → List ℕ) where
  apart_none : (k : List ℕ) (r : R) (b : Bool) → same k (key r) ≡ b → (order (key r) k ≡ Equal → ⊥) → one_if b ≡ 0
  apart_none k r true e apart = absurd (apart (subst (λ q. order (key r) q ≡ Equal) (sym (same_is k (key r) e)) (order_same (key r))))
  apart_none k r false e apart = refl

  at_most_one : (k : List ℕ) (o : Option R) → if_there o 0 (λ r. one_if (same k (key r))) ≤ 1
  at_most_one k None = omega arith
  at_most_one k (Some r) = one_at_most (same k (key r))

  -- a key stands once among rows that ascend
  pub once : (rs : List R) → Ascends key rs → Often 1 key rs
  once rs up k =
      let w = λ (r : R). one_if (same k (key r)) in
      let e = total_at key k w rs up (λ r apart. apart_none k r (same k (key r)) refl apart) in
      let h = at_most_one k (find key k rs) in
      subst (λ n. n ≤ 1) (sym e) h

  pub seldom : (most : ℕ) (rs : List R) → 1 ≤ most → Ascends key rs → Often most key rs
  seldom most rs some up k = let h = once rs up k in omega (arith, some, h)
