-- Keys of one number, addresses by their numbers, and counts of rows by a number.
use Rattle.std.proofs.Common.{◌≡◌, ℕ, ◌≤◌, Bool, true, false, ◌==◌, List, [], ◌∷◌, refl, sym, ap, ◌∙◌, subst, arith}
use Rattle.std.specs.declared.cmp.Ordering.TheVariants.{Equal}
use Rattle.std.specs.List.{AllByRecursion}
use Rattle.std.proofs.lemmas.Bool.{eqb-true, eqb-false}
use Rattle.std.proofs.Math.Bool.{and-true}
use Rattle.ixp_num.specs.declared.addr.Addr.{Addr}
use Rattle.ixp_num.specs.Prefixes.{same_addr}
use Rattle.ixp_num_tables.specs.Tables.{order, same}
use Rattle.ixp_num_tables.specs.Sums.{count, one_if}
use Rattle.ixp_num_tables.proofs.Orders.{all_weaker, order_same, head_same}
use Rattle.ixp_num_tables.proofs.AllItems.{all_true}
use Rattle.ixp_num_tables.proofs.SumLaws.{total_same}
use Rattle.ixp_num_tables.proofs.Counts.{none_counted}
use Rattle.ixp_registry.specs.Words.{addr_numbers}
use Rattle.ixp_plan.proofs.Times.{numbers_same, swapped}

eq_swaps : (m n : ℕ) → (m == n) ≡ (n == m)
eq_swaps m n = by_tests (m == n) refl (n == m) refl where
  by_tests : (b : Bool) → (m == n) ≡ b → (c : Bool) → (n == m) ≡ c → b ≡ c
  by_tests true h true g = refl
  by_tests true h false g = absurd (eqb-false n m g (sym (eqb-true m n h)))
  by_tests false h true g = absurd (eqb-false m n h (sym (eqb-true n m g)))
  by_tests false h false g = refl

pub one_number : (m n : ℕ) → same (m ∷ []) (n ∷ []) ≡ (n == m)
one_number m n = and-true (m == n) ∙ eq_swaps m n

-- numbers whose keys aren't the same differ, and the other way round
pub differ : (m n : ℕ) → (order (m ∷ []) (n ∷ []) ≡ Equal → ⊥) → (m == n) ≡ false
differ m n apart = by_test (m == n) refl where
  by_test : (b : Bool) → (m == n) ≡ b → b ≡ false
  by_test false h = refl
  by_test true h = absurd (apart (subst (λ (x : ℕ). order (m ∷ []) (x ∷ []) ≡ Equal) (eqb-true m n h) (order_same (m ∷ []))))

pub apart : (m n : ℕ) → (m == n) ≡ false → order (m ∷ []) (n ∷ []) ≡ Equal → ⊥
apart m n e same = eqb-false m n e (head_same m n [] [] same)

pub counted : {R : Type 0} (f : R → ℕ) (m : ℕ) (rs : List R) → count (λ r. same (m ∷ []) (f r ∷ [])) rs ≡ count (λ r. f r == m) rs
counted f m rs =
    total_same (λ r. one_if (same (m ∷ []) (f r ∷ []))) (λ r. one_if (f r == m)) rs
    (all_true (λ r. one_if (same (m ∷ []) (f r ∷ [])) ≡ one_if (f r == m)) (λ r. ap one_if (one_number m (f r))) rs)

-- an address that none of the items has
pub never : {R : Type 0} (g : R → Addr) (a : Addr) (rs : List R) → AllByRecursion (λ r. same_addr (g r) a ≡ false) rs → count (λ r. same (addr_numbers a) (addr_numbers (g r))) rs ≡ 0
never g a rs all =
    none_counted (λ r. same (addr_numbers a) (addr_numbers (g r))) rs
    (all_weaker (λ r. same_addr (g r) a ≡ false) (λ r. same (addr_numbers a) (addr_numbers (g r)) ≡ false) (λ r e. numbers_same a (g r) ∙ (swapped a (g r) ∙ e)) rs all)

pub most_one : (b : Bool) → one_if b ≤ 1
most_one true = omega arith
most_one false = omega arith
