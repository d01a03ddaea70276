-- Lengths, and how often a key stands, when a row is put in or taken out.
use Rattle.std.proofs.Common.{◌≡◌, ℕ, ◌+◌, ◌≤◌, ◌<◌, Bool, true, false, List, [], ◌∷◌, length, Some, refl, sym, ap, ◌∙◌, subst, arith}
use Rattle.std.specs.List.{AllByRecursion}
use Rattle.std.specs.Cmp.Lexicographic.{told_text}
use Rattle.std.specs.Ordering.{is_eq}
use Rattle.std.specs.declared.cmp.Ordering.TheVariants.{Equal}
use Rattle.std.proofs.lemmas.Map.Text.{is_eq-slice_cmp}
use Rattle.ixp_num_tables.specs.Tables.{order, Ascends, find, put, without, same}
use Rattle.ixp_num_tables.specs.Sums.{total, count, one_if, Often}
use Rattle.ixp_num_tables.proofs.Orders.{order_same, order_equal}
use Rattle.ixp_num_tables.proofs.SumLaws.{total_put_new, total_put_same, total_fewer}

pub same_is : (q k : List ℕ) → same q k ≡ true → q ≡ k
same_is q k e = told_text q k true (sym e)

pub same_itself : (q : List ℕ) → same q q ≡ true
same_itself q = sym (is_eq-slice_cmp q q) ∙ ap is_eq (order_same q)

pub same_key : (a b : List ℕ) → order a b ≡ Equal → same a b ≡ true
same_key a b e = subst (λ (x : List ℕ). same a x ≡ true) (order_equal a b e) (same_itself a)

pub same_back : (a b : List ℕ) → order a b ≡ Equal → same b a ≡ true
same_back a b e = subst (λ (x : List ℕ). same x a ≡ true) (order_equal a b e) (same_itself a)

pub length_sum : {R : Type 0} (rs : List R) → length rs ≡ total (λ r. 1) rs
length_sum [] = refl
length_sum (r ∷ rs) = let e = length_sum rs in omega (arith, e)

pub none_counted : {R : Type 0} (t : R → Bool) (rs : List R) → AllByRecursion (λ r. t r ≡ false) rs → count t rs ≡ 0
none_counted t [] all = refl
none_counted t (r ∷ rs) all =
    let e = none_counted t rs all.1 in
    let z : one_if (t r) ≡ 0 = ap one_if all.0 in
    omega (arith, e, z)

module _ {R : Type 0} (key : R → List ℕ) where
  pub length_put : (r : R) (rs : List R) → Ascends key rs → length (put key r rs) ≤ length rs + 1
  length_put r rs up =
      let a = length_sum (put key r rs) in
      let b = length_sum rs in
      let c = total_put_new key (λ x. 1) r rs up in
      omega (arith, a, b, c)

  pub length_same : (r old : R) (rs : List R) → Ascends key rs → find key (key r) rs ≡ Some old → length (put key r rs) ≤ length rs
  length_same r old rs up found =
      let a = length_sum (put key r rs) in
      let b = length_sum rs in
      let c = total_put_same key (λ x. 1) r old rs up found (omega arith) in
      omega (arith, a, b, c)

  pub length_fewer : (k : List ℕ) (rs : List R) → Ascends key rs → length (without key k rs) ≤ length rs
  length_fewer k rs up =
      let a = length_sum (without key k rs) in
      let b = length_sum rs in
      let c = total_fewer key (λ x. 1) k rs up in
      omega (arith, a, b, c)

  pub often_put : (most : ℕ) (f : R → List ℕ) (r : R) (rs : List R) → Ascends key rs → count (λ s. same (f r) (f s)) rs < most → Often most f rs → Often most f (put key r rs)
  often_put most f r rs up few often k = by_test (same k (f r)) refl where
    by_test : (b : Bool) → same k (f r) ≡ b → count (λ s. same k (f s)) (put key r rs) ≤ most
    by_test true e =
        let c = total_put_new key (λ s. one_if (same k (f s))) r rs up in
        let is : k ≡ f r = same_is k (f r) e in
        let d : count (λ s. same k (f s)) rs < most = subst (λ (q : List ℕ). count (λ s. same q (f s)) rs < most) (sym is) few in
        let o : one_if (same k (f r)) ≡ 1 = ap one_if e in
        omega (arith, c, d, o)
    by_test false e =
        let c = total_put_new key (λ s. one_if (same k (f s))) r rs up in
        let d = often k in
        let o : one_if (same k (f r)) ≡ 0 = ap one_if e in
        omega (arith, c, d, o)

  pub often_same : (most : ℕ) (f : R → List ℕ) (r old : R) (rs : List R) → Ascends key rs → find key (key r) rs ≡ Some old → f r ≡ f old → Often most f rs → Often most f (put key r rs)
  often_same most f r old rs up found alike often k =
      let e : one_if (same k (f r)) ≡ one_if (same k (f old)) = ap (λ q. one_if (same k q)) alike in
      let c = total_put_same key (λ s. one_if (same k (f s))) r old rs up found (omega (arith, e)) in
      let d = often k in
      omega (arith, c, d)

  pub often_fewer : (most : ℕ) (f : R → List ℕ) (k : List ℕ) (rs : List R) → Ascends key rs → Often most f rs → Often most f (without key k rs)
  often_fewer most f a rs up often k =
      let c = total_fewer key (λ s. one_if (same k (f s))) a rs up in
      let d = often k in
      omega (arith, c, d)
