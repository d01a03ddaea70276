-- No key stands twice in a list where none is met again.
use Rattle.std.proofs.Common.{◌≡◌, ℕ, suc, ◌+◌, ◌<◌, ◌≤◌, Bool, true, false, ◌&&◌, ◌==◌, nat_le, List, [], ◌∷◌, ◌++◌, map, Some, None, refl, sym, ap, ◌∙◌, subst, arith, if◌then◌else◌}
use Rattle.std.specs.List.{list_any}
use Rattle.std.proofs.Math.Bool.{and-true}
use Rattle.std.proofs.lemmas.Bool.{or_parts, leb-true, leb-false, eqb-true, eqb-false}
use Rattle.ixp_num.specs.declared.family.Family.{Family}
use Rattle.ixp_num.specs.declared.family.Family.TheVariants.{V4, V6}
use Rattle.ixp_num.specs.declared.addr.Addr.{Addr}
use Rattle.ixp_num.specs.AddressForms.{version_of}
use Rattle.ixp_num.specs.Families.{same_family}
use Rattle.ixp_num.specs.Prefixes.{same_addr}
use Rattle.ixp_registry.specs.Places.{times, first_beyond_from}
use Rattle.ixp_num_tables.specs.Tables.{same}
use Rattle.ixp_registry.specs.Words.{addr_numbers}
use Rattle.ixp_num_tables.proofs.Counts.{same_is, same_itself}

-- addresses are the same where their numbers are
pub numbers_same : (a b : Addr) → same (addr_numbers a) (addr_numbers b) ≡ same_addr a b
numbers_same a b = by_families a.family b.family where
  by_families : (f g : Family) → same (version_of f ∷ a.value ∷ []) (version_of g ∷ b.value ∷ []) ≡ (same_family f g && a.value == b.value)
  by_families V4 V4 = and-true (a.value == b.value)
  by_families V4 V6 = refl
  by_families V6 V4 = refl
  by_families V6 V6 = and-true (a.value == b.value)

pub times_both : (q : List ℕ) (xs ys : List (List ℕ)) → times q (xs ++ ys) ≡ times q xs + times q ys
times_both q [] ys = omega arith
times_both q (x ∷ xs) ys = by_test (times_both q xs ys) (same q x) where
  by_test : times q (xs ++ ys) ≡ times q xs + times q ys → (b : Bool)
      → (if b then suc (times q (xs ++ ys)) else times q (xs ++ ys)) ≡ (if b then suc (times q xs) else times q xs) + times q ys
  by_test again true = omega (arith, again)
  by_test again false = again

-- of what is met at most once nothing is met again
pub once : (earlier : List (List ℕ)) (at : ℕ) (ks : List (List ℕ)) → ((q : List ℕ) → times q earlier + times q ks ≤ 1) → first_beyond_from earlier 1 at ks ≡ None
once earlier at [] most = refl
once earlier at (k ∷ ks) most = by_test (once (k ∷ earlier) (at + 1) ks (λ q. shifted q (same q k) (most q))) (nat_le 1 (times k earlier)) refl where
  one : times k (k ∷ ks) ≡ suc (times k ks)
  one = ap (λ b. if b then suc (times k ks) else times k ks) (same_itself k)

  shifted : (q : List ℕ) (b : Bool) → times q earlier + (if b then suc (times q ks) else times q ks) ≤ 1 → (if b then suc (times q earlier) else times q earlier) + times q ks ≤ 1
  shifted q true le = omega (arith, le)
  shifted q false le = le

  by_test : first_beyond_from (k ∷ earlier) 1 (at + 1) ks ≡ None → (b : Bool) → nat_le 1 (times k earlier) ≡ b → (if b then Some at else first_beyond_from (k ∷ earlier) 1 (at + 1) ks) ≡ None
  by_test again true h =
      let some : 1 ≤ times k earlier = leb-true 1 (times k earlier) h in
      let bound : times k earlier + suc (times k ks) ≤ 1 = subst (λ (n : ℕ). times k earlier + n ≤ 1) one (most k) in
      absurd (omega arith)
  by_test again false h = again

-- and what isn't met again is met at most once
pub few : (earlier : List (List ℕ)) (at : ℕ) (ks : List (List ℕ)) → first_beyond_from earlier 1 at ks ≡ None → (q : List ℕ) → times q earlier ≤ 1 → times q earlier + times q ks ≤ 1
few earlier at [] e q le = omega (arith, le)
few earlier at (k ∷ ks) e q le = by_test (few (k ∷ earlier) (at + 1) ks) (nat_le 1 (times k earlier)) refl e where
  back : (b : Bool) → (if b then suc (times q earlier) else times q earlier) + times q ks ≤ 1 → times q earlier + (if b then suc (times q ks) else times q ks) ≤ 1
  back true le = omega (arith, le)
  back false le = le

  added : times k earlier < 1 → (b : Bool) → same q k ≡ b → (if b then suc (times q earlier) else times q earlier) ≤ 1
  added none true h = let zero : times q earlier < 1 = subst (λ (x : List ℕ). times x earlier < 1) (sym (same_is q k h)) none in omega arith
  added none false h = le

  by_test : (first_beyond_from (k ∷ earlier) 1 (at + 1) ks ≡ None → (q : List ℕ) → times q (k ∷ earlier) ≤ 1 → times q (k ∷ earlier) + times q ks ≤ 1)
      → (b : Bool) → nat_le 1 (times k earlier) ≡ b → (if b then Some at else first_beyond_from (k ∷ earlier) 1 (at + 1) ks) ≡ None → times q earlier + times q (k ∷ ks) ≤ 1
  by_test again true h e = absurd (let bad : ⊥ = cc in bad)
  by_test again false h e = back (same q k) (again e q (added (leb-false 1 (times k earlier) h) (same q k) refl))

eq_swaps : (m n : ℕ) → (m == n) ≡ (n == m)
eq_swaps m n = by_tests (m == n) refl (n == m) refl where
  by_tests : (b : Bool) → (m == n) ≡ b → (c : Bool) → (n == m) ≡ c → b ≡ c
  by_tests true h true g = refl
  by_tests true h false g = absurd (eqb-false n m g (sym (eqb-true m n h)))
  by_tests false h true g = absurd (eqb-false m n h (sym (eqb-true n m g)))
  by_tests false h false g = refl

pub swapped : (a b : Addr) → same_addr a b ≡ same_addr b a
swapped a b = by_families a.family b.family where
  by_families : (f g : Family) → (same_family f g && a.value == b.value) ≡ (same_family g f && b.value == a.value)
  by_families V4 V4 = eq_swaps a.value b.value
  by_families V4 V6 = refl
  by_families V6 V4 = refl
  by_families V6 V6 = eq_swaps a.value b.value

-- an address that none of the items has isn't met among their numbers
pub never : {R : Type 0} (g : R → Addr) (a : Addr) (rs : List R) → list_any (λ r. same_addr (g r) a) rs ≡ false → times (addr_numbers a) (map (λ r. addr_numbers (g r)) rs) ≡ 0
never g a [] e = refl
never g a (r ∷ rs) e =
    let parts = or_parts (same_addr (g r) a) (list_any (λ r. same_addr (g r) a) rs) e in
    ap (λ b. if b then suc (times (addr_numbers a) (map (λ r. addr_numbers (g r)) rs)) else times (addr_numbers a) (map (λ r. addr_numbers (g r)) rs))
    (numbers_same a (g r) ∙ (swapped a (g r) ∙ parts.0))
    ∙ never g a rs parts.1
