-- ROAs in little room, in order: what is said of them is said of the ROAs that they stand for.
use Rattle.std.proofs.Common.{◌≡◌, ◌≤◌, ◌<◌, ◌+◌, ◌⊎◌, inl, inr, ℕ, Bool, true, false, List, [], ◌∷◌, length, get_or, take, drop, map, refl, sym, ap, ◌∙◌, subst, arith}
use Rattle.std.specs.declared.cmp.Ordering.{Ordering}
use Rattle.std.specs.declared.cmp.Ordering.TheVariants.{Less, Equal, Greater}
use Rattle.std.specs.Ordering.{is_lt}
use Rattle.std.specs.List.{Contains}
use Rattle.std.specs.List.Sorted.{IsPartitionedBy, IsPartitionPoint, IsPermutation, IsSortedBy}
use Rattle.std.proofs.lemmas.Bool.{cases_lt, both_ways}
use Rattle.std.proofs.lemmas.Cmp.{nat_list_cmp_total}
use Rattle.std.proofs.lemmas.List.{get_or-map, length-map, drop_more}
use Rattle.std.proofs.lemmas.List.Sorted.{ranks_by, sorted_far, Contains-permutation, IsPermutation-map}
use Rattle.ixp_num.specs.declared.roa.Roa.{Roa}
use Rattle.ixp_num.specs.contracts.roa.RoaOrd.TheImpl as roa_ord
use Rattle.ixp_num_sorted.specs.Keys.{roa_key}
use Rattle.ixp_num_sorted.specs.Told.{roa_ordered, roa_one}
use Rattle.ixp_num_tables.specs.Tables.{order}
use Rattle.ixp_num_tables.proofs.Orders.{as_equal, chained, order_same, turned}
use Rattle.ixp_roa.specs.Climbs.{AreInOrder}
use Rattle.ixp_roa.specs.Compacts.{roa_of}
use Rattle.ixp_roa.specs.declared.compact.CompactRoa.{CompactRoa}

abbrev pub roas : List CompactRoa → List Roa
roas rows = map roa_of rows

-- a row and the ROA that it stands for
pub stands_for : (rows : List CompactRoa) (i : ℕ) (d : CompactRoa) (e : Roa) → i < length rows → get_or (roas rows) i e ≡ roa_of (get_or rows i d)
stands_for rows i d e less = get_or-map roa_of rows i d e less

size : (rows : List CompactRoa) → length (roas rows) ≡ length rows
size rows = length-map rows roa_of

pub few : (rows : List CompactRoa) (n : ℕ) → n ≤ length rows → n ≤ length (roas rows)
few rows n le = let same = size rows in omega arith

-- what holds of all rows at two places
of_roas : (P : Roa → Roa → Type 0) (rows : List CompactRoa) (i j : ℕ) (d : Roa) → i < length rows → j < length rows → ((e : CompactRoa) → P (roa_of (get_or rows i e)) (roa_of (get_or rows j e)))
    → P (get_or (roas rows) i d) (get_or (roas rows) j d)
of_roas P [] i j d less less_ all = absurd (let h : ⊥ = omega arith in h)
of_roas P (r ∷ rs) i j d less less_ all =
    subst (λ x. P x (get_or (roas (r ∷ rs)) j d)) (sym (stands_for (r ∷ rs) i r d less)) (subst (λ y. P (roa_of (get_or (r ∷ rs) i r)) y) (sym (stands_for (r ∷ rs) j r d less_)) (all r))

-- what the sort says
pub sorted : (rows : List CompactRoa) → IsSortedBy (λ (x y : CompactRoa). is_lt ((roa_ord.ghosts).cmp (roa_of x) (roa_of y))) rows → AreInOrder (roas rows)
sorted rows up i j d le less =
    let short : j < length rows = let n = size rows in omega arith in
    of_roas (λ x y. is_lt (order (roa_key y) (roa_key x)) ≡ false) rows i j d (omega arith) short
    (λ e. sorted_far (λ (x y : CompactRoa). is_lt (order (roa_key (roa_of x)) (roa_key (roa_of y)))) (ranks_by nat_list_cmp_total (λ (x : CompactRoa). roa_key (roa_of x))) rows keys i j e le short) where
      keys : IsSortedBy (λ (x y : CompactRoa). is_lt (order (roa_key (roa_of x)) (roa_key (roa_of y)))) rows
      keys k e low high = ap is_lt (sym (roa_ordered (roa_of (get_or rows (k + 1) e)) (roa_of (get_or rows k e)))) ∙ up k e low high

-- the same rows stand for the same ROAs
pub moved : (xs ys : List CompactRoa) (x : Roa) → IsPermutation xs ys → Contains (roas xs) x → Contains (roas ys) x
moved xs ys x same there = Contains-permutation (roas xs) (roas ys) x (IsPermutation-map roa_of xs ys same) there

-- a test that parts the ROAs parts their rows
pub parted : (test : Roa → Bool) (rows : List CompactRoa) → IsPartitionedBy test (roas rows) → IsPartitionedBy (λ r. test (roa_of r)) rows
parted test rows parts i j d le less e =
    let inside : j < length (roas rows) = let n = size rows in omega arith in
    subst (λ r. test r ≡ true) (stands_for rows i d (roa_of d) (omega arith)) (parts i j (roa_of d) le inside (subst (λ r. test r ≡ true) (sym (stands_for rows j d (roa_of d) less)) e))

pub point : (test : Roa → Bool) (rows : List CompactRoa) (n : ℕ) → n ≤ length rows
    → IsPartitionPoint (λ r. test (roa_of r) ≡ true) (λ r. test (roa_of r) ≡ false) rows n → IsPartitionPoint (λ r. test r ≡ true) (λ r. test r ≡ false) (roas rows) n
point test rows n within parts = (
  (λ k d low less. of_roas (λ r s. test r ≡ true) rows k k d (omega arith) (omega arith) (λ e. parts.0 k e low less)),
  (λ k d le less. let inside : k < length rows = let n = size rows in omega arith in of_roas (λ r s. test r ≡ false) rows k k d inside inside (λ e. parts.1 k e le inside)),
)

-- where a ROA stands

abbrev pub is_below : Roa → Roa → Bool
is_below roa r = is_lt ((roa_ord.ghosts).cmp r roa)

by_keys : (roa r : Roa) → is_below roa r ≡ is_lt (order (roa_key r) (roa_key roa))
by_keys roa r = ap is_lt (roa_ordered r roa)

below_says : (o : Ordering) → is_lt o ≡ true → o ≡ Less
below_says Less e = refl
below_says Equal e = absurd (let h : ⊥ = cc in h)
below_says Greater e = absurd (let h : ⊥ = cc in h)

-- what isn't after one that is below another is below it
chain : (x y z : List ℕ) → is_lt (order y x) ≡ false → is_lt (order y z) ≡ true → is_lt (order x z) ≡ true
chain x y z up less = by (order y x) refl where
  by : (o : Ordering) → order y x ≡ o → is_lt (order x z) ≡ true
  by Less e = absurd (both_ways (is_lt (order y x)) up (ap is_lt e))
  by Equal e = ap is_lt (sym (as_equal y x z e)) ∙ less
  by Greater e = ap is_lt (chained x y z (turned y x Greater e) (below_says (order y z) less))

pub below_parted : (rows : List Roa) (roa : Roa) → AreInOrder rows → IsPartitionedBy (is_below roa) rows
below_parted rows roa up i j d le less e =
    by_keys roa (get_or rows i d) ∙ chain (roa_key (get_or rows i d)) (roa_key (get_or rows j d)) (roa_key roa) (up i j d le less) (sym (by_keys roa (get_or rows j d)) ∙ e)

-- of two keys neither of which is below the other
equal : (a b : List ℕ) → is_lt (order a b) ≡ false → is_lt (order b a) ≡ false → order a b ≡ Equal
equal a b low high = by (order a b) refl where
  by : (o : Ordering) → order a b ≡ o → order a b ≡ Equal
  by Less e = absurd (both_ways (is_lt (order a b)) low (ap is_lt e))
  by Equal e = e
  by Greater e = absurd (both_ways (is_lt (order b a)) high (ap is_lt (turned a b Greater e)))

pub found : (rows : List Roa) (roa : Roa) (n : ℕ) → AreInOrder rows → Contains rows roa
    → IsPartitionPoint (λ r. is_below roa r ≡ true) (λ r. is_below roa r ≡ false) rows n → (n < length rows) × (get_or rows n roa ≡ roa)
found rows roa n up (k, inside, at) parts = by (cases_lt k n) where
  not_itself : is_below roa roa ≡ false
  not_itself = by_keys roa roa ∙ ap is_lt (order_same (roa_key roa))

  by : (k < n) ⊎ (n ≤ k) → (n < length rows) × (get_or rows n roa ≡ roa)
  by (inl before) = absurd (both_ways (is_below roa roa) not_itself (subst (λ r. is_below roa r ≡ true) at (parts.0 k roa (omega arith) before)))
  by (inr le) =
      let low : is_lt (order (roa_key (get_or rows n roa)) (roa_key roa)) ≡ false = sym (by_keys roa (get_or rows n roa)) ∙ parts.1 n roa (omega arith) (omega arith) in
      let high : is_lt (order (roa_key roa) (roa_key (get_or rows n roa))) ≡ false = subst (λ r. is_lt (order (roa_key r) (roa_key (get_or rows n roa))) ≡ false) at (up n k roa le inside) in
      (omega arith, roa_one (get_or rows n roa) roa (equal (roa_key (get_or rows n roa)) (roa_key roa) low high))

-- one more ROA by its place
pub one_more : (rows : List Roa) (r : Roa) (n : ℕ) → n < length rows → get_or rows n r ≡ r → take 1 (drop n rows) ≡ r ∷ []
one_more rows r n less at = ap (take 1) (drop_more rows n r less) ∙ ap (λ x. x ∷ []) at
