-- Rows by family and length: those of a group stand together, in the order of their numbers.
use Rattle.std.proofs.Common.{◌≡◌, ◌≢◌, ◌≤◌, ◌<◌, ◌+◌, ◌-◌, ◌*◌, ◌^◌, ◌==◌, ◌&&◌, ℕ, Bool, true, false, cond, ◌⊎◌, inl, inr, List, [], ◌∷◌, ◌++◌, length, take, drop, get_or, ltb, refl, sym, ap, ◌∙◌, subst, arith, eq-eqb, append-nil}
use Rattle.std.specs.List.{All, AllWithin as AllFrom, filter}
use Rattle.std.specs.List.Sorted.{IsNonDecreasingBy, IsSortedBy}
use Rattle.std.specs.declared.cmp.Ordering.TheVariants.{Equal, Greater}
use Rattle.std.specs.Ordering.{nat_cmp, ordering_then, is_lt}
use Rattle.std.proofs.lemmas.Bool.{and_parts, and_from, eqb-true, ltb-true, ltb-false, false_from_ne_true}
use Rattle.std.proofs.lemmas.List.{get_or-take, get_or-drop, get_or_append_left, length-append, length-drop, length-take}
use Rattle.std.proofs.lemmas.List.Elements.{All-head, All-tail, filter-append}
use Rattle.std.proofs.lemmas.List.Sorted.{IsNonDecreasingBy-from_all_adjacent}
use Rattle.std.proofs.lemmas.Map.Keys.{ge_from_not_lt}
use Rattle.ixp_num.specs.Families.{bits_of, same_family}
use Rattle.ixp_num.specs.declared.family.Family.{Family}
use Rattle.ixp_num.specs.declared.family.Family.TheVariants.{V4, V6}
use Rattle.ixp_num.specs.declared.prefix.Prefix.{Prefix}
use Rattle.ixp_pfxset.specs.Groups.{group_of, rank}
use Rattle.ixp_pfxset.proofs.Covering.{one_family, families_meet}
use Rattle.ixp_pfxset.proofs.Standing.{then_not, greater, equal_to}

abbrev pub group : Prefix → ℕ
group r = group_of r.family r.len

-- an address number has 128 bits at most
small : (f : Family) (v : ℕ) → v < 2 ^ bits_of f → v < 2 ^ 128
small V4 v less = let h : v < 2 ^ 32 = less in omega arith
small V6 v less = less

value_small : (r : Prefix) → r.value < 2 ^ 128
value_small r = small r.family r.value r.fits

group_up : (x y : Prefix) → rank x ≤ rank y → group x ≤ group y
group_up x y le = let v = value_small x in let w = value_small y in omega arith

value_up : (x y : Prefix) → group x ≡ group y → rank x ≤ rank y → x.value ≤ y.value
value_up x y same le = let e = ap (λ g. g * 2 ^ 128) same in omega arith

pub groups_up : (xs : List Prefix) → IsNonDecreasingBy rank xs → IsNonDecreasingBy group xs
groups_up xs up i j d le less = group_up (get_or xs i d) (get_or xs j d) (up i j d le less)

-- what the sort by group and number says
ranked_by : (x y : Prefix) → is_lt (ordering_then (nat_cmp (group y) (group x)) (nat_cmp y.value x.value)) ≡ false → rank x ≤ rank y
ranked_by x y e = by (then_not (nat_cmp (group y) (group x)) (nat_cmp y.value x.value) e) where
  by : (nat_cmp (group y) (group x) ≡ Greater) ⊎ ((nat_cmp (group y) (group x) ≡ Equal) × (is_lt (nat_cmp y.value x.value) ≡ false)) → rank x ≤ rank y
  by (inl more) = let lt = greater (group y) (group x) more in let v = value_small x in omega arith
  by (inr same) =
      let e = ap (λ g. g * 2 ^ 128) (equal_to (group y) (group x) same.0) in
      let le = ge_from_not_lt y.value x.value same.1 in
      omega arith

pub ranks_up : (xs : List Prefix) → IsSortedBy (λ (x y : Prefix). is_lt (ordering_then (nat_cmp (group x) (group y)) (nat_cmp x.value y.value))) xs → IsNonDecreasingBy rank xs
ranks_up xs up = IsNonDecreasingBy-from_all_adjacent rank xs (λ k d less. ranked_by (get_or xs k d) (get_or xs (k + 1) d) (up k d (omega arith) less))

-- the front of a list and what is behind it
pub below_part : (xs : List Prefix) (i m : ℕ) → i ≤ length xs → AllFrom (λ y. ltb (group y) m ≡ true) xs 0 i → All (λ r. group_of r.family r.len < m) (take i xs)
below_part xs i m le each k d inside =
    let size : length (take i xs) ≤ i = omega (arith, length-take i xs) in
    let at : get_or (take i xs) k d ≡ get_or xs k d = get_or-take i xs k d (omega arith) in
    subst (λ (r : Prefix). group r < m) (sym at) (ltb-true (group (get_or xs k d)) m (each k d (omega arith) (omega arith)))

pub above_part : (xs : List Prefix) (i m : ℕ) → AllFrom (λ y. ltb (group y) m ≡ false) xs i (length xs) → All (λ r. m ≤ group_of r.family r.len) (drop i xs)
above_part xs i m each k d inside =
    let size : length (drop i xs) ≡ length xs - i = length-drop i xs in
    let at : get_or (drop i xs) k d ≡ get_or xs (i + k) d = get_or-drop i xs k d in
    subst (λ (r : Prefix). m ≤ group r) (sym at) (ltb-false (group (get_or xs (i + k) d)) m (each (i + k) d (omega arith) (omega arith)))

-- groups and what they stand for
one_group : (g f : Family) (k l : ℕ) → k ≤ bits_of g → l ≤ bits_of f → group_of g k ≡ group_of f l → (g ≡ f) × (k ≡ l)
one_group V4 V4 k l a b e = (refl, e)
one_group V4 V6 k l a b e = absurd (let le : k ≤ 32 = a in let is : k ≡ 256 + l = e in let h : ⊥ = omega arith in h)
one_group V6 V4 k l a b e = absurd (let le : l ≤ 32 = b in let is : 256 + k ≡ l = e in let h : ⊥ = omega arith in h)
one_group V6 V6 k l a b e = (refl, (let is : 256 + k ≡ 256 + l = e in omega arith))

module _ (f : Family) (l : ℕ) (short : l ≤ bits_of f) where
  abbrev test : Prefix → Bool
  test r = same_family r.family f && r.len == l

  passes : (r : Prefix) → group r ≡ group_of f l → test r ≡ true
  passes r same = let is = one_group r.family f r.len l r.short short same in and_from (same_family r.family f) (r.len == l) (families_meet r.family f is.0) (eq-eqb r.len l is.1)

  fails : (r : Prefix) → group r ≢ group_of f l → test r ≡ false
  fails r apart = false_from_ne_true (test r) (λ e.
      let parts = and_parts (same_family r.family f) (r.len == l) e in
      apart (ap (λ g. group_of g r.len) (one_family r.family f parts.0) ∙ ap (group_of f) (eqb-true r.len l parts.1)))

  step : (r : Prefix) (rest out : List Prefix) (b : Bool) → test r ≡ b → filter test (r ∷ rest) ≡ cond b (r ∷ filter test rest) (filter test rest)
  step r rest out b e = ap (λ c. cond c (r ∷ filter test rest) (filter test rest)) e

  all_pass : (xs : List Prefix) → All (λ r. group r ≡ group_of f l) xs → filter test xs ≡ xs
  all_pass [] all = refl
  all_pass (x ∷ xs) all = step x xs [] true (passes x (All-head (λ r. group r ≡ group_of f l) x xs all)) ∙ ap (λ ys. x ∷ ys) (all_pass xs (All-tail (λ r. group r ≡ group_of f l) x xs all))

  all_fail : (xs : List Prefix) → All (λ r. group r ≢ group_of f l) xs → filter test xs ≡ []
  all_fail [] all = refl
  all_fail (x ∷ xs) all = step x xs [] false (fails x (All-head (λ r. group r ≢ group_of f l) x xs all)) ∙ all_fail xs (All-tail (λ r. group r ≢ group_of f l) x xs all)

  module _ (list a from own c : List Prefix) (g : ℕ) (is : g ≡ group_of f l)
      (one : list ≡ a ++ from) (two : from ≡ own ++ c)
      (below : All (λ r. group_of r.family r.len < g) a) (here : All (λ r. g ≤ group_of r.family r.len) from)
      (upto : All (λ r. group_of r.family r.len < g + 1) own) (above : All (λ r. g + 1 ≤ group_of r.family r.len) c) where
    own_group : All (λ r. group r ≡ group_of f l) own
    own_group k d inside =
        let up = upto k d inside in
        let at : get_or from k d ≡ get_or own k d = ap (λ xs. get_or xs k d) two ∙ get_or_append_left own c d k inside in
        let down = subst (λ (r : Prefix). g ≤ group r) at (here k d (let size = ap length two ∙ length-append own c in omega arith)) in
        omega arith

    pub rows_are : own ≡ filter (λ r. same_family r.family f && r.len == l) list
    rows_are = sym (ap (filter test) (one ∙ ap (λ xs. a ++ xs) two) ∙ (filter-append test a (own ++ c) ∙ (
        ap (λ xs. xs ++ filter test (own ++ c)) (all_fail a (λ k d inside e. let lt = below k d inside in let h : ⊥ = omega arith in h))
        ∙ (filter-append test own c ∙ (ap (λ xs. filter test own ++ xs) (all_fail c (λ k d inside e. let le = above k d inside in let h : ⊥ = omega arith in h)) ∙ (append-nil (filter test own) ∙ all_pass own own_group))))))

    pub values_up : IsNonDecreasingBy rank own → IsNonDecreasingBy (λ r. r.value) own
    values_up up i j d le less = value_up (get_or own i d) (get_or own j d) (own_group i d (omega arith) ∙ sym (own_group j d less)) (up i j d le less)
