-- A list whose keys don't fall and that has the items of a list that ascends is that list.
use Rattle.std.proofs.Common.{◌≡◌, ◌≢◌, ◌⊎◌, inl, inr, ℕ, suc, ◌+◌, Bool, true, false, cond, List, [], ◌∷◌, map, get_or, refl, sym, ap, ◌∙◌, subst, arith}
use Rattle.std.specs.declared.cmp.Ordering.{Ordering}
use Rattle.std.specs.declared.cmp.Ordering.TheVariants.{Less, Equal, Greater}
use Rattle.std.specs.Ordering.{is_lt}
use Rattle.std.specs.List.{AllByRecursion, IsDistinct, filter}
use denote.Ref.{Bor}
use denote.Param.Members.{Mut}
use Rattle.std.specs.Fn.{Called}
use Rattle.std.proofs.lemmas.Fn.{always_returns_same}
use Rattle.std.specs.List.Sorted.{IsPermutation, IsSortedBy, IsSortedByClosure}
use Rattle.std.proofs.lemmas.List.Elements.{All-from_recursion, recursion_from_All}
use Rattle.std.proofs.lemmas.List.Sorted.{All-permutation, IsPermutation-sym}
use Rattle.std.proofs.lemmas.Map.Keys.{IsDistinct-IsPermutation, IsDistinct-head, IsDistinct-tail, IsDistinct-cons}
use Rattle.std.proofs.lemmas.List.MinMax.{ranks_by}
use Rattle.std.proofs.lemmas.Cmp.{nat_list_cmp_total}
use Rattle.ixp_num_tables.specs.Tables.{order, same, Ascends}
use Rattle.ixp_num_tables.specs.Sums.{Pairs}
use Rattle.ixp_num_tables.proofs.Counts.{same_is, same_itself}
use Rattle.ixp_num_tables.proofs.Orders.{all_weaker, order_same, order_equal, turned, chained}
use Rattle.ixp_store_words.specs.Sorting.{Has, Same, Rises, distinct_by}

module _ {X : Type 0} where
  -- what holds of all items holds of one
  pub all_has : (P : X → Type 0) (xs : List X) → AllByRecursion P xs → (x : X) → Has xs x → P x
  all_has P [] all x has = absurd has
  all_has P (y ∷ ys) all x (inl e) = subst P (sym e) all.0
  all_has P (y ∷ ys) all x (inr more) = all_has P ys all.1 x more

  pub has_all : (P : X → Type 0) (xs : List X) → ((x : X) → Has xs x → P x) → AllByRecursion P xs
  has_all P [] each = tt
  has_all P (y ∷ ys) each = (each y (inl refl), has_all P ys (λ x has. each x (inr has)))

  pub moved_has : (xs ys : List X) → IsPermutation xs ys → (x : X) → Has ys x → Has xs x
  moved_has xs ys p = all_has (Has xs) ys (recursion_from_All (Has xs) ys (All-permutation (Has xs) xs ys p (All-from_recursion (Has xs) xs (has_all (Has xs) xs (λ x has. has)))))

  pub same_moved : (xs ys : List X) → IsPermutation xs ys → Same xs ys
  same_moved xs ys p = record { to = moved_has ys xs (IsPermutation-sym xs ys p); back = moved_has xs ys p }

  pub same_back : (xs ys : List X) → Same xs ys → Same ys xs
  same_back xs ys s = record { to = s.back; back = s.to }

  pub same_over : (xs ys zs : List X) → Same xs ys → Same ys zs → Same xs zs
  same_over xs ys zs s t = record { to = λ x has. t.to x (s.to x has); back = λ x has. s.back x (t.back x has) }

  -- items that pass a test
  pub filter_has : (p : X → Bool) (xs : List X) (x : X) → Has (filter p xs) x → Has xs x × (p x ≡ true)
  filter_has p [] x has = absurd has
  filter_has p (y ∷ ys) x has = by_test (p y) refl (filter_has p ys x) has
    where
      by_test : (b : Bool) → p y ≡ b → (Has (filter p ys) x → Has ys x × (p x ≡ true)) → Has (cond b (y ∷ filter p ys) (filter p ys)) x → Has (y ∷ ys) x × (p x ≡ true)
      by_test true e more (inl is) = (inl is, ap p is ∙ e)
      by_test true e more (inr has) = (inr (more has).0, (more has).1)
      by_test false e more has = (inr (more has).0, (more has).1)

  pub has_filter : (p : X → Bool) (xs : List X) (x : X) → Has xs x → p x ≡ true → Has (filter p xs) x
  has_filter p [] x has e = absurd has
  has_filter p (y ∷ ys) x has e = by_test (p y) refl (λ h. has_filter p ys x h e) has
    where
      by_test : (b : Bool) → p y ≡ b → (Has ys x → Has (filter p ys) x) → Has (y ∷ ys) x → Has (cond b (y ∷ filter p ys) (filter p ys)) x
      by_test true is more (inl at) = inl at
      by_test true is more (inr has) = inr (more has)
      by_test false is more (inl at) = absurd (let bad : false ≡ true = sym is ∙ (ap p (sym at) ∙ e) in cc)
      by_test false is more (inr has) = more has

  pub same_filter : (p : X → Bool) (xs ys : List X) → Same xs ys → Same (filter p xs) (filter p ys)
  same_filter p xs ys s = record {
    to = λ x has. let both = filter_has p xs x has in has_filter p ys x (s.to x both.0) both.1;
    back = λ x has. let both = filter_has p ys x has in has_filter p xs x (s.back x both.0) both.1;
  }

  module _ (key : X → List ℕ) where
    abbrev Below : X → X → Type 0
    Below x y = order (key x) (key y) ≡ Less

    never_below : (a : List ℕ) → order a a ≡ Less → ⊥
    never_below a e = let bad : ◌≡◌ {A = Ordering} Equal Less = sym (order_same a) ∙ e in cc

    -- two lists that ascend and have the same items
    pub ascending_same : (xs ys : List X) → Ascends key xs → Ascends key ys → Same xs ys → xs ≡ ys
    ascending_same [] [] up rise s = refl
    ascending_same [] (y ∷ ys) up rise s = absurd (s.back y (inl refl))
    ascending_same (x ∷ xs) [] up rise s = absurd (s.to x (inl refl))
    ascending_same (x ∷ xs) (y ∷ ys) up rise s =
        let first : x ≡ y = by_place (s.to x (inl refl)) (s.back y (inl refl)) in
        ap (λ z. z ∷ xs) first ∙ ap (λ l. y ∷ l) (ascending_same xs ys up.1 rise.1 (record {
          to = λ z has. past y ys z (above x y xs z first up.0 has) (s.to z (inr has));
          back = λ z has. past x xs z (above y x ys z (sym first) rise.0 has) (s.back z (inr has));
        }))
      where
        by_place : (x ≡ y) ⊎ Has ys x → (y ≡ x) ⊎ Has xs y → x ≡ y
        by_place (inl e) place = e
        by_place (inr more) (inl e) = sym e
        by_place (inr more) (inr others) = absurd (never_below (key x) (chained (key x) (key y) (key x) (all_has (Below x) xs up.0 y others) (all_has (Below y) ys rise.0 x more)))

        above : (a b : X) (rest : List X) (z : X) → a ≡ b → AllByRecursion (Below a) rest → Has rest z → Below b z
        above a b rest z e all has = subst (λ c. Below c z) e (all_has (Below a) rest all z has)

        past : (b : X) (bs : List X) (z : X) → Below b z → Has (b ∷ bs) z → Has bs z
        past b bs z less (inl e) = absurd (never_below (key b) (subst (Below b) e less))
        past b bs z less (inr has) = has

    -- of items with keys of their own none falls
    apart_below : (x y : X) → same (key x) (key y) ≡ false → is_lt (order (key y) (key x)) ≡ false → Below x y
    apart_below x y apart not_less = by_order (order (key x) (key y)) refl
      where
        by_order : (o : Ordering) → order (key x) (key y) ≡ o → Below x y
        by_order Less e = e
        by_order Equal e = absurd (let bad : true ≡ false = sym (same_itself (key x)) ∙ (ap (same (key x)) (order_equal _ _ e) ∙ apart) in cc)
        by_order Greater e = absurd (let bad : true ≡ false = sym (ap is_lt (turned (key x) (key y) Greater e)) ∙ not_less in cc)

    apart_up : (xs : List X) → IsDistinct (distinct_by key) xs → Rises key xs → Ascends key xs
    apart_up [] apart rises = tt
    apart_up (x ∷ xs) apart rises = (each xs (IsDistinct-head (distinct_by key) x xs apart) rises.0, apart_up xs (IsDistinct-tail (distinct_by key) x xs apart) rises.1)
      where
        each : (ys : List X) → AllByRecursion (λ y. same (key x) (key y) ≡ false) ys → AllByRecursion (λ y. is_lt (order (key y) (key x)) ≡ false) ys → AllByRecursion (Below x) ys
        each [] a b = tt
        each (y ∷ ys) a b = (apart_below x y a.0 b.0, each ys a.1 b.1)

    pub flips : (x y : X) → same (key x) (key y) ≡ same (key y) (key x)
    flips x y = by_both (same (key x) (key y)) (same (key y) (key x)) refl refl
      where
        turn : (a b : List ℕ) → same a b ≡ true → same b a ≡ true
        turn a b e = subst (λ c. same c a ≡ true) (same_is a b e) (same_itself a)

        by_both : (p q : Bool) → same (key x) (key y) ≡ p → same (key y) (key x) ≡ q → same (key x) (key y) ≡ same (key y) (key x)
        by_both true q e f = e ∙ sym (turn (key x) (key y) e)
        by_both false true e f = turn (key y) (key x) f ∙ sym f
        by_both false false e f = e ∙ sym f

    -- of a list that ascends items with one key are the same
    one_item : (ys : List X) → Ascends key ys → (x y : X) → Has ys x → Has ys y → key x ≡ key y → x ≡ y
    one_item [] up x y at there e = absurd at
    one_item (z ∷ zs) up x y (inl is) (inl was) e = is ∙ sym was
    one_item (z ∷ zs) up x y (inl is) (inr more) e = absurd (never_below (key x) (subst (λ k. order k (key x) ≡ Less) (ap key (sym is)) (subst (λ k. order (key z) k ≡ Less) (sym e) (all_has (Below z) zs up.0 y more))))
    one_item (z ∷ zs) up x y (inr more) (inl was) e = absurd (never_below (key y) (subst (λ k. order k (key y) ≡ Less) (ap key (sym was)) (subst (λ k. order (key z) k ≡ Less) e (all_has (Below z) zs up.0 x more))))
    one_item (z ∷ zs) up x y (inr more) (inr others) e = one_item zs up.1 x y more others e

    -- different items of such a list have different keys
    pub keys_apart : (ys : List X) → Ascends key ys → (xs : List X) → Pairs (λ a b. a ≢ b) xs → ((x : X) → Has xs x → Has ys x) → IsDistinct (distinct_by key) xs
    unfolding IsDistinct
    keys_apart ys up [] apart there = tt
    keys_apart ys up (x ∷ xs) apart there =
        IsDistinct-cons (distinct_by key) x xs (has_all (λ y. same (key x) (key y) ≡ false) xs (λ y has. by_test y has (same (key x) (key y)) refl)) (keys_apart ys up xs apart.1 (λ y has. there y (inr has)))
      where
        by_test : (y : X) → Has xs y → (b : Bool) → same (key x) (key y) ≡ b → same (key x) (key y) ≡ false
        by_test y has false e = e
        by_test y has true e = absurd (all_has (λ z. x ≢ z) xs apart.0 y has (one_item ys up x y (there x (inl refl)) (there y (inr has)) (same_is (key x) (key y) e)))

    -- items that were put in order
    pub one_order : (xs zs ys : List X) → IsPermutation xs zs → Rises key zs → Pairs (λ a b. a ≢ b) xs → Ascends key ys → Same xs ys → zs ≡ ys
    one_order xs zs ys moved rises apart up s =
        ascending_same zs ys (apart_up zs (IsDistinct-IsPermutation (distinct_by key) flips xs zs moved (keys_apart ys up xs apart s.to)) rises) up
        (same_over zs xs ys (same_back xs zs (same_moved xs zs moved)) s)

    abbrev lower : X → X → Bool
    lower x y = is_lt (order (key x) (key y))

    sorted_tail : (x : X) (xs : List X) → IsSortedBy lower (x ∷ xs) → IsSortedBy lower xs
    sorted_tail x xs up k d low within =
        let one : suc k + 1 ≡ suc (k + 1) = omega arith in
        subst (λ m. lower (get_or (x ∷ xs) m d) (get_or xs k d) ≡ false) one (up (suc k) d (omega arith) (omega (arith, within)))

    all_above : (x : X) (xs : List X) → IsSortedBy lower (x ∷ xs) → AllByRecursion (λ y. lower y x ≡ false) xs
    all_above x [] up = tt
    all_above x (y ∷ ys) up =
        let near : lower y x ≡ false = up 0 x (omega arith) (omega arith) in
        (near, all_weaker (λ z. lower z y ≡ false) (λ z. lower z x ≡ false) (λ z e. (ranks_by nat_list_cmp_total key).chain z y x e near) ys (all_above y ys (sorted_tail x (y ∷ ys) up)))

    rises_from : (xs : List X) → IsSortedBy lower xs → Rises key xs
    rises_from [] up = tt
    rises_from (x ∷ xs) up = (all_above x xs up, rises_from xs (sorted_tail x xs up))

    -- what a sort ensures whose closure compares the keys
    pub rises_by_closure : {F : Type 0} {g : Mut F (Bor X × (Bor X × Unit {0})) Ordering} {f : F} (xs : List X) → IsSortedByClosure g f xs
        → ((a : Bor X × (Bor X × Unit {0})) (r : Ordering) (f' : F) → Called g f a r f' → (r ≡ order (key a.0.now) (key a.1.0.now)) × (f' ≡ f)) → Rises key xs
    rises_by_closure {g = g} {f = f} xs up h = rises_from xs (up lower (ranks_by nat_list_cmp_total key) (always_returns_same g (λ a r. is_lt r ≡ lower a.0.now a.1.0.now) f (λ a r f' k. (ap is_lt (h a r f' k).0, (h a r f' k).1))))

-- items that are made of others
module _ {X Y : Type 0} (f : X → Y) where
  pub has_map : (xs : List X) (x : X) → Has xs x → Has (map f xs) (f x)
  has_map [] x has = absurd has
  has_map (z ∷ zs) x (inl e) = inl (ap f e)
  has_map (z ∷ zs) x (inr has) = inr (has_map zs x has)

  same_map_to : (xs ys : List X) → ((x : X) → Has xs x → Has ys x) → (y : Y) → Has (map f xs) y → Has (map f ys) y
  same_map_to xs ys to = all_has (Has (map f ys)) (map f xs) (each xs to)
    where
      each : (zs : List X) → ((x : X) → Has zs x → Has ys x) → AllByRecursion (Has (map f ys)) (map f zs)
      each [] to = tt
      each (z ∷ zs) to = (has_map ys z (to z (inl refl)), each zs (λ x has. to x (inr has)))

  pub same_map : (xs ys : List X) → Same xs ys → Same (map f xs) (map f ys)
  same_map xs ys s = record { to = same_map_to xs ys s.to; back = same_map_to ys xs s.back }

module _ {X : Type 0} where
  pub pairs_filter : (P : X → X → Type 0) (p : X → Bool) (xs : List X) → Pairs P xs → Pairs P (filter p xs)
  pairs_filter P p [] apart = tt
  pairs_filter P p (x ∷ xs) apart = by_test (p x) (pairs_filter P p xs apart.1)
    where
      kept : (ys : List X) → AllByRecursion (P x) ys → AllByRecursion (P x) (filter p ys)
      kept ys all = has_all (P x) (filter p ys) (λ y has. all_has (P x) ys all y (filter_has p ys y has).0)

      by_test : (b : Bool) → Pairs P (filter p xs) → Pairs P (cond b (x ∷ filter p xs) (filter p xs))
      by_test true more = (kept xs apart.0, more)
      by_test false more = more

  -- a list with one item, and none
  pub one_item_alone : (x : X) (xs : List X) → Pairs (λ a b. a ≢ b) xs → Same xs (x ∷ []) → xs ≡ x ∷ []
  one_item_alone x [] apart s = absurd (s.back x (inl refl))
  one_item_alone x (y ∷ []) apart s = ap (λ z. z ∷ []) (is_one y (s.to y (inl refl)))
    where
      is_one : (y : X) → Has (x ∷ []) y → y ≡ x
      is_one y (inl e) = e
      is_one y (inr none) = absurd none
  one_item_alone x (y ∷ z ∷ zs) apart s = absurd (apart.0.0 (is_one y (s.to y (inl refl)) ∙ sym (is_one z (s.to z (inr (inl refl))))))
    where
      is_one : (y : X) → Has (x ∷ []) y → y ≡ x
      is_one y (inl e) = e
      is_one y (inr none) = absurd none

  pub no_item : (xs : List X) → Same xs [] → xs ≡ []
  no_item [] s = refl
  no_item (x ∷ xs) s = absurd (s.to x (inl refl))
