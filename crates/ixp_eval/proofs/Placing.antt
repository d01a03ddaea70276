-- The items that an index finds.
use Rattle.std.proofs.Common.{◌≡◌, ◌≤◌, ◌+◌, ◌⊎◌, inl, inr, ℕ, zero, suc, Bool, true, false, nat_le, List, [], ◌∷◌, ◌++◌, take, drop, reverse, Option, Some, None, if◌then◌else◌, refl, sym, ap, ◌∙◌, subst, arith, append_assoc, le-leb}
use Rattle.std.specs.List.{slice_get}
use Rattle.std.proofs.lemmas.Bool.{cases_Bool, cond-true, cond-false, leb-true}
use Rattle.std.proofs.lemmas.List.{reverse-append}
use Rattle.ixp_num_tables.specs.Tables.{if_there}
use Rattle.ixp_lang.specs.Trees.{ItemTree, router_id_item, table_item, define_item, function_item, filter_item, device_item, pipe_item, bgp_item}
use Rattle.ixp_eval.specs.declared.search.Sort.{Sort}
use Rattle.ixp_eval.specs.declared.search.Sort.TheVariants.{Define, Filter, Function}
use Rattle.ixp_eval.specs.Indexed.{is_of}
use Rattle.ixp_eval.specs.Places.{finds, is_at, last_place, places_of, put_place}

-- what a place more adds
pub place_put : (n : List ℕ) (at : ℕ) (i : ItemTree) (is : List ItemTree) → places_of n at (i ∷ is) ≡ put_place n at i ++ places_of n (at + 1) is
place_put n at i is = by_case (finds n i) where
  by_case : (b : Bool) → (if b then at ∷ places_of n (at + 1) is else places_of n (at + 1) is) ≡ (if b then at ∷ [] else []) ++ places_of n (at + 1) is
  by_case true = refl
  by_case false = refl

pub place_more : (n : List ℕ) (at : ℕ) (i : ItemTree) (is all : List ItemTree) (old new : List ℕ) → old ++ places_of n at (i ∷ is) ≡ places_of n 0 all → new ≡ old ++ put_place n at i
    → new ++ places_of n (at + 1) is ≡ places_of n 0 all
place_more n at i is all old new before added =
    ap (λ x. x ++ places_of n (at + 1) is) added ∙ append_assoc old (put_place n at i) (places_of n (at + 1) is) ∙ ap (λ x. old ++ x) (sym (place_put n at i is)) ∙ before

pub one_more : (n : ℕ) → suc n ≡ n + 1
one_more n = omega arith

nothing_left : {X : Type 0} (i : ℕ) (x : X) (rest : List X) → ◌≡◌ {A = List X} (x ∷ rest) (drop i []) → {A : Type 0} → A
nothing_left zero x rest h = absurd cc
nothing_left (suc i) x rest h = absurd cc

pub item_at : {X : Type 0} (xs : List X) (at : ℕ) (x : X) (rest : List X) → x ∷ rest ≡ drop at xs → slice_get xs at ≡ Some x
item_at [] at x rest h = nothing_left at x rest h
item_at (y ∷ ys) zero x rest h = let same : x ≡ y = cc in ap Some (sym same)
item_at (y ∷ ys) (suc at) x rest h = item_at ys at x rest h

pub next_drop : {X : Type 0} (xs : List X) (at : ℕ) (x : X) (rest : List X) → x ∷ rest ≡ drop at xs → rest ≡ drop (suc at) xs
next_drop [] at x rest h = nothing_left at x rest h
next_drop (y ∷ ys) zero x rest h = cc
next_drop (y ∷ ys) (suc at) x rest h = next_drop ys at x rest h

next_take : {X : Type 0} (xs : List X) (at : ℕ) (x : X) (rest : List X) → x ∷ rest ≡ drop at xs → take (suc at) xs ≡ take at xs ++ x ∷ []
next_take [] at x rest h = nothing_left at x rest h
next_take (y ∷ ys) zero x rest h = cc
next_take (y ∷ ys) (suc at) x rest h = ap (λ l. y ∷ l) (next_take ys at x rest h)

all_taken : {X : Type 0} (xs : List X) (at : ℕ) → [] ≡ drop at xs → take at xs ≡ xs
all_taken [] zero h = refl
all_taken [] (suc at) h = refl
all_taken (y ∷ ys) zero h = absurd cc
all_taken (y ∷ ys) (suc at) h = ap (λ l. y ∷ l) (all_taken ys at h)

-- the last of these places that passes
abbrev pub chosen : (ℕ → Bool) → Option ℕ → List ℕ → Option ℕ
chosen test found [] = found
chosen test found (p ∷ ps) = chosen test (if test p then Some p else found) ps

-- the last item that passes, of those before a place
abbrev last_to : ℕ → (ItemTree → Bool) → ℕ → Option ℕ → List ItemTree → Option ℕ
last_to count test at found [] = found
last_to count test at found (i ∷ is) = last_to count test (at + 1) (if (if nat_le count at then false else test i) then Some at else found) is

module _ (n : List ℕ) (test : ItemTree → Bool) (tested : (i : ItemTree) → test i ≡ true → finds n i ≡ true) (count : ℕ) (all : List ItemTree) where
  not_tested : (i : ItemTree) → finds n i ≡ false → (b : Bool) → test i ≡ b → b ≡ false
  not_tested i e true h = absurd (let bad : false ≡ true = sym e ∙ tested i h in cc)
  not_tested i e false h = refl

  at_here : (at : ℕ) (i : ItemTree) (is : List ItemTree) → i ∷ is ≡ drop at all → is_at count test all at ≡ (if nat_le count at then false else test i)
  at_here at i is h = ap (λ o. if nat_le count at then false else if_there o false test) (item_at all at i is h)

  not_here : (b : Bool) (i : ItemTree) → test i ≡ false → (if b then false else test i) ≡ false
  not_here true i e = refl
  not_here false i e = e

  one_by_one : (at : ℕ) (found : Option ℕ) (is : List ItemTree) → is ≡ drop at all → chosen (is_at count test all) found (places_of n at is) ≡ last_to count test at found is
  one_by_one at found [] h = refl
  one_by_one at found (i ∷ is) h =
      by_case (cases_Bool (finds n i)) (λ f. one_by_one (at + 1) f is (subst (λ k. is ≡ drop k all) (one_more at) (next_drop all at i is h))) where
        by_case : (finds n i ≡ true) ⊎ (finds n i ≡ false) → ((f : Option ℕ) → chosen (is_at count test all) f (places_of n (at + 1) is) ≡ last_to count test (at + 1) f is)
            → chosen (is_at count test all) found (places_of n at (i ∷ is)) ≡ last_to count test at found (i ∷ is)
        by_case (inl e) more =
            ap (chosen (is_at count test all) found) (cond-true (finds n i) _ _ e)
            ∙ ap (λ b. chosen (is_at count test all) (if b then Some at else found) (places_of n (at + 1) is)) (at_here at i is h)
            ∙ more (if (if nat_le count at then false else test i) then Some at else found)
        by_case (inr e) more =
            ap (chosen (is_at count test all) found) (cond-false (finds n i) _ _ e) ∙ more found
            ∙ ap (λ b. last_to count test (at + 1) (if b then Some at else found) is) (sym (not_here (nat_le count at) i (not_tested i e (test i) refl)))

past : (count : ℕ) (test : ItemTree → Bool) (at : ℕ) (found : Option ℕ) (is : List ItemTree) → count ≤ at → last_to count test at found is ≡ found
past count test at found [] le = refl
past count test at found (i ∷ is) le =
    ap (λ b. last_to count test (at + 1) (if (if b then false else test i) then Some at else found) is) (le-leb count at le)
    ∙ past count test (at + 1) found is (omega (arith, le))

is_later : (at c : ℕ) → nat_le (at + suc c) at ≡ true → {A : Type 0} → A
is_later at c e = let le = leb-true (at + suc c) at e in absurd (omega (arith, le))

pub up_to : (test : ItemTree → Bool) (at c : ℕ) (found : Option ℕ) (is : List ItemTree) → last_to (at + c) test at found is ≡ last_place test at found (take c is)
up_to test at zero found [] = refl
up_to test at (suc c) found [] = refl
up_to test at zero found (i ∷ is) = past (at + zero) test at found (i ∷ is) (omega arith)
up_to test at (suc c) found (i ∷ is) = by_case (cases_Bool (nat_le (at + suc c) at)) (up_to test (at + 1) c (if test i then Some at else found) is) where
  next : (at + 1) + c ≡ at + suc c
  next = omega arith

  by_case : (nat_le (at + suc c) at ≡ true) ⊎ (nat_le (at + suc c) at ≡ false)
      → last_to ((at + 1) + c) test (at + 1) (if test i then Some at else found) is ≡ last_place test (at + 1) (if test i then Some at else found) (take c is)
      → last_to (at + suc c) test at found (i ∷ is) ≡ last_place test at found (i ∷ take c is)
  by_case (inl e) more = is_later at c e
  by_case (inr e) more =
      ap (λ b. last_to (at + suc c) test (at + 1) (if (if b then false else test i) then Some at else found) is) e
      ∙ ap (λ k. last_to k test (at + 1) (if test i then Some at else found) is) (sym next)
      ∙ more

none_before : (n : ℕ) → 0 + n ≡ n
none_before n = omega arith

-- the last item before a place that passes is found among those of its name
pub last_chosen : (n : List ℕ) (test : ItemTree → Bool) → ((i : ItemTree) → test i ≡ true → finds n i ≡ true) → (count : ℕ) (all : List ItemTree)
    → chosen (is_at count test all) None (places_of n 0 all) ≡ last_place test 0 None (take count all)
last_chosen n test tested count all = one_by_one n test tested count all 0 None all refl ∙ ap (λ k. last_to k test 0 None all) (sym (none_before count)) ∙ up_to test 0 count None all

pub chosen_end : (test : ℕ → Bool) (found : Option ℕ) (left all : List ℕ) → left ≡ [] → chosen test found left ≡ chosen test None all → found ≡ chosen test None all
chosen_end test found left all none h = ap (chosen test found) (sym none) ∙ h

-- an item of a sort is found by its name
pub of_finds : (sort : Sort) (n : List ℕ) (i : ItemTree) → is_of sort n i ≡ true → finds n i ≡ true
of_finds Define n (define_item m e) h = h
of_finds Define n (router_id_item a) h = absurd cc
of_finds Define n (table_item k m) h = absurd cc
of_finds Define n (function_item m ps ss) h = absurd cc
of_finds Define n (filter_item m ss) h = absurd cc
of_finds Define n (device_item m) h = absurd cc
of_finds Define n (pipe_item p) h = absurd cc
of_finds Define n (bgp_item b) h = absurd cc
of_finds Filter n (define_item m e) h = absurd cc
of_finds Filter n (router_id_item a) h = absurd cc
of_finds Filter n (table_item k m) h = absurd cc
of_finds Filter n (function_item m ps ss) h = absurd cc
of_finds Filter n (filter_item m ss) h = h
of_finds Filter n (device_item m) h = absurd cc
of_finds Filter n (pipe_item p) h = absurd cc
of_finds Filter n (bgp_item b) h = absurd cc
of_finds Function n (define_item m e) h = absurd cc
of_finds Function n (router_id_item a) h = absurd cc
of_finds Function n (table_item k m) h = absurd cc
of_finds Function n (function_item m ps ss) h = h
of_finds Function n (filter_item m ss) h = absurd cc
of_finds Function n (device_item m) h = absurd cc
of_finds Function n (pipe_item p) h = absurd cc
of_finds Function n (bgp_item b) h = absurd cc

-- What is looked for among items, the last one first, is the same without the first of them where that doesn't pass.
module _ {X : Type 0} (look : List ItemTree → X) (test : ItemTree → Bool) (skips : (i : ItemTree) (is : List ItemTree) → test i ≡ false → look (i ∷ is) ≡ look is) (all : List ItemTree) where
  -- what is found among these items, the last one first, is at that place
  abbrev pub FoundAt : Option ℕ → List ItemTree → Type 0
  FoundAt None is = look is ≡ look []
  FoundAt (Some p) is = (i : ItemTree) × (slice_get all p ≡ Some i) × (test i ≡ true) × (look is ≡ look (i ∷ reverse (take p all)))

  same_look : (found : Option ℕ) (i : ItemTree) (is : List ItemTree) → test i ≡ false → FoundAt found is → FoundAt found (i ∷ is)
  same_look None i is e h = skips i is e ∙ h
  same_look (Some p) i is e (j, at, passes, h) = (j, at, passes, skips i is e ∙ h)

  found_by : (at : ℕ) (found : Option ℕ) (done left : List ItemTree) → done ≡ reverse (take at all) → left ≡ drop at all → FoundAt found done → FoundAt (last_place test at found left) (reverse all)
  found_by at found done [] front rest h = subst (FoundAt found) (front ∙ ap reverse (all_taken all at rest)) h
  found_by at found done (i ∷ is) front rest h =
      by_case (cases_Bool (test i)) (λ f g. found_by (at + 1) f (i ∷ done) is more (subst (λ k. is ≡ drop k all) (one_more at) (next_drop all at i is rest)) g) where
        more : i ∷ done ≡ reverse (take (at + 1) all)
        more = ap (λ t. i ∷ t) front ∙ sym (ap reverse (ap (λ k. take k all) (sym (one_more at)) ∙ next_take all at i is rest) ∙ reverse-append (take at all) (i ∷ []))

        by_case : (test i ≡ true) ⊎ (test i ≡ false) → ((f : Option ℕ) → FoundAt f (i ∷ done) → FoundAt (last_place test (at + 1) f is) (reverse all)) → FoundAt (last_place test at found (i ∷ is)) (reverse all)
        by_case (inl e) on =
            subst (λ b. FoundAt (last_place test (at + 1) (if b then Some at else found) is) (reverse all)) (sym e)
            (on (Some at) (i, item_at all at i is rest, e, ap (λ t. look (i ∷ t)) front))
        by_case (inr e) on =
            subst (λ b. FoundAt (last_place test (at + 1) (if b then Some at else found) is) (reverse all)) (sym e) (on found (same_look found i done e h))

  pub found_at : FoundAt (last_place test 0 None all) (reverse all)
  found_at = found_by 0 None [] all refl refl refl
