-- In a list that is met breadth first each set has the least `by`, and they stand in order.
use Rattle.std.proofs.Common.{◌≡◌, ◌+◌, ◌-◌, ◌++◌, ◌||◌, ◌≤◌, ◌<◌, ◌⊎◌, inl, inr, ℕ, Bool, true, false, not, List, [], ◌∷◌, Some, refl, sym, ap, ◌∙◌, subst, if◌then◌else◌, cond, bytes_eq, nat_le, suc, zero, length, drop, append_assoc, arith}
use Rattle.std.proofs.lemmas.List.{append-nil, length-append}
use Rattle.std.specs.List.{slice_get, position_or_len, AllByRecursion}
use Rattle.std.proofs.lemmas.Bool.{and_parts, and_from, or_cases, or_left, or_right, le-leb}
use Rattle.std.proofs.lemmas.List.Folds.{list_any-append}
use Rattle.ixp_num_tables.specs.Sums.{Pairs}
use Rattle.ixp_rpsl.specs.declared.objects.SetRow.{SetRow}
use Rattle.ixp_rpsl.specs.declared.objects.Reach.{Reach}
use Rattle.ixp_rpsl.specs.Expansion.{member_sets, is_among, has_name, names_set, is_named}
use Rattle.ixp_rpsl.specs.Breadth.{IsBreadthFirst, IsNearest, StandsBefore, adds, members_at, mentions, named_by, place_in}
use Rattle.ixp_rpsl.proofs.Chains.{never, name_itself, one_name}
use Rattle.ixp_rpsl.proofs.Growing.{adds_more}

all_and : {X : Type 0} (P : X → Type 0) (xs : List X) (x : X) → AllByRecursion P xs → P x → AllByRecursion P (xs ++ x ∷ [])
all_and P [] x all is = (is, tt)
all_and P (y ∷ ys) x all is = (all.0, all_and P ys x all.1 is)

all_as : {X : Type 0} (P Q : X → Type 0) (xs : List X) → ((x : X) → P x → Q x) → AllByRecursion P xs → AllByRecursion Q xs
all_as P Q [] f all = tt
all_as P Q (x ∷ xs) f all = (f x all.0, all_as P Q xs f all.1)

pairs_and : {X : Type 0} (R : X → X → Type 0) (xs : List X) (x : X) → Pairs R xs → AllByRecursion (λ y. R y x) xs → Pairs R (xs ++ x ∷ [])
pairs_and R [] x pairs all = (tt, tt)
pairs_and R (y ∷ ys) x pairs all = (all_and (R y) ys x pairs.0 all.0, pairs_and R ys x pairs.1 all.1)

-- the first place of a name among others
abbrev place_of : List ℕ → List (List ℕ) → ℕ
place_of n names = position_or_len (λ m. bytes_eq m n) names

found_in : (n : List ℕ) (pre more : List (List ℕ)) → is_among pre n ≡ true → place_of n (pre ++ more) < length pre
found_in n [] more e = never e
found_in n (p ∷ pre) more e = by (bytes_eq p n) e (found_in n pre more) where
  by : (b : Bool) → (b || is_among pre n) ≡ true → (is_among pre n ≡ true → place_of n (pre ++ more) < length pre) → cond (not b) (1 + place_of n (pre ++ more)) 0 < suc (length pre)
  by true is later = omega arith
  by false is later = let h = later is in omega arith

found_behind : (n : List ℕ) (pre more : List (List ℕ)) → is_among pre n ≡ false → place_of n (pre ++ n ∷ more) ≡ length pre
found_behind n [] more e = ap (λ b. cond (not b) (1 + place_of n more) 0) (name_itself n)
found_behind n (p ∷ pre) more e = by (bytes_eq p n) e (found_behind n pre more) where
  by : (b : Bool) → (b || is_among pre n) ≡ false → (is_among pre n ≡ false → place_of n (pre ++ n ∷ more) ≡ length pre) → cond (not b) (1 + place_of n (pre ++ n ∷ more)) 0 ≡ suc (length pre)
  by true is later = absurd (let h : ⊥ = cc in h)
  by false is later = let h = later is in omega arith

among_and : (pre : List (List ℕ)) (n m : List ℕ) → is_among (pre ++ n ∷ []) m ≡ true → (is_among pre m ≡ true) ⊎ (n ≡ m)
among_and pre n m e = by (or_cases (is_among pre m) (is_among (n ∷ []) m) (sym (list_any-append (λ x. bytes_eq x m) pre (n ∷ [])) ∙ e)) where
  last : (bytes_eq n m ≡ true) ⊎ (false ≡ true) → (is_among pre m ≡ true) ⊎ (n ≡ m)
  last (inl is) = inr (one_name n m is)
  last (inr is) = never is

  by : (is_among pre m ≡ true) ⊎ (is_among (n ∷ []) m ≡ true) → (is_among pre m ≡ true) ⊎ (n ≡ m)
  by (inl is) = inl is
  by (inr is) = last (or_cases (bytes_eq n m) false is)

among_before : (pre : List (List ℕ)) (n m : List ℕ) → is_among pre m ≡ true → is_among (pre ++ n ∷ []) m ≡ true
among_before pre n m is = list_any-append (λ x. bytes_eq x m) pre (n ∷ []) ∙ or_left (is_among pre m) (is_among (n ∷ []) m) is

among_last : (pre : List (List ℕ)) (n : List ℕ) → is_among (pre ++ n ∷ []) n ≡ true
among_last pre n = list_any-append (λ x. bytes_eq x n) pre (n ∷ []) ∙ or_right (is_among pre n) (is_among (n ∷ []) n) (or_left (bytes_eq n n) false (name_itself n))

named_and : (c : List Reach) (x : Reach) (m : List ℕ) → has_name c m ≡ true → has_name (c ++ x ∷ []) m ≡ true
named_and c x m is = list_any-append (λ r. bytes_eq r.set m) c (x ∷ []) ∙ or_left (has_name c m) (has_name (x ∷ []) m) is

named_last : (c : List Reach) (x : Reach) → has_name (c ++ x ∷ []) x.set ≡ true
named_last c x = list_any-append (λ r. bytes_eq r.set x.set) c (x ∷ []) ∙ or_right (has_name c x.set) (has_name (x ∷ []) x.set) (or_left (bytes_eq x.set x.set) false (name_itself x.set))

not_true : (b : Bool) → (b ≡ true → ⊥) → b ≡ false
not_true true f = absurd (f refl)
not_true false f = refl

clash : (b : Bool) → b ≡ true → b ≡ false → ⊥
clash b e f = let h : ⊥ = cc in h

less_or_same : (j p : ℕ) → j < p + 1 → (j < p) ⊎ (j ≡ p)
less_or_same zero zero less = inr refl
less_or_same zero (suc p) less = inl (omega arith)
less_or_same (suc j) zero less = absurd (let h : ⊥ = omega arith in h)
less_or_same (suc j) (suc p) less = by (less_or_same j p (omega arith)) where
  by : (j < p) ⊎ (j ≡ p) → (suc j < suc p) ⊎ (suc j ≡ suc p)
  by (inl is) = inl (omega arith)
  by (inr is) = inr (ap suc is)

get_behind : (done : List Reach) (r : Reach) (left : List Reach) → slice_get (done ++ r ∷ left) (length done) ≡ Some r
get_behind [] r left = refl
get_behind (d ∷ done) r left = get_behind done r left

module _ (rows : List SetRow) (c : List Reach) (first : Reach) where
  -- what is known of a list while the members of the set at a place are added, once those before have been
  record Known (place : ℕ) (pre : List (List ℕ)) (list : List Reach) : Type 0 where
    near : AllByRecursion (IsNearest rows c) list
    order : Pairs (StandsBefore rows c) list
    upto : AllByRecursion (λ r. (r.by < place) ⊎ ((r.by ≡ place) × (is_among pre r.set ≡ true))) list
    earlier : (k : ℕ) (m : List ℕ) → k < place → is_named rows c k m ≡ true → has_name (first ∷ list) m ≡ true
    here : (m : List ℕ) → is_among pre m ≡ true → has_name (first ∷ list) m ≡ true

  widen : (place : ℕ) (pre : List (List ℕ)) (m : List ℕ) (y : Reach) → (y.by < place) ⊎ ((y.by ≡ place) × (is_among pre y.set ≡ true)) → (y.by < place) ⊎ ((y.by ≡ place) × (is_among (pre ++ m ∷ []) y.set ≡ true))
  widen place pre m y (inl is) = inl is
  widen place pre m y (inr is) = inr (is.0, among_before pre m y.set is.1)

  module _ (place : ℕ) (some : 1 ≤ place) (r : Reach) (at : slice_get c (place - 1) ≡ Some r) where
    module _ (pre post : List (List ℕ)) (m : List ℕ) (list : List Reach) (split : member_sets rows r.set ≡ pre ++ m ∷ post) (k : Known place pre list) where
      kept : has_name (first ∷ list) m ≡ true → Known place (pre ++ m ∷ []) list
      kept there = record {
        near = k.near;
        order = k.order;
        upto = all_as (λ y. (y.by < place) ⊎ ((y.by ≡ place) × (is_among pre y.set ≡ true))) (λ y. (y.by < place) ⊎ ((y.by ≡ place) × (is_among (pre ++ m ∷ []) y.set ≡ true))) list (widen place pre m) k.upto;
        earlier = k.earlier;
        here = λ n is. by n (among_and pre m n is);
      }
        where
          by : (n : List ℕ) → (is_among pre n ≡ true) ⊎ (m ≡ n) → has_name (first ∷ list) n ≡ true
          by n (inl is) = k.here n is
          by n (inr e) = subst (λ q. has_name (first ∷ list) q ≡ true) e there

      module _ (new : has_name (first ∷ list) m ≡ false) where
        fresh : is_among pre m ≡ false
        fresh = not_true (is_among pre m) (λ is. clash (has_name (first ∷ list) m) (k.here m is) new)

        there : is_among (member_sets rows r.set) m ≡ true
        there = subst (λ l. is_among l m ≡ true) (sym split)
            (list_any-append (λ x. bytes_eq x m) pre (m ∷ post) ∙ or_right (is_among pre m) (is_among (m ∷ post) m) (or_left (bytes_eq m m) (is_among post m) (name_itself m)))

        nearest : IsNearest rows c (record { set = m; by = place })
        nearest = (
          and_from (nat_le 1 place) (names_set rows m (slice_get c (place - 1))) (le-leb 1 place some) (subst (λ o. names_set rows m o ≡ true) (sym at) there),
          λ j less. not_true (is_named rows c j m) (λ is. clash (has_name (first ∷ list) m) (k.earlier j m less is) new),
        )

        before : (y : Reach) → (y.by < place) ⊎ ((y.by ≡ place) × (is_among pre y.set ≡ true)) → StandsBefore rows c y (record { set = m; by = place })
        before y (inl is) = inl is
        before y (inr is) =
            let here : slice_get c (y.by - 1) ≡ Some r = ap (λ n. slice_get c (n - 1)) is.0 ∙ at in
            let one : place_in rows c y ≡ place_of y.set (pre ++ m ∷ post) = ap (λ o. place_of y.set (members_at rows o)) here ∙ ap (place_of y.set) split in
            let other : place_in rows c (record { set = m; by = place }) ≡ place_of m (pre ++ m ∷ post) = ap (λ o. place_of m (members_at rows o)) at ∙ ap (place_of m) split in
            let low = found_in y.set pre (m ∷ post) is.1 in
            let high = found_behind m pre post fresh in
            inr (is.0, omega arith)

        added : Known place (pre ++ m ∷ []) (list ++ record { set = m; by = place } ∷ [])
        added =
            let x : Reach = record { set = m; by = place } in
            record {
              near = all_and (IsNearest rows c) list x k.near nearest;
              order = pairs_and (StandsBefore rows c) list x k.order (all_as (λ y. (y.by < place) ⊎ ((y.by ≡ place) × (is_among pre y.set ≡ true))) (λ y. StandsBefore rows c y x) list before k.upto);
              upto = all_and (λ y. (y.by < place) ⊎ ((y.by ≡ place) × (is_among (pre ++ m ∷ []) y.set ≡ true))) list x
                  (all_as (λ y. (y.by < place) ⊎ ((y.by ≡ place) × (is_among pre y.set ≡ true))) (λ y. (y.by < place) ⊎ ((y.by ≡ place) × (is_among (pre ++ m ∷ []) y.set ≡ true))) list (widen place pre m) k.upto)
                  (inr (refl, among_last pre m));
              earlier = λ j n less is. named_and (first ∷ list) x n (k.earlier j n less is);
              here = λ n is. by n (among_and pre m n is);
            }
          where
            by : (n : List ℕ) → (is_among pre n ≡ true) ⊎ (m ≡ n) → has_name ((first ∷ list) ++ record { set = m; by = place } ∷ []) n ≡ true
            by n (inl is) = named_and (first ∷ list) (record { set = m; by = place }) n (k.here n is)
            by n (inr e) = subst (λ q. has_name ((first ∷ list) ++ record { set = m; by = place } ∷ []) q ≡ true) e (named_last (first ∷ list) (record { set = m; by = place }))

      step : (next : List Reach) × ((if has_name (first ∷ list) m then first ∷ list else (first ∷ list) ++ record { set = m; by = place } ∷ []) ≡ first ∷ next) × Known place (pre ++ m ∷ []) next
      step = by (has_name (first ∷ list) m) refl where
        by : (b : Bool) → has_name (first ∷ list) m ≡ b → (next : List Reach) × ((if b then first ∷ list else (first ∷ list) ++ record { set = m; by = place } ∷ []) ≡ first ∷ next) × Known place (pre ++ m ∷ []) next
        by true e = (list, refl, kept e)
        by false e = (list ++ record { set = m; by = place } ∷ [], refl, added e)

    steps : (pre post : List (List ℕ)) (list : List Reach) → member_sets rows r.set ≡ pre ++ post → Known place pre list
        → (next : List Reach) × (adds (first ∷ list) (named_by place post) ≡ first ∷ next) × Known place (member_sets rows r.set) next
    steps pre [] list split k = (list, refl, subst (λ p. Known place p list) (sym (split ∙ append-nil pre)) k)
    steps pre (m ∷ post) list split k =
        let one = step pre post m list split k in
        let rest = steps (pre ++ m ∷ []) post one.0 (split ∙ sym (append_assoc pre (m ∷ []) post)) one.2 in
        (rest.0, ap (λ l. adds l (named_by place post)) one.1 ∙ rest.1, rest.2)

    at_next : (list : List Reach) → Known place (member_sets rows r.set) list → Known (place + 1) [] list
    at_next list k = record {
      near = k.near;
      order = k.order;
      upto = all_as (λ y. (y.by < place) ⊎ ((y.by ≡ place) × (is_among (member_sets rows r.set) y.set ≡ true))) (λ y. (y.by < place + 1) ⊎ ((y.by ≡ place + 1) × (is_among [] y.set ≡ true))) list below k.upto;
      earlier = λ j m less is. by j m is (less_or_same j place less);
      here = λ m is. never is;
    }
      where
        below : (y : Reach) → (y.by < place) ⊎ ((y.by ≡ place) × (is_among (member_sets rows r.set) y.set ≡ true)) → (y.by < place + 1) ⊎ ((y.by ≡ place + 1) × (is_among [] y.set ≡ true))
        below y (inl is) = inl (omega arith)
        below y (inr is) = let same = is.0 in inl (omega arith)

        by : (j : ℕ) (m : List ℕ) → is_named rows c j m ≡ true → (j < place) ⊎ (j ≡ place) → has_name (first ∷ list) m ≡ true
        by j m is (inl less) = k.earlier j m less is
        by j m is (inr same) =
            k.here m (subst (λ o. names_set rows m o ≡ true) (ap (λ n. slice_get c (n - 1)) same ∙ at) (and_parts (nat_le 1 j) (names_set rows m (slice_get c (j - 1))) is).1)

  outer : (left done : List Reach) (place : ℕ) (list : List Reach) → c ≡ done ++ left → place ≡ length done + 1 → Known place [] list
      → (next : List Reach) × (adds (first ∷ list) (mentions rows place left) ≡ first ∷ next) × AllByRecursion (IsNearest rows c) next × Pairs (StandsBefore rows c) next
  outer [] done place list split count k = (list, refl, k.near, k.order)
  outer (r ∷ left) done place list split count k =
      let back : place - 1 ≡ length done = omega arith in
      let at : slice_get c (place - 1) ≡ Some r = ap (slice_get c) back ∙ (ap (λ l. slice_get l (length done)) split ∙ get_behind done r left) in
      let some : 1 ≤ place = omega arith in
      let one = steps place some r at [] (member_sets rows r.set) list refl k in
      let rest = outer left (done ++ r ∷ []) (place + 1) one.0 (split ∙ sym (append_assoc done (r ∷ []) left)) (omega (arith, length-append done (r ∷ []))) (at_next place some r at one.0 one.2) in
      (rest.0, adds_more (first ∷ list) (named_by place (member_sets rows r.set)) (mentions rows (place + 1) left) ∙ (ap (λ l. adds l (mentions rows (place + 1) left)) one.1 ∙ rest.1), rest.2, rest.3)

  none_named : (k : ℕ) (m : List ℕ) → k < 1 → is_named rows c k m ≡ true → has_name (first ∷ []) m ≡ true
  none_named zero m less is = never is
  none_named (suc k) m less is = absurd (let h : ⊥ = omega arith in h)

  at_first : Known 1 [] []
  at_first = record { near = tt; order = tt; upto = tt; earlier = none_named; here = λ m is. never is }

pub nearest_in_order : (rows : List SetRow) (root : List ℕ) (c : List Reach) → IsBreadthFirst rows root c → AllByRecursion (IsNearest rows c) (drop 1 c) × Pairs (StandsBefore rows c) (drop 1 c)
nearest_in_order rows root c e =
    let first : Reach = record { set = root; by = 0 } in
    let all = outer rows c first c [] 1 [] refl refl (at_first rows c first) in
    let is : c ≡ first ∷ all.0 = e ∙ all.1 in
    (subst (λ l. AllByRecursion (IsNearest rows c) (drop 1 l)) (sym is) all.2, subst (λ l. Pairs (StandsBefore rows c) (drop 1 l)) (sym is) all.3)
