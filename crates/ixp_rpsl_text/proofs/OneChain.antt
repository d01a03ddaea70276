-- A set has one expansion.
use Rattle.std.proofs.Common.{◌≡◌, ◌-◌, ◌++◌, ◌&&◌, ◌||◌, ◌≤◌, ◌<◌, ◌==◌, ◌⊎◌, inl, inr, ℕ, Bool, true, false, not, List, [], ◌∷◌, Ok, refl, sym, ap, ◌∙◌, subst, nat_le, nat_lt, suc, zero, length, append_assoc, bytes_eq, IsTrue, arith}
use Rattle.std.specs.List.{slice_get, position_or_len, AllByRecursion}
use Rattle.std.proofs.lemmas.Bool.{and_parts, or_cases, or_left, or_right, ltb-true, ltb-false, eqb-true}
use Rattle.std.proofs.lemmas.List.{append-nil}
use Rattle.std.proofs.lemmas.List.Folds.{list_any-append}
use Rattle.ixp_num_tables.specs.Sums.{Pairs}
use Rattle.ixp_rpsl.specs.declared.objects.SetRow.{SetRow}
use Rattle.ixp_rpsl.specs.declared.objects.Reach.{Reach}
use Rattle.ixp_rpsl.specs.Expansion.{has_name, names_set, is_named, follows, starts, is_closed, is_chain}
use Rattle.ixp_rpsl.specs.Breadth.{ExpandAnswer, IsNearest, StandsBefore, members_at, place_in}
use Rattle.ixp_rpsl.proofs.Chains.{chain_is_least, name_itself, never, one_name}

clash : (b : Bool) → b ≡ true → b ≡ false → ⊥
clash b e f = let h : ⊥ = cc in h

not_less : (a b : ℕ) → (a < b → ⊥) → b ≤ a
not_less a b f = by (nat_lt a b) refl where
  by : (x : Bool) → nat_lt a b ≡ x → b ≤ a
  by true e = absurd (f (ltb-true a b e))
  by false e = ltb-false a b e

is_false : (b : Bool) → not b ≡ true → b ≡ false
is_false true e = never e
is_false false e = refl

reach_same : (x y : Reach) → x.set ≡ y.set → x.by ≡ y.by → x ≡ y
reach_same x y s b = ap (λ n. record { set = n; by = x.by }) s ∙ ap (λ k. record { set = y.set; by = k }) b

-- one of the list with this name, of which this holds as of all of them
found : (P : Reach → Type 0) (n : List ℕ) (l : List Reach) → AllByRecursion P l → has_name l n ≡ true → (r : Reach) × P r × (r.set ≡ n)
found P n [] all e = never e
found P n (r ∷ l) all e = by (or_cases (bytes_eq r.set n) (has_name l n) e) (found P n l all.1) where
  by : (bytes_eq r.set n ≡ true) ⊎ (has_name l n ≡ true) → (has_name l n ≡ true → (s : Reach) × P s × (s.set ≡ n)) → (s : Reach) × P s × (s.set ≡ n)
  by (inl is) more = (r, all.0, one_name r.set n is)
  by (inr is) more = more is

both : (P Q : Reach → Type 0) (l : List Reach) → AllByRecursion P l → AllByRecursion Q l → AllByRecursion (λ r. P r × Q r) l
both P Q [] a b = tt
both P Q (r ∷ l) a b = ((a.0, b.0), both P Q l a.1 b.1)

-- names before and behind
behind : (l p q : List Reach) (n : List ℕ) → l ≡ p ++ q → has_name l n ≡ true → has_name p n ≡ false → has_name q n ≡ true
behind l p q n e is new = by (or_cases (has_name p n) (has_name q n) (sym (list_any-append (λ r. bytes_eq r.set n) p q) ∙ (ap (λ m. has_name m n) (sym e) ∙ is))) where
  by : (has_name p n ≡ true) ⊎ (has_name q n ≡ true) → has_name q n ≡ true
  by (inl here) = absurd (clash (has_name p n) here new)
  by (inr there) = there

there : (l p q : List Reach) (x : Reach) → l ≡ p ++ x ∷ q → has_name l x.set ≡ true
there l p q x e =
    ap (λ m. has_name m x.set) e
    ∙ (list_any-append (λ r. bytes_eq r.set x.set) p (x ∷ q) ∙ or_right (has_name p x.set) (has_name (x ∷ q) x.set) (or_left (bytes_eq x.set x.set) (has_name q x.set) (name_itself x.set)))

-- look-ups in a longer list
get_on : (p q : List Reach) (k : ℕ) → k < length p → slice_get (p ++ q) k ≡ slice_get p k
get_on [] q k h = absurd (let f : ⊥ = omega arith in f)
get_on (x ∷ p) q zero h = refl
get_on (x ∷ p) q (suc k) h = get_on p q k (omega arith)

module _ (rows : List SetRow) where
  within : (p : List Reach) (k : ℕ) (m : List ℕ) → names_set rows m (slice_get p k) ≡ true → k < length p
  within [] k m e = never e
  within (x ∷ p) zero m e = omega arith
  within (x ∷ p) (suc k) m e = let h = within p k m e in omega arith

  named_within : (p : List Reach) (k : ℕ) (m : List ℕ) → is_named rows p k m ≡ true → k - 1 < length p
  named_within p k m e = within p (k - 1) m (and_parts (nat_le 1 k) (names_set rows m (slice_get p (k - 1))) e).1

  named_same : (p q : List Reach) (k : ℕ) (m : List ℕ) → k - 1 < length p → is_named rows (p ++ q) k m ≡ is_named rows p k m
  named_same p q k m h = ap (λ o. nat_le 1 k && names_set rows m o) (get_on p q (k - 1) h)

  place_same : (l p q : List Reach) (r : Reach) → l ≡ p ++ q → r.by - 1 < length p → place_in rows l r ≡ place_in rows p r
  place_same l p q r e h =
      ap (λ m. place_in rows m r) e ∙ ap (λ o. position_or_len (λ m. bytes_eq m r.set) (members_at rows o)) (get_on p q (r.by - 1) h)

  module _ (c d p cs ds : List Reach) (at_c : c ≡ p ++ cs) (at_d : d ≡ p ++ ds) where
    -- the one of the other list that has the name of this one is this one
    same_one : (x y : Reach) → is_named rows p x.by x.set ≡ true → IsNearest rows c x → IsNearest rows d y → y.set ≡ x.set → y ≡ x
    same_one x y named near near' set =
        let low = named_within p x.by x.set named in
        let in_d : is_named rows d x.by x.set ≡ true = ap (λ l. is_named rows l x.by x.set) at_d ∙ (named_same p ds x.by x.set low ∙ named) in
        let other : is_named rows d x.by y.set ≡ true = ap (λ n. is_named rows d x.by n) set ∙ in_d in
        let upto : y.by ≤ x.by = not_less x.by y.by (λ less. clash (is_named rows d x.by y.set) other (near'.1 x.by less)) in
        let short : y.by - 1 < length p = omega arith in
        let in_p : is_named rows p y.by x.set ≡ true =
        sym (named_same p ds y.by x.set short) ∙ (ap (λ l. is_named rows l y.by x.set) (sym at_d) ∙ (ap (λ n. is_named rows d y.by n) (sym set) ∙ near'.0)) in
        let in_c : is_named rows c y.by x.set ≡ true = ap (λ l. is_named rows l y.by x.set) at_c ∙ (named_same p cs y.by x.set short ∙ in_p) in
        let from : x.by ≤ y.by = not_less y.by x.by (λ less. clash (is_named rows c y.by x.set) in_c (near.1 y.by less)) in
        reach_same y x set (omega arith)

  never_both : (c d : List Reach) (x y : Reach) → StandsBefore rows d y x → StandsBefore rows c x y → place_in rows c x ≡ place_in rows d x → place_in rows c y ≡ place_in rows d y → ⊥
  never_both c d x y (inl a) (inl b) e f = let h : ⊥ = omega arith in h
  never_both c d x y (inl a) (inr b) e f = let same = b.0 in let h : ⊥ = omega arith in h
  never_both c d x y (inr a) (inl b) e f = let same = a.0 in let h : ⊥ = omega arith in h
  never_both c d x y (inr a) (inr b) e f = let one = a.1 in let other = b.1 in let h : ⊥ = omega arith in h

  module _ (root : List ℕ) (c d : List Reach) (chain_c : is_chain rows root c ≡ true) (chain_d : is_chain rows root d ≡ true) where
    to_d : (n : List ℕ) → has_name c n ≡ true → has_name d n ≡ true
    to_d n is = (chain_is_least rows root d chain_d n).1 ((chain_is_least rows root c chain_c n).0 is)

    to_c : (n : List ℕ) → has_name d n ≡ true → has_name c n ≡ true
    to_c n is = (chain_is_least rows root c chain_c n).1 ((chain_is_least rows root d chain_d n).0 is)

    module _ (p cs ds : List Reach) (x y : Reach) (at_c : c ≡ p ++ x ∷ cs) (at_d : d ≡ p ++ y ∷ ds) (named_x : is_named rows p x.by x.set ≡ true) (named_y : is_named rows p y.by y.set ≡ true)
        (new_x : has_name p x.set ≡ false) (new_y : has_name p y.set ≡ false) (near_x : IsNearest rows c x) (near_y : IsNearest rows d y)
        (near_c : AllByRecursion (IsNearest rows c) cs) (near_d : AllByRecursion (IsNearest rows d) ds)
        (order_c : AllByRecursion (StandsBefore rows c x) cs) (order_d : AllByRecursion (StandsBefore rows d y) ds) where
      next : x ≡ y
      next = by (or_cases (bytes_eq y.set x.set) (has_name ds x.set) (behind d p (y ∷ ds) x.set at_d (to_d x.set (there c p cs x at_c)) new_x))
          (or_cases (bytes_eq x.set y.set) (has_name cs y.set) (behind c p (x ∷ cs) y.set at_c (to_c y.set (there d p ds y at_d)) new_y)) where
            by : (bytes_eq y.set x.set ≡ true) ⊎ (has_name ds x.set ≡ true) → (bytes_eq x.set y.set ≡ true) ⊎ (has_name cs y.set ≡ true) → x ≡ y
            by (inl is) other = sym (same_one c d p (x ∷ cs) (y ∷ ds) at_c at_d x y named_x near_x near_y (one_name y.set x.set is))
            by (inr is) (inl is') = same_one d c p (y ∷ ds) (x ∷ cs) at_d at_c y x named_y near_y near_x (one_name x.set y.set is')
            by (inr is) (inr is') =
                let one = found (λ r. IsNearest rows d r × StandsBefore rows d y r) x.set ds (both (IsNearest rows d) (StandsBefore rows d y) ds near_d order_d) is in
                let two = found (λ r. IsNearest rows c r × StandsBefore rows c x r) y.set cs (both (IsNearest rows c) (StandsBefore rows c x) cs near_c order_c) is' in
                let same_x : one.0 ≡ x = same_one c d p (x ∷ cs) (y ∷ ds) at_c at_d x one.0 named_x near_x one.1.0 one.2 in
                let same_y : two.0 ≡ y = same_one d c p (y ∷ ds) (x ∷ cs) at_d at_c y two.0 named_y near_y two.1.0 two.2 in
                let low_x = named_within p x.by x.set named_x in
                let low_y = named_within p y.by y.set named_y in
                absurd (never_both c d x y (subst (StandsBefore rows d y) same_x one.1.1) (subst (StandsBefore rows c x) same_y two.1.1)
                (place_same c p (x ∷ cs) x at_c low_x ∙ sym (place_same d p (y ∷ ds) x at_d low_x))
                (place_same c p (x ∷ cs) y at_c low_y ∙ sym (place_same d p (y ∷ ds) y at_d low_y)))

    -- what follows says of the first one
    parts : (p l : List Reach) (r : Reach) → follows rows p (r ∷ l) ≡ true → (is_named rows p r.by r.set ≡ true) × (has_name p r.set ≡ false) × (follows rows (p ++ r ∷ []) l ≡ true)
    parts p l r e =
        let outer = and_parts (is_named rows p r.by r.set && not (has_name p r.set)) (follows rows (p ++ r ∷ []) l) e in
        let inner = and_parts (is_named rows p r.by r.set) (not (has_name p r.set)) outer.0 in
        (inner.0, is_false (has_name p r.set) inner.1, outer.1)

    rest : (p cs ds : List Reach) → c ≡ p ++ cs → d ≡ p ++ ds → follows rows p cs ≡ true → follows rows p ds ≡ true → AllByRecursion (IsNearest rows c) cs → AllByRecursion (IsNearest rows d) ds
        → Pairs (StandsBefore rows c) cs → Pairs (StandsBefore rows d) ds → cs ≡ ds
    rest p [] [] at_c at_d fc fd nc nd oc od = refl
    rest p [] (y ∷ ds) at_c at_d fc fd nc nd oc od =
        absurd (clash (has_name p y.set) (ap (λ l. has_name l y.set) (sym (at_c ∙ append-nil p)) ∙ to_c y.set (there d p ds y at_d)) (parts p ds y fd).1)
    rest p (x ∷ cs) [] at_c at_d fc fd nc nd oc od =
        absurd (clash (has_name p x.set) (ap (λ l. has_name l x.set) (sym (at_d ∙ append-nil p)) ∙ to_d x.set (there c p cs x at_c)) (parts p cs x fc).1)
    rest p (x ∷ cs) (y ∷ ds) at_c at_d fc fd nc nd oc od =
        let fx = parts p cs x fc in
        let fy = parts p ds y fd in
        let one : x ≡ y = next p cs ds x y at_c at_d fx.0 fy.0 fx.1 fy.1 nc.0 nd.0 nc.1 nd.1 oc.0 od.0 in
        let more : cs ≡ ds = rest (p ++ x ∷ []) cs ds (at_c ∙ sym (append_assoc p (x ∷ []) cs)) (at_d ∙ (ap (λ z. p ++ z ∷ ds) (sym one) ∙ sym (append_assoc p (x ∷ []) ds)))
        fx.2 (subst (λ z. follows rows (p ++ z ∷ []) ds ≡ true) (sym one) fy.2) nc.1 nd.1 oc.1 od.1 in
        ap (λ z. z ∷ cs) one ∙ ap (λ zs. y ∷ zs) more

  first : (root : List ℕ) (r : Reach) (l : List Reach) → starts rows root (r ∷ l) ≡ true → (r.set ≡ root) × (r.by ≡ 0) × (follows rows (r ∷ []) l ≡ true)
  first root r l e =
      let outer = and_parts (bytes_eq r.set root && r.by == 0) (follows rows (r ∷ []) l) e in
      let inner = and_parts (bytes_eq r.set root) (r.by == 0) outer.0 in
      (one_name r.set root inner.0, eqb-true r.by 0 inner.1, outer.1)

  pub one_chain : (root : List ℕ) (c d : List Reach) → ExpandAnswer rows root (Ok c) → ExpandAnswer rows root (Ok d) → c ≡ d
  one_chain root [] d a b = never a.1
  one_chain root (x ∷ cs) [] a b = never b.1
  one_chain root (x ∷ cs) (y ∷ ds) (object, chain_c, near_c, order_c) (object', chain_d, near_d, order_d) =
      let fx = first root x cs (and_parts (starts rows root (x ∷ cs)) (is_closed rows (x ∷ cs)) chain_c).0 in
      let fy = first root y ds (and_parts (starts rows root (y ∷ ds)) (is_closed rows (y ∷ ds)) chain_d).0 in
      let one : x ≡ y = reach_same x y (fx.0 ∙ sym fy.0) (fx.1 ∙ sym fy.1) in
      ap (λ z. z ∷ cs) one
      ∙ ap (λ zs. y ∷ zs) (rest root (x ∷ cs) (y ∷ ds) chain_c chain_d (x ∷ []) cs ds refl (ap (λ z. z ∷ ds) (sym one)) fx.2 (subst (λ z. follows rows (z ∷ []) ds ≡ true) (sym one) fy.2) near_c near_d order_c order_d)
