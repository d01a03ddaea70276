-- No line is named exactly where all rows keep the sentence.
use Rattle.std.proofs.Common.{◌≡◌, ℕ, suc, ◌+◌, ◌<◌, ◌≤◌, Bool, true, false, not, ◌||◌, ◌==◌, nat_le, List, [], ◌∷◌, ◌++◌, length, map, Option, Some, None, refl, sym, ap, ◌∙◌, subst, arith, if◌then◌else◌}
use Rattle.std.specs.Bool.{⊤}
use Rattle.std.specs.List.{AllByRecursion, list_any}
use Rattle.std.proofs.lemmas.Bool.{or_parts, leb-true, leb-false, le-leb}
use Rattle.ixp_num_tables.specs.Tables.{same}
use Rattle.ixp_num_tables.specs.Sums.{total, count, one_if, Often, Pairs}
use Rattle.ixp_num_tables.proofs.AllItems.{all_left, all_right, all_joined, any_none}
use Rattle.ixp_num_tables.proofs.Counts.{same_is, same_itself}
use Rattle.ixp_registry.specs.declared.rules.MemberRule.{MemberRule}
use Rattle.ixp_registry.specs.Places.{first, first_with_earlier_from, first_beside_from, first_beyond_from, first_beyond, first_over, first_heavy_from, earlier_of, earliest, times}
use Rattle.ixp_registry.specs.Registries.{first_rule}
use Rattle.ixp_registry.specs.Rules.{place_after}
use Rattle.ixp_registry.proofs.Placing.{first_here, first_on}

-- each rule stands at the place after the one before
abbrev pub Follow : Option MemberRule → List MemberRule → Type 0
Follow last [] = ⊤
Follow last (x ∷ xs) = ((x.place == place_after last x.member) ≡ true) × Follow (Some x) xs

-- the rules, and the sentences of a rule
pub rules_kept : (n : ℕ) (places : List (Option ℕ)) → first_rule n places ≡ None → AllByRecursion (λ p. p ≡ None) places
rules_kept n [] e = tt
rules_kept n (None ∷ places) e = (refl, rules_kept (suc n) places e)
rules_kept n (Some line ∷ places) e = absurd (let bad : ⊥ = cc in bad)

pub kept_rules : (n : ℕ) (places : List (Option ℕ)) → AllByRecursion (λ p. p ≡ None) places → first_rule n places ≡ None
kept_rules n [] all = refl
kept_rules n (None ∷ places) all = kept_rules (suc n) places all.1
kept_rules n (Some line ∷ places) all = absurd (let a = all.0 in let bad : ⊥ = cc in bad)

pub sentences_kept : (places : List (Option ℕ)) → earliest places ≡ None → AllByRecursion (λ p. p ≡ None) places
sentences_kept [] e = tt
sentences_kept (p ∷ places) e = by_place p (earliest places) e (sentences_kept places) where
  by_place : (a b : Option ℕ) → earlier_of a b ≡ None → (b ≡ None → AllByRecursion (λ p. p ≡ None) places) → (a ≡ None) × AllByRecursion (λ p. p ≡ None) places
  by_place None b e rest = (refl, rest e)
  by_place (Some a) None e rest = absurd (let bad : ⊥ = cc in bad)
  by_place (Some a) (Some b) e rest = absurd (let bad : ⊥ = cc in bad)

pub kept_sentences : (places : List (Option ℕ)) → AllByRecursion (λ p. p ≡ None) places → earliest places ≡ None
kept_sentences [] all = refl
kept_sentences (None ∷ places) all = kept_sentences places all.1
kept_sentences (Some a ∷ places) all = absurd (let e = all.0 in let bad : ⊥ = cc in bad)

-- rows alone
pub first_all : {R : Type 0} (at : ℕ) (test : R → Bool) (rs : List R) → first at test rs ≡ None → AllByRecursion (λ r. test r ≡ false) rs
first_all at test [] e = tt
first_all at test (r ∷ rs) e = by_test (first_all (at + 1) test rs) (test r) refl where
  by_test : (first (at + 1) test rs ≡ None → AllByRecursion (λ r. test r ≡ false) rs) → (b : Bool) → test r ≡ b → (test r ≡ false) × AllByRecursion (λ r. test r ≡ false) rs
  by_test again true h = absurd (let s : ◌≡◌ {A = Option ℕ} (Some at) None = sym (first_here at test r rs h) ∙ e in let bad : ⊥ = cc in bad)
  by_test again false h = (h, again (sym (first_on at test r rs h) ∙ e))

pub all_first : {R : Type 0} (at : ℕ) (test : R → Bool) (rs : List R) → AllByRecursion (λ r. test r ≡ false) rs → first at test rs ≡ None
all_first at test [] all = refl
all_first at test (r ∷ rs) all = first_on at test r rs all.0 ∙ all_first (at + 1) test rs all.1

-- keys and how often they stand
pub times_count : {R : Type 0} (q : List ℕ) (f : R → List ℕ) (rs : List R) → times q (map f rs) ≡ count (λ r. same q (f r)) rs
times_count q f [] = refl
times_count q f (r ∷ rs) = by_test (same q (f r)) (times_count q f rs) where
  by_test : (b : Bool) → times q (map f rs) ≡ count (λ r. same q (f r)) rs → (if b then suc (times q (map f rs)) else times q (map f rs)) ≡ one_if b + count (λ r. same q (f r)) rs
  by_test true e = omega (arith, e)
  by_test false e = omega (arith, e)

pub times_both : (q : List ℕ) (xs ys : List (List ℕ)) → times q (xs ++ ys) ≡ times q xs + times q ys
times_both q [] ys = omega arith
times_both q (x ∷ xs) ys = by_test (times_both q xs ys) (same q x) where
  by_test : times q (xs ++ ys) ≡ times q xs + times q ys → (b : Bool) → (if b then suc (times q (xs ++ ys)) else times q (xs ++ ys)) ≡ (if b then suc (times q xs) else times q xs) + times q ys
  by_test again true = omega (arith, again)
  by_test again false = again

pub few : (most : ℕ) (earlier : List (List ℕ)) (at : ℕ) (ks : List (List ℕ)) → first_beyond_from earlier most at ks ≡ None → (q : List ℕ) → times q earlier ≤ most → times q earlier + times q ks ≤ most
few most earlier at [] e q le = omega (arith, le)
few most earlier at (k ∷ ks) e q le = by_test (few most (k ∷ earlier) (at + 1) ks) (nat_le most (times k earlier)) refl e where
  back : (b : Bool) → (if b then suc (times q earlier) else times q earlier) + times q ks ≤ most → times q earlier + (if b then suc (times q ks) else times q ks) ≤ most
  back true le = omega (arith, le)
  back false le = le

  added : times k earlier < most → (b : Bool) → same q k ≡ b → (if b then suc (times q earlier) else times q earlier) ≤ most
  added room true h = let now : times q earlier < most = subst (λ (x : List ℕ). times x earlier < most) (sym (same_is q k h)) room in omega (arith, now)
  added room false h = le

  by_test : (first_beyond_from (k ∷ earlier) most (at + 1) ks ≡ None → (q : List ℕ) → times q (k ∷ earlier) ≤ most → times q (k ∷ earlier) + times q ks ≤ most)
      → (b : Bool) → nat_le most (times k earlier) ≡ b → (if b then Some at else first_beyond_from (k ∷ earlier) most (at + 1) ks) ≡ None → times q earlier + times q (k ∷ ks) ≤ most
  by_test again true h e = absurd (let bad : ⊥ = cc in bad)
  by_test again false h e = back (same q k) (again e q (added (leb-false most (times k earlier) h) (same q k) refl))

pub seldom : (most : ℕ) (earlier : List (List ℕ)) (at : ℕ) (ks : List (List ℕ)) → ((q : List ℕ) → times q earlier + times q ks ≤ most) → first_beyond_from earlier most at ks ≡ None
seldom most earlier at [] all = refl
seldom most earlier at (k ∷ ks) all = by_test (seldom most (k ∷ earlier) (at + 1) ks (λ q. shifted q (same q k) (all q))) (nat_le most (times k earlier)) refl where
  one : times k (k ∷ ks) ≡ suc (times k ks)
  one = ap (λ b. if b then suc (times k ks) else times k ks) (same_itself k)

  shifted : (q : List ℕ) (b : Bool) → times q earlier + (if b then suc (times q ks) else times q ks) ≤ most → (if b then suc (times q earlier) else times q earlier) + times q ks ≤ most
  shifted q true le = omega (arith, le)
  shifted q false le = le

  by_test : first_beyond_from (k ∷ earlier) most (at + 1) ks ≡ None → (b : Bool) → nat_le most (times k earlier) ≡ b → (if b then Some at else first_beyond_from (k ∷ earlier) most (at + 1) ks) ≡ None
  by_test again true h =
      let some : most ≤ times k earlier = leb-true most (times k earlier) h in
      let bound : times k earlier + suc (times k ks) ≤ most = subst (λ (n : ℕ). times k earlier + n ≤ most) one (all k) in
      absurd (omega (arith, some, bound))
  by_test again false h = again

pub beyond_often : {R : Type 0} (most at : ℕ) (f : R → List ℕ) (rs : List R) → first_beyond most at (map f rs) ≡ None → Often most f rs
beyond_often most at f rs e q =
    let h = few most [] at (map f rs) e q (omega arith) in
    let t = times_count q f rs in
    omega (arith, h, t)

pub often_beyond : {R : Type 0} (most at : ℕ) (f : R → List ℕ) (rs : List R) → Often most f rs → first_beyond most at (map f rs) ≡ None
often_beyond most at f rs often =
    seldom most [] at (map f rs) (λ q. let o = often q in let t = times_count q f rs in omega (arith, o, t))

-- counts and sums
pub over_within : {R : Type 0} (most at : ℕ) (rs : List R) → first_over most at rs ≡ None → length rs ≤ most
over_within most at rs e = by_test (nat_le (length rs) most) refl e where
  by_test : (b : Bool) → nat_le (length rs) most ≡ b → (if b then None else Some (at + most)) ≡ None → length rs ≤ most
  by_test true h e = leb-true (length rs) most h
  by_test false h e = absurd (let bad : ⊥ = cc in bad)

pub within_over : {R : Type 0} (most at : ℕ) (rs : List R) → length rs ≤ most → first_over most at rs ≡ None
within_over most at rs le = ap (λ b. if b then None else Some (at + most)) (le-leb (length rs) most le)

pub heavy_within : {R : Type 0} (sum : ℕ) (w : R → ℕ) (most at : ℕ) (rs : List R) → sum ≤ most → first_heavy_from sum w most at rs ≡ None → sum + total w rs ≤ most
heavy_within sum w most at [] le e = omega (arith, le)
heavy_within sum w most at (r ∷ rs) le e = by_test (heavy_within (sum + w r) w most (at + 1) rs) (nat_le (sum + w r) most) refl e where
  by_test : (sum + w r ≤ most → first_heavy_from (sum + w r) w most (at + 1) rs ≡ None → sum + w r + total w rs ≤ most) → (b : Bool) → nat_le (sum + w r) most ≡ b
      → (if b then first_heavy_from (sum + w r) w most (at + 1) rs else Some at) ≡ None → sum + (w r + total w rs) ≤ most
  by_test again true h e = let x = again (leb-true (sum + w r) most h) e in omega (arith, x)
  by_test again false h e = absurd (let bad : ⊥ = cc in bad)

pub within_heavy : {R : Type 0} (sum : ℕ) (w : R → ℕ) (most at : ℕ) (rs : List R) → sum + total w rs ≤ most → first_heavy_from sum w most at rs ≡ None
within_heavy sum w most at [] le = refl
within_heavy sum w most at (r ∷ rs) le =
    ap (λ b. if b then first_heavy_from (sum + w r) w most (at + 1) rs else Some at) (le-leb (sum + w r) most (omega (arith, le)))
    ∙ within_heavy (sum + w r) w most (at + 1) rs (omega (arith, le))

-- a row and those before it
pub earlier_pairs : {R : Type 0} (B : R → R → Bool) (C : R → Bool) (earlier : List R) (at : ℕ) (rs : List R) → first_with_earlier_from earlier at (λ es v. list_any (λ u. B u v) es || C v) rs ≡ None
    → AllByRecursion (λ v. AllByRecursion (λ u. B u v ≡ false) earlier) rs × Pairs (λ u v. B u v ≡ false) rs × AllByRecursion (λ v. C v ≡ false) rs
earlier_pairs B C earlier at [] e = (tt, tt, tt)
earlier_pairs {R = R} B C earlier at (v ∷ rs) e = by_test (list_any (λ u. B u v) earlier || C v) refl e (earlier_pairs B C (earlier ++ v ∷ []) (at + 1) rs) where
  Rest : Type 0
  Rest = AllByRecursion (λ w. AllByRecursion (λ u. B u w ≡ false) (earlier ++ v ∷ [])) rs × Pairs (λ u v. B u v ≡ false) rs × AllByRecursion (λ v. C v ≡ false) rs

  by_test : (b : Bool) → (list_any (λ u. B u v) earlier || C v) ≡ b → (if b then Some at else first_with_earlier_from (earlier ++ v ∷ []) (at + 1) (λ es v. list_any (λ u. B u v) es || C v) rs) ≡ None
      → (first_with_earlier_from (earlier ++ v ∷ []) (at + 1) (λ es v. list_any (λ u. B u v) es || C v) rs ≡ None → AllByRecursion (λ w. AllByRecursion (λ u. B u w ≡ false) (earlier ++ v ∷ [])) rs × Pairs (λ u v. B u v ≡ false) rs × AllByRecursion (λ v. C v ≡ false) rs)
      → AllByRecursion (λ v. AllByRecursion (λ u. B u v ≡ false) earlier) (v ∷ rs) × Pairs (λ u v. B u v ≡ false) (v ∷ rs) × AllByRecursion (λ v. C v ≡ false) (v ∷ rs)
  by_test true h e again = absurd (let bad : ⊥ = cc in bad)
  by_test false h e again =
      let both = or_parts (list_any (λ u. B u v) earlier) (C v) h in
      let rest = again e in
      ((none_here earlier both.0, fronts rs rest.0), (lasts rs rest.0, rest.1), (both.1, rest.2))
    where
      none_here : (es : List R) → list_any (λ u. B u v) es ≡ false → AllByRecursion (λ u. B u v ≡ false) es
      none_here [] e = tt
      none_here (x ∷ es) e = let p = or_parts (B x v) (list_any (λ u. B u v) es) e in (p.0, none_here es p.1)

      fronts : (xs : List R) → AllByRecursion (λ w. AllByRecursion (λ u. B u w ≡ false) (earlier ++ v ∷ [])) xs → AllByRecursion (λ w. AllByRecursion (λ u. B u w ≡ false) earlier) xs
      fronts [] all = tt
      fronts (x ∷ xs) all = (all_left (λ u. B u x ≡ false) earlier (v ∷ []) all.0, fronts xs all.1)

      lasts : (xs : List R) → AllByRecursion (λ w. AllByRecursion (λ u. B u w ≡ false) (earlier ++ v ∷ [])) xs → AllByRecursion (λ w. B v w ≡ false) xs
      lasts [] all = tt
      lasts (x ∷ xs) all = ((all_right (λ u. B u x ≡ false) earlier (v ∷ []) all.0).0, lasts xs all.1)

-- a row and the one before it
pub beside_follow : (last : Option MemberRule) (at : ℕ) (rs : List MemberRule) → first_beside_from last at (λ last r. not (r.place == place_after last r.member)) rs ≡ None → Follow last rs
beside_follow last at [] e = tt
beside_follow last at (r ∷ rs) e = by_test (r.place == place_after last r.member) refl e (beside_follow (Some r) (at + 1) rs) where
  by_test : (b : Bool) → (r.place == place_after last r.member) ≡ b → (if not b then Some at else first_beside_from (Some r) (at + 1) (λ last r. not (r.place == place_after last r.member)) rs) ≡ None
      → (first_beside_from (Some r) (at + 1) (λ last r. not (r.place == place_after last r.member)) rs ≡ None → Follow (Some r) rs) → ((r.place == place_after last r.member) ≡ true) × Follow (Some r) rs
  by_test true h e again = (h, again e)
  by_test false h e again = absurd (let bad : ⊥ = cc in bad)

pub follow_beside : (last : Option MemberRule) (at : ℕ) (rs : List MemberRule) → Follow last rs → first_beside_from last at (λ last r. not (r.place == place_after last r.member)) rs ≡ None
follow_beside last at [] f = refl
follow_beside last at (r ∷ rs) f = ap (λ b. if not b then Some at else first_beside_from (Some r) (at + 1) (λ last r. not (r.place == place_after last r.member)) rs) f.0 ∙ follow_beside (Some r) (at + 1) rs f.1

pub pairs_earlier : {R : Type 0} (B : R → R → Bool) (C : R → Bool) (earlier : List R) (at : ℕ) (rs : List R) → AllByRecursion (λ v. AllByRecursion (λ u. B u v ≡ false) earlier) rs → Pairs (λ u v. B u v ≡ false) rs → AllByRecursion (λ v. C v ≡ false) rs
    → first_with_earlier_from earlier at (λ es v. list_any (λ u. B u v) es || C v) rs ≡ None
pairs_earlier B C earlier at [] before pairs own = refl
pairs_earlier {R = R} B C earlier at (v ∷ rs) before pairs own =
    ap (λ b. if b then Some at else first_with_earlier_from (earlier ++ v ∷ []) (at + 1) (λ es v. list_any (λ u. B u v) es || C v) rs) (ap (λ b. b || C v) (any_none (λ u. B u v) earlier before.0) ∙ own.0)
    ∙ pairs_earlier B C (earlier ++ v ∷ []) (at + 1) rs (joined rs before.1 pairs.0) pairs.1 own.1
  where
    joined : (xs : List R) → AllByRecursion (λ w. AllByRecursion (λ u. B u w ≡ false) earlier) xs → AllByRecursion (λ w. B v w ≡ false) xs → AllByRecursion (λ w. AllByRecursion (λ u. B u w ≡ false) (earlier ++ v ∷ [])) xs
    joined [] a b = tt
    joined (x ∷ xs) a b = (all_joined (λ u. B u x ≡ false) earlier (v ∷ []) a.0 (b.0, tt), joined xs a.1 b.1)
