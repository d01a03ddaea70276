-- The rows of one family and one length: what is full among them is what is full among all.
use Rattle.std.proofs.Common.{◌≡◌, ◌≢◌, ◌≤◌, ◌<◌, ◌+◌, ◌^◌, ℕ, Bool, true, false, if◌then◌else◌, ◌&&◌, ◌==◌, ◌↔◌, List, [], ◌⊎◌, inl, inr, refl, sym, ap, ◌∙◌, subst, arith, eq-eqb}
use Rattle.std.specs.List.{Contains, filter}
use Rattle.std.specs.List.Sorted.{IsPermutation}
use Rattle.std.proofs.lemmas.Bool.{and_parts, and_from, cond-false, eqb-true, cases_lt}
use Rattle.std.proofs.lemmas.Bool.Decides.{eqb_tells}
use Rattle.std.proofs.lemmas.List.Sorted.{Contains-permutation, IsPermutation-refl, IsPermutation-sym}
use Rattle.ixp_num.specs.Families.{same_family}
use Rattle.ixp_num.specs.Prefixes.{covers}
use Rattle.ixp_num.specs.declared.family.Family.{Family}
use Rattle.ixp_num.specs.declared.pattern.Pattern.{Pattern}
use Rattle.ixp_num.specs.declared.prefix.Prefix.{Prefix}
use Rattle.ixp_pfxset.specs.BlockList.{front}
use Rattle.ixp_pfxset.specs.Plain.{Fills}
use Rattle.ixp_pfxset.specs.Trie.{AllWithin, IsMerged, IsMergedBelow}
use Rattle.ixp_pfxset.proofs.Covering.{one_family, families_meet, covers_says, covers_equal, same_bits, front_len, front_covers}
use Rattle.ixp_pfxset.proofs.Filling.{number, number_small}
use Rattle.ixp_pfxset.proofs.Members.{filter_twice, kept, stays}
use Rattle.ixp_pfxset.proofs.Orders.{one_pattern}

-- the prefix of length 0 covers all of its family
no_number : (p : Prefix) → p.len ≡ 0 → number p ≡ 0
no_number p len = let small : number p < 2 ^ 0 = subst (λ k. number p < 2 ^ k) len (number_small p) in omega arith

pub whole_covers : (w q : Prefix) → w.len ≡ 0 → q.family ≡ w.family → covers w q ≡ true
whole_covers w q len family =
    let none : (front q 0).len ≡ 0 = front_len q 0 (omega arith) in
    let same : front q 0 ≡ w = same_bits (front q 0) w family (none ∙ sym len) (no_number (front q 0) none ∙ sym (no_number w len)) in
    subst (λ x. covers x q ≡ true) same (front_covers q 0)

module _ (list rows : List Prefix) (f : Family) (l : ℕ) (moved : IsPermutation (filter (λ r. same_family r.family f && r.len == l) list) rows) where
  abbrev test : Prefix → Bool
  test r = same_family r.family f && r.len == l

  row_says : (q : Prefix) → Contains rows q → Contains list q × (q.family ≡ f) × (q.len ≡ l)
  row_says q there =
      let both = kept test q list (Contains-permutation rows (filter test list) q (IsPermutation-sym (filter test list) rows moved) there) in
      let parts = and_parts (same_family q.family f) (q.len == l) both.1 in
      (both.0, one_family q.family f parts.0, eqb-true q.len l parts.1)

  row_from : (q : Prefix) → Contains list q → q.family ≡ f → q.len ≡ l → Contains rows q
  row_from q there family len = Contains-permutation (filter test list) rows q moved (stays test q list there (and_from (same_family q.family f) (q.len == l) (families_meet q.family f family) (eq-eqb q.len l len)))

  rows_fill : (x : Prefix) → Fills rows l x → Fills list l x
  rows_fill x fills q len over = (row_says q (fills q len over)).0

  fill_rows : (x : Prefix) → x.family ≡ f → Fills list l x → Fills rows l x
  fill_rows x family fills q len over = row_from q (fills q len over) (sym (covers_says x q over).family ∙ family) len

  to_rows : (most : ℕ) (t : Pattern) → t.prefix.family ≡ f → IsMerged list l most t → IsMerged rows l most t
  to_rows most t family m = record { low = m.low; high = m.high; short = m.short; top = (fill_rows t.prefix family m.top.0, λ p parent fills. m.top.1 p parent (rows_fill p fills)) }

  from_rows : (most : ℕ) (t : Pattern) → t.prefix.family ≡ f → IsMerged rows l most t → IsMerged list l most t
  from_rows most t family m = record {
    low = m.low;
    high = m.high;
    short = m.short;
    top = (rows_fill t.prefix m.top.0, λ p parent fills. m.top.1 p parent (fill_rows p ((covers_says p t.prefix parent.1).family ∙ family) fills));
  }

  -- of a length the rows alone count
  pub as_of_rows : (most : ℕ) (t : Pattern) → ((t.prefix.family ≡ f) × IsMerged rows l most t) ↔ ((t.prefix.family ≡ f) × IsMerged list l most t)
  as_of_rows most t = ((λ m. (m.0, from_rows most t m.0 m.1)), (λ m. (m.0, to_rows most t m.0 m.1)))

  module _ (w : Prefix) (family : w.family ≡ f) (none : w.len ≡ 0) where
    pub rows_within : AllWithin rows l w
    rows_within q there = let is = row_says q there in (is.2, whole_covers w q none (is.1 ∙ sym family))

    module _ (most : ℕ) (full : Bool) (decides : (full ≡ true) ↔ Fills rows l w) where
      abbrev whole_pattern : Pattern
      whole_pattern = record { prefix = w; low = l; high = most }

      whole_merged : full ≡ true → IsMerged rows l most whole_pattern
      whole_merged e = record { low = refl; high = refl; short = (let z = none in omega arith); top = (decides.0 e, λ p parent fills. let len : p.len + 1 ≡ w.len = parent.0 in let z = none in let h : ⊥ = omega arith in h) }

      pub length_added : (p q s : List Pattern)
          → ((t : Pattern) → Contains q t ↔ (Contains p t ⊎ IsMergedBelow rows l most w t))
          → ((t : Pattern) → Contains s t ↔ (Contains q t ⊎ ((full ≡ true) × (t ≡ record { prefix = w; low = l; high = most }))))
          → (t : Pattern) → Contains s t ↔ (Contains p t ⊎ ((t.prefix.family ≡ f) × IsMerged list l most t))
      length_added p q s one two t = (there, back) where
        from_q : Contains p t ⊎ IsMergedBelow rows l most w t → Contains p t ⊎ ((t.prefix.family ≡ f) × IsMerged list l most t)
        from_q (inl first) = inl first
        from_q (inr m) = let fam : t.prefix.family ≡ f = sym (covers_says w t.prefix m.over).family ∙ family in inr (fam, from_rows most t fam m.merged)

        from_s : Contains q t ⊎ ((full ≡ true) × (t ≡ whole_pattern)) → Contains p t ⊎ ((t.prefix.family ≡ f) × IsMerged list l most t)
        from_s (inl before) = from_q ((one t).0 before)
        from_s (inr is) = inr (subst (λ (u : Pattern). (u.prefix.family ≡ f) × IsMerged list l most u) (sym is.1) (family, from_rows most whole_pattern family (whole_merged is.0)))

        there : Contains s t → Contains p t ⊎ ((t.prefix.family ≡ f) × IsMerged list l most t)
        there here = from_s ((two t).0 here)

        at : (t.prefix.family ≡ f) → IsMerged rows l most t → (0 < t.prefix.len) ⊎ (t.prefix.len ≤ 0) → Contains s t
        at fam m (inl longer) = (two t).1 (inl ((one t).1 (inr (record { over = whole_covers w t.prefix none (fam ∙ sym family); longer = (let z = none in omega arith); merged = m }))))
        at fam m (inr short) =
            let len : w.len ≡ t.prefix.len = let z = none in omega arith in
            let same : w ≡ t.prefix = covers_equal w t.prefix (whole_covers w t.prefix none (fam ∙ sym family)) len in
            (two t).1 (inr (decides.1 (subst (Fills rows l) (sym same) m.top.0), one_pattern t whole_pattern (sym same) m.low m.high))

        back : Contains p t ⊎ ((t.prefix.family ≡ f) × IsMerged list l most t) → Contains s t
        back (inl first) = (two t).1 (inl ((one t).1 (inl first)))
        back (inr m) = at m.0 (to_rows most t m.0 m.1) (cases_lt 0 t.prefix.len)

-- One length after the other.

abbrev of_length : Family → ℕ → Prefix → Bool
of_length f l r = same_family r.family f && r.len == l

-- the rows are those of the list that have the family and the length
pub length_of_list :
    (list rows : List Prefix) (f : Family) (l most : ℕ) (mid new : List Pattern)
    → rows ≡ filter (λ r. same_family r.family f && r.len == l) list
    → ((t : Pattern) → Contains new t ↔ (Contains mid t ⊎ ((t.prefix.family ≡ f) × IsMerged rows l most t)))
    → (t : Pattern) → Contains new t ↔ (Contains mid t ⊎ ((t.prefix.family ≡ f) × IsMerged list l most t))
length_of_list list rows f l most mid new are step t = (λ here. to ((step t).0 here), λ there. (step t).1 (from there)) where
  moved : IsPermutation (filter (of_length f l) list) rows
  moved = subst (IsPermutation (filter (of_length f l) list)) (sym are) (IsPermutation-refl (filter (of_length f l) list))

  to : Contains mid t ⊎ ((t.prefix.family ≡ f) × IsMerged rows l most t) → Contains mid t ⊎ ((t.prefix.family ≡ f) × IsMerged list l most t)
  to (inl before) = inl before
  to (inr m) = inr ((as_of_rows list rows f l moved most t).0 m)

  from : Contains mid t ⊎ ((t.prefix.family ≡ f) × IsMerged list l most t) → Contains mid t ⊎ ((t.prefix.family ≡ f) × IsMerged rows l most t)
  from (inl before) = inl before
  from (inr m) = inr ((as_of_rows list rows f l moved most t).1 m)

-- rows that a filter left pass it again
pub still_alike : (list rows : List Prefix) (f : Family) (l : ℕ) → rows ≡ filter (λ r. same_family r.family f && r.len == l) list
    → filter (λ r. same_family r.family f && r.len == l) rows ≡ rows
still_alike list rows f l are = ap (filter (of_length f l)) are ∙ filter_twice (of_length f l) list ∙ sym are

-- what is left of the lengths once the rows of one are taken out
pub later_lengths : (old new wanted : ℕ → List Prefix) (l : ℕ)
    → ((m : ℕ) → new m ≡ (if l == m then [] else old m)) → ((m : ℕ) → l ≤ m → old m ≡ wanted m)
    → (m : ℕ) → l + 1 ≤ m → new m ≡ wanted m
later_lengths old new wanted l taken are m more = taken m ∙ other (eqb_tells l m) ∙ are m (omega arith) where
  other : (((l == m) ≡ true) × (l ≡ m)) ⊎ (((l == m) ≡ false) × (l ≢ m)) → (if l == m then [] else old m) ≡ old m
  other (inl same) = absurd (let e : l ≡ m = same.1 in let h : ⊥ = omega arith in h)
  other (inr apart) = cond-false (l == m) _ _ apart.0
