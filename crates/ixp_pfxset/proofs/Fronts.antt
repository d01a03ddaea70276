-- The patterns at the fronts of new prefixes are the blocks.
use Rattle.std.proofs.Common.{◌≡◌, ◌≤◌, ◌<◌, ◌+◌, ◌-◌, ◌*◌, ◌%◌, ◌^◌, ℕ, ◌↔◌, List, [], ◌∷◌, ◌++◌, ◌⊎◌, inl, inr, refl, sym, ap, ◌∙◌, subst, arith}
use Rattle.std.specs.List.{Contains}
use Rattle.std.proofs.lemmas.Bool.{cases_lt}
use Rattle.std.proofs.lemmas.List.Elements.{Contains-append_left, Contains-push, Contains-push_cases}
use Rattle.std.proofs.lemmas.Nat.{pow-add, pow_pos}
use Rattle.ixp_num.specs.Families.{bits_of, IsPrefix}
use Rattle.ixp_num.specs.declared.pattern.Pattern.{Pattern}
use Rattle.ixp_num.specs.declared.prefix.Prefix.{Prefix}
use Rattle.ixp_pfxset.specs.Blocks.{IsNew, IsBlock, upper_bound}
use Rattle.ixp_pfxset.specs.Plain.{IsTop, IsFront}
use Rattle.ixp_pfxset.specs.declared.mode.Mode.{Mode}
use Rattle.ixp_pfxset.proofs.Covering.{covers_says, moved_bits, one_prefix}
use Rattle.ixp_pfxset.proofs.Filling.{number, part, part_covered, place_in}
use Rattle.ixp_pfxset.proofs.Members.{none_in}
use Rattle.ixp_pfxset.proofs.Orders.{one_pattern}

-- the front of a length is one pattern
abbrev front_at : Prefix → ℕ → ℕ → Pattern
front_at p low high = record { prefix = p; low = low; high = high }

front_prefix : (list : List Prefix) (r p : Prefix) (high : ℕ) (t : Pattern) → p.family ≡ r.family → p.value ≡ r.value → IsFront list r high t → t.prefix.len ≡ p.len → t.prefix ≡ p
front_prefix list r p high t family value is len = one_prefix t.prefix p (is.family ∙ sym family) len (is.value ∙ sym value)

module _ (list : List Prefix) (old : List Pattern) (r : Prefix) (high len : ℕ) where
  abbrev pub Adds : List Pattern → Type 0
  Adds new = (t : Pattern) → Contains new t ↔ (Contains old t ⊎ (IsFront list r high t × (t.prefix.len ≡ len)))

  adds_none : ((t : Pattern) → IsFront list r high t → t.prefix.len ≡ len → ⊥) → Adds old
  adds_none none t = ((λ there. inl there), by) where
    by : Contains old t ⊎ (IsFront list r high t × (t.prefix.len ≡ len)) → Contains old t
    by (inl there) = there
    by (inr front) = absurd (none t front.0 front.1)

  -- there is no prefix of this length
  pub adds_no_prefix : ¬ (IsPrefix r.family r.value len) → Adds old
  adds_no_prefix none = adds_none (λ t is at.
      let p : Prefix = t.prefix in
      let short : len ≤ bits_of r.family = subst (λ f. len ≤ bits_of f) is.family (subst (λ k. k ≤ bits_of p.family) at p.short) in
      let fits : r.value < 2 ^ bits_of r.family = subst (λ f. r.value < 2 ^ bits_of f) is.family (subst (λ v. v < 2 ^ bits_of p.family) is.value p.fits) in
      let bits : r.value % 2 ^ (bits_of r.family - len) ≡ 0 = subst (λ f. r.value % 2 ^ (bits_of f - len) ≡ 0) is.family (subst (λ v. v % 2 ^ (bits_of p.family - len) ≡ 0) is.value (subst (λ k. p.value % 2 ^ (bits_of p.family - k) ≡ 0) at p.no_host_bits)) in
      none (short, fits, bits))

  module _ (p : Prefix) (is : (p.family ≡ r.family) × (p.value ≡ r.value) × (p.len ≡ len)) where
    -- the prefix is no top
    pub adds_no_top : (IsTop list r.len p → ⊥) → Adds old
    adds_no_top none = adds_none (λ t front at. none (subst (IsTop list r.len) (front_prefix list r p high t is.0 is.1 front (at ∙ sym is.2)) front.top))

    pub adds_top : len ≤ r.len → IsTop list r.len p → Adds (old ++ front_at p r.len high ∷ [])
    adds_top le top t = (there, back) where
      new : Pattern
      new = record { prefix = p; low = r.len; high = high }

      is_front : IsFront list r high (front_at p r.len high)
      is_front = record { family = is.0; value = is.1; short = let e : p.len ≡ len = is.2 in omega arith; low = refl; high = refl; top = top }

      by : Contains old t ⊎ (front_at p r.len high ≡ t) → Contains old t ⊎ (IsFront list r high t × (t.prefix.len ≡ len))
      by (inl before) = inl before
      by (inr same) = inr (subst (IsFront list r high) same is_front, subst (λ (u : Pattern). u.prefix.len ≡ len) same is.2)

      there : Contains (old ++ front_at p r.len high ∷ []) t → Contains old t ⊎ (IsFront list r high t × (t.prefix.len ≡ len))
      there here = by (Contains-push_cases old (front_at p r.len high) t here)

      back : Contains old t ⊎ (IsFront list r high t × (t.prefix.len ≡ len)) → Contains (old ++ front_at p r.len high ∷ []) t
      back (inl before) = Contains-append_left old (front_at p r.len high ∷ []) t before
      back (inr front) =
          let same : t ≡ front_at p r.len high = one_pattern t (front_at p r.len high) (front_prefix list r p high t is.0 is.1 front.0 (front.1 ∙ sym is.2)) front.0.low front.0.high in
          subst (Contains (old ++ front_at p r.len high ∷ [])) (sym same) (Contains-push old (front_at p r.len high))

-- the first prefix of a length in another begins where that one does
regroup : (m s h v : ℕ) → m * (s * h) ≡ v → (m * s + 0) * h ≡ v
regroup m s h v e = omega arith

first_value : (n : Prefix) (l : ℕ) → n.len ≤ l → l ≤ bits_of n.family → place_in n l 0 * 2 ^ (bits_of n.family - l) ≡ n.value
first_value n l le short =
    let s : ℕ = l - n.len in
    let h : ℕ = bits_of n.family - l in
    let sum : s + h ≡ bits_of n.family - n.len = omega arith in
    let whole : number n * 2 ^ (bits_of n.family - n.len) ≡ n.value = moved_bits n in
    let parts : 2 ^ (bits_of n.family - n.len) ≡ 2 ^ s * 2 ^ h = ap (λ k. 2 ^ k) (sym sum) ∙ pow-add 2 s h in
    regroup (number n) (2 ^ s) (2 ^ h) n.value (subst (λ x. number n * x ≡ n.value) parts whole)

module _ (rows list : List Prefix) (mode : Mode) (high : ℕ) (are : (q : Prefix) → Contains list q ↔ IsNew rows mode high q) where
  -- some row has the pattern at its front
  abbrev pub IsSomeFront : Pattern → Type 0
  IsSomeFront t = (r : Prefix) × Contains list r × IsFront list r (upper_bound mode high r.len) t

  front_block : (t : Pattern) → IsSomeFront t → IsBlock rows mode high t
  front_block t (r, there, is) = (
    (
      subst (λ l. l ≤ bits_of t.prefix.family) (sym is.low) (subst (λ f. r.len ≤ bits_of f) (sym is.family) r.short),
      subst (λ l. t.prefix.len ≤ l) (sym is.low) is.short,
      (λ q len over. (are q).0 (is.top.0 q (len ∙ is.low) over)),
    ),
    (λ p parent full. is.top.1 p parent (λ q len over. (are q).1 (full.2 q (len ∙ sym is.low) over))),
    is.high ∙ ap (upper_bound mode high) (sym is.low),
  )

  block_front : (t : Pattern) → IsBlock rows mode high t → IsSomeFront t
  block_front t is =
      let n : Prefix = t.prefix in
      let short : t.low ≤ bits_of n.family = is.0.0 in
      let le : n.len ≤ t.low = is.0.1 in
      let r : Prefix = part n t.low 0 short le (pow_pos (t.low - n.len)) in
      let new : IsNew rows mode high r = is.0.2 r refl (part_covered n t.low 0 short le (pow_pos (t.low - n.len))) in (
        r,
        (are r).1 new,
        record {
          family = refl;
          value = sym (first_value n t.low le short);
          short = le;
          low = refl;
          high = is.2;
          top = (
            (λ q len over. (are q).1 (is.0.2 q len over)),
            (λ p parent fills. is.1 p parent (
                let len : p.len + 1 ≡ n.len = parent.0 in
                (subst (λ f. t.low ≤ bits_of f) (sym (covers_says p n parent.1).family) short, omega arith, (λ q at over. (are q).0 (fills q at over))))),
          );
        },
      )

  pub some_front_block : (ts : List Pattern) → ((t : Pattern) → Contains ts t ↔ IsSomeFront t) → (t : Pattern) → Contains ts t ↔ IsBlock rows mode high t
  some_front_block ts members t = ((λ here. front_block t ((members t).0 here)), (λ is. (members t).1 (block_front t is)))

-- the patterns of the first lengths are added
module _ (list : List Prefix) (old : List Pattern) (r : Prefix) (high : ℕ) where
  abbrev pub AddsBelow : ℕ → List Pattern → Type 0
  AddsBelow k new = (t : Pattern) → Contains new t ↔ (Contains old t ⊎ (IsFront list r high t × (t.prefix.len < k)))

  pub adds_first : AddsBelow 0 old
  adds_first t = ((λ there. inl there), by) where
    by : Contains old t ⊎ (IsFront list r high t × (t.prefix.len < 0)) → Contains old t
    by (inl there) = there
    by (inr none) = absurd (let less : t.prefix.len < 0 = none.1 in let h : ⊥ = omega arith in h)

  pub adds_more : (k : ℕ) (mid new : List Pattern) → AddsBelow k mid → Adds list mid r high k new → AddsBelow (k + 1) new
  adds_more k mid new before step t = (there, back) where
    from_mid : Contains old t ⊎ (IsFront list r high t × (t.prefix.len < k)) → Contains old t ⊎ (IsFront list r high t × (t.prefix.len < k + 1))
    from_mid (inl first) = inl first
    from_mid (inr front) = inr (front.0, let less : t.prefix.len < k = front.1 in omega arith)

    by : Contains mid t ⊎ (IsFront list r high t × (t.prefix.len ≡ k)) → Contains old t ⊎ (IsFront list r high t × (t.prefix.len < k + 1))
    by (inl mid_) = from_mid ((before t).0 mid_)
    by (inr front) = inr (front.0, let at : t.prefix.len ≡ k = front.1 in omega arith)

    there : Contains new t → Contains old t ⊎ (IsFront list r high t × (t.prefix.len < k + 1))
    there here = by ((step t).0 here)

    at_front : IsFront list r high t → (t.prefix.len < k) ⊎ (k ≤ t.prefix.len) → t.prefix.len < k + 1 → Contains new t
    at_front is (inl less) below = (step t).1 (inl ((before t).1 (inr (is, less))))
    at_front is (inr more) below = (step t).1 (inr (is, omega arith))

    back : Contains old t ⊎ (IsFront list r high t × (t.prefix.len < k + 1)) → Contains new t
    back (inl first) = (step t).1 (inl ((before t).1 (inl first)))
    back (inr front) = at_front front.0 (cases_lt t.prefix.len k) front.1

  abbrev pub AddsFronts : List Pattern → Type 0
  AddsFronts new = (t : Pattern) → Contains new t ↔ (Contains old t ⊎ IsFront list r high t)

  pub adds_all : (k : ℕ) (new : List Pattern) → r.len < k → AddsBelow k new → AddsFronts new
  adds_all k new whole below t = (there, back) where
    by : Contains old t ⊎ (IsFront list r high t × (t.prefix.len < k)) → Contains old t ⊎ IsFront list r high t
    by (inl first) = inl first
    by (inr front) = inr front.0

    there : Contains new t → Contains old t ⊎ IsFront list r high t
    there here = by ((below t).0 here)

    back : Contains old t ⊎ IsFront list r high t → Contains new t
    back (inl first) = (below t).1 (inl first)
    back (inr is) = (below t).1 (inr (is, let short : t.prefix.len ≤ r.len = is.short in omega arith))

-- the fronts of the first rows
module _ (list : List Prefix) (mode : Mode) (high : ℕ) where
  abbrev pub AddsRows : List Prefix → List Pattern → Type 0
  AddsRows rows new = (t : Pattern) → Contains new t ↔ ((r : Prefix) × Contains rows r × IsFront list r (upper_bound mode high r.len) t)

  pub no_rows : AddsRows [] []
  no_rows t = ((λ here. absurd (none_in t here)), (λ some. absurd (none_in some.0 some.1)))

  pub one_row_more : (rows : List Prefix) (r : Prefix) (old new : List Pattern) → AddsRows rows old → AddsFronts list old r (upper_bound mode high r.len) new → AddsRows (rows ++ r ∷ []) new
  one_row_more rows r old new before step t = (there, back) where
    by : Contains old t ⊎ IsFront list r (upper_bound mode high r.len) t → (s : Prefix) × Contains (rows ++ r ∷ []) s × IsFront list s (upper_bound mode high s.len) t
    by (inl old_) = let some = (before t).0 old_ in (some.0, Contains-append_left rows (r ∷ []) some.0 some.1, some.2)
    by (inr is) = (r, Contains-push rows r, is)

    there : Contains new t → (s : Prefix) × Contains (rows ++ r ∷ []) s × IsFront list s (upper_bound mode high s.len) t
    there here = by ((step t).0 here)

    at : (s : Prefix) → Contains rows s ⊎ (r ≡ s) → IsFront list s (upper_bound mode high s.len) t → Contains new t
    at s (inl first) is = (step t).1 (inl ((before t).1 (s, first, is)))
    at s (inr same) is = (step t).1 (inr (subst (λ (s : Prefix). IsFront list s (upper_bound mode high s.len) t) (sym same) is))

    back : (s : Prefix) × Contains (rows ++ r ∷ []) s × IsFront list s (upper_bound mode high s.len) t → Contains new t
    back (s, here, is) = at s (Contains-push_cases rows r s here) is
