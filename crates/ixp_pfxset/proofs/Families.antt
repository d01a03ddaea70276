-- The lengths of a family one after the other, and both families: these are the blocks.
use Rattle.std.proofs.Common.{◌≡◌, ◌≤◌, ◌<◌, ◌+◌, ℕ, min, ◌↔◌, List, [], ◌⊎◌, inl, inr, refl, sym, subst, arith}
use Rattle.std.specs.List.{Contains}
use Rattle.std.proofs.lemmas.Bool.{cases_lt}
use Rattle.ixp_num.specs.Families.{bits_of}
use Rattle.ixp_num.specs.declared.family.Family.{Family}
use Rattle.ixp_num.specs.declared.family.Family.TheVariants.{V4, V6}
use Rattle.ixp_num.specs.declared.pattern.Pattern.{Pattern}
use Rattle.ixp_num.specs.declared.prefix.Prefix.{Prefix}
use Rattle.ixp_pfxset.specs.Blocks.{IsNew, IsBlock, upper_bound}
use Rattle.ixp_pfxset.specs.Trie.{IsMerged, IsOfFamily}
use Rattle.ixp_pfxset.specs.declared.mode.Mode.{Mode}
use Rattle.ixp_pfxset.proofs.Covering.{covers_says}
use Rattle.ixp_pfxset.proofs.Least.{low_high}
use Rattle.ixp_pfxset.proofs.Members.{none_in}

module _ (list : List Prefix) (mode : Mode) (high : ℕ) (family : Family) where
  -- a pattern for its own lower bound
  abbrev Merged : Pattern → Type 0
  Merged t = IsMerged list t.low (upper_bound mode high t.low) t

  module _ (old : List Pattern) where
    abbrev pub AddsShort : ℕ → List Pattern → Type 0
    AddsShort k new = (t : Pattern) → Contains new t ↔ (Contains old t ⊎ ((t.prefix.family ≡ family) × (t.low < k) × IsMerged list t.low (upper_bound mode high t.low) t))

    pub adds_none : AddsShort 0 old
    adds_none t = ((λ there. inl there), by) where
      by : Contains old t ⊎ ((t.prefix.family ≡ family) × (t.low < 0) × Merged t) → Contains old t
      by (inl there) = there
      by (inr none) = absurd (let less : t.low < 0 = none.1 in let h : ⊥ = omega arith in h)

    pub adds_length : (k : ℕ) (mid new : List Pattern) → AddsShort k mid → ((t : Pattern) → Contains new t ↔ (Contains mid t ⊎ ((t.prefix.family ≡ family) × IsMerged list k (upper_bound mode high k) t))) → AddsShort (k + 1) new
    adds_length k mid new before step t = (there, back) where
      from_mid : Contains old t ⊎ ((t.prefix.family ≡ family) × (t.low < k) × Merged t) → Contains old t ⊎ ((t.prefix.family ≡ family) × (t.low < k + 1) × Merged t)
      from_mid (inl first) = inl first
      from_mid (inr m) = inr (m.0, (let less : t.low < k = m.1 in omega arith), m.2)

      by : Contains mid t ⊎ ((t.prefix.family ≡ family) × IsMerged list k (upper_bound mode high k) t) → Contains old t ⊎ ((t.prefix.family ≡ family) × (t.low < k + 1) × Merged t)
      by (inl there) = from_mid ((before t).0 there)
      by (inr m) = inr (m.0, (let at : t.low ≡ k = m.1.low in omega arith), subst (λ l. IsMerged list l (upper_bound mode high l) t) (sym m.1.low) m.1)

      there : Contains new t → Contains old t ⊎ ((t.prefix.family ≡ family) × (t.low < k + 1) × Merged t)
      there here = by ((step t).0 here)

      at : (t.prefix.family ≡ family) → Merged t → t.low < k + 1 → (t.low < k) ⊎ (k ≤ t.low) → Contains new t
      at fam m below (inl less) = (step t).1 (inl ((before t).1 (inr (fam, less, m))))
      at fam m below (inr more) = let same : t.low ≡ k = omega arith in (step t).1 (inr (fam, subst (λ l. IsMerged list l (upper_bound mode high l) t) same m))

      back : Contains old t ⊎ ((t.prefix.family ≡ family) × (t.low < k + 1) × Merged t) → Contains new t
      back (inl first) = (step t).1 (inl ((before t).1 (inl first)))
      back (inr m) = at m.0 m.2 m.1 (cases_lt t.low k)

    abbrev pub AddsFamily : List Pattern → Type 0
    AddsFamily new = (t : Pattern) → Contains new t ↔ (Contains old t ⊎ IsOfFamily list mode high family t)

    pub adds_family : (k : ℕ) (new : List Pattern) → k ≡ min high (bits_of family) + 1 → AddsShort k new → AddsFamily new
    adds_family k new whole below t = (there, back) where
      by : Contains old t ⊎ ((t.prefix.family ≡ family) × (t.low < k) × Merged t) → Contains old t ⊎ IsOfFamily list mode high family t
      by (inl first) = inl first
      by (inr m) = inr (record { of_family = m.0; within = (let less : t.low < k = m.1 in omega arith); merged = m.2 })

      there : Contains new t → Contains old t ⊎ IsOfFamily list mode high family t
      there here = by ((below t).0 here)

      back : Contains old t ⊎ IsOfFamily list mode high family t → Contains new t
      back (inl first) = (below t).1 (inl first)
      back (inr m) = (below t).1 (inr (m.of_family, (let le : t.low ≤ min high (bits_of family) = m.within in omega arith), m.merged))

module _ (rows list : List Prefix) (mode : Mode) (high : ℕ) (are : (q : Prefix) → Contains list q ↔ IsNew rows mode high q) where
  family_block : (family : Family) (t : Pattern) → IsOfFamily list mode high family t → IsBlock rows mode high t
  family_block family t m = (
    (
      subst (λ f. t.low ≤ bits_of f) (sym m.of_family) (let le : t.low ≤ min high (bits_of family) = m.within in omega arith),
      m.merged.short,
      (λ q len over. (are q).0 (m.merged.top.0 q len over)),
    ),
    (λ p parent full. m.merged.top.1 p parent (λ q len over. (are q).1 (full.2 q len over))),
    m.merged.high,
  )

  block_family : (t : Pattern) → IsBlock rows mode high t → IsOfFamily list mode high t.prefix.family t
  block_family t is = record {
    of_family = refl;
    within = (let bounds = low_high rows high mode t is in let one : t.low ≤ t.high = bounds.0 in let two : t.high ≤ high = bounds.1 in let short : t.low ≤ bits_of t.prefix.family = is.0.0 in omega arith);
    merged = record {
      low = refl;
      high = is.2;
      short = is.0.1;
      top = (
        (λ q len over. (are q).1 (is.0.2 q len over)),
        λ p parent fills. is.1 p parent (
            let len : p.len + 1 ≡ t.prefix.len = parent.0 in
            let le : t.prefix.len ≤ t.low = is.0.1 in
            (subst (λ f. t.low ≤ bits_of f) (sym (covers_says p t.prefix parent.1).family) is.0.0, omega arith, λ q at over. (are q).0 (fills q at over))),
      );
    };
  }

  pub both_families : (four six : List Pattern) → AddsFamily list mode high V4 [] four → AddsFamily list mode high V6 four six → (t : Pattern) → Contains six t ↔ IsBlock rows mode high t
  both_families four six one two t = (there, back) where
    from_four : Contains [] t ⊎ IsOfFamily list mode high V4 t → IsBlock rows mode high t
    from_four (inl none) = absurd (none_in t none)
    from_four (inr m) = family_block V4 t m

    by : Contains four t ⊎ IsOfFamily list mode high V6 t → IsBlock rows mode high t
    by (inl before) = from_four ((one t).0 before)
    by (inr m) = family_block V6 t m

    there : Contains six t → IsBlock rows mode high t
    there here = by ((two t).0 here)

    at : (f : Family) → IsOfFamily list mode high f t → Contains six t
    at V4 m = (two t).1 (inl ((one t).1 (inr m)))
    at V6 m = (two t).1 (inr m)

    back : IsBlock rows mode high t → Contains six t
    back is = at t.prefix.family (block_family t is)
