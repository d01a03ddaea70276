-- The list of blocks: its members, and which prefixes they match.
use Rattle.std.proofs.Common.{◌≡◌, ◌≤◌, ◌<◌, ◌+◌, ◌-◌, ℕ, zero, suc, Bool, true, false, not, ◌||◌, ◌==◌, List, [], ◌⊎◌, inl, inr, refl, sym, ap, ◌∙◌, subst, arith, eq-eqb}
use Rattle.std.specs.List.{Contains, filter, flat_map}
use Rattle.std.specs.List.Sorted.{IsStrictlySortedBy}
use Rattle.std.proofs.lemmas.Bool.{and_parts, and_from, or_cases, or_left, or_right, not-true, not_from_false, eqb-true, cases_lt, false_from_ne_true}
use Rattle.ixp_num.specs.Prefixes.{IsParent}
use Rattle.ixp_num.specs.declared.pattern.Pattern.{Pattern}
use Rattle.ixp_num.specs.declared.prefix.Prefix.{Prefix}
use Rattle.ixp_pfxset.specs.Blocks.{IsFull, IsBlock, upper_bound}
use Rattle.ixp_pfxset.specs.BlockList.{front, is_full, is_block, front_pattern, front_patterns, pattern_order, blocks}
use Rattle.ixp_pfxset.specs.declared.mode.Mode.{Mode}
use Rattle.ixp_pfxset.proofs.Covering.{covers_says, front_is, front_parent, parent_is}
use Rattle.ixp_pfxset.proofs.Members.{first_in, later_in, in_cases, none_in, kept, stays, from_some, to_some}
use Rattle.ixp_pfxset.proofs.Orders.{one_pattern, ordered_ascends, from_ordered, to_ordered}
use Rattle.ixp_pfxset.proofs.Allowing.{new_row}
use Rattle.ixp_pfxset.proofs.Filling.{decides_full, first_part}

-- a pattern at a row's front
from_fronts : (mode : Mode) (high : ℕ) (r : Prefix) (n : ℕ) (t : Pattern) → Contains (front_patterns mode high r n) t → (k : ℕ) × (t ≡ front_pattern mode high r k)
from_fronts mode high r zero t here = by (in_cases (front_pattern mode high r zero) t [] here) where
  by : (front_pattern mode high r zero ≡ t) ⊎ Contains [] t → (k : ℕ) × (t ≡ front_pattern mode high r k)
  by (inl same) = (zero, sym same)
  by (inr later) = absurd (none_in t later)
from_fronts mode high r (suc n) t here = by (in_cases (front_pattern mode high r (suc n)) t (front_patterns mode high r n) here) (from_fronts mode high r n t) where
  by : (front_pattern mode high r (suc n) ≡ t) ⊎ Contains (front_patterns mode high r n) t → (Contains (front_patterns mode high r n) t → (k : ℕ) × (t ≡ front_pattern mode high r k)) → (k : ℕ) × (t ≡ front_pattern mode high r k)
  by (inl same) rest = (suc n, sym same)
  by (inr later) rest = rest later

to_fronts : (mode : Mode) (high : ℕ) (r : Prefix) (n k : ℕ) → k ≤ n → Contains (front_patterns mode high r n) (front_pattern mode high r k)
to_fronts mode high r zero k le = let none : zero ≡ k = omega arith in subst (λ k. Contains (front_patterns mode high r zero) (front_pattern mode high r k)) none (first_in (front_pattern mode high r zero) [])
to_fronts mode high r (suc n) k le = by (cases_lt n k) (to_fronts mode high r n k) where
  by : (n < k) ⊎ (k ≤ n) → (k ≤ n → Contains (front_patterns mode high r n) (front_pattern mode high r k)) → Contains (front_patterns mode high r (suc n)) (front_pattern mode high r k)
  by (inl top) rest =
      let same : suc n ≡ k = omega arith in
      subst (λ k. Contains (front_patterns mode high r (suc n)) (front_pattern mode high r k)) same (first_in (front_pattern mode high r (suc n)) (front_patterns mode high r n))
  by (inr below) rest = later_in (front_pattern mode high r (suc n)) (front_pattern mode high r k) (front_patterns mode high r n) (rest below)

module _ (rows : List Prefix) (mode : Mode) (high : ℕ) where
  -- the test decides it, where the upper bound is right
  block_says : (t : Pattern) → is_block rows mode high t ≡ true → t.high ≡ upper_bound mode high t.low → IsBlock rows mode high t
  block_says t e upper = ((decides_full rows mode high t.low t.prefix).0 parts.0, top, upper) where
    over : Bool
    over = is_full rows mode high t.low (front t.prefix (t.prefix.len - 1))

    parts : (is_full rows mode high t.low t.prefix ≡ true) × ((t.prefix.len == 0 || not (is_full rows mode high t.low (front t.prefix (t.prefix.len - 1)))) ≡ true)
    parts = and_parts (is_full rows mode high t.low t.prefix) (t.prefix.len == 0 || not (is_full rows mode high t.low (front t.prefix (t.prefix.len - 1)))) e

    by : ((t.prefix.len == 0) ≡ true) ⊎ (not (is_full rows mode high t.low (front t.prefix (t.prefix.len - 1))) ≡ true) → (p : Prefix) → IsParent t.prefix p → ¬ (IsFull rows mode high t.low p)
    by (inl short) p parent full = let len : p.len + 1 ≡ t.prefix.len = parent.0 in let z : t.prefix.len ≡ 0 = eqb-true t.prefix.len 0 short in omega arith
    by (inr open_) p parent full =
        let no_ : is_full rows mode high t.low (front t.prefix (t.prefix.len - 1)) ≡ false = not-true (is_full rows mode high t.low (front t.prefix (t.prefix.len - 1))) open_ in
        let yes_ : is_full rows mode high t.low (front t.prefix (t.prefix.len - 1)) ≡ true = (decides_full rows mode high t.low (front t.prefix (t.prefix.len - 1))).1 (subst (IsFull rows mode high t.low) (parent_is t.prefix p parent) full) in
        let h : ⊥ = cc in h

    top : (p : Prefix) → IsParent t.prefix p → ¬ (IsFull rows mode high t.low p)
    top = by (or_cases (t.prefix.len == 0) (not (is_full rows mode high t.low (front t.prefix (t.prefix.len - 1)))) parts.1)

  block_from : (t : Pattern) → IsBlock rows mode high t → is_block rows mode high t ≡ true
  block_from t is =
      and_from (is_full rows mode high t.low t.prefix) (t.prefix.len == 0 || not (is_full rows mode high t.low (front t.prefix (t.prefix.len - 1))))
      ((decides_full rows mode high t.low t.prefix).1 is.0) (by (cases_lt 0 t.prefix.len)) where
        by : (0 < t.prefix.len) ⊎ (t.prefix.len ≤ 0) → (t.prefix.len == 0 || not (is_full rows mode high t.low (front t.prefix (t.prefix.len - 1)))) ≡ true
        by (inr none) = or_left (t.prefix.len == 0) (not (is_full rows mode high t.low (front t.prefix (t.prefix.len - 1)))) (eq-eqb t.prefix.len 0 (omega arith))
        by (inl some) =
            or_right (t.prefix.len == 0) (not (is_full rows mode high t.low (front t.prefix (t.prefix.len - 1))))
            (not_from_false (is_full rows mode high t.low (front t.prefix (t.prefix.len - 1)))
            (false_from_ne_true (is_full rows mode high t.low (front t.prefix (t.prefix.len - 1)))
            (λ e. is.1 (front t.prefix (t.prefix.len - 1)) (front_parent t.prefix some) ((decides_full rows mode high t.low (front t.prefix (t.prefix.len - 1))).0 e))))

  abbrev candidates : List Pattern
  candidates = flat_map (λ r. front_patterns mode high r r.len) rows

  -- the members of the list
  pub member_is_block : (t : Pattern) → Contains (blocks rows mode high) t → IsBlock rows mode high t
  unfolding blocks
  member_is_block t here =
      let passes = kept (is_block rows mode high) t candidates (from_ordered t (filter (is_block rows mode high) candidates) here) in
      let at = from_some (λ r. front_patterns mode high r r.len) t rows passes.0 in
      let is = from_fronts mode high at.0 at.0.len t at.2 in
      let upper : t.high ≡ upper_bound mode high t.low = subst (λ (u : Pattern). u.high ≡ upper_bound mode high u.low) (sym is.1) refl in
      block_says t passes.1 upper

  pub block_is_member : (t : Pattern) → IsBlock rows mode high t → Contains (blocks rows mode high) t
  unfolding blocks
  block_is_member t is =
      let q = first_part rows mode high t.low t.prefix is.0 in
      let r : Prefix = q.0 in
      let row : Contains rows r = new_row rows high mode r (is.0.2 r q.1 q.2) in
      let prefix : t.prefix ≡ front r t.prefix.len = front_is t.prefix r q.2 in
      let high_ : t.high ≡ upper_bound mode high r.len = is.2 ∙ ap (upper_bound mode high) (sym q.1) in
      let same : front_pattern mode high r t.prefix.len ≡ t = sym (one_pattern t (front_pattern mode high r t.prefix.len) prefix (sym q.1) high_) in
      let there : Contains (front_patterns mode high r r.len) t = subst (Contains (front_patterns mode high r r.len)) same (to_fronts mode high r r.len t.prefix.len (covers_says t.prefix r q.2).len) in
      to_ordered t (filter (is_block rows mode high) candidates) (stays (is_block rows mode high) t candidates (to_some (λ r. front_patterns mode high r r.len) t r rows row there) (block_from t is))

  pub blocks_ascend : IsStrictlySortedBy pattern_order (blocks rows mode high)
  unfolding blocks
  blocks_ascend = ordered_ascends (filter (is_block rows mode high) candidates)
