-- The blocks match what is allowed, each something that no other does, and no two of them could be one.
use Rattle.std.proofs.Common.{◌≡◌, ◌≤◌, ◌+◌, ◌-◌, ℕ, zero, suc, Bool, true, false, min, ◌&&◌, ◌==◌, List, ◌⊎◌, inl, inr, refl, sym, subst, arith, eq-eqb}
use Rattle.std.specs.Prelude.{nat_le}
use Rattle.std.proofs.Math.Nat.{le_refl, min-eq_left}
use Rattle.std.proofs.lemmas.Bool.{and_parts, and_from, eqb-true, leb-true, le-leb, cases_Bool}
use Rattle.std.proofs.lemmas.Bool.Decides.{not_from_Decides}
use Rattle.ixp_num.specs.Families.{same_family}
use Rattle.ixp_num.specs.Prefixes.{covers, first_bits, matches, is_in_set}
use Rattle.ixp_num.specs.declared.pattern.Pattern.{Pattern}
use Rattle.ixp_num.specs.declared.prefix.Prefix.{Prefix}
use Rattle.ixp_pfxset.specs.Blocks.{is_allowed, IsNew, IsFull, IsBlock, upper_bound}
use Rattle.ixp_pfxset.specs.BlockList.{front, is_full, blocks}
use Rattle.ixp_pfxset.specs.declared.mode.Mode.{Mode}
use Rattle.ixp_pfxset.specs.declared.mode.Mode.TheVariants.{Exact, More}
use Rattle.ixp_pfxset.proofs.Covering.{one_family, families_meet, covers_says, covers_from, covers_itself, covers_chain, covers_between, covers_equal, front_len, front_covers, parent_is}
use Rattle.ixp_pfxset.proofs.Members.{passing, passed}
use Rattle.ixp_pfxset.proofs.Allowing.{allowed_short, allowed_below}
use Rattle.ixp_pfxset.proofs.Filling.{decides_full}
use Rattle.ixp_pfxset.proofs.Merging.{member_is_block, block_is_member}

-- a pattern whose prefix isn't longer than what it matches
pub record Meets (t : Pattern) (q : Prefix) : Type 0 where
  pub over : covers t.prefix q ≡ true
  pub low : t.low ≤ q.len
  pub high : q.len ≤ t.high

pub match_says : (t : Pattern) (q : Prefix) → t.prefix.len ≤ t.low → matches t q ≡ true → Meets t q
match_says t q le e =
    let p : Prefix = t.prefix in
    let m : ℕ = min p.len q.len in
    let bits_test : Bool = first_bits q.family m q.value == first_bits q.family m p.value in
    let a = and_parts (same_family p.family q.family && bits_test && nat_le t.low q.len) (nat_le q.len t.high) e in
    let b = and_parts (same_family p.family q.family && bits_test) (nat_le t.low q.len) a.0 in
    let d = and_parts (same_family p.family q.family) bits_test b.0 in
    let low : t.low ≤ q.len = leb-true t.low q.len b.1 in
    let shorter : p.len ≤ q.len = omega arith in
    let least : m ≡ p.len = min-eq_left shorter in
    let family : p.family ≡ q.family = one_family p.family q.family d.0 in
    let bits : first_bits q.family m q.value ≡ first_bits q.family m p.value = eqb-true (first_bits q.family m q.value) (first_bits q.family m p.value) d.1 in
    let at_len : first_bits q.family p.len q.value ≡ first_bits q.family p.len p.value = subst (λ k. first_bits q.family k q.value ≡ first_bits q.family k p.value) least bits in
    record {
      over = covers_from p q (record { family = family; len = shorter; bits = subst (λ f. first_bits f p.len q.value ≡ first_bits f p.len p.value) (sym family) at_len });
      low = low;
      high = leb-true q.len t.high a.1;
    }

pub match_from : (t : Pattern) (q : Prefix) → Meets t q → matches t q ≡ true
match_from t q is =
    let p : Prefix = t.prefix in
    let m : ℕ = min p.len q.len in
    let bits_test : Bool = first_bits q.family m q.value == first_bits q.family m p.value in
    let lies = covers_says p q is.over in
    let at_len : first_bits q.family p.len q.value ≡ first_bits q.family p.len p.value = subst (λ f. first_bits f p.len q.value ≡ first_bits f p.len p.value) lies.family lies.bits in
    let bits : first_bits q.family m q.value ≡ first_bits q.family m p.value = subst (λ k. first_bits q.family k q.value ≡ first_bits q.family k p.value) (sym (min-eq_left lies.len)) at_len in
    and_from (same_family p.family q.family && bits_test && nat_le t.low q.len) (nat_le q.len t.high)
    (and_from (same_family p.family q.family && bits_test) (nat_le t.low q.len)
    (and_from (same_family p.family q.family) bits_test (families_meet p.family q.family lies.family) (eq-eqb (first_bits q.family m q.value) (first_bits q.family m p.value) bits))
    (le-leb t.low q.len is.low))
    (le-leb q.len t.high is.high)

pub both_or_none : (a b : Bool) → (a ≡ true → b ≡ true) → (b ≡ true → a ≡ true) → a ≡ b
both_or_none true b there back = sym (there refl)
both_or_none false true there back = back refl
both_or_none false false there back = refl

module _ (rows : List Prefix) (mode : Mode) (high : ℕ) where
  abbrev block_of : Prefix → ℕ → Pattern
  block_of n l = record { prefix = n; low = l; high = upper_bound mode high l }

  -- a new prefix is full at its own length
  full_itself : (q : Prefix) → IsNew rows mode high q → IsFull rows mode high q.len q
  full_itself q new = (q.short, le_refl q.len, λ r len over. subst (IsNew rows mode high) (covers_equal q r over (sym len)) new)

  -- the longest block above a full prefix
  record IsTop (n : Prefix) (l : ℕ) (t : Pattern) : Type 0 where
    block : IsBlock rows mode high t
    low : t.low ≡ l
    over : covers t.prefix n ≡ true

  top_at : (k : ℕ) (l : ℕ) (n : Prefix) → n.len ≡ k → IsFull rows mode high l n → (t : Pattern) × IsTop n l t
  top_at zero l n len full = (
    block_of n l,
    record {
      block = (full, (λ p parent. let at : p.len + 1 ≡ n.len = parent.0 in let h : ⊥ = omega arith in absurd h), refl);
      low = refl;
      over = covers_itself n;
    },
  )
  top_at (suc k) l n len full = by (cases_Bool (is_full rows mode high l (front n (n.len - 1)))) (top_at k l (front n (n.len - 1)) shorter) where
    shorter : (front n (n.len - 1)).len ≡ k
    shorter = let le : n.len - 1 ≤ n.len = omega arith in let at = front_len n (n.len - 1) le in omega (arith, at)

    by : (is_full rows mode high l (front n (n.len - 1)) ≡ true) ⊎ (is_full rows mode high l (front n (n.len - 1)) ≡ false)
        → (IsFull rows mode high l (front n (n.len - 1)) → (t : Pattern) × IsTop (front n (n.len - 1)) l t) → (t : Pattern) × IsTop n l t
    by (inl more) above =
        let up = above ((decides_full rows mode high l (front n (n.len - 1))).0 more) in
        (up.0, record { block = up.1.block; low = up.1.low; over = covers_chain up.0.prefix (front n (n.len - 1)) n up.1.over (front_covers n (n.len - 1)) })
    by (inr no_more) above = (
      block_of n l,
      record {
        block = (full, (λ p parent p_full. not_from_Decides (is_full rows mode high l (front n (n.len - 1))) (decides_full rows mode high l (front n (n.len - 1))) no_more (subst (IsFull rows mode high l) (parent_is n p parent) p_full)), refl);
        low = refl;
        over = covers_itself n;
      },
    )

  top : (l : ℕ) (n : Prefix) → IsFull rows mode high l n → (t : Pattern) × IsTop n l t
  top l n full = top_at n.len l n refl full

  pub block_bounds : (t : Pattern) → IsBlock rows mode high t → t.prefix.len ≤ t.low
  block_bounds t is = is.0.1

-- the new prefix above one that is allowed
new_above_at : (rows : List Prefix) (high k : ℕ) (q : Prefix) → q.len ≡ k → is_allowed rows More high q ≡ true → (a : Prefix) × IsNew rows More high a × (covers a q ≡ true)
new_above_at rows high zero q len allowed = (q, (allowed, λ p parent. let at : p.len + 1 ≡ q.len = parent.0 in let h : ⊥ = omega arith in absurd h), covers_itself q)
new_above_at rows high (suc k) q len allowed = by (cases_Bool (is_allowed rows More high (front q (q.len - 1)))) (new_above_at rows high k (front q (q.len - 1)) shorter) where
  shorter : (front q (q.len - 1)).len ≡ k
  shorter = let le : q.len - 1 ≤ q.len = omega arith in let at = front_len q (q.len - 1) le in omega (arith, at)

  by : (is_allowed rows More high (front q (q.len - 1)) ≡ true) ⊎ (is_allowed rows More high (front q (q.len - 1)) ≡ false)
      → (is_allowed rows More high (front q (q.len - 1)) ≡ true → (a : Prefix) × IsNew rows More high a × (covers a (front q (q.len - 1)) ≡ true)) → (a : Prefix) × IsNew rows More high a × (covers a q ≡ true)
  by (inl more) above = let up = above more in (up.0, up.1, covers_chain up.0 (front q (q.len - 1)) q up.2 (front_covers q (q.len - 1)))
  by (inr no_more) above = (q, (allowed, λ p parent. subst (λ x. is_allowed rows More high x ≡ false) (sym (parent_is q p parent)) no_more), covers_itself q)

module _ (rows : List Prefix) (high : ℕ) where
  pub allowed_matched : (mode : Mode) (q : Prefix) → is_allowed rows mode high q ≡ true → (t : Pattern) × IsBlock rows mode high t × (matches t q ≡ true)
  allowed_matched Exact q e =
      let up = top rows Exact high q.len q (full_itself rows Exact high q e) in
      let upper : up.0.high ≡ up.0.low = up.1.block.2 in
      let low : up.0.low ≡ q.len = up.1.low in
      (up.0, up.1.block, match_from up.0 q (record { over = up.1.over; low = omega arith; high = omega arith }))
  allowed_matched More q e =
      let new = new_above_at rows high q.len q refl e in
      let a : Prefix = new.0 in
      let up = top rows More high a.len a (full_itself rows More high a new.1) in
      let upper : up.0.high ≡ high = up.1.block.2 in
      let low : up.0.low ≡ a.len = up.1.low in
      let le : a.len ≤ q.len = (covers_says a q new.2).len in
      let short : q.len ≤ high = allowed_short rows high More q e in
      (up.0, up.1.block, match_from up.0 q (record { over = covers_chain up.0.prefix a q up.1.over new.2; low = omega arith; high = omega arith }))

  -- the prefix of the lower bound's length above one that a block matches
  abbrev at_low : Pattern → Prefix → Prefix
  at_low t q = front q t.low

  pub low_new : (mode : Mode) (t : Pattern) (q : Prefix) → IsBlock rows mode high t → Meets t q → IsNew rows mode high (at_low t q)
  low_new mode t q is meets =
      let len : (at_low t q).len ≡ t.low = front_len q t.low meets.low in
      let le : t.prefix.len ≤ t.low = block_bounds rows mode high t is in
      is.0.2 (at_low t q) len (covers_between t.prefix (at_low t q) q meets.over (front_covers q t.low) (omega (arith, len)))

  pub matched_allowed : (mode : Mode) (t : Pattern) (q : Prefix) → IsBlock rows mode high t → matches t q ≡ true → is_allowed rows mode high q ≡ true
  matched_allowed Exact t q is e =
      let meets = match_says t q (block_bounds rows Exact high t is) e in
      let new = low_new Exact t q is meets in
      let upper : t.high ≡ t.low = is.2 in
      let low : t.low ≤ q.len = meets.low in
      let most : q.len ≤ t.high = meets.high in
      let len : (at_low t q).len ≡ t.low = front_len q t.low meets.low in
      subst (λ x. is_allowed rows Exact high x ≡ true) (covers_equal (at_low t q) q (front_covers q t.low) (omega (arith, len))) new
  matched_allowed More t q is e =
      let meets = match_says t q (block_bounds rows More high t is) e in
      let new = low_new More t q is meets in
      let upper : t.high ≡ high = is.2 in
      let most : q.len ≤ t.high = meets.high in
      allowed_below rows high (at_low t q) q new.0 (front_covers q t.low) (omega arith)

  pub where_allowed : (mode : Mode) (q : Prefix) → is_in_set (blocks rows mode high) q ≡ is_allowed rows mode high q
  where_allowed mode q = both_or_none (is_in_set (blocks rows mode high) q) (is_allowed rows mode high q)
      (λ e. let some = passing (λ t. matches t q) (blocks rows mode high) e in matched_allowed mode some.0 q (member_is_block rows mode high some.0 some.1) some.2)
      (λ e. let some = allowed_matched mode q e in passed (λ t. matches t q) (blocks rows mode high) some.0 (block_is_member rows mode high some.0 some.1) some.2)
