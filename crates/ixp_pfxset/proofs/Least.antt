-- No block could be left out, no two could be one, and the blocks follow from what is allowed alone.
use Rattle.std.proofs.Common.{◌≡◌, ◌≢◌, ◌≤◌, ◌<◌, ◌+◌, ◌-◌, ℕ, true, false, ◌&&◌, List, [], ◌∷◌, ◌⊎◌, inl, inr, refl, sym, ap, ◌∙◌, subst, arith}
use Rattle.std.specs.Prelude.{nat_le}
use Rattle.std.specs.List.{Contains, list_any}
use Rattle.std.proofs.lemmas.Bool.{leb-true, le-leb, cases_lt, cases_eq, false_from_ne_true}
use Rattle.ixp_num.specs.Families.{bits_of}
use Rattle.ixp_num.specs.Prefixes.{covers, IsParent, matches, same_prefix}
use Rattle.ixp_num.specs.declared.pattern.Pattern.{Pattern}
use Rattle.ixp_num.specs.declared.prefix.Prefix.{Prefix}
use Rattle.ixp_pfxset.specs.Blocks.{is_allowed, IsNew, IsFull, IsBlock, upper_bound}
use Rattle.ixp_pfxset.specs.BlockList.{front, blocks}
use Rattle.ixp_pfxset.specs.declared.mode.Mode.{Mode}
use Rattle.ixp_pfxset.specs.declared.mode.Mode.TheVariants.{Exact, More}
use Rattle.ixp_pfxset.proofs.Covering.{covers_says, covers_itself, covers_between, covers_equal, same_bits, front_len, front_covers, front_parent}
use Rattle.ixp_pfxset.proofs.Members.{first_in, none_in, passing, passed}
use Rattle.ixp_pfxset.proofs.Orders.{one_list, one_pattern, pattern_total}
use Rattle.ixp_pfxset.proofs.Allowing.{allowed_short, exact_row, row_exact, more_row, row_more, new_allowed, new_row, new_apart}
use Rattle.ixp_pfxset.proofs.Filling.{number, full_below, first_part}
use Rattle.ixp_pfxset.proofs.Halves.{both_halves}
use Rattle.ixp_pfxset.proofs.Merging.{member_is_block, block_is_member, blocks_ascend}
use Rattle.ixp_pfxset.proofs.Matching.{Meets, match_says, match_from, both_or_none, block_bounds, low_new, allowed_matched}

module _ (rows : List Prefix) (high : ℕ) where
  -- the bounds of a block
  pub low_high : (mode : Mode) (t : Pattern) → IsBlock rows mode high t → (t.low ≤ t.high) × (t.high ≤ high)
  low_high mode t is = by mode is where
    by : (mode : Mode) → IsBlock rows mode high t → (t.low ≤ t.high) × (t.high ≤ high)
    by Exact is =
        let q = first_part rows Exact high t.low t.prefix is.0 in
        let short : q.0.len ≤ high = allowed_short rows high Exact q.0 (new_allowed rows high Exact q.0 (is.0.2 q.0 q.1 q.2)) in
        let len : q.0.len ≡ t.low = q.1 in
        let upper : t.high ≡ t.low = is.2 in
        (omega arith, omega arith)
    by More is =
        let q = first_part rows More high t.low t.prefix is.0 in
        let short : q.0.len ≤ high = allowed_short rows high More q.0 (new_allowed rows high More q.0 (is.0.2 q.0 q.1 q.2)) in
        let len : q.0.len ≡ t.low = q.1 in
        let upper : t.high ≡ high = is.2 in
        (omega arith, omega arith)

  -- a row in it, of its lower bound's length
  pub row_within : (mode : Mode) (t : Pattern) → IsBlock rows mode high t → (r : Prefix) × Contains rows r × (covers t.prefix r ≡ true) × (r.len ≡ t.low)
  row_within mode t is =
      let q = first_part rows mode high t.low t.prefix is.0 in
      (q.0, new_row rows high mode q.0 (is.0.2 q.0 q.1 q.2), q.2, q.1)

  pub first_met : (mode : Mode) (t : Pattern) (q : Prefix) → IsBlock rows mode high t → q.len ≡ t.low → covers t.prefix q ≡ true → matches t q ≡ true
  first_met mode t q is len over =
      let bounds = low_high mode t is in
      let le : t.low ≤ t.high = bounds.0 in
      match_from t q (record { over = over; low = omega arith; high = omega arith })

  -- two blocks that match one prefix of the length of the first one's lower bound
  one_low : (mode : Mode) (s t : Pattern) (q : Prefix) → IsBlock rows mode high s → IsBlock rows mode high t → q.len ≡ s.low → covers s.prefix q ≡ true → Meets t q → t.low ≡ s.low
  one_low Exact s t q is_s is_t len over meets =
      let upper : t.high ≡ t.low = is_t.2 in
      let low : t.low ≤ q.len = meets.low in
      let most : q.len ≤ t.high = meets.high in
      omega arith
  one_low More s t q is_s is_t len over meets =
      let a : Prefix = front q t.low in
      let at : a.len ≡ t.low = front_len q t.low meets.low in
      let new_a : IsNew rows More high a = low_new rows high More t q is_t meets in
      let new_q : IsNew rows More high q = is_s.0.2 q len over in
      let same : a ≡ q = new_apart rows high a q new_a.0 (front_covers q t.low) new_q in
      sym at ∙ (ap (λ (p : Prefix). p.len) same ∙ len)

  -- a full prefix above a block is the block's own
  not_longer : (mode : Mode) (n : Prefix) (t : Pattern) → IsFull rows mode high t.low n → IsBlock rows mode high t → covers n t.prefix ≡ true → n.len < t.prefix.len → ⊥
  not_longer mode n t full is over less =
      let p : Prefix = front t.prefix (t.prefix.len - 1) in
      let parent : IsParent t.prefix p = front_parent t.prefix (omega arith) in
      let len : p.len + 1 ≡ t.prefix.len = parent.0 in
      let le : t.prefix.len ≤ t.low = block_bounds rows mode high t is in
      let above : covers n p ≡ true = covers_between n p t.prefix over parent.1 (omega arith) in
      is.1 p parent (full_below rows mode high t.low n p full above (omega arith))

  pub one_block : (mode : Mode) (s t : Pattern) (q : Prefix) → IsBlock rows mode high s → IsBlock rows mode high t → q.len ≡ s.low → covers s.prefix q ≡ true → matches t q ≡ true → s ≡ t
  one_block mode s t q is_s is_t len over e = by (cases_lt s.prefix.len t.prefix.len) (cases_lt t.prefix.len s.prefix.len) where
    meets : Meets t q
    meets = match_says t q (block_bounds rows mode high t is_t) e

    low : t.low ≡ s.low
    low = one_low mode s t q is_s is_t len over meets

    by : (s.prefix.len < t.prefix.len) ⊎ (t.prefix.len ≤ s.prefix.len) → (t.prefix.len < s.prefix.len) ⊎ (s.prefix.len ≤ t.prefix.len) → s ≡ t
    by (inl less) other = absurd (not_longer mode s.prefix t (subst (λ l. IsFull rows mode high l s.prefix) (sym low) is_s.0) is_t (covers_between s.prefix t.prefix q over meets.over (omega arith)) less)
    by (inr le) (inl less) = absurd (not_longer mode t.prefix s (subst (λ l. IsFull rows mode high l t.prefix) low is_t.0) is_s (covers_between t.prefix s.prefix q meets.over over (omega arith)) less)
    by (inr le) (inr ge) =
        let same : s.prefix ≡ t.prefix = covers_equal s.prefix t.prefix (covers_between s.prefix t.prefix q over meets.over ge) (omega arith) in
        one_pattern s t same (sym low) (is_s.2 ∙ (ap (upper_bound mode high) (sym low) ∙ sym is_t.2))

  pub within_none : (mode : Mode) (s t : Pattern) → IsBlock rows mode high s → IsBlock rows mode high t → s ≢ t → (q : Prefix) × (matches s q ≡ true) × (matches t q ≡ false)
  within_none mode s t is_s is_t other =
      let q = first_part rows mode high s.low s.prefix is_s.0 in
      (q.0, first_met mode s q.0 is_s q.1 q.2, false_from_ne_true (matches t q.0) (λ e. other (one_block mode s t q.0 is_s is_t q.1 q.2 e)))

  -- both halves of a prefix are full
  both_full : (mode : Mode) (l : ℕ) (p a b : Prefix) → IsParent a p → IsParent b p → number a ≢ number b → IsFull rows mode high l a → IsFull rows mode high l b → IsFull rows mode high l p
  both_full mode l p a b at bt apart full_a full_b =
      let len : p.len + 1 ≡ a.len = at.0 in
      let le : a.len ≤ l = full_a.1 in
      (subst (λ f. l ≤ bits_of f) (sym (covers_says p a at.1).family) full_a.0, omega arith, both_halves (IsNew rows mode high) l p a b at bt apart le full_a.2 full_b.2)

  pub no_halves : (mode : Mode) (s t : Pattern) (p : Prefix) → IsBlock rows mode high s → IsBlock rows mode high t → IsParent s.prefix p → IsParent t.prefix p → s.low ≡ t.low → s ≡ t
  no_halves mode s t p is_s is_t at bt low = by (cases_eq (number s.prefix) (number t.prefix)) where
    by : (number s.prefix ≡ number t.prefix) ⊎ (number s.prefix ≡ number t.prefix → ⊥) → s ≡ t
    by (inl same) =
        let lens : s.prefix.len ≡ t.prefix.len = sym at.0 ∙ bt.0 in
        let family : s.prefix.family ≡ t.prefix.family = sym (covers_says p s.prefix at.1).family ∙ (covers_says p t.prefix bt.1).family in
        one_pattern s t (same_bits s.prefix t.prefix family lens same) low (is_s.2 ∙ (ap (upper_bound mode high) low ∙ sym is_t.2))
    by (inr apart) = absurd (is_s.1 p at (both_full mode s.low p s.prefix t.prefix at bt apart is_s.0 (subst (λ l. IsFull rows mode high l t.prefix) (sym low) is_t.0)))

  -- a row that isn't too long is allowed, and so is matched
  row_allowed : (mode : Mode) (r : Prefix) → Contains rows r → r.len ≤ high → is_allowed rows mode high r ≡ true
  row_allowed Exact r there short = row_exact rows high r there short
  row_allowed More r there short = row_more rows high r r (record { row = there; short = short; over = covers_itself r }) short

  short_row : (mode : Mode) (q : Prefix) → is_allowed rows mode high q ≡ true → (r : Prefix) × Contains rows r × (r.len ≤ high)
  short_row Exact q e = (q, exact_row rows high q e, allowed_short rows high Exact q e)
  short_row More q e = let some = more_row rows high q e in (some.0, some.1.row, some.1.short)

  none_empty : (ts : List Pattern) → ((t : Pattern) → Contains ts t → ⊥) → ts ≡ []
  none_empty [] none = refl
  none_empty (t ∷ ts) none = absurd (none t (first_in t ts))

  pub empty_says : (mode : Mode) → blocks rows mode high ≡ [] → list_any (λ r. nat_le r.len high) rows ≡ false
  empty_says mode empty = false_from_ne_true (list_any (λ r. nat_le r.len high) rows) (λ e.
      let some = passing (λ r. nat_le r.len high) rows e in
      let met = allowed_matched rows high mode some.0 (row_allowed mode some.0 some.1 (leb-true some.0.len high some.2)) in
      none_in met.0 (subst (λ ts. Contains ts met.0) empty (block_is_member rows mode high met.0 met.1)))

  pub empty_from : (mode : Mode) → list_any (λ r. nat_le r.len high) rows ≡ false → blocks rows mode high ≡ []
  empty_from mode none = none_empty (blocks rows mode high) (λ t here.
      let is = member_is_block rows mode high t here in
      let q = first_part rows mode high t.low t.prefix is.0 in
      let some = short_row mode q.0 (new_allowed rows high mode q.0 (is.0.2 q.0 q.1 q.2)) in
      let yes_ : list_any (λ r. nat_le r.len high) rows ≡ true = passed (λ r. nat_le r.len high) rows some.0 some.1 (le-leb some.0.len high some.2) in
      let h : ⊥ = cc in h)

-- rows that allow the same have the same blocks
module _ (rows others : List Prefix) (high : ℕ) where
  abbrev Agree : Mode → Type 0
  Agree mode = (q : Prefix) → is_allowed rows mode high q ≡ is_allowed others mode high q

  new_moved : (mode : Mode) (q : Prefix) → Agree mode → IsNew rows mode high q → IsNew others mode high q
  new_moved Exact q same new = sym (same q) ∙ new
  new_moved More q same new = (sym (same q) ∙ new.0, λ p parent. sym (same p) ∙ new.1 p parent)

pub full_moved : (rows others : List Prefix) (high : ℕ) (mode : Mode) (l : ℕ) (n : Prefix) → ((q : Prefix) → is_allowed rows mode high q ≡ is_allowed others mode high q) → IsFull rows mode high l n → IsFull others mode high l n
full_moved rows others high mode l n same full = (full.0, full.1, λ q len over. new_moved rows others high mode q same (full.2 q len over))

pub block_moved : (rows others : List Prefix) (high : ℕ) (mode : Mode) (t : Pattern) → ((q : Prefix) → is_allowed rows mode high q ≡ is_allowed others mode high q) → IsBlock rows mode high t → IsBlock others mode high t
block_moved rows others high mode t same is = (
  full_moved rows others high mode t.low t.prefix same is.0,
  (λ p parent full. is.1 p parent (full_moved others rows high mode t.low p (λ q. sym (same q)) full)),
  is.2,
)

pub same_blocks : (rows others : List Prefix) (high : ℕ) (mode : Mode) → ((q : Prefix) → is_allowed rows mode high q ≡ is_allowed others mode high q) → blocks rows mode high ≡ blocks others mode high
same_blocks rows others high mode same = one_list pattern_total (blocks rows mode high) (blocks others mode high) (blocks_ascend rows mode high) (blocks_ascend others mode high)
    (λ t here. block_is_member others mode high t (block_moved rows others high mode t same (member_is_block rows mode high t here)))
    (λ t here. block_is_member rows mode high t (block_moved others rows high mode t (λ q. sym (same q)) (member_is_block others mode high t here)))

-- the members of the rows alone say what is allowed
members_allow : (rows others : List Prefix) (high : ℕ) (mode : Mode) (q : Prefix) → ((r : Prefix) → Contains rows r → Contains others r) → is_allowed rows mode high q ≡ true → is_allowed others mode high q ≡ true
members_allow rows others high Exact q there e = row_exact others high q (there q (exact_row rows high q e)) (allowed_short rows high Exact q e)
members_allow rows others high More q there e =
    let some = more_row rows high q e in
    row_more others high q some.0 (record { row = there some.0 some.1.row; short = some.1.short; over = some.1.over }) (allowed_short rows high More q e)

pub same_members : (rows others : List Prefix) (high : ℕ) (mode : Mode) → ((r : Prefix) → Contains rows r → Contains others r) → ((r : Prefix) → Contains others r → Contains rows r) → blocks rows mode high ≡ blocks others mode high
same_members rows others high mode there back = same_blocks rows others high mode
    (λ q. both_or_none (is_allowed rows mode high q) (is_allowed others mode high q) (members_allow rows others high mode q there) (members_allow others rows high mode q back))

-- a row above `high` covers nothing that is allowed, so that it needn't be left out
pub any_row_covers : (rows : List Prefix) (high : ℕ) (q : Prefix) → q.len ≤ high → is_allowed rows More high q ≡ list_any (λ p. covers p q) rows
any_row_covers rows high q short = both_or_none (is_allowed rows More high q) (list_any (λ p. covers p q) rows)
    (λ e. let some = more_row rows high q e in passed (λ p. covers p q) rows some.0 some.1.row some.1.over)
    (λ e.
    let some = passing (λ p. covers p q) rows e in
    let le : some.0.len ≤ q.len = (covers_says some.0 q some.2).len in
    row_more rows high q some.0 (record { row = some.1; short = omega arith; over = some.2 }) short)

pub any_row_is : (rows : List Prefix) (high : ℕ) (q : Prefix) → q.len ≤ high → is_allowed rows Exact high q ≡ list_any (λ p. same_prefix p q) rows
any_row_is rows high q short = ap (λ b. b && list_any (λ p. same_prefix p q) rows) (le-leb q.len high short)

pub none_longer : (rows : List Prefix) (mode : Mode) (high : ℕ) (q : Prefix) → high < q.len → is_allowed rows mode high q ≡ false
none_longer rows mode high q long = false_from_ne_true (is_allowed rows mode high q) (λ e. let short : q.len ≤ high = allowed_short rows high mode q e in let h : ⊥ = omega arith in h)

pub none_of_family : (rows : List Prefix) (mode : Mode) (high : ℕ) (q : Prefix) → ((r : Prefix) → Contains rows r → r.family ≢ q.family) → is_allowed rows mode high q ≡ false
none_of_family rows Exact high q other = false_from_ne_true (is_allowed rows Exact high q) (λ e. other q (exact_row rows high q e) refl)
none_of_family rows More high q other = false_from_ne_true (is_allowed rows More high q) (λ e.
    let some = more_row rows high q e in
    other some.0 some.1.row (covers_says some.0 q some.1.over).family)
