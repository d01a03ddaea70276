-- What it says that a prefix is allowed, and that it is new.
use Rattle.std.proofs.Common.{◌≡◌, ◌≤◌, ◌<◌, ◌+◌, ◌-◌, ℕ, true, false, not, ◌&&◌, ◌||◌, ◌==◌, List, ◌⊎◌, inl, inr, sym, subst, arith, eq-eqb}
use Rattle.std.specs.Prelude.{nat_le}
use Rattle.std.specs.Bool.{Decides}
use Rattle.std.specs.List.{Contains, list_any}
use Rattle.std.proofs.lemmas.Bool.{and_parts, and_from, or_cases, or_left, or_right, not-true, not_from_false, eqb-true, leb-true, le-leb, cases_lt}
use Rattle.ixp_num.specs.Prefixes.{covers, IsParent, same_prefix}
use Rattle.ixp_num.specs.declared.prefix.Prefix.{Prefix}
use Rattle.ixp_pfxset.specs.Blocks.{is_allowed, IsNew}
use Rattle.ixp_pfxset.specs.BlockList.{front, is_new}
use Rattle.ixp_pfxset.specs.declared.mode.Mode.{Mode}
use Rattle.ixp_pfxset.specs.declared.mode.Mode.TheVariants.{Exact, More}
use Rattle.ixp_pfxset.proofs.Covering.{covers_says, covers_itself, covers_chain, covers_between, covers_equal, same_says, same_itself, front_parent, parent_is}
use Rattle.ixp_pfxset.proofs.Members.{passing, passed}

module _ (rows : List Prefix) (high : ℕ) where
  pub allowed_short : (mode : Mode) (q : Prefix) → is_allowed rows mode high q ≡ true → q.len ≤ high
  allowed_short Exact q e = leb-true q.len high (and_parts (nat_le q.len high) (list_any (λ p. same_prefix p q) rows) e).0
  allowed_short More q e = leb-true q.len high (and_parts (nat_le q.len high) (list_any (λ p. nat_le p.len high && covers p q) rows) e).0

  -- in `Exact`
  pub exact_row : (q : Prefix) → is_allowed rows Exact high q ≡ true → Contains rows q
  exact_row q e =
      let some = passing (λ p. same_prefix p q) rows (and_parts (nat_le q.len high) (list_any (λ p. same_prefix p q) rows) e).1 in
      subst (Contains rows) (same_says some.0 q some.2) some.1

  pub row_exact : (q : Prefix) → Contains rows q → q.len ≤ high → is_allowed rows Exact high q ≡ true
  row_exact q there short = and_from (nat_le q.len high) (list_any (λ p. same_prefix p q) rows) (le-leb q.len high short) (passed (λ p. same_prefix p q) rows q there (same_itself q))

  -- in `More`
  pub record IsOver (q r : Prefix) : Type 0 where
    pub row : Contains rows r
    pub short : r.len ≤ high
    pub over : covers r q ≡ true

  pub more_row : (q : Prefix) → is_allowed rows More high q ≡ true → (r : Prefix) × IsOver q r
  more_row q e =
      let some = passing (λ p. nat_le p.len high && covers p q) rows (and_parts (nat_le q.len high) (list_any (λ p. nat_le p.len high && covers p q) rows) e).1 in
      let two = and_parts (nat_le some.0.len high) (covers some.0 q) some.2 in
      (some.0, record { row = some.1; short = leb-true some.0.len high two.0; over = two.1 })

  pub row_more : (q r : Prefix) → IsOver q r → q.len ≤ high → is_allowed rows More high q ≡ true
  row_more q r is short =
      and_from (nat_le q.len high) (list_any (λ p. nat_le p.len high && covers p q) rows) (le-leb q.len high short)
      (passed (λ p. nat_le p.len high && covers p q) rows r is.row (and_from (nat_le r.len high) (covers r q) (le-leb r.len high is.short) is.over))

  -- what an allowed prefix covers is allowed
  pub allowed_below : (p q : Prefix) → is_allowed rows More high p ≡ true → covers p q ≡ true → q.len ≤ high → is_allowed rows More high q ≡ true
  allowed_below p q e over short =
      let some = more_row p e in
      let is : IsOver q some.0 = record { row = some.1.row; short = some.1.short; over = covers_chain some.0 p q some.1.over over } in
      row_more q some.0 is short

  pub new_allowed : (mode : Mode) (q : Prefix) → IsNew rows mode high q → is_allowed rows mode high q ≡ true
  new_allowed Exact q new = new
  new_allowed More q new = new.0

  -- in `More` no new prefix lies in another one that is allowed
  pub new_apart : (a q : Prefix) → is_allowed rows More high a ≡ true → covers a q ≡ true → IsNew rows More high q → a ≡ q
  new_apart a q e over new = by (cases_lt a.len q.len) where
    by : (a.len < q.len) ⊎ (q.len ≤ a.len) → a ≡ q
    by (inr le) = covers_equal a q over (let low : a.len ≤ q.len = (covers_says a q over).len in omega arith)
    by (inl less) =
        let parent : IsParent q (front q (q.len - 1)) = front_parent q (omega arith) in
        let len : (front q (q.len - 1)).len + 1 ≡ q.len = parent.0 in
        let between : covers a (front q (q.len - 1)) ≡ true = covers_between a (front q (q.len - 1)) q over parent.1 (omega arith) in
        let short : q.len ≤ high = allowed_short More q new.0 in
        let yes_ : is_allowed rows More high (front q (q.len - 1)) ≡ true = allowed_below a (front q (q.len - 1)) e between (omega arith) in
        let no_ : is_allowed rows More high (front q (q.len - 1)) ≡ false = new.1 (front q (q.len - 1)) parent in
        absurd (let h : ⊥ = cc in h)

  -- a new prefix is a row
  pub new_row : (mode : Mode) (q : Prefix) → IsNew rows mode high q → Contains rows q
  new_row Exact q new = exact_row q new
  new_row More q new =
      let some = more_row q new.0 in
      let itself : IsOver some.0 some.0 = record { row = some.1.row; short = some.1.short; over = covers_itself some.0 } in
      let allowed : is_allowed rows More high some.0 ≡ true = row_more some.0 some.0 itself some.1.short in
      subst (Contains rows) (new_apart some.0 q allowed some.1.over new) some.1.row

  -- the test decides it
  more_says : (q : Prefix) → is_new rows More high q ≡ true → IsNew rows More high q
  more_says q e = by (or_cases (q.len == 0) (not (is_allowed rows More high (front q (q.len - 1)))) parts.1) where
    parts : (is_allowed rows More high q ≡ true) × ((q.len == 0 || not (is_allowed rows More high (front q (q.len - 1)))) ≡ true)
    parts = and_parts (is_allowed rows More high q) (q.len == 0 || not (is_allowed rows More high (front q (q.len - 1)))) e

    by : ((q.len == 0) ≡ true) ⊎ (not (is_allowed rows More high (front q (q.len - 1))) ≡ true) → IsNew rows More high q
    by (inl top) = (parts.0, λ p parent. let len : p.len + 1 ≡ q.len = parent.0 in let z : q.len ≡ 0 = eqb-true q.len 0 top in absurd (omega arith))
    by (inr apart) = (parts.0, λ p parent. subst (λ x. is_allowed rows More high x ≡ false) (sym (parent_is q p parent)) (not-true (is_allowed rows More high (front q (q.len - 1))) apart))

  more_from : (q : Prefix) → IsNew rows More high q → is_new rows More high q ≡ true
  more_from q new = and_from (is_allowed rows More high q) (q.len == 0 || not (is_allowed rows More high (front q (q.len - 1)))) new.0 (by (cases_lt 0 q.len)) where
    by : (0 < q.len) ⊎ (q.len ≤ 0) → (q.len == 0 || not (is_allowed rows More high (front q (q.len - 1)))) ≡ true
    by (inl some) = or_right (q.len == 0) (not (is_allowed rows More high (front q (q.len - 1)))) (not_from_false (is_allowed rows More high (front q (q.len - 1))) (new.1 (front q (q.len - 1)) (front_parent q some)))
    by (inr none) = or_left (q.len == 0) (not (is_allowed rows More high (front q (q.len - 1)))) (eq-eqb q.len 0 (omega arith))

  pub decides_new : (mode : Mode) (q : Prefix) → Decides (is_new rows mode high q) (IsNew rows mode high q)
  decides_new Exact q = (λ e. e, λ e. e)
  decides_new More q = (more_says q, more_from q)
