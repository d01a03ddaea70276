-- The new prefixes are the short rows, in `More` those that no other one covers.
use Rattle.std.proofs.Common.{◌≡◌, ◌≤◌, ◌<◌, ◌+◌, ℕ, Bool, true, false, not, ◌&&◌, ◌↔◌, List, ◌⊎◌, inl, inr, sym, subst, arith}
use Rattle.std.specs.Prelude.{nat_le}
use Rattle.std.specs.List.{Contains, filter}
use Rattle.std.specs.List.Sorted.{IsPermutation}
use Rattle.std.proofs.lemmas.Bool.{leb-true, le-leb, not-true, not_from_false, false_from_ne_true}
use Rattle.std.proofs.lemmas.List.Sorted.{Contains-permutation, IsPermutation-sym}
use Rattle.ixp_num.specs.declared.prefix.Prefix.{Prefix}
use Rattle.ixp_pfxset.specs.Blocks.{is_allowed, IsNew}
use Rattle.ixp_pfxset.specs.Plain.{is_within}
use Rattle.ixp_pfxset.specs.declared.mode.Mode.TheVariants.{Exact, More}
use Rattle.ixp_pfxset.proofs.Allowing.{allowed_short, exact_row, row_exact, more_row, row_more, new_row, new_apart}
use Rattle.ixp_pfxset.proofs.Covering.{covers_itself, covers_chain, covers_says}
use Rattle.ixp_pfxset.proofs.Members.{kept, stays}
use Rattle.ixp_pfxset.proofs.Within.{within_says, within_from}

module _ (rows list : List Prefix) (high : ℕ) (moved : IsPermutation (filter (λ r. nat_le r.len high) rows) list) where
  short_says : (q : Prefix) → Contains list q → Contains rows q × (q.len ≤ high)
  short_says q there =
      let both = kept (λ r. nat_le r.len high) q rows (Contains-permutation list (filter (λ r. nat_le r.len high) rows) q (IsPermutation-sym (filter (λ r. nat_le r.len high) rows) list moved) there) in
      (both.0, leb-true q.len high both.1)

  short_from : (q : Prefix) → Contains rows q → q.len ≤ high → Contains list q
  short_from q there short = Contains-permutation (filter (λ r. nat_le r.len high) rows) list q moved (stays (λ r. nat_le r.len high) q rows there (le-leb q.len high short))

  pub exact_new : (q : Prefix) → Contains list q ↔ IsNew rows Exact high q
  exact_new q = (
    (λ there. let both = short_says q there in row_exact rows high q both.0 both.1),
    (λ new. short_from q (exact_row rows high q new) (allowed_short rows high Exact q new)),
  )

  list_allowed : (p : Prefix) → Contains list p → is_allowed rows More high p ≡ true
  list_allowed p there =
      let both = short_says p there in
      row_more rows high p p (record { row = both.0; short = both.1; over = covers_itself p }) both.1

  more_says : (q : Prefix) → Contains list q → is_within list q ≡ false → IsNew rows More high q
  more_says q there none = (
    list_allowed q there,
    λ p parent. false_from_ne_true (is_allowed rows More high p) (λ e.
        let some = more_row rows high p e in
        let len : p.len + 1 ≡ q.len = parent.0 in
        let le : some.0.len ≤ p.len = (covers_says some.0 p some.1.over).len in
        let yes_ : is_within list q ≡ true = within_from list some.0 q (short_from some.0 some.1.row some.1.short) (omega arith) (covers_chain some.0 p q some.1.over parent.1) in
        let h : ⊥ = cc in h),
  )

  more_from : (q : Prefix) → IsNew rows More high q → Contains list q × (is_within list q ≡ false)
  more_from q new = (
    short_from q (new_row rows high More q new) (allowed_short rows high More q new.0),
    false_from_ne_true (is_within list q) (λ e.
        let some = within_says list q e in
        let same : some.0 ≡ q = new_apart rows high some.0 q (list_allowed some.0 some.1) some.3 new in
        let len : some.0.len ≡ q.len = Rattle.std.proofs.Common.ap (λ (p : Prefix). p.len) same in
        let less : some.0.len < q.len = some.2 in
        let h : ⊥ = omega arith in h),
  )

  pub more_new : (outer : List Prefix) → outer ≡ filter (λ r. not (is_within list r)) list → (q : Prefix) → Contains outer q ↔ IsNew rows More high q
  more_new outer is q = (
    (λ there.
        let both = kept (λ r. not (is_within list r)) q list (subst (λ xs. Contains xs q) is there) in
        more_says q both.0 (not-true (is_within list q) both.1)),
    (λ new.
        let both = more_from q new in
        subst (λ xs. Contains xs q) (sym is) (stays (λ r. not (is_within list r)) q list both.0 (not_from_false (is_within list q) both.1))),
  )
