-- The sets that a text spells fit.
use Rattle.std.proofs.Common.{◌≡◌, ℕ, ◌≤◌, Bool, true, false, ◌&&◌, ◌||◌, nat_le, List, [], ◌∷◌, Option, Some, None, refl, arith}
use Rattle.std.specs.List.{list_all}
use Rattle.ixp_num.specs.declared.prefix.Prefix.{Prefix}
use Rattle.ixp_num.specs.declared.pattern.Pattern.{Pattern}
use Rattle.ixp_num.specs.Families.{bits_of}
use Rattle.ixp_lang.specs.declared.value.SetLit.{SetLit}
use Rattle.ixp_lang_tokens.specs.declared.token.Mark.TheVariants as mark
use Rattle.ixp_lang_tokens.specs.Pieces.{an_addr}
use Rattle.ixp_lang_exprs.specs.declared.types.ValueType.{ValueType}
use Rattle.ixp_lang_exprs.specs.Names.{Names}
use Rattle.ixp_lang_exprs.specs.Lists.{listed}
use Rattle.ixp_lang_exprs.specs.Sets.{numeral, range, bounded_length, bounds, set_pattern_form, part_too_great, pair_end, triple_end, has_great_part, may_be_pair, may_be_triple, second_end, tuple_end, tuple_form, arity_of, pairs_in, tuples_set, elements}
use Rattle.ixp_lang_exprs.proofs.SetTuples.{SetTuple, of_two, of_three}
use Rattle.ixp_lang_laws.specs.Sound.{is_left, set_type, is_lawful, is_small, is_small_pair, set_fits}
use Rattle.ixp_lang_laws.proofs.SaidBasics.{both, all_pass, is_so}
use Rattle.ixp_lang_laws.proofs.Saying.{Says, Any, says_gives, says_token, says_sequence, says_then, says_choice, says_checks, says_bars, says_here, says_mark, says_number, says_name, says_never, says_only, says_ended, AreAll, AreSome, says_listed}
use Rattle.ixp_lang_laws.proofs.Sets.{both_le}

-- Tuples.

pub small_part : (n : Option ℕ) (left : ℕ) → part_too_great n left ≡ None → is_small n ≡ true
small_part None left e = refl
small_part (Some n) left e = is_so (nat_le n 65535) _ e

-- a pair has small parts; the parenthesis of each tuple is a level
abbrev IsTuple : Bool → SetTuple → Type 0
IsTuple left (of_two a b) = (left ≡ true) × (is_small_pair (a, b) ≡ true)
IsTuple left (of_three a b c) = left ≡ true

module _ (names : Names) where
  says_numeral : Says (numeral names) Any
  says_numeral = says_choice says_number (says_here (λ left. says_then says_name (λ name. says_checks (λ found. says_gives tt))))

  says_range : Says (range names) Any
  says_range = says_then says_numeral (λ low. says_choice (says_then (says_mark mark.Range) (λ x. says_then says_numeral (λ high. says_gives tt))) (says_gives tt))

  says_pair_end : (first at : ℕ) (second : Option ℕ) (place : ℕ) → Says (pair_end first at second place) (IsTuple true)
  says_pair_end first at second place =
      says_then (says_mark mark.Close) (λ x.
      says_checks (λ one. says_checks (λ two. says_gives (refl, both (is_so (nat_le first 65535) _ one) (small_part second place two)))))

  says_triple_end : (a b : ℕ) → Says (triple_end names a b) (IsTuple true)
  says_triple_end a b =
      says_choice (says_then (says_mark mark.Star) (λ x. says_ended mark.Close refl)) (says_then says_numeral (λ c. says_ended mark.Close refl))

  says_second_end : (before : List SetTuple) (first at second place : ℕ) → Says (second_end names (arity_of before) first at second place) (IsTuple true)
  says_second_end before first at second place =
      says_choice (says_only (may_be_triple (arity_of before)) (says_then (says_mark mark.Comma) (λ x. says_triple_end first second)))
      (says_only (may_be_pair (arity_of before) || has_great_part first second) (says_pair_end first at (Some second) place))

  says_tuple_end : (before : List SetTuple) (first at : ℕ) → Says (tuple_end names (arity_of before) first at) (IsTuple true)
  says_tuple_end before first at =
      says_here (λ place.
      says_choice (says_only (may_be_pair (arity_of before)) (says_then (says_mark mark.Star) (λ x. says_pair_end first at None place)))
      (says_then says_numeral (λ second. says_second_end before first at second place)))

  says_tuple : (left : Bool) (before : List SetTuple) → Says (tuple_form names left (arity_of before)) (IsTuple left)
  says_tuple true before =
      says_then (says_mark mark.Open) (λ x. says_here (λ at. says_then says_numeral (λ first. says_then (says_mark mark.Comma) (λ y. says_tuple_end before first at))))
  says_tuple false before = says_bars says_never

-- Prefixes.

abbrev IsLength : ℕ → ℕ → ℕ → Type 0
IsLength lowest highest n = (nat_le lowest n && nat_le n highest) ≡ true

says_length : (lowest highest : ℕ) → Says (bounded_length lowest highest) (IsLength lowest highest)
says_length lowest highest = says_here (λ left. says_then says_number (λ n. says_checks (λ fit. says_gives (is_so (nat_le lowest n && nat_le n highest) _ fit))))

abbrev IsLawful : Pattern → Type 0
IsLawful p = is_lawful p ≡ true

says_bounds : (p : Prefix) → Says (bounds p) IsLawful
says_bounds p =
    says_sequence (says_length 0 (bits_of p.family)) (λ low one.
    says_then (says_mark mark.Comma) (λ x. says_sequence (says_length low (bits_of p.family)) (λ high two. says_ended mark.BlockClose two)))

says_pattern : Says set_pattern_form IsLawful
says_pattern =
    says_then (says_token _) (λ p.
    let short : p.len ≤ bits_of p.family = p.short in
    says_choice (says_then (says_mark mark.BlockOpen) (λ x. says_bounds p))
    (says_choice (says_ended mark.Plus (both_le p.len (bits_of p.family) (bits_of p.family) short (omega arith)))
    (says_choice (says_ended mark.Minus (both_le 0 p.len (bits_of p.family) (omega arith) short))
    (says_gives (both_le p.len p.len (bits_of p.family) (omega arith) short)))))

-- Sets.

-- a set fits wherever a level is left if one was
abbrev pub IsSet : Bool → SetLit × ValueType → Type 0
IsSet left s = (set_type s.0 ≡ s.1) × ((m : ℕ) → (left ≡ true → is_left m ≡ true) → set_fits m s.0 ≡ true)

small_pairs : (left : Bool) (ts : List SetTuple) → AreAll (IsTuple left) ts → list_all is_small_pair (pairs_in ts) ≡ true
small_pairs left [] all = refl
small_pairs left (of_two a b ∷ ts) (one, all) = both one.1 (small_pairs left ts all)
small_pairs left (of_three a b c ∷ ts) (one, all) = small_pairs left ts all

tuples_fit : (left : Bool) (ts : List SetTuple) → AreSome (IsTuple left) ts → IsSet left (tuples_set (arity_of ts) ts)
tuples_fit left [] (some, all) = absurd cc
tuples_fit left (of_two a b ∷ ts) (some, all) = (refl, λ m levels. both (both refl (levels all.0.0)) (small_pairs left (of_two a b ∷ ts) all))
tuples_fit left (of_three a b c ∷ ts) (some, all) = (refl, λ m levels. both refl (levels all.0))

-- what is said between the brackets of a set fits
pub says_elements : (names : Names) (left : Bool) → Says (elements names left) (IsSet left)
says_elements names left =
    says_choice (says_sequence (says_listed (λ before. says_range names)) (λ rs all. says_ended mark.SetClose (refl, λ m levels. all.0)))
    (says_choice (says_sequence says_addrs (λ addrs all. says_ended mark.SetClose (refl, λ m levels. all.0)))
    (says_choice (says_sequence (says_listed (λ before. says_pattern)) (λ ts all. says_ended mark.SetClose (refl, λ m levels. both all.0 (all_pass is_lawful ts all.1))))
    (says_sequence (says_listed (λ before. says_tuple names left before)) (λ ts all. says_ended mark.SetClose (tuples_fit left ts all)))))
  where
    says_addrs : Says (listed (λ before. an_addr)) (AreSome Any)
    says_addrs = says_listed (λ before. says_token _)
