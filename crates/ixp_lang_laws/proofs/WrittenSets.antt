-- What written tokens say of sets is written again.
use Rattle.std.proofs.Common.{ℕ, Bool, true, false, ◌&&◌, ◌||◌, ◌==◌, List, [], ◌∷◌, Option, Some, None, arith, if◌then◌else◌}
use Rattle.ixp_num.specs.declared.addr.Addr.{Addr}
use Rattle.ixp_num.specs.declared.prefix.Prefix.{Prefix}
use Rattle.ixp_num.specs.declared.pattern.Pattern.{Pattern}
use Rattle.ixp_num.specs.declared.family.Family.{Family}
use Rattle.ixp_num.specs.declared.family.Family.TheVariants.{V4, V6}
use Rattle.ixp_num.specs.Families.{bits_of}
use Rattle.ixp_lang.specs.declared.value.SetLit.{SetLit}
use Rattle.ixp_lang_tokens.specs.declared.token.Mark.TheVariants as mark
use Rattle.ixp_lang_exprs.specs.Names.{Names, number_of}
use Rattle.ixp_lang_tokens.specs.Pieces.{an_addr}
use Rattle.ixp_lang_exprs.specs.Lists.{listed}
use Rattle.ixp_lang_exprs.specs.Sets.{or_zero, numeral, range, bounded_length, bounds, set_pattern_form, pair_end, triple_end, has_great_part, may_be_pair, may_be_triple, second_end, tuple_end, tuple_form, arity_of, pairs_in, triples_in, tuples_set, elements}
use Rattle.ixp_lang_exprs.proofs.SetTuples.{SetTuple, of_two, of_three}
use Rattle.ixp_lang_laws.specs.Canonical.{number, sign, range_tokens, part_tokens, addr_tokens, pattern_tokens, pair_tokens, triple_tokens, elements_tokens}
use Rattle.ixp_lang_laws.specs.Printed.{AreWritten}
use Rattle.ixp_lang_laws.proofs.Keeping.{Keeps, Any, keeps_gives, keeps_token, keeps_sequence, keeps_then, keeps_choice, keeps_checks, keeps_bars, keeps_here, keeps_weaker, keeps_mark, keeps_never, keeps_only, keeps_ended, IsNumber, keeps_number, keeps_name, AreAll, keeps_listed, Writes, list_writes}

-- each defined number is such as is written
abbrev pub NumberFits : Option ℕ → Type 0
NumberFits None = Unit {0}
NumberFits (Some n) = IsNumber n

abbrev pub NumbersFit : Names → Type 0
NumbersFit names = (name : List ℕ) → NumberFits (number_of (names name))

zero_fits : (n : Option ℕ) → NumberFits n → IsNumber (or_zero n)
zero_fits None fit = omega arith
zero_fits (Some n) fit = fit

abbrev IsRange : ℕ × ℕ → Type 0
IsRange r = IsNumber r.0 × IsNumber r.1

abbrev IsTuple : SetTuple → Type 0
IsTuple (of_two a b) = IsNumber a × NumberFits b
IsTuple (of_three a b c) = IsNumber a × IsNumber b × NumberFits c

module _ (names : Names) (fit : NumbersFit names) where
  pub keeps_numeral : Keeps (numeral names) IsNumber
  keeps_numeral = keeps_choice keeps_number (keeps_here (λ left. keeps_sequence keeps_name (λ name is. keeps_checks (keeps_gives (zero_fits (number_of (names name)) (fit name))))))

  keeps_range : Keeps (range names) IsRange
  keeps_range =
      keeps_sequence keeps_numeral (λ low fits.
      keeps_choice (keeps_then (keeps_mark mark.Range) (λ x. keeps_sequence keeps_numeral (λ high fit_too. keeps_gives (fits, fit_too)))) (keeps_gives (fits, fits)))

  keeps_pair_end : (first at : ℕ) (second : Option ℕ) (place : ℕ) → IsNumber first → NumberFits second → Keeps (pair_end first at second place) IsTuple
  keeps_pair_end first at second place one two = keeps_then (keeps_mark mark.Close) (λ x. keeps_checks (keeps_checks (keeps_gives (one, two))))

  keeps_triple_end : (a b : ℕ) → IsNumber a → IsNumber b → Keeps (triple_end names a b) IsTuple
  keeps_triple_end a b one two =
      keeps_choice (keeps_then (keeps_mark mark.Star) (λ x. keeps_ended mark.Close (one, two, tt)))
      (keeps_sequence keeps_numeral (λ c three. keeps_ended mark.Close (one, two, three)))

  keeps_second_end : (before : List SetTuple) (first at second place : ℕ) → IsNumber first → IsNumber second → Keeps (second_end names (arity_of before) first at second place) IsTuple
  keeps_second_end before first at second place one two =
      keeps_choice (keeps_only (may_be_triple (arity_of before)) (keeps_then (keeps_mark mark.Comma) (λ x. keeps_triple_end first second one two)))
      (keeps_only (may_be_pair (arity_of before) || has_great_part first second) (keeps_pair_end first at (Some second) place one two))

  keeps_tuple_end : (before : List SetTuple) (first at : ℕ) → IsNumber first → Keeps (tuple_end names (arity_of before) first at) IsTuple
  keeps_tuple_end before first at one =
      keeps_here (λ place.
      keeps_choice (keeps_only (may_be_pair (arity_of before)) (keeps_then (keeps_mark mark.Star) (λ x. keeps_pair_end first at None place one tt)))
      (keeps_sequence keeps_numeral (λ second two. keeps_second_end before first at second place one two)))

  keeps_tuple : (is_level_left : Bool) (before : List SetTuple) → Keeps (tuple_form names is_level_left (arity_of before)) IsTuple
  keeps_tuple true before =
      keeps_then (keeps_mark mark.Open) (λ x.
      keeps_here (λ at. keeps_sequence keeps_numeral (λ first one. keeps_then (keeps_mark mark.Comma) (λ y. keeps_tuple_end before first at one))))
  keeps_tuple false before = keeps_bars keeps_never

-- Prefixes.

bits_fit : (f : Family) → IsNumber (bits_of f)
bits_fit V4 = omega arith
bits_fit V6 = omega arith

length_fits : (p : Prefix) → IsNumber p.len
length_fits p = (let short = p.short in let bits = bits_fit p.family in omega arith)

abbrev IsPattern : Pattern → Type 0
IsPattern p = IsNumber p.low × IsNumber p.high

keeps_length : (lowest highest : ℕ) → Keeps (bounded_length lowest highest) IsNumber
keeps_length lowest highest = keeps_here (λ left. keeps_sequence keeps_number (λ n fit. keeps_checks (keeps_gives fit)))

keeps_bounds : (p : Prefix) → Keeps (bounds p) IsPattern
keeps_bounds p =
    keeps_sequence (keeps_length 0 (bits_of p.family)) (λ low one.
    keeps_then (keeps_mark mark.Comma) (λ x. keeps_sequence (keeps_length low (bits_of p.family)) (λ high two. keeps_ended mark.BlockClose (one, two))))

keeps_pattern : Keeps set_pattern_form IsPattern
keeps_pattern =
    keeps_then (keeps_token _) (λ p.
    keeps_choice (keeps_then (keeps_mark mark.BlockOpen) (λ x. keeps_bounds p))
    (keeps_choice (keeps_ended mark.Plus (length_fits p, bits_fit p.family))
    (keeps_choice (keeps_ended mark.Minus (omega arith, length_fits p)) (keeps_gives (length_fits p, length_fits p)))))

-- Sets.

abbrev pub IsSet : SetLit → Type 0
IsSet s = Writes (elements_tokens s)

pub range_writes : (low high : ℕ) → IsNumber low → IsNumber high → Writes (range_tokens (low, high))
range_writes low high one two rest written = by_case (low == high)
  where
    by_case : (b : Bool) → AreWritten (if b then number low rest else number low (sign mark.Range (number high rest)))
    by_case true = (one, written)
    by_case false = (one, (tt, (two, written)))

range_all : (rs : List (ℕ × ℕ)) → AreAll IsRange rs → AreAll (λ r. Writes (range_tokens r)) rs
range_all [] all = tt
range_all (r ∷ rs) (one, all) = (range_writes r.0 r.1 one.0 one.1, range_all rs all)

addr_all : (addrs : List Addr) → AreAll (λ a. Writes (addr_tokens a)) addrs
addr_all [] = tt
addr_all (a ∷ addrs) = (λ rest written. (tt, written), addr_all addrs)

pattern_writes : (p : Pattern) → IsPattern p → Writes (pattern_tokens p)
pattern_writes p (low, high) rest written = (tt, by_case (p.low == p.prefix.len && p.high == p.prefix.len))
  where
    by_case : (b : Bool) → AreWritten (if b then rest else sign mark.BlockOpen (number p.low (sign mark.Comma (number p.high (sign mark.BlockClose rest)))))
    by_case true = written
    by_case false = (tt, (low, (tt, (high, (tt, written)))))

pattern_all : (ts : List Pattern) → AreAll IsPattern ts → AreAll (λ t. Writes (pattern_tokens t)) ts
pattern_all [] all = tt
pattern_all (t ∷ ts) (one, all) = (pattern_writes t one, pattern_all ts all)

part_writes : (n : Option ℕ) → NumberFits n → Writes (part_tokens n)
part_writes None fit rest written = (tt, written)
part_writes (Some n) fit rest written = (fit, written)

pub pair_writes : (a : ℕ) (b : Option ℕ) → IsNumber a → NumberFits b → Writes (pair_tokens (a, b))
pair_writes a b one two rest written = (tt, (one, (tt, part_writes b two (sign mark.Close rest) (tt, written))))

pub triple_writes : (a b : ℕ) (c : Option ℕ) → IsNumber a → IsNumber b → NumberFits c → Writes (triple_tokens (a, b, c))
triple_writes a b c one two three rest written = (tt, (one, (tt, (two, (tt, part_writes c three (sign mark.Close rest) (tt, written))))))

pairs_all : (ts : List SetTuple) → AreAll IsTuple ts → AreAll (λ p. Writes (pair_tokens p)) (pairs_in ts)
pairs_all [] all = tt
pairs_all (of_two a b ∷ ts) (one, all) = (pair_writes a b one.0 one.1, pairs_all ts all)
pairs_all (of_three a b c ∷ ts) (one, all) = pairs_all ts all

triples_all : (ts : List SetTuple) → AreAll IsTuple ts → AreAll (λ t. Writes (triple_tokens t)) (triples_in ts)
triples_all [] all = tt
triples_all (of_two a b ∷ ts) (one, all) = triples_all ts all
triples_all (of_three a b c ∷ ts) (one, all) = (triple_writes a b c one.0 one.1 one.2, triples_all ts all)

tuples_write : (ts : List SetTuple) → AreAll IsTuple ts → IsSet (tuples_set (arity_of ts) ts).0
tuples_write [] all = list_writes pair_tokens [] tt
tuples_write (of_two a b ∷ ts) all = list_writes pair_tokens (pairs_in (of_two a b ∷ ts)) (pairs_all (of_two a b ∷ ts) all)
tuples_write (of_three a b c ∷ ts) all = list_writes triple_tokens (triples_in (of_three a b c ∷ ts)) (triples_all (of_three a b c ∷ ts) all)

keeps_addrs : Keeps (listed (λ before. an_addr)) Any
keeps_addrs = keeps_weaker (λ addrs all. tt) (keeps_listed (λ before. keeps_token _))

-- what a set holds is written again
pub keeps_elements : (names : Names) → NumbersFit names → (is_level_left : Bool) → Keeps (elements names is_level_left) (λ s. IsSet s.0)
keeps_elements names fit is_level_left =
    keeps_choice (keeps_sequence (keeps_listed (λ before. keeps_range names fit)) (λ rs all. keeps_ended mark.SetClose (list_writes range_tokens rs (range_all rs all))))
    (keeps_choice (keeps_then keeps_addrs (λ addrs. keeps_ended mark.SetClose (list_writes addr_tokens addrs (addr_all addrs))))
    (keeps_choice (keeps_sequence (keeps_listed (λ before. keeps_pattern)) (λ ts all. keeps_ended mark.SetClose (list_writes pattern_tokens ts (pattern_all ts all))))
    (keeps_sequence (keeps_listed (λ before. keeps_tuple names fit is_level_left before)) (λ ts all. keeps_ended mark.SetClose (tuples_write ts all)))))
