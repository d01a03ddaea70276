-- Sets: all elements of one kind (BIRD 2 User's Guide, chapter "Filters", data types).
use Rattle.std.specs.Prelude.{ℕ, Bool, true, false, ◌&&◌, ◌||◌, nat_le, nat_lt, List, [], ◌∷◌, ◌++◌, Option, Some, None, if◌then◌else◌}
use Rattle.std.specs.Option.{is_none}
use Rattle.ixp_num.specs.declared.prefix.Prefix.{Prefix}
use Rattle.ixp_num.specs.declared.pattern.Pattern.{Pattern}
use Rattle.ixp_num.specs.Families.{bits_of}
use Rattle.ixp_lang.specs.declared.value.SetLit.{SetLit}
use Rattle.ixp_lang.specs.declared.value.SetLit.TheVariants as set
use Rattle.ixp_lang_tokens.specs.declared.fault.Cause.{Cause}
use Rattle.ixp_lang_tokens.specs.declared.fault.Cause.TheVariants.{Number, Unknown}
use Rattle.ixp_lang_tokens.specs.declared.token.Kind.{Kind}
use Rattle.ixp_lang_tokens.specs.declared.token.Kind.TheVariants as kind
use Rattle.ixp_lang_tokens.specs.declared.token.Mark.TheVariants.{Comma, Range, Open, Close, BlockOpen, BlockClose, SetOpen, SetClose, Plus, Minus, Star}
use Rattle.ixp_lang_tokens.specs.Grammars.{Grammar, gives, takes, sequence, choice, checks, here}
use Rattle.ixp_lang_tokens.specs.Pieces.{the_mark, is_mark, behind, a_name, a_number, an_addr}
use Rattle.ixp_lang_exprs.specs.declared.types.ValueType.{ValueType}
use Rattle.ixp_lang_exprs.specs.declared.types.ValueType.TheVariants.{IntSet, IpSet, PrefixSet, PairSet, TripleSet}
use Rattle.ixp_lang_exprs.specs.declared.elements.Arity.{Arity}
use Rattle.ixp_lang_exprs.specs.declared.elements.Arity.TheVariants as arity
use Rattle.ixp_lang_exprs.specs.declared.elements.Tuple.{Tuple}
use Rattle.ixp_lang_exprs.specs.declared.elements.Tuple.TheVariants as tuple
use Rattle.ixp_lang_exprs.specs.Names.{Names, number_of}
use Rattle.ixp_lang_exprs.specs.Lists.{never, only, ended, listed, deepened}

-- a fault where something is missing
abbrev pub if_missing : {A : Type 0} → Option A → Cause × ℕ → Option (Cause × ℕ)
if_missing (Some x) fault = None
if_missing None fault = Some fault

abbrev pub unless_so : Bool → Cause × ℕ → Option (Cause × ℕ)
unless_so true fault = None
unless_so false fault = Some fault

abbrev pub or_zero : Option ℕ → ℕ
or_zero (Some n) = n
or_zero None = 0

-- a number, or the name of a defined one
abbrev pub numeral : Names → Grammar ℕ
numeral names =
    choice a_number (here (λ left. sequence a_name (λ name. checks
    (if_missing (number_of (names name)) (Unknown, left)) (gives (or_zero (number_of (names name)))))))

-- a number, or a range of numbers
abbrev pub range : Names → Grammar (ℕ × ℕ)
range names =
    sequence (numeral names) (λ low.
    choice (sequence (the_mark Range) (λ tt. sequence (numeral names) (λ high. gives (low, high))))
    (gives (low, low)))

abbrev pub prefix_in : Kind → Option Prefix
prefix_in (kind.Prefix prefix) = Some prefix
prefix_in _ = None

abbrev pub made_pattern : Prefix → ℕ → ℕ → Pattern
made_pattern prefix low high = record { prefix = prefix; low = low; high = high }

-- a length from the lowest one to the highest one that is lawful there
abbrev pub bounded_length : ℕ → ℕ → Grammar ℕ
bounded_length lowest highest =
    here (λ left. sequence a_number (λ n. checks
    (unless_so (nat_le lowest n && nat_le n highest) (Number, left)) (gives n)))

-- the bounds in braces behind a prefix
abbrev pub bounds : Prefix → Grammar Pattern
bounds prefix =
    sequence (bounded_length 0 (bits_of prefix.family)) (λ low.
    sequence (the_mark Comma) (λ tt.
    sequence (bounded_length low (bits_of prefix.family)) (λ high.
    ended BlockClose (made_pattern prefix low high))))

-- `{low,high}`, `+` from the prefix's own length to the longest, `-` from 0 to its own, or its own alone
abbrev pub pattern_end : Prefix → Grammar Pattern
pattern_end prefix =
    choice (sequence (the_mark BlockOpen) (λ tt. bounds prefix))
    (choice (ended Plus (made_pattern prefix prefix.len (bits_of prefix.family)))
    (choice (ended Minus (made_pattern prefix 0 prefix.len))
    (gives (made_pattern prefix prefix.len prefix.len))))

abbrev pub set_pattern_form : Grammar Pattern
set_pattern_form = sequence (takes prefix_in) pattern_end

-- Pairs and triples.

-- a part of a pair is at most 65535 (RFC 1997)
abbrev pub too_great : ℕ → ℕ → Option (Cause × ℕ)
too_great n left = unless_so (nat_le n 65535) (Number, left)

abbrev pub part_too_great : Option ℕ → ℕ → Option (Cause × ℕ)
part_too_great None left = None
part_too_great (Some n) left = too_great n left

-- a number is too great for a part of a pair
abbrev pub has_great_part : ℕ → ℕ → Bool
has_great_part first second = nat_lt 65535 first || nat_lt 65535 second

-- the end of a pair of these parts, at whose places so many tokens were left
abbrev pub pair_end : ℕ → ℕ → Option ℕ → ℕ → Grammar Tuple
pair_end first at second at_second =
    sequence (the_mark Close) (λ tt. checks (too_great first at)
    (checks (part_too_great second at_second) (gives (tuple.Pair first second))))

-- the third part of a triple, and its end
abbrev pub triple_end : Names → ℕ → ℕ → Grammar Tuple
triple_end names a b =
    choice (sequence (the_mark Star) (λ tt. ended Close (tuple.Triple a b None)))
    (sequence (numeral names) (λ c. ended Close (tuple.Triple a b (Some c))))

-- whether the tuples of the set so far let this one be of the kind
abbrev pub may_be_pair : Option Arity → Bool
may_be_pair (Some arity.Triple) = false
may_be_pair _ = true

abbrev pub may_be_triple : Option Arity → Bool
may_be_triple (Some arity.Pair) = false
may_be_triple _ = true

-- What is behind the second part, a number. A pair among triples is out of place at its end, unless a part is
-- too great for any pair, which has the lower code.
abbrev pub second_end : Names → Option Arity → ℕ → ℕ → ℕ → ℕ → Grammar Tuple
second_end names wanted first at second at_second =
    choice (only (may_be_triple wanted) (sequence (the_mark Comma) (λ tt. triple_end names first second)))
    (only (may_be_pair wanted || has_great_part first second) (pair_end first at (Some second) at_second))

-- what follows a star as the second part of a pair, if one is next
abbrev pub star_in : Option Arity → List Kind → Option (List Kind)
star_in wanted tokens = if may_be_pair wanted then behind (is_mark Star) tokens else None

-- the tuple from its second part on
abbrev pub tuple_end : Names → Option Arity → ℕ → ℕ → Grammar Tuple
tuple_end names wanted first at =
    here (λ at_second.
    choice (only (may_be_pair wanted) (sequence (the_mark Star) (λ tt. pair_end first at None at_second)))
    (sequence (numeral names) (λ second. second_end names wanted first at second at_second)))

-- a tuple; its parenthesis is a level
abbrev pub tuple_form : Names → Bool → Option Arity → Grammar Tuple
tuple_form names is_level_left wanted =
    deepened is_level_left Open (here (λ at. sequence (numeral names)
    (λ first. sequence (the_mark Comma) (λ tt. tuple_end names wanted first at))))

-- which tuples a set has, by those read so far
abbrev pub arity_of : List Tuple → Option Arity
arity_of [] = None
arity_of (tuple.Pair a b ∷ ts) = Some arity.Pair
arity_of (tuple.Triple a b c ∷ ts) = Some arity.Triple

abbrev pub pairs_in : List Tuple → List (ℕ × Option ℕ)
pairs_in [] = []
pairs_in (tuple.Pair a b ∷ ts) = (a, b) ∷ pairs_in ts
pairs_in (tuple.Triple a b c ∷ ts) = pairs_in ts

abbrev pub triples_in : List Tuple → List (ℕ × ℕ × Option ℕ)
triples_in [] = []
triples_in (tuple.Pair a b ∷ ts) = triples_in ts
triples_in (tuple.Triple a b c ∷ ts) = (a, b, c) ∷ triples_in ts

abbrev pub tuples_set : Option Arity → List Tuple → SetLit × ValueType
tuples_set (Some arity.Triple) ts = (set.Triples (triples_in ts), TripleSet)
tuples_set _ ts = (set.Pairs (pairs_in ts), PairSet)

abbrev pub range_set : Names → Grammar (SetLit × ValueType)
range_set names = sequence (listed (λ before. range names)) (λ rs. ended SetClose (set.Ints rs, IntSet))

abbrev pub addr_set : Grammar (SetLit × ValueType)
addr_set = sequence (listed (λ before. an_addr)) (λ addrs. ended SetClose (set.Ips addrs, IpSet))

abbrev pub pattern_set : Grammar (SetLit × ValueType)
pattern_set = sequence (listed (λ before. set_pattern_form))
    (λ ts. ended SetClose (set.Prefixes ts, PrefixSet))

abbrev pub tuple_set : Names → Bool → Grammar (SetLit × ValueType)
tuple_set names is_level_left =
    sequence (listed (λ before. tuple_form names is_level_left (arity_of before)))
    (λ ts. ended SetClose (tuples_set (arity_of ts) ts))

-- the elements of a set and its end, with the set's type
abbrev pub elements : Names → Bool → Grammar (SetLit × ValueType)
elements names is_level_left =
    choice (range_set names) (choice addr_set (choice pattern_set (tuple_set names is_level_left)))
