-- Sets and what stands in them, and what they are with more levels.
use Rattle.std.proofs.Common.{ℕ, Bool, true, ◌||◌, [], ◌∷◌, Option, Some, None, refl}
use Rattle.ixp_num.specs.declared.prefix.Prefix.{Prefix}
use Rattle.ixp_lang_tokens.specs.declared.token.Kind.TheVariants as kind
use Rattle.ixp_lang_tokens.specs.declared.token.Mark.TheVariants.{Comma, Range, Open, Close, BlockOpen, BlockClose, SetClose, Plus, Minus, Star}
use Rattle.ixp_lang_tokens.specs.Grammars.{takes, sequence, choice}
use Rattle.ixp_lang_tokens.specs.Pieces.{the_mark}
use Rattle.ixp_lang_exprs.specs.Lists.{only}
use Rattle.ixp_lang_tokens.proofs.Fronts.{marked, number, prefix}
use Rattle.ixp_lang_tokens.proofs.Looks.{token_look}
use Rattle.ixp_lang_tokens.proofs.Whole.{Whole, part_of, whole_gives, whole_takes, whole_sequence, whole_then, whole_left, whole_right, whole_choice, whole_checks, whole_here, whole_wider}
use Rattle.ixp_lang_exprs.specs.declared.elements.Arity.{Arity}
use Rattle.ixp_lang_exprs.specs.declared.elements.Arity.TheVariants as arity
use Rattle.ixp_lang_exprs.specs.Names.{Names}
use Rattle.ixp_lang_exprs.specs.Sets.{numeral, range, prefix_in, bounded_length, bounds, set_pattern_form, pair_end, triple_end, tuple_end, tuple_form, has_great_part, may_be_pair, may_be_triple, elements}
use Rattle.ixp_lang_exprs.proofs.ClearSets.{numeral_starts, range_look, pattern_look, tuple_look, elements_starts, clear_prefix}
use Rattle.ixp_lang_exprs.proofs.WholeLists.{whole_mark, whole_name, whole_number, whole_addr, a_prefix_there, part_never, part_only, whole_ended, whole_deepened, whole_listed}

pub whole_numeral : (names : Names) → Whole (numeral names) (numeral names) (token_look numeral_starts) []
whole_numeral names = whole_choice whole_number (whole_here (λ left. whole_then whole_name (λ n. whole_checks (whole_gives _)))) refl refl

pub whole_range : (names : Names) → Whole (range names) (range names) range_look []
whole_range names =
    whole_then (whole_numeral names) (λ low.
    whole_choice (whole_then (whole_mark Range) (λ x. whole_then (whole_numeral names) (λ high. whole_gives _))) (whole_gives _) refl refl)

pub whole_prefix : Whole (takes prefix_in) (takes prefix_in) (token_look (prefix ∷ [])) []
whole_prefix = whole_takes (kind.Prefix a_prefix_there) a_prefix_there refl clear_prefix

whole_length : (lowest highest : ℕ) → Whole (bounded_length lowest highest) (bounded_length lowest highest) (token_look (number ∷ [])) []
whole_length lowest highest = whole_here (λ left. whole_then whole_number (λ n. whole_checks (whole_gives _)))

whole_bounds : (p : Prefix) → Whole (bounds p) (bounds p) (token_look (number ∷ [])) []
whole_bounds p =
    whole_then (whole_length 0 _) (λ low. whole_then (whole_mark Comma) (λ x. whole_then (whole_length low _) (λ high. whole_ended BlockClose _)))

pub whole_pattern : Whole set_pattern_form set_pattern_form pattern_look []
whole_pattern =
    whole_wider
    (whole_then whole_prefix (λ p.
    whole_choice (whole_then (whole_mark BlockOpen) (λ x. whole_bounds p))
    (whole_choice (whole_ended Plus _) (whole_choice (whole_ended Minus _) (whole_gives _) refl refl) refl refl) refl refl))
    refl refl

whole_pair_end : (first at : ℕ) (second : Option ℕ) (at_second : ℕ) → Whole (pair_end first at second at_second) (pair_end first at second at_second) (token_look (marked Close ∷ [])) []
whole_pair_end first at second at_second = whole_then (whole_mark Close) (λ x. whole_checks (whole_checks (whole_gives _)))

whole_triple_end : (names : Names) (a b : ℕ) → Whole (triple_end names a b) (triple_end names a b) (token_look (marked Star ∷ numeral_starts)) []
whole_triple_end names a b =
    whole_choice (whole_then (whole_mark Star) (λ x. whole_ended Close _)) (whole_then (whole_numeral names) (λ c. whole_ended Close _)) refl refl

-- the end of a tuple behind its second part: a pair's, or a triple's
second_end : (names : Names) (wanted : Option Arity) (first at second at_second : ℕ)
    → Whole (choice (only (may_be_triple wanted) (sequence (the_mark Comma) (λ x. triple_end names first second))) (only (may_be_pair wanted || has_great_part first second) (pair_end first at (Some second) at_second)))
    (choice (only (may_be_triple wanted) (sequence (the_mark Comma) (λ x. triple_end names first second))) (only (may_be_pair wanted || has_great_part first second) (pair_end first at (Some second) at_second)))
    (token_look (marked Comma ∷ marked Close ∷ [])) []
second_end names None first at second at_second =
    whole_choice (whole_then (whole_mark Comma) (λ x. whole_triple_end names first second)) (whole_pair_end first at (Some second) at_second) refl refl
second_end names (Some arity.Triple) first at second at_second =
    whole_left (whole_then (whole_mark Comma) (λ x. whole_triple_end names first second))
    (part_only (has_great_part first second) (part_of (whole_pair_end first at (Some second) at_second))) refl refl
second_end names (Some arity.Pair) first at second at_second =
    whole_right (part_never (token_look (marked Comma ∷ [])) []) (whole_pair_end first at (Some second) at_second) refl refl

whole_tuple_end : (names : Names) (wanted : Option Arity) (first at : ℕ) → Whole (tuple_end names wanted first at) (tuple_end names wanted first at) (token_look (marked Star ∷ numeral_starts)) []
whole_tuple_end names wanted first at =
    whole_here (λ at_second.
    whole_right (part_only (may_be_pair wanted) (part_of (whole_then (whole_mark Star) (λ x. whole_pair_end first at None at_second))))
    (whole_then (whole_numeral names) (λ second. second_end names wanted first at second at_second)) refl refl)

pub whole_tuple : (names : Names) (is_level_left : Bool) (wanted : Option Arity) → Whole (tuple_form names is_level_left wanted) (tuple_form names true wanted) tuple_look []
whole_tuple names is_level_left wanted =
    whole_deepened is_level_left Open
    (whole_here (λ at. whole_then (whole_numeral names) (λ first. whole_then (whole_mark Comma) (λ x. whole_tuple_end names wanted first at))))

-- the elements of a set end with a mark of their own
pub whole_elements : (names : Names) (is_level_left : Bool) → Whole (elements names is_level_left) (elements names true) (token_look elements_starts) []
whole_elements names is_level_left =
    whole_choice (whole_sequence (whole_listed _ _ _ _ (λ before. whole_range names) refl) (λ rs. whole_ended SetClose _) refl refl)
    (whole_choice (whole_sequence (whole_listed _ _ _ _ (λ before. whole_addr) refl) (λ addrs. whole_ended SetClose _) refl refl)
    (whole_choice (whole_sequence (whole_listed _ _ _ _ (λ before. whole_pattern) refl) (λ ts. whole_ended SetClose _) refl refl)
    (whole_sequence (whole_listed _ _ _ _ (λ before. whole_tuple names is_level_left _) refl) (λ ts. whole_ended SetClose _) refl refl)
    refl refl) refl refl) refl refl
