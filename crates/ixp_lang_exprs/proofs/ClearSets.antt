-- What is known of the grammars of sets and of what stands in them, also of what may not stand behind.
use Rattle.std.proofs.Common.{◌≡◌, ◌||◌, ℕ, Bool, true, List, [], ◌∷◌, Option, Some, None, refl}
use Rattle.std.specs.Option.{is_some}
use Rattle.ixp_num.specs.declared.prefix.Prefix.{Prefix}
use Rattle.ixp_lang_tokens.specs.declared.token.Kind.{Kind}
use Rattle.ixp_lang_tokens.specs.declared.token.Kind.TheVariants as kind
use Rattle.ixp_lang_tokens.specs.declared.token.Mark.TheVariants.{Comma, Range, Open, Close, BlockOpen, BlockClose, SetClose, Plus, Minus, Star}
use Rattle.ixp_lang_tokens.specs.Grammars.{takes}
use Rattle.ixp_lang_tokens.proofs.Fronts.{Front, marked, name, number, addr, prefix, one_of}
use Rattle.ixp_lang_tokens.proofs.Looks.{Look, full_look, token_look}
use Rattle.ixp_lang_tokens.proofs.ClearLooks.{Clearly, clear_gives, clear_takes, clear_mark, clear_name, clear_number, clear_addr, clear_sequence, clear_then, clear_choice, clear_checks, clear_here, clear_wider}
use Rattle.ixp_lang_exprs.specs.declared.elements.Arity.{Arity}
use Rattle.ixp_lang_exprs.specs.Names.{Names}
use Rattle.ixp_lang_exprs.specs.Sets.{numeral, range, prefix_in, bounded_length, bounds, set_pattern_form, pair_end, triple_end, tuple_end, tuple_form, has_great_part, may_be_pair, may_be_triple, elements}
use Rattle.ixp_lang_exprs.proofs.ClearLists.{clear_only, clear_ended, clear_deepened, clear_listed}

abbrev pub numeral_starts : List Front
numeral_starts = number ∷ name ∷ []

pub clear_numeral : (names : Names) → Clearly (numeral names) (token_look numeral_starts) []
clear_numeral names = clear_choice clear_number (clear_here (λ left. clear_then clear_name (λ n. clear_checks (clear_gives _)))) refl refl

abbrev pub range_look : Look
range_look = full_look numeral_starts (marked Range ∷ [])

pub clear_range : (names : Names) → Clearly (range names) range_look []
clear_range names =
    clear_then (clear_numeral names) (λ low.
    clear_choice (clear_then (clear_mark Range) (λ x. clear_then (clear_numeral names) (λ high. clear_gives _))) (clear_gives _) refl refl)

prefix_front : (k : Kind) → is_some (prefix_in k) ≡ true → one_of (prefix ∷ []) k ≡ true
prefix_front (kind.Prefix p) e = refl
prefix_front k e = absurd cc

pub clear_prefix : Clearly (takes prefix_in) (token_look (prefix ∷ [])) []
clear_prefix = clear_takes prefix_in (prefix ∷ []) prefix_front

clear_length : (lowest highest : ℕ) → Clearly (bounded_length lowest highest) (token_look (number ∷ [])) []
clear_length lowest highest = clear_here (λ left. clear_then clear_number (λ n. clear_checks (clear_gives _)))

clear_bounds : (p : Prefix) → Clearly (bounds p) (token_look (number ∷ [])) []
clear_bounds p =
    clear_then (clear_length 0 _) (λ low. clear_then (clear_mark Comma) (λ x. clear_then (clear_length low _) (λ high. clear_ended BlockClose _)))

abbrev pub pattern_look : Look
pattern_look = full_look (prefix ∷ []) (marked BlockOpen ∷ marked Plus ∷ marked Minus ∷ [])

pub clear_pattern : Clearly set_pattern_form pattern_look []
clear_pattern =
    clear_wider
    (clear_then clear_prefix (λ p.
    clear_choice (clear_then (clear_mark BlockOpen) (λ x. clear_bounds p))
    (clear_choice (clear_ended Plus _) (clear_choice (clear_ended Minus _) (clear_gives _) refl refl) refl refl) refl refl))
    refl refl

clear_pair_end : (first at : ℕ) (second : Option ℕ) (at_second : ℕ) → Clearly (pair_end first at second at_second) (token_look (marked Close ∷ [])) []
clear_pair_end first at second at_second = clear_then (clear_mark Close) (λ x. clear_checks (clear_checks (clear_gives _)))

clear_triple_end : (names : Names) (a b : ℕ) → Clearly (triple_end names a b) (token_look (marked Star ∷ numeral_starts)) []
clear_triple_end names a b =
    clear_choice (clear_then (clear_mark Star) (λ x. clear_ended Close _)) (clear_then (clear_numeral names) (λ c. clear_ended Close _)) refl refl

clear_tuple_end : (names : Names) (wanted : Option Arity) (first at : ℕ) → Clearly (tuple_end names wanted first at) (token_look (marked Star ∷ numeral_starts)) []
clear_tuple_end names wanted first at =
    clear_here (λ at_second.
    clear_choice (clear_only (may_be_pair wanted) (clear_then (clear_mark Star) (λ x. clear_pair_end first at None at_second)))
    (clear_then (clear_numeral names) (λ second.
    clear_choice (clear_only (may_be_triple wanted) (clear_then (clear_mark Comma) (λ x. clear_triple_end names first second)))
    (clear_only (may_be_pair wanted || has_great_part first second) (clear_pair_end first at (Some second) at_second)) refl refl)) refl refl)

abbrev pub tuple_look : Look
tuple_look = token_look (marked Open ∷ [])

pub clear_tuple : (names : Names) (is_level_left : Bool) (wanted : Option Arity) → Clearly (tuple_form names is_level_left wanted) tuple_look []
clear_tuple names is_level_left wanted =
    clear_deepened is_level_left Open
    (clear_here (λ at. clear_then (clear_numeral names) (λ first. clear_then (clear_mark Comma) (λ x. clear_tuple_end names wanted first at))))

abbrev pub elements_starts : List Front
elements_starts = number ∷ name ∷ addr ∷ prefix ∷ marked Open ∷ []

-- the elements of a set end with a mark of their own
pub clear_elements : (names : Names) (is_level_left : Bool) → Clearly (elements names is_level_left) (token_look elements_starts) []
clear_elements names is_level_left =
    clear_choice (clear_sequence (clear_listed _ _ _ _ (λ before. clear_range names) refl) (λ rs. clear_ended SetClose _) refl)
    (clear_choice (clear_sequence (clear_listed _ _ _ _ (λ before. clear_addr) refl) (λ addrs. clear_ended SetClose _) refl)
    (clear_choice (clear_sequence (clear_listed _ _ _ _ (λ before. clear_pattern) refl) (λ ts. clear_ended SetClose _) refl)
    (clear_sequence (clear_listed _ _ _ _ (λ before. clear_tuple names is_level_left _) refl) (λ ts. clear_ended SetClose _) refl)
    refl refl) refl refl) refl refl
