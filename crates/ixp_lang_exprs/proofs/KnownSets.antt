-- What is known of the grammars of sets and of what stands in them.
use Rattle.std.proofs.Common.{Bool, [], ◌∷◌, Option}
use Rattle.ixp_lang_tokens.specs.Grammars.{takes}
use Rattle.ixp_lang_tokens.proofs.Fronts.{prefix}
use Rattle.ixp_lang_tokens.proofs.Looks.{token_look, Known}
use Rattle.ixp_lang_tokens.proofs.ClearLooks.{known_of}
use Rattle.ixp_lang_exprs.specs.declared.elements.Arity.{Arity}
use Rattle.ixp_lang_exprs.specs.Names.{Names}
use Rattle.ixp_lang_exprs.specs.Sets.{numeral, range, prefix_in, set_pattern_form, tuple_form, elements}
use Rattle.ixp_lang_exprs.proofs.ClearSets.{clear_numeral, clear_range, clear_prefix, clear_pattern, clear_tuple, clear_elements}
pub use Rattle.ixp_lang_exprs.proofs.ClearSets.{numeral_starts, range_look, pattern_look, tuple_look, elements_starts}

pub known_numeral : (names : Names) → Known (numeral names) (token_look numeral_starts)
known_numeral names = known_of (clear_numeral names)

pub known_range : (names : Names) → Known (range names) range_look
known_range names = known_of (clear_range names)

pub known_prefix : Known (takes prefix_in) (token_look (prefix ∷ []))
known_prefix = known_of clear_prefix

pub known_pattern : Known set_pattern_form pattern_look
known_pattern = known_of clear_pattern

pub known_tuple : (names : Names) (is_level_left : Bool) (wanted : Option Arity) → Known (tuple_form names is_level_left wanted) tuple_look
known_tuple names is_level_left wanted = known_of (clear_tuple names is_level_left wanted)

-- the elements of a set end with a mark of their own
pub known_elements : (names : Names) (is_level_left : Bool) → Known (elements names is_level_left) (token_look elements_starts)
known_elements names is_level_left = known_of (clear_elements names is_level_left)
