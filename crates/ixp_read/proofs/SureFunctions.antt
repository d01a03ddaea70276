-- What is known of the grammar of functions and filters.
use Rattle.std.proofs.Common.{◌≡◌, ℕ, true, false, List, [], ◌∷◌, codes, None, refl}
use Rattle.std.specs.Option.{is_some}
use Rattle.ixp_lang_tokens.specs.declared.token.Kind.TheVariants as kind
use Rattle.ixp_lang_tokens.specs.declared.token.Mark.TheVariants as mark
use Rattle.ixp_lang_tokens.specs.Pieces.{same_word}
use Rattle.ixp_lang_tokens.proofs.Fronts.{Front, marked, keyword, name, one_of}
use Rattle.ixp_lang_tokens.proofs.Looks.{Look, full_look, token_look}
use Rattle.ixp_lang_tokens.proofs.ClearLooks.{clear_gives, clear_takes, clear_mark, clear_name, clear_sequence, clear_then, clear_choice, clear_checks, clear_here}
use Rattle.ixp_lang_tokens.proofs.Known.{some_if}
use Rattle.ixp_lang_exprs.specs.declared.context.Scope.TheVariants as scope
use Rattle.ixp_lang_exprs.specs.Names.{Names}
use Rattle.ixp_lang_exprs.specs.Expressions.{word_in}
use Rattle.ixp_lang_exprs.proofs.ClearLists.{clear_only, clear_ended}
use Rattle.ixp_lang_exprs.proofs.KnownTokens.{word_front}
use Rattle.ixp_lang_exprs.proofs.Sure.{Sure, First, sure_of, clear_word, clear_free_name}
use Rattle.ixp_read.specs.Functions.{type_in, has_sets, type_form, Params, no_params, param_form, params_form, written_form, as_written, head_form, frame_in, body_within, function_within, filter_within}
use Rattle.ixp_lang_stmts.proofs.Several.{clear_joined}
use Rattle.ixp_lang_stmts.proofs.SureStatements.{sure_body}

-- Types.

abbrev pub types : List Front
types = keyword (codes "int") ∷ keyword (codes "bool") ∷ keyword (codes "ip") ∷ keyword (codes "prefix") ∷ keyword (codes "pair") ∷ keyword (codes "lc") ∷ []

pub type_front : (w : List ℕ) → is_some (type_in w) ≡ true → one_of types (kind.Word w) ≡ true
type_front w =
    some_if (same_word w (codes "int")) _ _ _ (some_if (same_word w (codes "bool")) _ _ _
    (some_if (same_word w (codes "ip")) _ _ _ (some_if (same_word w (codes "prefix")) _ _ _
    (some_if (same_word w (codes "pair")) _ _ _ (some_if (same_word w (codes "lc")) _ _ _ (λ e. e))))))

abbrev pub type_look : Look
type_look = full_look types (keyword (codes "set") ∷ [])

first_type : First type_form type_look
first_type =
    clear_then (clear_takes (word_in type_in) types (word_front type_in types type_front)) (λ t.
    clear_choice (clear_only (has_sets t) (clear_then (clear_word (codes "set")) (λ x. clear_gives _))) (clear_gives t) refl refl)

-- Parameters.

pub first_param : (number : ℕ) (before : Params) → First (param_form number before) (token_look types)
first_param number before = clear_sequence first_type (λ t. clear_here (λ left. clear_then clear_name (λ found. clear_checks (clear_gives _)))) refl

first_params : (number : ℕ) (names : Names) → First (params_form number names) (token_look (marked mark.Open ∷ []))
first_params number names =
    clear_then (clear_mark mark.Open) (λ x.
    clear_choice (clear_ended mark.Close (no_params names))
    (clear_sequence
    (clear_joined (param_form number) mark.Semicolon (λ before params. params) (λ before params. params) types [] (first_param number) refl (no_params names))
    (λ params. clear_ended mark.Close params) refl) refl refl)

-- Functions and filters.

pub first_written : First written_form (record { leads = false; full = false; starts = marked mark.Arrow ∷ []; ends = keyword (codes "set") ∷ marked mark.Arrow ∷ [] })
first_written = clear_choice (clear_then (clear_mark mark.Arrow) (λ x. clear_sequence first_type (λ t. clear_gives _) refl)) (clear_gives None) refl refl

pub first_head : (number : ℕ) (names : Names) → First (head_form number names) (token_look (name ∷ []))
first_head number names = clear_then (clear_free_name names) (λ found. clear_then (first_params number _) (λ params. clear_gives _))

sure_body_within : (levels number : ℕ) (names : Names) → Sure (body_within levels number names) (record { leads = false; full = true; starts = marked mark.Arrow ∷ marked mark.BlockOpen ∷ []; ends = [] })
sure_body_within levels number names =
    clear_here (λ place.
    clear_sequence (sure_of first_written) (λ written.
    clear_then (clear_mark mark.BlockOpen) (λ x.
    clear_sequence (sure_body (frame_in number names) levels (as_written written)) (λ body. clear_checks (clear_gives _)) refl)) refl)

pub sure_function : (levels number : ℕ) (names : Names) → Sure (function_within levels number names) (token_look (name ∷ []))
sure_function levels number names = clear_then (sure_of (first_head number names)) (λ head. clear_sequence (sure_body_within levels number head.params.names) (λ body. clear_gives _) refl)

pub sure_filter : (levels : ℕ) (names : Names) → Sure (filter_within levels names) (token_look (name ∷ []))
sure_filter levels names =
    clear_then (clear_free_name names) (λ found.
    clear_then (clear_mark mark.BlockOpen) (λ y.
    clear_sequence (sure_body (record { names = names; scope = scope.Filter }) levels (as_written None)) (λ body. clear_gives _) refl))
