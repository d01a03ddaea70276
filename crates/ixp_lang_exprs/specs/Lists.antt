-- Grammars that others are made of.
use Rattle.std.specs.Prelude.{Bool, true, false, List, [], ◌∷◌, ◌++◌, Option, Some, None, option_map, if◌then◌else◌}
use Rattle.ixp_lang_tokens.specs.declared.token.Mark.{Mark}
use Rattle.ixp_lang_tokens.specs.declared.token.Mark.TheVariants.{Comma}
use Rattle.ixp_lang_tokens.specs.declared.fault.Cause.TheVariants.{Deep}
use Rattle.ixp_lang_tokens.specs.declared.token.Kind.{Kind}
use Rattle.ixp_lang_tokens.specs.Grammars.{Step, Grammar, gives, takes, sequence, choice, rounds, bars, onward, done}
use Rattle.ixp_lang_tokens.specs.Pieces.{the_mark, is_mark, is_next}

-- what the first token is, if it is of the class, and the tokens behind it
abbrev pub first_in : {A : Type 0} → (Kind → Option A) → List Kind → Option (A × List Kind)
first_in class [] = None
first_in class (token ∷ tokens) = option_map (λ a. (a, tokens)) (class token)

-- no text
abbrev pub never : {A : Type 0} → Grammar A
never = takes (λ token. None)

abbrev pub only : {A : Type 0} → Bool → Grammar A → Grammar A
only true f = f
only false f = never

-- a mark that is only a mark
abbrev pub ended : {A : Type 0} → Mark → A → Grammar A
ended mark v = sequence (the_mark mark) (λ tt. gives v)

-- one item behind those before it, and a comma where another one follows
abbrev pub list_round : {A : Type 0} → (List A → Grammar A) → List A → Grammar (Step (List A) (List A))
list_round item items = sequence (item items)
    (λ x. choice (ended Comma (onward (items ++ x ∷ []))) (gives (done (items ++ x ∷ []))))

-- one or more with commas between; each may depend on those before it
abbrev pub listed : {A : Type 0} → (List A → Grammar A) → Grammar (List A)
listed item = rounds (list_round item) []

-- a mark that opens one level more, where one is left, and what stands behind it
abbrev pub deepened : {A : Type 0} → Bool → Mark → Grammar A → Grammar A
deepened true mark f = sequence (the_mark mark) (λ tt. f)
deepened false mark f = bars (is_next (is_mark mark)) Deep never
