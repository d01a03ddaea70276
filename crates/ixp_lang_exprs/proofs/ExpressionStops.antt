-- Where the reading of a whole text as an expression stops.
use Rattle.std.proofs.Common.{◌≡◌, ℕ, ◌<◌, ◌⊎◌, List, length, Err}
use Rattle.ixp_lang_tokens.specs.declared.token.Kind.{Kind}
use Rattle.ixp_lang_tokens.specs.declared.fault.Cause.{Cause}
use Rattle.ixp_lang_tokens.specs.declared.fault.Cause.TheVariants.{Deep}
use Rattle.ixp_lang_tokens.specs.Reading.{read}
use Rattle.ixp_lang_tokens.specs.Syntax.{IsFineText, StopsAt, RefusedAt}
use Rattle.ixp_lang_tokens.proofs.StopLaws.{read_stops}
use Rattle.ixp_lang_exprs.specs.declared.wanted.Wanted.{Wanted}
use Rattle.ixp_lang_exprs.specs.Expressions.{Place, expression_form}
use Rattle.ixp_lang_exprs.proofs.KnownExpressions.{clear_expression_text}
use Rattle.ixp_lang_exprs.proofs.WholeExpressions.{whole_expression_text}

-- the texts of expressions with so many levels, as far as syntax goes, whose first place has this number
abbrev pub FineExpressions : Place → ℕ → Wanted → ℕ → List Kind → Type 0
FineExpressions at levels wanted number = IsFineText (expression_form at levels wanted) number

-- A fault is a check's, and then no lawful expression begins with the tokens up to the one that is next there; or it stands at the
-- first token with which no expression goes on: none with these levels, and, if it isn't that there are too few, none with more of
-- them; what is before it is the front of one with any more levels.
pub expression_stops : (at : Place) (levels more : ℕ) → levels < more → (wanted : Wanted) (tokens : List Kind) (cause : Cause) (left : ℕ) → read (expression_form at levels wanted) tokens ≡ Err (cause, left)
    → RefusedAt (expression_form at levels wanted) tokens
    ⊎ (StopsAt (FineExpressions at more wanted (length tokens)) (FineExpressions at levels wanted (length tokens)) tokens left
    × (¬ (cause ≡ Deep) → StopsAt (FineExpressions at more wanted (length tokens)) (FineExpressions at more wanted (length tokens)) tokens left))
expression_stops at levels more less wanted tokens cause left e =
    let whole = whole_expression_text at levels more less wanted in
    read_stops whole.supplied (clear_expression_text at levels wanted).clear whole.clearly.clear whole.text tokens cause left e
