-- What may go on with an expression.
use Rattle.std.specs.Prelude.{◌≡◌, Bool, false, ◌||◌, List}
use Rattle.std.specs.Option.{is_some}
use Rattle.ixp_lang_tokens.specs.declared.token.Kind.{Kind}
use Rattle.ixp_lang_tokens.specs.declared.token.Mark.TheVariants.{Dot, And, Or}
use Rattle.ixp_lang_tokens.specs.Pieces.{is_mark, is_next}
use Rattle.ixp_lang_exprs.specs.Expressions.{operator_in}

-- a dot, an operator or a joint
abbrev pub goes_on : Kind → Bool
goes_on token = is_mark Dot token || (is_some (operator_in token) || (is_mark And token || is_mark Or token))

-- no expression goes on with these tokens
abbrev pub IsBehind : List Kind → Type 0
IsBehind tokens = is_next goes_on tokens ≡ false
