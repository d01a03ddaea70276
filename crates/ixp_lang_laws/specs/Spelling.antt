-- When tokens spell an expression's tree.
use Rattle.std.specs.Prelude.{◌≡◌, ℕ, false, List, None}
use Rattle.ixp_lang.specs.Trees.{ExprTree}
use Rattle.ixp_lang_tokens.specs.declared.token.Kind.{Kind}
use Rattle.ixp_lang_tokens.specs.declared.token.Mark.TheVariants.{And, Or}
use Rattle.ixp_lang_tokens.specs.Grammars.{Took}
use Rattle.ixp_lang_tokens.specs.Pieces.{is_mark, is_next}
use Rattle.ixp_lang_exprs.specs.declared.types.ValueType.{ValueType}
use Rattle.ixp_lang_exprs.specs.declared.context.Scope.{Scope}
use Rattle.ixp_lang_exprs.specs.declared.wanted.Wanted.{Wanted}
use Rattle.ixp_lang_exprs.specs.Names.{Names}
use Rattle.ixp_lang_exprs.specs.Operands.{Operand}
use Rattle.ixp_lang_exprs.specs.Expressions.{expression_form}

-- Where names stand for these and this is wanted, the tokens at the front are an expression of so many
-- levels, whose types fit, and say this tree of this type. So many tokens are left at the first one of its
-- statement.
abbrev pub Spells : Names → Scope → ℕ → ℕ → Wanted → ExprTree → ValueType → List Kind → List Kind → Type 0
Spells names scope levels statement wanted tree ty tokens rest =
    (o : Operand) × (o.tree ≡ tree) × (o.ty ≡ ty) × (o.misfit ≡ None)
    × Took (expression_form
    (record { names = names; scope = scope; statement = statement }) levels wanted) o tokens rest

-- neither `&&` nor `||` is next
abbrev pub EndsChains : List Kind → Type 0
EndsChains rest = (is_next (is_mark And) rest ≡ false) × (is_next (is_mark Or) rest ≡ false)
