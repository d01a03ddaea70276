-- The joints of chains, as the program holds them.
use Rattle.std.specs.Prelude.{ℕ, List, [], ◌∷◌, Bool, true, false, Option, Some, None, Ok, if◌then◌else◌}
use Rattle.ixp_lang.specs.Trees.{ExprTree, ExprTrees, conjunction, disjunction, exprs}
use Rattle.ixp_lang.specs.Views.{exprs_view}
use Rattle.ixp_lang_tokens.specs.declared.fault.Cause.TheVariants.{Mixed}
use Rattle.ixp_lang_tokens.specs.declared.token.Kind.{Kind}
use Rattle.ixp_lang_tokens.specs.declared.token.Mark.{Mark}
use Rattle.ixp_lang_tokens.specs.declared.token.Mark.TheVariants as mark
use Rattle.ixp_lang_tokens.specs.Reading.{Read, stop}
use Rattle.ixp_lang_tokens.specs.Pieces.{is_mark, is_next, behind}
use Rattle.ixp_lang_tokens.specs.Grammars.{Step, onward, done}
use Rattle.ixp_lang_exprs.specs.declared.chain.Chain.{Chain as HeldChain}
use Rattle.ixp_lang_exprs.specs.declared.operator.Joint.{Joint}
use Rattle.ixp_lang_exprs.specs.declared.operator.Joint.TheVariants.{And, Or}
use Rattle.ixp_lang_exprs.specs.declared.types.ValueType.TheVariants.{Bool as Truth}
use Rattle.ixp_lang_exprs.specs.Operands.{Operand}
use Rattle.ixp_lang_exprs.specs.Expressions.{Chain}

abbrev pub joint_mark : Joint → Mark
joint_mark And = mark.And
joint_mark Or = mark.Or

abbrev pub other_mark : Joint → Mark
other_mark And = mark.Or
other_mark Or = mark.And

-- the tree of a chain
abbrev pub joined_by : Joint → ExprTrees → ExprTree
joined_by And = conjunction
joined_by Or = disjunction

-- the joint that is next
abbrev pub joint_in : List Kind → Option Joint
joint_in tokens = if is_next (is_mark mark.And) tokens then Some And
    else (if is_next (is_mark mark.Or) tokens then Some Or else None)

-- what follows the joint, if it is next; the other one can't stand there
abbrev pub joined_behind : Joint → List Kind → Read (Option (List Kind))
joined_behind joint tokens = if is_next (is_mark (other_mark joint)) tokens then stop Mixed tokens
    else Ok (behind (is_mark (joint_mark joint)) tokens, [])

-- the chain that is held
abbrev pub chain_of : HeldChain → Chain
chain_of chain = record { parts = exprs_view chain.parts.items; place = chain.place }

-- and the operand that it is at its end
abbrev pub ended_chain : HeldChain → Operand
ended_chain chain = record {
  tree = joined_by chain.joint (exprs (exprs_view chain.parts.items));
  ty = Truth;
  is_open = false;
  misfit = chain.misfit;
}

abbrev pub linked : Bool → HeldChain → Step Chain Operand
linked true chain = done (ended_chain chain)
linked false chain = onward (chain_of chain)
