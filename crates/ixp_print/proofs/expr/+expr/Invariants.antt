use Rattle.std.proofs.Common.{◌≡◌, ◌++◌, drop, Bool, true, false, List, ℕ}
use Rattle.ixp_lang.specs.Trees.{ExprTrees, exprs}
use Rattle.ixp_lang.specs.Views.{exprs_view}
use Rattle.ixp_print.specs.Texts.{exprs_text, more_exprs_text, chain_text, more_chain_text}
use Rattle.ixp_print.proofs.expr.+expr.Given as goal

-- what is left, after others or none
abbrev pub rest_of_args : Bool → ExprTrees → List ℕ
rest_of_args true es = exprs_text es
rest_of_args false es = more_exprs_text es

abbrev pub rest_of_chain : Bool → List ℕ → ExprTrees → List ℕ
rest_of_chain true joint es = chain_text joint es
rest_of_chain false joint es = more_chain_text joint es

abbrev pub invariant-put_args-each : goal.invariant-put_args-each
invariant-put_args-each l = l.out.items ++ rest_of_args l.is_first (exprs (exprs_view (drop l.arg-index l.args))) ≡ l.fn.out.items ++ exprs_text (exprs (exprs_view l.args))

abbrev pub invariant-put_chain-each : goal.invariant-put_chain-each
invariant-put_chain-each l = l.out.items ++ rest_of_chain l.is_first l.joint (exprs (exprs_view (drop l.part-index l.parts))) ≡ l.fn.out.items ++ chain_text l.joint (exprs (exprs_view l.parts))
