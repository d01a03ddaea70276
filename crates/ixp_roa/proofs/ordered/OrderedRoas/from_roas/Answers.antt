use Rattle.std.proofs.Common.{sym, subst}
use Rattle.std.specs.List.{Contains}
use Rattle.std.proofs.lemmas.List.Sorted.{IsPermutation-sym}
use Rattle.ixp_roa.proofs.InOrder.{moved}
use Rattle.ixp_roa.proofs.ordered.OrderedRoas.from_roas.Goals as goal

pub returns-clause-keeps : goal.returns-clause-keeps
returns-clause-keeps c x there = moved c.in_ok-compact.compact.items c.in_order.result.items x c.in_order.ensures.rows (subst (λ xs. Contains xs x) (sym c.in_ok-compact.ensures) there)

pub returns-clause-adds_none : goal.returns-clause-adds_none
returns-clause-adds_none c x there = subst (λ xs. Contains xs x) c.in_ok-compact.ensures (moved c.in_order.result.items c.in_ok-compact.compact.items x (IsPermutation-sym _ _ c.in_order.ensures.rows) there)
