use Rattle.std.proofs.Common.{◌≡◌, All, subst}
use Rattle.ixp_board.proofs.opening.make.Goals as goal

pub returns-clause-seats : goal.returns-clause-seats
returns-clause-seats g c = subst (λ history. All (λ seat. seat ≡ history) c.in_ok-taken.taken.items) c.in_ok-last.ensures c.in_ok-taken.ensures.seats
