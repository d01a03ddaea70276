use Rattle.std.proofs.Common.{◌≡◌, All, ap, subst}
use Rattle.ixp_board.proofs.opening.open.Goals as goal

pub returns-in-Ok-clause-seats : goal.returns-in-Ok-clause-seats
returns-in-Ok-clause-seats g c =
    subst (λ history. All (λ seat. seat ≡ history) c.in-Ok.seats.items) (ap (λ opened. opened.1) c.opened.view_is) c.in-Ok.ensures.seats
