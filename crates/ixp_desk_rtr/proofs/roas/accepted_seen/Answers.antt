use Rattle.std.proofs.Common.{sym, subst}
use Rattle.ixp_desk_history.specs.declared.turn.Shown.{Shown}
use Rattle.ixp_desk_lock.specs.Facts.{HasAccepted}
use Rattle.ixp_desk.proofs.Views.{accepted_seen}
use Rattle.ixp_desk_rtr.proofs.roas.accepted_seen.Goals as goal

pub returns : goal.returns
returns g c = subst (λ (w : Shown). HasAccepted c.args.seat.now.2 w.accepted) (sym c.get.ensures) (accepted_seen c.args.seat.now.2 c.view.result.now c.view.ensures)
