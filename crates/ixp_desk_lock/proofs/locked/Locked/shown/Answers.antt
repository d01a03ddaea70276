use Rattle.std.proofs.Common.{IfOk, subst}
use Rattle.ixp_desk_history.specs.declared.turn.Shown.{Shown}
use Rattle.ixp_desk_lock.specs.Facts.{turn_in}
use Rattle.ixp_desk_lock.specs.Published.{Reads}
use Rattle.ixp_desk_lock.proofs.PublishLaws.{shown_if}
use Rattle.ixp_desk_lock.proofs.locked.Locked.shown.Goals as goal

pub returns : goal.returns
returns g c = shown_if c.args.self.now c.self.inside.pen (turn_in c.self.inside.owed) c.view.result.now c.args.router.now c.text_shown.result c.self.view_is c.view.ensures
    (subst (λ (w : Shown). IfOk c.text_shown.result (Reads w c.args.router.now)) c.get.ensures c.text_shown.ensures)
