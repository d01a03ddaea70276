use Rattle.ixp_desk_lock.specs.Facts.{turn_in}
use Rattle.ixp_desk_lock.proofs.Installs.{installation_if}
use Rattle.ixp_desk_lock.proofs.locked.Locked.installation.Goals as goal

pub returns : goal.returns
returns g c = installation_if c.args.self.now c.self.inside.pen (turn_in c.self.inside.owed) c.args.seat.now c.args.made c.view.result.now c.number.result c.count.result c.install_turn.result c.self.view_is c.view.ensures c.number.ensures c.count.ensures c.requires.ordered c.requires.from
    c.install_turn.ensures.seat c.install_turn.ensures.number c.install_turn.ensures.event c.install_turn.ensures.shows
