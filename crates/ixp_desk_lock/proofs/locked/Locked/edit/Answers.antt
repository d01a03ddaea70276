use Rattle.std.proofs.Common.{rules}
use Rattle.ixp_desk_lock.specs.Facts.{HasRoom}
use Rattle.ixp_desk_lock.proofs.OwnTurns.{edit_submits}
use Rattle.ixp_desk_lock.proofs.locked.Locked.edit.Goals as goal

pub returns-clause-turns : goal.returns-clause-turns
returns-clause-turns g c =
    let room : HasRoom c.args.self.now.0 = search rules in
    edit_submits c.args.entry c.in_ok-ending.ending c.replied.result c.args.seat.now c.finish.new.seat c.args.self.now.0 c.owe_edit.new.self c.number.result c.count.result c.replied.ensures
    c.number.ensures c.count.ensures c.requires.fits.seen c.requires.fits.count c.in_ok-ending.ensures.ok c.finish.ensures.number c.finish.ensures.count c.in_ok-finish.ensures.shown c.requires.fits.room room
