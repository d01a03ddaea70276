use Rattle.ixp_desk_lock.proofs.OwnTurns.{finish_seen}
use Rattle.ixp_desk_lock.proofs.locked.Locked.finish.Goals as goal

pub show-requires : goal.show-requires
show-requires g c = finish_seen c.args.seat.now c.count_turn.new.self c.args.self.now c.settle.new.self c.requires.seen c.count_turn.ensures c.in_ok-settle.ensures.ok
