use Rattle.std.proofs.Common.{refl}
use Rattle.ixp_desk_lock.proofs.locked.Locked.install_made.Goals as goal

pub put_installation-requires-clause-turn : goal.put_installation-requires-clause-turn
put_installation-requires-clause-turn g c = (c.args.made, c.in_ok-turn.ensures, refl)
