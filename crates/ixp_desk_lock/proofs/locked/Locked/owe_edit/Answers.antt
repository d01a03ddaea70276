use Rattle.std.proofs.Common.{rules}
use Rattle.ixp_desk_lock.proofs.Owing.{may_accept}
use Rattle.ixp_desk_lock.proofs.locked.Locked.owe_edit.Goals as goal

pub accept-requires-clause-accepted : goal.accept-requires-clause-accepted
accept-requires-clause-accepted g c = may_accept c.args.self.now.0 c.args.entry c.args.decision _ (search rules) c.requires.lawful c.requires.edits c.requires.decided
