use Rattle.ixp_desk_history.specs.declared.turn.Asked.TheVariants.{Query}
use Rattle.ixp_desk_lock.proofs.Owing.{answered_if}
use Rattle.ixp_desk_lock.proofs.locked.Locked.answered.Goals as goal

pub returns-clause-ok : goal.returns-clause-ok
returns-clause-ok g c = answered_if c.args.self.now c.self.inside.pen c.self.inside.owed c.self.inside.state c.self.inside.pending (Query c.args.secret.now c.args.query) c.answer_kept.result c.self.view_is c.requires.none c.self.invariant.1 c.answer_kept.ensures.answered
