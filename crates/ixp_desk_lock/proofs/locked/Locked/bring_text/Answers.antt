use Rattle.std.proofs.Common.{rules, subst}
use Rattle.ixp_board.specs.Histories.{IsLegal}
use Rattle.ixp_desk_history.specs.Legal.{Legal}
use Rattle.ixp_desk_lock.proofs.PublishLaws.{brings_if, brings_not}
use Rattle.ixp_desk_lock.proofs.locked.Locked.bring_text.Goals as goal

pub returns-then-need-built-clause-turns : goal.returns-then-need-built-clause-turns
returns-then-need-built-clause-turns g c = brings_not c.shown.result c.args.self.now.0 c.args.need c.built.result c.args.seat.now (subst (IsLegal Legal) c.requires.level.whole c.is_legal.ensures) c.built.ensures (search rules)

pub returns-clause-turns : goal.returns-clause-turns
returns-clause-turns g c = brings_if c.install_text.result c.args.self.now.0 c.args.need c.built.result c.args.seat.now c.install_text.new.seat (subst (IsLegal Legal) c.requires.level.whole c.is_legal.ensures) c.built.ensures (search rules) c.install_text.ensures.turns
