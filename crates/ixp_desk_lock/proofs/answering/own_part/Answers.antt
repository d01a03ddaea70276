use Rattle.std.proofs.Common.{refl, subst, Err}
use Rattle.ixp_compile_text.specs.Answers.{Prints, part_at}
use Rattle.ixp_desk_lock.proofs.OwnAnswers.{no_session, own_found}
use Rattle.ixp_desk_lock.proofs.answering.own_part.Goals as goal

pub returns-in-Ok : goal.returns-in-Ok
returns-in-Ok c = own_found c.args.state.now c.args.router.now c.args.interface c.in-Ok.text _ c.in-Ok.ensures refl c.from_vec.ensures c.requires.roas

pub returns-in-Err-NoSession : goal.returns-in-Err-NoSession
returns-in-Err-NoSession c = no_session c.args.state.now.registry c.args.router.now c.args.interface (subst (λ x. Prints (part_at c.args.state.now.registry c.args.router.now c.args.interface) (Err x)) c.in-Err-NoSession.field-0-is c.in-Err-NoSession.ensures)
