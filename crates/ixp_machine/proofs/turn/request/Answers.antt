use Rattle.std.proofs.Common.{rules, ◌≡◌, subst, sym}
use Rattle.ixp_machine_steps.specs.States.{ValidState}
use Rattle.ixp_machine_steps.specs.Steps.{step}
use Rattle.ixp_machine_steps.proofs.Staying.{still_a_state}
use Rattle.ixp_machine.proofs.turn.request.Goals as goal

pub returns-in_ok-_reply-in-Accepted-clause-valid : goal.returns-in_ok-_reply-in-Accepted-clause-valid
returns-in_ok-_reply-in-Accepted-clause-valid c =
    let s = c.args.state.now in
    let e = c.args.entry in
    let made : c.apply_for.new.state ≡ step s e = search rules in
    subst ValidState (sym made) (still_a_state s e c.requires.valid c.read_edit.ensures)
