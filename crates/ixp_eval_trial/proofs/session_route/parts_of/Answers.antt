use Rattle.ixp_eval_trial.proofs.Parts.{no_handle_cut, no_number_cut}
use Rattle.ixp_eval_trial.proofs.session_route.parts_of.Goals as goal

pub returns-in_err-handle : goal.returns-in_err-handle
returns-in_err-handle c = rw c.from_residual-in_err-handle.ensures (no_handle_cut c.args.line.now c.in_ok-rest.rest.now c.in_ok-rest.ensures c.in_err-handle.ensures)

pub returns-in_err-number : goal.returns-in_err-number
returns-in_err-number c =
    rw c.from_residual-in_err-number.ensures
    (no_number_cut c.args.line.now c.in_ok-rest.rest.now c.in_ok-handle.handle.now c.in_ok-handle.rest.now c.in_ok-rest.ensures c.in_ok-handle.ensures c.in_err-number.ensures)
