use Rattle.ixp_eval_trial.proofs.Fields.{no_net, no_max}
use Rattle.ixp_eval_trial.proofs.roa_line.fields_of.Goals as goal

pub returns-in_err-net : goal.returns-in_err-net
returns-in_err-net c = rw c.from_residual-in_err-net.ensures (no_net c.args.t.now c.in_ok-table.table.now c.in_ok-table.rest.now c.in_ok-table.ensures c.in_err-net.ensures)

pub returns-in_err-max : goal.returns-in_err-max
returns-in_err-max c =
    rw c.from_residual-in_err-max.ensures (no_max c.args.t.now c.in_ok-table.table.now c.in_ok-table.rest.now c.in_ok-net.net.now c.in_ok-net.rest.now c.in_ok-table.ensures c.in_ok-net.ensures c.in_err-max.ensures)
