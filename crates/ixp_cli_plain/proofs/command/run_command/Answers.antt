use Rattle.std.proofs.Common.{Some, ap}
use Rattle.ixp_cli_plain.proofs.Ending.{command_run, command_usage, is_status}
use Rattle.ixp_cli_plain.proofs.command.run_command.Goals as goal

pub returns-clause-runs : goal.returns-clause-runs
returns-clause-runs g c = command_run _ _ _ c.in-Ok.end _ c.in-Ok.ensures.ends c.status-status.ensures c.report.ensures

pub returns-clause-usage : goal.returns-clause-usage
returns-clause-usage g c = command_usage _ _ _ _ _ _ _ _ _ c.in-Ok.end _ c.in-Ok.ensures.ends c.status-status.ensures

pub returns-clause-statuses : goal.returns-clause-statuses
returns-clause-statuses g c = is_status c.in-Ok.end _ (ap Some c.status-status.ensures)
