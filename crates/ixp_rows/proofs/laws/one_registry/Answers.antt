use Rattle.ixp_rows.proofs.OneRegistry.{one_registry}
use Rattle.ixp_rows.proofs.SameRows.{rows_tell}
use Rattle.ixp_rows.proofs.laws.one_registry.Goals as goal

pub returns-clause-answer : goal.returns-clause-answer
returns-clause-answer c = one_registry

pub returns-clause-rows : goal.returns-clause-rows
returns-clause-rows c = rows_tell
