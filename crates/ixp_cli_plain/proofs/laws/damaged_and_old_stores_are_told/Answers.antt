use Rattle.ixp_cli_plain.proofs.Dumping.{damaged_run, old_run, damage_told, version_told}
use Rattle.ixp_cli_plain.proofs.Raising.{refusal_told}
use Rattle.ixp_cli_plain.proofs.laws.damaged_and_old_stores_are_told.Goals as goal

pub returns-clause-damaged : goal.returns-clause-damaged
returns-clause-damaged c = damaged_run

pub returns-clause-old : goal.returns-clause-old
returns-clause-old c = old_run

pub returns-clause-damage_told : goal.returns-clause-damage_told
returns-clause-damage_told c = damage_told

pub returns-clause-refusal_told : goal.returns-clause-refusal_told
returns-clause-refusal_told c = refusal_told

pub returns-clause-version_told : goal.returns-clause-version_told
returns-clause-version_told c = version_told
