use Rattle.ixp_cli_plain.proofs.Raising.{not_upgraded}
use Rattle.ixp_cli_plain.proofs.upgrading.run_upgrade.Goals as goal

pub returns-in-Err : goal.returns-in-Err
returns-in-Err g c = not_upgraded _ _ _ _ c.in-Err.fault _ c.in-Err.ensures.cause c.in-Err.ensures.never c.in-Err.ensures.complete c.in-Err.ensures.damage c.in-Err.ensures.kept c.unloaded.ensures
