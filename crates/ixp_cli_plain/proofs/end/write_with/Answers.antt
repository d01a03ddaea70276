use Rattle.std.proofs.Common.{decimal}
use Rattle.ixp_cli_plain.proofs.Telling.{takes_then, takes_front, takes_on, on_err}
use Rattle.ixp_cli_plain.proofs.end.write_with.Goals as goal

pub returns-in_err-write_all-clause-err : goal.returns-in_err-write_all-clause-err
returns-in_err-write_all-clause-err g c =
    on_err c.from_residual.result _ (takes_front _ _ c.args.before.now (decimal c.args.number) c.in_err-write_all.ensures.err)

pub returns-in_err-write_number-clause-err : goal.returns-in_err-write_number-clause-err
returns-in_err-write_number-clause-err g c =
    on_err c.from_residual-in_err-write_number.result _
    (takes_on _ _ _ c.args.before.now (decimal c.args.number) c.in_ok-write_all.ensures.ok c.in_err-write_number.ensures.err)

pub returns-clause-ok : goal.returns-clause-ok
returns-clause-ok g c = takes_then _ _ _ c.args.before.now (decimal c.args.number) c.in_ok-write_all.ensures.ok c.in_ok-write_number.ensures.ok
