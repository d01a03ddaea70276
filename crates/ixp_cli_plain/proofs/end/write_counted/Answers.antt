use Rattle.std.proofs.Common.{[], ◌∷◌, ◌++◌, decimal}
use Rattle.ixp_cli_plain.proofs.Telling.{takes_on, on_err}
use Rattle.ixp_cli_plain.proofs.end.write_counted.Goals as goal

pub returns-in_err-write_number_line-clause-err : goal.returns-in_err-write_number_line-clause-err
returns-in_err-write_number_line-clause-err g c =
    on_err c.from_residual-in_err-write_number_line.result _
    (takes_on _ _ _ c.args.before.now (decimal c.args.number ++ 10 ∷ []) c.in_ok-write_all.ensures.ok c.in_err-write_number_line.ensures.err)
