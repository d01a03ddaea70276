use Rattle.std.proofs.Common.{[], ◌∷◌, decimal}
use Rattle.ixp_cli_plain.proofs.Telling.{takes_on, on_err}
use Rattle.ixp_cli_plain.proofs.end.write_number_line.Goals as goal

pub returns-in_err-write_all-clause-err : goal.returns-in_err-write_all-clause-err
returns-in_err-write_all-clause-err g c =
    on_err c.from_residual-in_err-write_all.result _ (takes_on _ _ _ (decimal c.args.number) (10 ∷ []) c.in_ok-write_number.ensures.ok c.in_err-write_all.ensures.err)
