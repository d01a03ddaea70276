use Rattle.std.proofs.Common.{[], ◌∷◌}
use Rattle.ixp_cli_plain.proofs.Telling.{takes_on, on_err}
use Rattle.ixp_cli_plain.proofs.end.write_name_line.Goals as goal

pub returns-in_err-write_all-2-clause-err : goal.returns-in_err-write_all-2-clause-err
returns-in_err-write_all-2-clause-err g c =
    on_err c.from_residual-in_err-write_all-2.result _ (takes_on _ _ _ c.args.name.now (10 ∷ []) c.in_ok-write_all.ensures.ok c.in_err-write_all-2.ensures.err)
