use Rattle.std.proofs.Common.{[], ◌∷◌, ◌++◌, decimal}
use Rattle.ixp_cli_plain.proofs.Telling.{takes_on, on_err}
use Rattle.ixp_cli_plain.proofs.end.write_word.Goals as goal

pub returns-in_err-write_counted-clause-err : goal.returns-in_err-write_counted-clause-err
returns-in_err-write_counted-clause-err g c =
    on_err c.from_residual-in_err-write_counted.result _
    (takes_on _ _ _ c.args.word.now (32 ∷ (decimal c.args.number ++ 10 ∷ [])) c.in_ok-write_all.ensures.ok c.in_err-write_counted.ensures.err)
