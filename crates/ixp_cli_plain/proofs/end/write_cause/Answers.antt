use Rattle.std.proofs.Common.{ℕ, List, ◌∷◌, ◌++◌, subst}
use Rattle.ixp_num.specs.Causes.{place_text}
use Rattle.ixp_io.specs.Told.{TakesPart}
use Rattle.ixp_cli_plain.proofs.Telling.{takes_on, on_err}
use Rattle.ixp_cli_plain.proofs.end.write_cause.Goals as goal

pub returns-in_err-write_place-clause-err : goal.returns-in_err-write_place-clause-err
returns-in_err-write_place-clause-err g c =
    let place : List ℕ = 32 ∷ place_text c.args.cause.place in
    on_err c.from_residual-in_err-write_place.result _
    (subst (λ (code : List ℕ). TakesPart (g.E.Stream.written c.args.errors.now) (g.E.Stream.written c.write_place.new.errors) (code ++ place)) c.code_text.ensures
    (takes_on _ _ _ c.code_text.result.now place c.in_ok-write_all.ensures.ok c.in_err-write_place.ensures.err))
