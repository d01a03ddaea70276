use Rattle.std.proofs.Common.{rules, ◌≡◌, ℕ, [], ◌∷◌, ◌++◌, decimal, subst}
use Rattle.ixp_io.specs.Told.{TakesPart}
use Rattle.ixp_cli_plain.proofs.Telling.{takes_on, on_err}
use Rattle.ixp_cli_plain.proofs.end.write_link.Goals as goal

pub returns-in_err-write_word-clause-err : goal.returns-in_err-write_word-clause-err
returns-in_err-write_word-clause-err g c =
    let same : c.from.result ≡ c.args.requests = search rules in
    on_err c.from_residual-in_err-write_word.result _
    (subst (λ (n : ℕ). TakesPart (g.E.Stream.written c.args.errors.now) (g.E.Stream.written c.write_word.new.errors) (c.args.before.now ++ (c.args.word.now ++ (32 ∷ (decimal n ++ 10 ∷ []))))) same
    (takes_on _ _ _ c.args.before.now (c.args.word.now ++ (32 ∷ (decimal c.from.result ++ 10 ∷ []))) c.in_ok-write_all.ensures.ok c.in_err-write_word.ensures.err))
