use Rattle.std.proofs.Common.{rules, ◌≡◌, ℕ, ◌∷◌, ◌++◌, decimal, subst}
use Rattle.ixp_io.specs.Told.{TakesPart}
use Rattle.ixp_cli_plain.proofs.Telling.{takes_front, takes_on, on_err}
use Rattle.ixp_cli_plain.proofs.end.write_rule.Goals as goal

pub returns-in_err-write_with-clause-err : goal.returns-in_err-write_with-clause-err
returns-in_err-write_with-clause-err g c =
    let same : c.from.result ≡ c.args.rule = search rules in
    on_err c.from_residual.result _
    (subst (λ (n : ℕ). TakesPart (g.E.Stream.written c.args.errors.now) (g.E.Stream.written c.write_with.new.errors) ((32 ∷ 81 ∷ decimal n) ++ (32 ∷ decimal c.args.line))) same
    (takes_front _ _ (32 ∷ 81 ∷ decimal c.from.result) (32 ∷ decimal c.args.line) c.in_err-write_with.ensures.err))

pub returns-in_err-write_with-2-clause-err : goal.returns-in_err-write_with-2-clause-err
returns-in_err-write_with-2-clause-err g c =
    let same : c.from.result ≡ c.args.rule = search rules in
    on_err c.from_residual-in_err-write_with-2.result _
    (subst (λ (n : ℕ). TakesPart (g.E.Stream.written c.args.errors.now) (g.E.Stream.written c.write_with-2.new.errors) ((32 ∷ 81 ∷ decimal n) ++ (32 ∷ decimal c.args.line))) same
    (takes_on _ _ _ (32 ∷ 81 ∷ decimal c.from.result) (32 ∷ decimal c.args.line) c.in_ok-write_with.ensures.ok c.in_err-write_with-2.ensures.err))
