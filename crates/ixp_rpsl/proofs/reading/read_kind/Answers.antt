use Rattle.std.proofs.Common.{sym, subst}
use Rattle.ixp_rpsl.specs.Lines.{lines_ahead}
use Rattle.ixp_rpsl.specs.Passes.{FindsOf}
use Rattle.ixp_rpsl.proofs.Passing.{finds_other}
use Rattle.ixp_rpsl.proofs.reading.read_kind.Goals as goal

pub returns-in_ok-rest-in-Other : goal.returns-in_ok-rest-in-Other
returns-in_ok-rest-in-Other c =
    let all = c.in_ok-rest-in-Other.ensures in (
      subst (λ k. FindsOf k c.args.first c.args.key.now (lines_ahead c.args.ahead) (lines_ahead c.in_ok-rest-in-Other.rest) c.args.found.now c.pass_by.new.found) (sym c.in-Other.is)
          (finds_other c.args.first c.args.key.now (lines_ahead c.args.ahead) (lines_ahead c.in_ok-rest-in-Other.rest) c.args.found.now c.pass_by.new.found all.0 all.1),
      all.2,
    )
