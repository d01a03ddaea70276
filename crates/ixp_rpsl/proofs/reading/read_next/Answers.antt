use Rattle.std.proofs.Common.{◌∙◌, sym, arith}
use Rattle.ixp_rpsl.specs.Lines.{line_of, lines_ahead}
use Rattle.ixp_rpsl.proofs.Passing.{passes_empty, passes_object}
use Rattle.ixp_rpsl.proofs.reading.read_next.Goals as goal

pub returns-then-is_nothing : goal.returns-then-is_nothing
returns-then-is_nothing c = (passes_empty (line_of c.args.line) (lines_ahead c.args.ahead) c.args.found.now (sym c.is_nothing.ensures ∙ c.if-is_nothing.true), omega arith)

pub returns : goal.returns
returns c =
    let all = c.in_ok-rest.ensures in (
      passes_object (line_of c.args.line) (lines_ahead c.args.ahead) (lines_ahead c.in_ok-rest.rest) c.args.found.now c.read_object.new.found (sym c.is_nothing.ensures ∙ c.if-is_nothing.false) all.0,
      all.1,
    )
