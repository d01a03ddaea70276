use Rattle.std.proofs.Common.{◌∙◌, sym, arith}
use Rattle.ixp_rpsl.specs.Lines.{line_of, lines_ahead}
use Rattle.ixp_rpsl_sources.specs.Told.{said_in}
use Rattle.ixp_rpsl_sources.proofs.Passing.{passes_empty, passes_object}
use Rattle.ixp_rpsl_sources.proofs.reading.read_next.Goals as goal

pub returns-then-is_nothing : goal.returns-then-is_nothing
returns-then-is_nothing c = (passes_empty c.args.sources.now (line_of c.args.line) (lines_ahead c.args.ahead) (said_in c.args.gleaned.now) (sym c.is_nothing.ensures ∙ c.if-is_nothing.true), omega arith)

pub returns : goal.returns
returns c =
    let all = c.in_ok-rest.ensures in (
      passes_object c.args.sources.now (line_of c.args.line) (lines_ahead c.args.ahead) (lines_ahead c.in_ok-rest.rest) (said_in c.args.gleaned.now) (said_in c.read_object.new.gleaned)
          (sym c.is_nothing.ensures ∙ c.if-is_nothing.false) all.0,
      all.1,
    )
