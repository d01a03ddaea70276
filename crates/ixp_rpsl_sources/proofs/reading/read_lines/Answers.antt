use Rattle.std.proofs.Common.{sym}
use Rattle.ixp_rpsl.specs.Lines.{lines_ahead}
use Rattle.ixp_rpsl.specs.Attributes.{named}
use Rattle.ixp_rpsl_sources.specs.Said.{passed_at}
use Rattle.ixp_rpsl_sources.proofs.Saying.{bad_formed, nameless}
use Rattle.ixp_rpsl_sources.proofs.reading.read_lines.Goals as goal

pub returns-then-is_bad : goal.returns-then-is_bad
returns-then-is_bad c = (
  passed_at c.args.line.number,
  bad_formed c.args.standing (named c.args.line.bytes.now) c.args.is_bad c.args.line.number (lines_ahead c.args.ahead) c.if-is_bad.true,
  c.in_ok-pass-in-Some.ensures,
)

pub returns-in_ok-pass-in-None : goal.returns-in_ok-pass-in-None
returns-in_ok-pass-in-None c = (
  passed_at c.args.line.number,
  nameless c.args.standing (named c.args.line.bytes.now) c.args.is_bad c.args.line.number (lines_ahead c.args.ahead) (sym c.in-None.ensures),
  c.in_ok-pass-in-None.ensures,
)
