use Rattle.std.proofs.Common.{refl, sym, subst}
use Rattle.ixp_rpsl.specs.Lines.{lines_ahead}
use Rattle.ixp_rpsl.specs.Attributes.{named}
use Rattle.ixp_rpsl_sources.specs.Said.{StandingSays, nothing}
use Rattle.ixp_rpsl_sources.specs.Told.{said_in}
use Rattle.ixp_rpsl_sources.proofs.Joining.{join_nothing}
use Rattle.ixp_rpsl_sources.proofs.reading.read_standing.Goals as goal

pub returns-in-Elsewhere : goal.returns-in-Elsewhere
returns-in-Elsewhere c = (
  nothing,
  subst (λ s. StandingSays s (named c.args.line.bytes.now) c.args.is_bad c.args.line.number (lines_ahead c.args.ahead) nothing) (sym c.in-Elsewhere.is) refl,
  sym (join_nothing (said_in c.args.gleaned.now)),
)
