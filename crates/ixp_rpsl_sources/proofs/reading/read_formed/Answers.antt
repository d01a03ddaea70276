use Rattle.std.proofs.Common.{refl, sym, subst}
use Rattle.ixp_rpsl.specs.Lines.{lines_ahead}
use Rattle.ixp_rpsl.specs.Attributes.{whole_value}
use Rattle.ixp_rpsl.specs.Values.{trimmed}
use Rattle.ixp_rpsl_sources.specs.Said.{PlacedSays, nothing}
use Rattle.ixp_rpsl_sources.specs.Told.{said_in}
use Rattle.ixp_rpsl_sources.proofs.Joining.{join_nothing}
use Rattle.ixp_rpsl_sources.proofs.reading.read_formed.Goals as goal

pub returns-in-Elsewhere : goal.returns-in-Elsewhere
returns-in-Elsewhere c = (
  nothing,
  subst (λ s. PlacedSays s c.args.kind c.args.first (trimmed (whole_value c.args.key.now (lines_ahead c.args.ahead))) (lines_ahead c.args.ahead) nothing) (sym c.in-Elsewhere.is) refl,
  sym (join_nothing (said_in c.args.gleaned.now)),
)
