use Rattle.std.proofs.Common.{refl, sym, subst}
use Rattle.ixp_rpsl.specs.Lines.{lines_ahead}
use Rattle.ixp_rpsl_sources.specs.Said.{WantedSays, nothing}
use Rattle.ixp_rpsl_sources.specs.Told.{said_in}
use Rattle.ixp_rpsl_sources.proofs.Joining.{join_nothing}
use Rattle.ixp_rpsl_sources.proofs.reading.read_wanted.Goals as goal

pub returns-in-Other : goal.returns-in-Other
returns-in-Other c = (nothing, subst (λ k. WantedSays k c.args.place c.args.first c.args.key.now (lines_ahead c.args.ahead) nothing) (sym c.in-Other.is) refl, sym (join_nothing (said_in c.args.gleaned.now)))
