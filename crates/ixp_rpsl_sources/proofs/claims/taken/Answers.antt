use Rattle.std.proofs.Common.{None, subst}
use Rattle.std.specs.BTreeMap.{UpdatesBy}
use Rattle.ixp_rpsl.specs.Lookups.{sought}
use Rattle.ixp_rpsl.proofs.Keys.{in_order}
use Rattle.ixp_rpsl_sources.proofs.Places.{places_changed}
use Rattle.ixp_rpsl_sources.proofs.claims.taken.Goals as goal

pub returns-in-Some-clause-others : goal.returns-in-Some-clause-others
returns-in-Some-clause-others c = places_changed c.args.index.now c.remove.new.self c.args.name.now None
    (subst (λ bytes. UpdatesBy in_order (sought bytes) c.args.index.now c.remove.new.self None) c.as_bytes.ensures.bytes c.remove.ensures.updates)
