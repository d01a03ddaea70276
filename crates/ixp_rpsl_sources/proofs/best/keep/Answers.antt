use Rattle.std.proofs.Common.{◌≡◌, ◌∙◌, ap, Some, subst}
use Rattle.std.specs.BTreeMap.{UpdatesBy, get_by}
use Rattle.ixp_rpsl.specs.Lookups.{sought}
use Rattle.ixp_rpsl.proofs.Keys.{changed, in_order}
use Rattle.ixp_rpsl_sources.specs.Told.{better_of}
use Rattle.ixp_rpsl_sources.proofs.best.keep.Goals as goal

pub returns : goal.returns
returns c =
    let name = c.args.name.now in
    let better : c.better_of-best.result ≡ better_of c.args.object (get_by (sought name) c.args.index.now) = c.better_of-best.ensures ∙ ap (better_of c.args.object) c.kept.ensures in
    changed c.args.index.now c.insert.new.self name (Some (better_of c.args.object (get_by (sought name) c.args.index.now)))
    (subst (λ b. UpdatesBy in_order (sought name) c.args.index.now c.insert.new.self (Some b)) better
    (subst (λ bytes. UpdatesBy in_order (sought bytes) c.args.index.now c.insert.new.self (Some c.better_of-best.result)) c.in_ok-key.ensures.items c.in_ok-insert.ensures.updates))
