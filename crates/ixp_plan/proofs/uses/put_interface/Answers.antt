use Rattle.std.proofs.Common.{◌&&◌, ◌||◌, ap, ◌∙◌}
use Rattle.ixp_num.specs.Prefixes.{contains}
use Rattle.ixp_registry.specs.Lookups.{is_at}
use Rattle.ixp_plan.specs.Uses.{is_in}
use Rattle.ixp_plan.proofs.Gathering.{put_both}
use Rattle.ixp_plan.proofs.uses.put_interface.Goals as goal

pub returns : goal.returns
returns c = λ a.
    c.in_ok-put_if_there-2.ensures a
    ∙ (ap (λ b. contains c.args.prefix.now a && is_at a c.args.interface.now.v6 || b) (c.in_ok-put_if_there.ensures a)
    ∙ put_both (contains c.args.prefix.now a) (is_at a c.args.interface.now.v4) (is_at a c.args.interface.now.v6) (is_in a c.args.used.now))
