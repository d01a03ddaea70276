use Rattle.std.proofs.Common.{◌&&◌, ◌||◌, ap, ◌∙◌}
use Rattle.ixp_num.specs.Prefixes.{contains}
use Rattle.ixp_registry.specs.Lookups.{has_blackhole}
use Rattle.ixp_plan.specs.Holders.{answers_at}
use Rattle.ixp_plan.specs.Uses.{is_in}
use Rattle.ixp_plan.proofs.Gathering.{put_both}
use Rattle.ixp_plan.proofs.uses.put_router.Goals as goal

pub returns : goal.returns
returns c = λ a.
    c.in_ok-put_blackhole.ensures a
    ∙ (ap (λ b. contains c.args.prefix.now a && has_blackhole c.args.router.now a || b) (c.in_ok-put_addr.ensures a)
    ∙ put_both (contains c.args.prefix.now a) (answers_at a c.args.router.now) (has_blackhole c.args.router.now a) (is_in a c.args.used.now))
