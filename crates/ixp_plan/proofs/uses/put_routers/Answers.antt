use Rattle.std.proofs.Common.{◌&&◌, ◌||◌, sym, ap, ◌∙◌}
use Rattle.std.specs.List.{list_any}
use Rattle.ixp_num.specs.Prefixes.{contains}
use Rattle.ixp_plan.specs.Holders.{uses}
use Rattle.ixp_plan.specs.Uses.{is_in}
use Rattle.ixp_plan.proofs.Gathering.{put_both}
use Rattle.ixp_plan.proofs.uses.put_routers.Goals as goal

pub each-preserved : goal.each-preserved
each-preserved c = λ a.
    ap (λ b. contains c.args.prefix.now a && list_any (uses a) c.in-Some.others.now || b) (c.in_ok-put_router.ensures a)
    ∙ (put_both (contains c.args.prefix.now a) (uses a c.in-Some.router.now) (list_any (uses a) c.in-Some.others.now) (is_in a c.each.used)
    ∙ (ap (λ xs. contains c.args.prefix.now a && list_any (uses a) xs || is_in a c.each.used) (sym c.in-Some.ensures.cases.0) ∙ c.each.invariant a))
