use Rattle.std.proofs.Common.{◌&&◌, ◌||◌, sym, ap, ◌∙◌}
use Rattle.std.specs.List.{list_any}
use Rattle.ixp_num.specs.Prefixes.{contains}
use Rattle.ixp_registry.specs.Lookups.{has_addr}
use Rattle.ixp_plan.specs.Uses.{is_in}
use Rattle.ixp_plan.proofs.Gathering.{put_both}
use Rattle.ixp_plan.proofs.uses.put_interfaces.Goals as goal

pub each-preserved : goal.each-preserved
each-preserved c = λ a.
    ap (λ b. contains c.args.prefix.now a && list_any (has_addr a) c.in-Some.others.now || b) (c.in_ok-put_interface.ensures a)
    ∙ (put_both (contains c.args.prefix.now a) (has_addr a c.in-Some.interface.now) (list_any (has_addr a) c.in-Some.others.now) (is_in a c.each.used)
    ∙ (ap (λ xs. contains c.args.prefix.now a && list_any (has_addr a) xs || is_in a c.each.used) (sym c.in-Some.ensures.cases.0) ∙ c.each.invariant a))
