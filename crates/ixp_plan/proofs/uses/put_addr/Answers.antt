use Rattle.std.proofs.Common.{sym, ap, ◌∙◌}
use Rattle.ixp_plan.specs.Uses.{is_in}
use Rattle.ixp_plan.proofs.Gathering.{in_put_inside}
use Rattle.ixp_plan.proofs.uses.put_addr.Goals as goal

pub returns-in_ok-put : goal.returns-in_ok-put
returns-in_ok-put c = λ a.
    ap (is_in a) c.in_ok-put.ensures.ok
    ∙ in_put_inside c.args.prefix.now (record { addr = c.args.addr }) c.args.used.now a (sym c.contains.ensures ∙ c.if-contains.true)
