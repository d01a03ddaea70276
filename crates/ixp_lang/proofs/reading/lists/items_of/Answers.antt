use Rattle.std.proofs.Common.{◌-◌, ◌+◌, ap, sym, ◌∙◌, arith, Ok, Err}
use Rattle.ixp_lang.specs.RouteReading.{items, one_too_many}
use Rattle.ixp_lang.proofs.RouteLists.{carried, no_item, last_item, next_item, too_many}
use Rattle.ixp_lang.proofs.reading.lists.items_of.Goals as goal

pub returns-in-Err : goal.returns-in-Err
returns-in-Err g c = no_item g.R.Reads.item_of c.each.count c.each.rest.now c.each.items (items g.R.Reads.item_of 1000 c.args.t.now) c.each.invariant c.in-Err.left (omega arith) c.in-Err.ensures

pub returns-in-None : goal.returns-in-None
returns-in-None g c =
    last_item g.R.Reads.item_of c.each.count c.each.rest.now c.each.items (items g.R.Reads.item_of 1000 c.args.t.now) c.each.invariant c.in-Ok.read.0 c.in-Ok.read.1.now (omega arith) c.in-Ok.ensures c.in-None.ensures
    ∙ ap (λ xs. Ok (xs, c.in-Ok.read.1.now)) (sym c.in-Ok-push.ensures.ok)

pub each-preserved : goal.each-preserved
each-preserved g c =
    ap (λ xs. carried xs (items g.R.Reads.item_of (1000 - (c.each.count + 1)) c.in-Some.next.now)) c.in-Ok-push.ensures.ok
    ∙ next_item g.R.Reads.item_of c.each.count c.each.rest.now c.each.items (items g.R.Reads.item_of 1000 c.args.t.now) c.each.invariant c.in-Ok.read.0 c.in-Ok.read.1.now c.in-Some.next.now (omega arith) c.in-Ok.ensures c.in-Some.ensures

pub returns-then-begins : goal.returns-then-begins
returns-then-begins g c =
    too_many g.R.Reads.item_of c.each.count c.each.rest.now c.each.items (items g.R.Reads.item_of 1000 c.args.t.now) c.each.invariant (omega arith)
    ∙ ap (λ b. Err (one_too_many b c.each.rest.now)) (sym c.begins.ensures ∙ c.if-begins.true)

pub returns : goal.returns
returns g c =
    too_many g.R.Reads.item_of c.each.count c.each.rest.now c.each.items (items g.R.Reads.item_of 1000 c.args.t.now) c.each.invariant (omega arith)
    ∙ ap (λ b. Err (one_too_many b c.each.rest.now)) (sym c.begins.ensures ∙ c.if-begins.false)
