use Rattle.std.proofs.Common.{◌≡◌, ◌+◌, ◌∷◌, ◌++◌, [], length, drop, arith, ap, ◌∙◌}
use Rattle.std.proofs.lemmas.List.{length-append}
use Rattle.serde_json.specs.View.{view, items_view}
use Rattle.ixp_api_bodies.proofs.Listed.{next_value, none_left, read_more, read_fault, read_all}
use Rattle.ixp_api_bodies.proofs.each.each_of.Goals as goal

pub returns-in-Err-clause-items : goal.returns-in-Err-clause-items
returns-in-Err-clause-items g c =
    λ free. read_fault g.R.ReadsItem.says c.loop-place.place (view c.index-values-place.result) (items_view (drop c.loop-place.place c.args.values.now))
    (items_view (drop (c.loop-place.place + 1) c.args.values.now)) (items_view c.args.values.now) c.loop-place.items c.in-Err.fault
    (next_value c.args.values.now c.loop-place.place c.index-values-place.result (omega arith) c.index-values-place.is)
    (c.in-Err.ensures free) c.loop-place.invariant.says

pub loop-place-preserved : goal.loop-place-preserved
loop-place-preserved g c =
    let pushed : c.push.new.self ≡ c.loop-place.items ++ c.in-Ok.item ∷ [] = c.in-Ok-push.ensures.ok in
    record {
      says = rw pushed (read_more g.R.ReadsItem.says c.loop-place.place (view c.index-values-place.result) (items_view (drop c.loop-place.place c.args.values.now))
          (items_view (drop (c.loop-place.place + 1) c.args.values.now)) (items_view c.args.values.now) c.loop-place.items c.in-Ok.item
          (next_value c.args.values.now c.loop-place.place c.index-values-place.result (omega arith) c.index-values-place.is)
          c.in-Ok.ensures c.loop-place.invariant.says);
      few = ap length pushed ∙ (length-append c.loop-place.items (c.in-Ok.item ∷ []) ∙ ap (λ n. n + 1) c.loop-place.invariant.few);
    }

pub returns-clause-items : goal.returns-clause-items
returns-clause-items g c =
    read_all g.R.ReadsItem.says c.loop-place.place (items_view (drop c.loop-place.place c.args.values.now)) (items_view c.args.values.now) c.loop-place.items
    (none_left c.args.values.now c.loop-place.place (omega arith)) c.loop-place.invariant.says
