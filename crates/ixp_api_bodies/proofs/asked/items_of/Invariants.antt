use Rattle.std.proofs.Common.{◌≡◌, drop}
use Rattle.serde_json.specs.View.{items_view}
use Rattle.ixp_api_bodies.specs.Asked.{items_from}
use Rattle.ixp_api_bodies.specs.Each.{behind}
use Rattle.ixp_api_bodies.proofs.asked.items_of.Given as goal

abbrev pub invariant-loop-place : goal.invariant-loop-place
invariant-loop-place g l =
    behind l.items (items_from g.L.Listed.item_at l.fn.field l.place (items_view (drop l.place l.values))) ≡ items_from g.L.Listed.item_at l.fn.field 0 (items_view l.values)
