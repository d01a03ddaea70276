use Rattle.std.proofs.Common.{◌≡◌, length, drop}
use Rattle.serde_json.specs.View.{items_view}
use Rattle.ixp_api_bodies.proofs.Listed.{SoFar}
use Rattle.ixp_api_bodies.proofs.each.each_of.Given as goal

abbrev pub invariant-loop-place : goal.invariant-loop-place
invariant-loop-place g l = record {
  says : SoFar g.R.ReadsItem.says l.place (items_view (drop l.place l.values)) (items_view l.values) l.items;
  few : length l.items ≡ l.place;
}
