use Rattle.std.proofs.Common.{drop, ◌≡◌, ◌≤◌, ◌+◌}
use Rattle.ixp_http.specs.Heads as spec
use Rattle.ixp_http.proofs.head.line_feeds.Given as goal

abbrev pub invariant-loop-b : goal.invariant-loop-b
invariant-loop-b l = record {
  within : l.count ≤ l.b-index;
  is : l.count + spec.line_feeds (drop l.b-index l.bytes) ≡ spec.line_feeds l.bytes;
}
