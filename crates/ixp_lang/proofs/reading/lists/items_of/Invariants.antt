use Rattle.std.proofs.Common.{◌≡◌, ◌-◌}
use Rattle.ixp_lang.specs.RouteReading.{items}
use Rattle.ixp_lang.proofs.RouteLists.{carried}
use Rattle.ixp_lang.proofs.reading.lists.items_of.Given as goal

abbrev pub invariant-each : goal.invariant-each
invariant-each g l = carried l.items (items g.R.Reads.item_of (1000 - l.count) l.rest) ≡ items g.R.Reads.item_of 1000 l.fn.t
