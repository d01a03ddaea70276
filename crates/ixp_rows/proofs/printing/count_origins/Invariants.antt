use Rattle.std.proofs.Common.{◌≡◌, ◌+◌, drop, flat_map, length}
use Rattle.ixp_registry.specs.Registries.{origins_of}
use Rattle.ixp_rows.proofs.printing.count_origins.Given as goal

abbrev pub invariant-loop-list : goal.invariant-loop-list
invariant-loop-list l = l.count + length (flat_map origins_of (drop l.list-index l.lists)) ≡ length (flat_map origins_of l.lists)
