use Rattle.std.proofs.Common.{◌≡◌, ◌+◌, drop, flat_map, length}
use Rattle.ixp_registry.specs.Registries.{rules_in}
use Rattle.ixp_rows.proofs.printing.count_rules.Given as goal

abbrev pub invariant-loop-list : goal.invariant-loop-list
invariant-loop-list l = l.count + length (flat_map rules_in (drop l.list-index l.lists)) ≡ length (flat_map rules_in l.lists)
