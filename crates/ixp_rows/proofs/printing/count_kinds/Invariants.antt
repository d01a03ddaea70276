use Rattle.std.proofs.Common.{◌≡◌, ◌+◌, drop, map}
use Rattle.ixp_registry.specs.Registries.{rows_of}
use Rattle.ixp_rows.specs.Reading.{sum}
use Rattle.ixp_rows.specs.Printing.{kind_count}
use Rattle.ixp_rows.proofs.printing.count_kinds.Given as goal

abbrev pub invariant-loop-kind : goal.invariant-loop-kind
invariant-loop-kind l = l.count + sum (map (kind_count (rows_of l.registry)) (drop l.kind-index l.kinds)) ≡ sum (map (kind_count (rows_of l.registry)) l.kinds)
