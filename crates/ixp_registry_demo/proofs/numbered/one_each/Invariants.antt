use Rattle.std.proofs.Common.{◌≡◌}
use Rattle.ixp_registry_demo.specs.Demo.{each}
use Rattle.ixp_registry_demo.proofs.numbered.one_each.Given as goal

abbrev pub invariant-loop-before : goal.invariant-loop-before
invariant-loop-before g l = l.rows.items ≡ each g.R.Numbered.row_of l.before
