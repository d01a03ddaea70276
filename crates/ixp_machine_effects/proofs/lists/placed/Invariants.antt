use Rattle.std.proofs.Common.{◌≡◌, ◌<◌, ◌+◌, ◌^◌, ◌++◌, length}
use Rattle.ixp_machine_edits.specs.Lists.{placed}
use Rattle.ixp_machine_effects.proofs.lists.placed.Given as goal

abbrev pub invariant-each : goal.invariant-each
invariant-each l = record {
  rows : l.rows ++ placed l.member l.place l.left ≡ placed l.member 1 l.fn.rules;
  few : l.place + length l.left < 2 ^ 32;
}

abbrev pub decreases-each : goal.decreases-each
decreases-each l = length l.left
