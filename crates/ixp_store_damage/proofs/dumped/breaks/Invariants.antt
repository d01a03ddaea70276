use Rattle.std.proofs.Common.{◌≡◌, ◌+◌, ◌≤◌, length}
use Rattle.ixp_rows.specs.Reading.{breaks}
use Rattle.ixp_store_damage.proofs.dumped.breaks.Given as goal

abbrev pub invariant-each : goal.invariant-each
invariant-each l = record {
  count : l.count + breaks l.left ≡ breaks l.fn.text;
  within : l.count + length l.left ≤ length l.fn.text;
}

abbrev pub decreases-each : goal.decreases-each
decreases-each l = length l.left
