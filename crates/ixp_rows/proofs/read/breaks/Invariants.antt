use Rattle.std.proofs.Common.{◌≡◌, ◌+◌, ◌≤◌, drop}
use Rattle.ixp_rows.specs.Reading.{breaks}
use Rattle.ixp_rows.proofs.read.breaks.Given as goal

abbrev pub invariant-each : goal.invariant-each
invariant-each l = record {
  counted : l.count + breaks (drop l.byte-index l.text) ≡ breaks l.fn.text;
  most : l.count ≤ l.byte-index;
}
