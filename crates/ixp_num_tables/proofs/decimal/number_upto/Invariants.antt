use Rattle.std.proofs.Common.{◌≡◌, ◌≤◌, drop}
use Rattle.ixp_num_tables.specs.Decimals as spec
use Rattle.ixp_num_tables.proofs.decimal.number_upto.Given as goal

abbrev pub invariant-loop-digit : goal.invariant-loop-digit
invariant-loop-digit l = record {
  value : spec.number_upto l.most l.text ≡ spec.number_from l.most l.value (drop l.digit-index l.text);
  within : l.value ≤ l.most;
}
