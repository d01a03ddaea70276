use Rattle.std.proofs.Common.{◌≡◌, ◌++◌, ◌+◌, take, drop, length}
use Rattle.ixp_cli_plain.specs.Inputs.{dump_from, dump_part}
use Rattle.ixp_cli_plain.proofs.input.dump_part.Given as goal

abbrev pub invariant-bytes : goal.invariant-bytes
invariant-bytes l = record {
  rest : l.left ≡ drop l.count l.text;
  room : l.count + length l.left ≡ length l.text;
  same : take l.count l.text ++ dump_from l.at_start l.left ≡ dump_part l.text;
}

abbrev pub decreases-bytes : goal.decreases-bytes
decreases-bytes l = length l.left
