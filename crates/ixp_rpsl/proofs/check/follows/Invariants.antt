use Rattle.std.proofs.Common.{◌≡◌, ◌+◌, length, take, drop}
use Rattle.ixp_rpsl.specs.Expansion.{follows}
use Rattle.ixp_rpsl.proofs.check.follows.Given as goal

abbrev pub invariant-each : goal.invariant-each
invariant-each l = record {
  rest : drop l.at l.fn.c ≡ l.left;
  room : l.at + length l.left ≡ length l.fn.c;
  same : follows l.fn.rows (take l.at l.fn.c) l.left ≡ follows l.fn.rows (take 1 l.fn.c) (drop 1 l.fn.c);
}

abbrev pub decreases-each : goal.decreases-each
decreases-each l = length l.left
