use Rattle.std.proofs.Common.{None, length, option_map}
use Rattle.ixp_store_damage.specs.Walking.{AreLines}
use Rattle.ixp_store_damage.proofs.lines.are_lines.Given as goal

abbrev pub invariant-lines : goal.invariant-lines
invariant-lines g l = record {
  to : AreLines g.R.Lined.row_kind l.fn.member l.fn.family None l.fn.text → AreLines g.R.Lined.row_kind l.fn.member l.fn.family (option_map g.R.Lined.key l.last) l.left;
  back : AreLines g.R.Lined.row_kind l.fn.member l.fn.family (option_map g.R.Lined.key l.last) l.left → AreLines g.R.Lined.row_kind l.fn.member l.fn.family None l.fn.text;
}

abbrev pub decreases-lines : goal.decreases-lines
decreases-lines g l = length l.left
