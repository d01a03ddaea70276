use Rattle.std.proofs.Common.{◌≡◌, length}
use Rattle.std.specs.declared.cmp.Ordering.TheVariants.{Less}
use Rattle.ixp_num.specs.declared.roa.Roa.{Roa}
use Rattle.ixp_num_tables.specs.Tables.{Ascends, order}
use Rattle.ixp_num_sorted.specs.Keys.{roa_key}
use Rattle.ixp_rtr.specs.Changes.{is_among}
use Rattle.ixp_rtr.proofs.changes.pass.Given as goal

abbrev pub invariant-rows : goal.invariant-rows
invariant-rows l = record {
  ascends : Ascends roa_key l.left;
  among : is_among l.set l.roa ≡ is_among l.left l.roa;
  rest : (r : Roa) → order (roa_key l.roa) (roa_key r) ≡ Less → is_among l.set r ≡ is_among l.left r;
}

abbrev pub decreases-rows : goal.decreases-rows
decreases-rows l = length l.left
