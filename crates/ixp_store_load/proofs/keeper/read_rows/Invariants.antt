use Rattle.std.proofs.Common.{◌≡◌, ◌≤◌, ◌-◌, length}
use Rattle.ixp_io.specs.Told.{WhereTold}
use Rattle.ixp_store_damage.specs.Reading.{IsFront}
use Rattle.ixp_store_load.proofs.keeper.read_rows.Given as goal

abbrev pub invariant-rows : goal.invariant-rows
invariant-rows g l = record {
  front : WhereTold (g.P.Keeper.table l.fn.keeper) (λ t. IsFront t l.rows.items);
  kept : g.P.Keeper.table l.keeper ≡ g.P.Keeper.table l.fn.keeper;
  most : length l.rows.items ≤ 8000000;
  still : g.P.Keeper.faults l.keeper ≡ g.P.Keeper.faults l.fn.keeper;
}

abbrev pub decreases-rows : goal.decreases-rows
decreases-rows g l = 8000000 - length l.rows.items
