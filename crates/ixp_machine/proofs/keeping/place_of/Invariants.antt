use Rattle.std.proofs.Common.{◌≡◌, ◌+◌, length}
use Rattle.ixp_registry.specs.Words.{owner_numbers}
use Rattle.ixp_machine_steps.specs.Kept.{kept_owner_key}
use Rattle.ixp_num_tables.specs.Tables.{Ascends, place}
use Rattle.ixp_num_tables.proofs.Places.{onward}
use Rattle.ixp_machine.proofs.keeping.place_of.Given as goal

abbrev pub invariant-each : goal.invariant-each
invariant-each l = record {
  room : l.before + length l.left ≡ length l.fn.rows;
  ascends : Ascends kept_owner_key l.left;
  goes_on : place kept_owner_key (owner_numbers l.owner) l.fn.rows ≡ onward l.before (place kept_owner_key (owner_numbers l.owner) l.left);
}

abbrev pub decreases-each : goal.decreases-each
decreases-each l = length l.left
