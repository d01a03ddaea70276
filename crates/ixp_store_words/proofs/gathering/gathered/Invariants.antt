use Rattle.std.proofs.Common.{length, map}
use Rattle.ixp_io.specs.Tables.{row_entry}
use Rattle.ixp_machine_steps.specs.declared.state.State.{State}
use Rattle.ixp_machine_steps.specs.States.{ValidState}
use Rattle.ixp_store_words.specs.Gathering.{IsGathered, all_in}
use Rattle.ixp_store_words.specs.Opening.{AreAllRows}
use Rattle.ixp_store_words.specs.Storing.{IsStorable}
use Rattle.ixp_store_words.proofs.gathering.gathered.Given as goal

abbrev pub invariant-rows : goal.invariant-rows
invariant-rows l = (s : State) → ValidState s → IsStorable s → AreAllRows s (map row_entry l.fn.rows) → IsGathered s (all_in l.gathered) (map row_entry l.left)

abbrev pub decreases-rows : goal.decreases-rows
decreases-rows l = length l.left
