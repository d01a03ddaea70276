use Rattle.std.proofs.Common.{◌≡◌, ◌++◌, List, ℕ, length}
use Rattle.std.specs.FinMap.{from_entries}
use Rattle.ixp_io.specs.declared.keeper.RowName.{RowName}
use Rattle.ixp_io.specs.Tables.{table_of}
use Rattle.ixp_io.proofs.mem_keeper.copy_rows.Given as goal

-- the rows that are copied stand behind those that are left
abbrev pub invariant-loop-name : goal.invariant-loop-name
invariant-loop-name l =
    (done : List (RowName × List ℕ)) × (l.fn.rows.entries ≡ l.rest ++ done) × (table_of l.copy ≡ from_entries done)

abbrev pub decreases-loop-name : goal.decreases-loop-name
decreases-loop-name l = length l.rest
