use Rattle.std.proofs.Common.{◌≡◌, drop}
use Rattle.ixp_io.specs.Tables.{changed, table_of}
use Rattle.ixp_io.proofs.mem_keeper.MemKeeperKeeper.commit.Given as goal

-- the changes that are left make of the copy what all of them make of the rows
abbrev pub invariant-loop-change : goal.invariant-loop-change
invariant-loop-change l =
    changed (table_of l.rows) (drop l.change-index l.batch) ≡ changed (table_of l.fn.self.rows) l.batch
