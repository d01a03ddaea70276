use Rattle.ixp_io.proofs.Rows.{none-table_of}
use Rattle.ixp_io.proofs.mem_keeper.empty_rows.Goals as goal

pub returns : goal.returns
returns c = none-table_of c.new.result.entries c.new.ensures.empty
