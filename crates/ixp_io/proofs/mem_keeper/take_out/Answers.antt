use Rattle.std.proofs.Common.{None}
use Rattle.ixp_io.proofs.Rows.{set-table_of}
use Rattle.ixp_io.proofs.mem_keeper.take_out.Goals as goal

pub returns : goal.returns
returns c = set-table_of c.args.rows.now.entries c.remove.new.self.entries c.args.name.now None c.len-ordered.ensures.ordered c.remove.ensures.ordered c.remove.ensures.updates.0
