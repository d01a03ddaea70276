use Rattle.std.proofs.Common.{arith, drop}
use Rattle.std.proofs.lemmas.Grind.{common_steps}
use Rattle.ixp_io.proofs.Pieces.{copied_front}
use Rattle.ixp_io.proofs.mem_source.MemSourceSource.read.Goals as goal

pub returns-clause-moved : goal.returns-clause-moved
returns-clause-moved c = copied_front c.args.self.now.bytes c.copy_from_slice.new.self (drop c.min-count.result c.args.buf.now) c.args.self.now.at c.min-count.result (grind (arith, common_steps)) (grind (arith, common_steps))
