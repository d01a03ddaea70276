use Rattle.std.proofs.Common.{◌++◌, take, arith}
use Rattle.std.proofs.lemmas.Grind.{common_steps}
use Rattle.ixp_io.proofs.Streams.{Moves-then}
use Rattle.ixp_io.proofs.whole.read_whole.Goals as goal

pub returns-then-count-room-clause-most : goal.returns-then-count-room-clause-most
returns-then-count-room-clause-most g c = (c.loop-asked.bytes.items ++ take c.in_ok-count.count c.read.new.buf, grind (arith, common_steps), Moves-then _ _ _ _ _ c.loop-asked.invariant.moves c.in_ok-count.ensures.moves)

pub returns-in_err-extend_from_slice-clause-most : goal.returns-in_err-extend_from_slice-clause-most
returns-in_err-extend_from_slice-clause-most g c = (c.loop-asked.bytes.items ++ take c.in_ok-count.count c.read.new.buf, grind (arith, common_steps), Moves-then _ _ _ _ _ c.loop-asked.invariant.moves c.in_ok-count.ensures.moves)
