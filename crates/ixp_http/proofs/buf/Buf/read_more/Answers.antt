use Rattle.std.proofs.Common.{arith}
use Rattle.std.proofs.lemmas.Grind.{common_steps}
use Rattle.ixp_http.proofs.Together.{taken_none, taken_moved}
use Rattle.ixp_http.proofs.buf.Buf.read_more.Goals as goal

pub returns-in-Err-clause-taken : goal.returns-in-Err-clause-taken
returns-in-Err-clause-taken g c = taken_none _ _ _ _ (c.in-Err.ensures.kept) (omega arith)

pub returns-in_err-extend_from_slice-clause-taken : goal.returns-in_err-extend_from_slice-clause-taken
returns-in_err-extend_from_slice-clause-taken g c = taken_moved _ _ _ _ _ c.in-Ok.ensures.moves (grind (arith, common_steps))
