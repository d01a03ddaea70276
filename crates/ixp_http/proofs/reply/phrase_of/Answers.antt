use Rattle.std.proofs.Common.{arith}
use Rattle.ixp_http.proofs.reply.phrase_of.Goals as goal

pub returns-in-Err : goal.returns-in-Err
returns-in-Err c = absurd (c.in-Err.ensures (omega arith, omega arith))
