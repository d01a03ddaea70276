use Rattle.std.proofs.Common.{◌≡◌, ◌+◌, vec_len}
use Rattle.ixp_desk_serve.proofs.server.pairs_of.Given as goal

abbrev pub invariant-each : goal.invariant-each
invariant-each g l = vec_len l.pairs + vec_len l.left ≡ vec_len l.fn.seats

abbrev pub decreases-each : goal.decreases-each
decreases-each g l = vec_len l.left
