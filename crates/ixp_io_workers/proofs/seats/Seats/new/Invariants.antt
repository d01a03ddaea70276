use Rattle.std.proofs.Common.{◌≡◌, ◌+◌, vec_len}
use Rattle.ixp_io_workers.proofs.seats.Seats.new.Given as goal

-- each seat but the background's is a worker's, or is left
abbrev pub invariant-loop-seat : goal.invariant-loop-seat
invariant-loop-seat g l = (vec_len l.workers + vec_len l.seats) + 1 ≡ vec_len l.fn.seats

abbrev pub decreases-loop-seat : goal.decreases-loop-seat
decreases-loop-seat g l = vec_len l.seats
