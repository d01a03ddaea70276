use Rattle.std.proofs.Common.{◌≡◌, ◌+◌, All, length, vec_len, vec_capacity}
use Rattle.ixp_desk_lock.specs.Facts.{Log}
use Rattle.ixp_desk.specs.Openings.{AreSeats}
use Rattle.ixp_desk.proofs.sharing.numbered.Given as goal

abbrev pub invariant-each : goal.invariant-each
invariant-each g l =
    (vec_capacity l.seats ≡ vec_capacity l.fn.room)
    × (vec_len l.left + vec_len l.seats ≡ vec_len l.fn.taken)
    × (l.number ≡ vec_len l.seats)
    × (l.number ≡ length l.seats.items)
    × (length l.left.items + length l.seats.items ≡ length l.fn.taken.items)
    × ((log : Log) → All (λ s. s ≡ log) l.fn.taken.items → All (λ s. s ≡ log) l.left.items × AreSeats 0 log l.seats.items)

abbrev pub decreases-each : goal.decreases-each
decreases-each g l = length l.left.items
