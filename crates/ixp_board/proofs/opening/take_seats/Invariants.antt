use Rattle.std.proofs.Common.{◌≡◌, length, All}
use Rattle.ixp_board.proofs.opening.take_seats.Given as goal

-- a seat for each number so far, which has seen what the note tells
abbrev pub invariant-each : goal.invariant-each
invariant-each g l = record { count : length l.taken.items ≡ l.counter; seats : All (λ seat. seat ≡ l.last) l.taken.items }
