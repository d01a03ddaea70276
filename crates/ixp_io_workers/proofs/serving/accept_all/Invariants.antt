use Rattle.std.proofs.Common.{◌≤◌}
use Rattle.ixp_io_workers.specs.Doors.{Gave}
use Rattle.ixp_io_workers.proofs.serving.accept_all.Given as goal

-- as many links as there were rounds, and no fault less than before
abbrev pub invariant-loop : goal.invariant-loop
invariant-loop g l =
    Gave (g.D.Door.links l.initial.door) (g.D.Door.links l.door) l.counter
    × (g.D.Door.faults l.initial.door ≤ g.D.Door.faults l.door)
