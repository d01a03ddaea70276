use Rattle.std.proofs.Common.{◌≡◌, ◌++◌, map, length}
use Rattle.ixp_build_pending.specs.Rows.{header_row, part_row, rows_of}
use Rattle.ixp_build_pending.proofs.pending.rows_of.Given as goal

abbrev pub invariant-headers : goal.invariant-headers
invariant-headers l = l.rows.items ++ map (header_row l.count) l.headers ≡ map (header_row l.count) l.touch.headers

abbrev pub decreases-headers : goal.decreases-headers
decreases-headers l = length l.headers

abbrev pub invariant-sessions : goal.invariant-sessions
invariant-sessions l = l.rows.items ++ map (part_row l.count) l.sessions ≡ rows_of l.count l.touch

abbrev pub decreases-sessions : goal.decreases-sessions
decreases-sessions l = length l.sessions
