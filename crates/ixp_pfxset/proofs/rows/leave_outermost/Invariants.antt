use Rattle.std.proofs.Common.{not}
use Rattle.std.proofs.lemmas.List.Filters.{FiltersInPlace}
use Rattle.ixp_num.specs.declared.prefix.Prefix.{Prefix}
use Rattle.ixp_pfxset.specs.Plain.{is_within}
use Rattle.ixp_pfxset.proofs.Standing.{IsLast}
use Rattle.ixp_pfxset.proofs.rows.leave_outermost.Given as goal

-- the rows so far that no shorter one covers stand at the front, and the last of them is known
abbrev pub invariant-each : goal.invariant-each
invariant-each l =
    FiltersInPlace (λ (r : Prefix). not (is_within l.initial.list.items r)) l.initial.list.items l.list.items l.left l.i × IsLast l.initial.list.items l.i l.last
