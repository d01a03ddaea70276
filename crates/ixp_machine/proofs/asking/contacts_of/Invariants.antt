use Rattle.std.proofs.Common.{◌≡◌, ◌==◌, ◌++◌, length, filter}
use Rattle.ixp_machine.proofs.asking.contacts_of.Given as goal

abbrev pub invariant-each : goal.invariant-each
invariant-each l = l.rows ++ filter (λ c. c.member == l.member) l.left ≡ filter (λ c. c.member == l.member) l.fn.contacts

abbrev pub decreases-each : goal.decreases-each
decreases-each l = length l.left
