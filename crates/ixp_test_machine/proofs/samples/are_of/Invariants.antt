use Rattle.std.proofs.Common.{◌≡◌, length}
use Rattle.std.specs.List.{list_all}
use Rattle.ixp_num.specs.Families.{same_family}
use Rattle.ixp_test_machine.proofs.samples.are_of.Given as goal

abbrev pub invariant-each : goal.invariant-each
invariant-each l = list_all (λ p. same_family p.family l.family) l.left ≡ list_all (λ p. same_family p.family l.family) l.fn.prefixes

abbrev pub decreases-each : goal.decreases-each
decreases-each l = length l.left
