use Rattle.std.proofs.Common.{◌≡◌, length}
use Rattle.ixp_rpsl.specs.Objects.{members_of}
use Rattle.ixp_rpsl.proofs.Entering.{with_items}
use Rattle.ixp_rpsl.proofs.entries.members_of.Given as goal

abbrev pub invariant-values : goal.invariant-values
invariant-values l = with_items l.members (members_of l.left) ≡ members_of l.fn.values

abbrev pub decreases-values : goal.decreases-values
decreases-values l = length l.left
