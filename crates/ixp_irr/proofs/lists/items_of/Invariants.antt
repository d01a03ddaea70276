use Rattle.std.proofs.Common.{◌≡◌, ◌≤◌, ℕ, ◌+◌, List, ◌++◌, length}
use Rattle.std.specs.Str.Lines.{lines}
use Rattle.ixp_irr.specs.Lists.{Lists}
use Rattle.ixp_irr.proofs.lists.items_of.Given as goal

-- the lines so far, and their items
abbrev pub invariant-lines : goal.invariant-lines
invariant-lines g l =
    (before : List (List ℕ)) × (lines l.t ≡ before ++ lines l.rest) × (l.n ≡ length before) × (l.n + length l.rest ≤ length l.t)
    × Lists (g.R.Reads.says l.reader) before l.items.items

abbrev pub decreases-lines : goal.decreases-lines
decreases-lines g l = length l.rest
