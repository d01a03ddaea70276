use Rattle.std.proofs.Common.{◌≤◌, List, ℕ, length}
use Rattle.ixp_lang_tokens.specs.Gaps.{Gap}
use Rattle.ixp_lang_tokens.proofs.gap.behind_gap.Given as goal

abbrev pub invariant-gap : goal.invariant-gap
invariant-gap l = ((here : List ℕ) → Gap l.rest here → Gap l.bytes here) × (length l.rest ≤ length l.bytes)

abbrev pub decreases-gap : goal.decreases-gap
decreases-gap l = length l.rest
