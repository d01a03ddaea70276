use Rattle.std.proofs.Common.{◌≡◌, ◌≤◌, length}
use Rattle.ixp_lang_tokens.specs.Cutting.{behind_comment}
use Rattle.ixp_lang_tokens.proofs.gap.behind_comment.Given as goal

abbrev pub invariant-comment : goal.invariant-comment
invariant-comment l = (behind_comment l.rest ≡ behind_comment l.bytes) × (length l.rest ≤ length l.bytes)

abbrev pub decreases-comment : goal.decreases-comment
decreases-comment l = length l.rest
