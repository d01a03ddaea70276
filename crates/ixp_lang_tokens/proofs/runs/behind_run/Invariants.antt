use Rattle.std.proofs.Common.{◌≡◌, ◌≤◌, length}
use Rattle.ixp_lang_tokens.specs.Cutting.{behind_run}
use Rattle.ixp_lang_tokens.proofs.runs.behind_run.Given as goal

abbrev pub invariant-run : goal.invariant-run
invariant-run l = (behind_run l.class l.rest ≡ behind_run l.class l.bytes) × (length l.rest ≤ length l.bytes)

abbrev pub decreases-run : goal.decreases-run
decreases-run l = length l.rest
