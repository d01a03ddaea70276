use Rattle.std.proofs.Common.{◌≡◌, length, ◌∙◌}
use Rattle.ixp_build_demo.specs.Counts.{counts_of}
use Rattle.ixp_build_demo.proofs.Parts.{one_counts, patterns_sum, sessions_sum}
use Rattle.ixp_build_demo.proofs.counting.counts.Goals as goal

pub returns : goal.returns
returns c =
    let r = c.args.registry.now in
    let sessions : c.all_sessions.result ≡ (counts_of r).sessions = c.all_sessions.ensures ∙ sessions_sum r in
    let patterns : c.in_ok-all_patterns.field-0 ≡ (counts_of r).patterns = c.in_ok-all_patterns.ensures ∙ patterns_sum r in
    one_counts c.len.result (length r.members) c.all_sessions.result (counts_of r).sessions c.in_ok-all_patterns.field-0 (counts_of r).patterns c.len.ensures sessions patterns
