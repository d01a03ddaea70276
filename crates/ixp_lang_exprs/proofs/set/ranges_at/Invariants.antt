use Rattle.std.proofs.Common.{◌≡◌, ◌≤◌, ◌<◌, ℕ, nat_lt, length}
use Rattle.ixp_lang_tokens.specs.Reading.{read, kinds, read_rounds}
use Rattle.ixp_lang_exprs.specs.Lists.{list_round, listed}
use Rattle.ixp_lang_exprs.specs.Sets.{range}
use Rattle.ixp_lang_exprs.specs.Names.{names_at}
use Rattle.ixp_lang_exprs.proofs.set.ranges_at.Given as goal

abbrev pub invariant-each : goal.invariant-each
invariant-each l = record {
  reads : (k : ℕ) × (length l.left ≤ k) × (read_rounds k (λ s ts. read (list_round (λ before. range (names_at l.cx)) s) ts) l.ranges (kinds l.left) ≡ read (listed (λ before. range (names_at l.cx))) (kinds l.tokens));
  shorter : length l.left ≤ length l.tokens;
}

abbrev pub decreases-each : goal.decreases-each
decreases-each l = length l.left
