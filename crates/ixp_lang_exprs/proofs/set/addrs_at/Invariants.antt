use Rattle.std.proofs.Common.{◌≡◌, ◌≤◌, ◌<◌, ℕ, nat_lt, length}
use Rattle.ixp_lang_tokens.specs.Reading.{read, kinds, read_rounds}
use Rattle.ixp_lang_exprs.specs.Lists.{list_round, listed}
use Rattle.ixp_lang_tokens.specs.Pieces.{an_addr}
use Rattle.ixp_lang_exprs.proofs.set.addrs_at.Given as goal

abbrev pub invariant-each : goal.invariant-each
invariant-each l = record {
  reads : (k : ℕ) × (length l.left ≤ k) × (read_rounds k (λ s ts. read (list_round (λ before. an_addr) s) ts) l.addrs (kinds l.left) ≡ read (listed (λ before. an_addr)) (kinds l.tokens));
  shorter : length l.left ≤ length l.tokens;
}

abbrev pub decreases-each : goal.decreases-each
decreases-each l = length l.left
