use Rattle.std.proofs.Common.{◌≡◌, ◌≤◌, ◌<◌, ℕ, length}
use Rattle.ixp_lang_tokens.specs.Grammars.{rounds}
use Rattle.ixp_lang_tokens.specs.Reading.{read, kinds, read_rounds}
use Rattle.ixp_lang_exprs.specs.Names.{names_of}
use Rattle.ixp_read.specs.Functions.{no_params, param_round}
use Rattle.ixp_read.specs.Views.{params_of}
use Rattle.ixp_read.proofs.params.some_params_at.Given as goal

abbrev pub invariant-each : goal.invariant-each
invariant-each l = record {
  reads : (k : ℕ) × (length l.left ≤ k) × (read_rounds k (λ s ts. read (param_round l.number s) ts) (params_of l.params (names_of l.env)) (kinds l.left) ≡ read (rounds (param_round l.number) (no_params (names_of l.fn.env))) (kinds l.tokens));
  shorter : length l.left ≤ length l.tokens;
}

abbrev pub decreases-each : goal.decreases-each
decreases-each l = length l.left
