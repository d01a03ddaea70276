use Rattle.std.proofs.Common.{◌≡◌, ◌≤◌, ℕ, length}
use Rattle.ixp_lang_tokens.specs.Reading.{read, kinds, read_rounds}
use Rattle.ixp_lang_exprs.specs.Lists.{list_round, listed}
use Rattle.ixp_lang_stmts.specs.Statements.{label_form}
use Rattle.ixp_lang_stmts.proofs.label.labels_in.Given as goal

abbrev pub invariant-each : goal.invariant-each
invariant-each l = record {
  reads : (k : ℕ) × (length l.left ≤ k) × (read_rounds k (λ s ts. read (list_round (λ before. label_form l.case.is_of_states l.case.place) s) ts) l.labels (kinds l.left) ≡ read (listed (λ before. label_form l.case.is_of_states l.case.place)) (kinds l.tokens));
  shorter : length l.left ≤ length l.tokens;
}

abbrev pub decreases-each : goal.decreases-each
decreases-each l = length l.left
