use Rattle.std.proofs.Common.{◌≡◌, ◌+◌, ◌*◌, ◌≤◌, ℕ, length}
use Rattle.ixp_lang.specs.Views.{stmts_view}
use Rattle.ixp_lang_tokens.specs.Reading.{read, kinds, read_rounds}
use Rattle.ixp_lang_stmts.specs.Statements.{said, statement_form, statement_round, statements_of, arm_round, arms_form}
use Rattle.ixp_lang_stmts.specs.Views.{frame_of, returned_of, arms_list}
use Rattle.ixp_lang_stmts.proofs.stmt.+stmt.Given as goal

abbrev pub decreases-branch : goal.decreases-branch
decreases-branch l = 8 * l.depth

abbrev pub decreases-else_at : goal.decreases-else_at
decreases-else_at l = 8 * l.depth + 1

abbrev pub decreases-if_at : goal.decreases-if_at
decreases-if_at l = 8 * l.depth + 2

abbrev pub decreases-statement : goal.decreases-statement
decreases-statement l = 8 * l.depth + 3

abbrev pub decreases-statements : goal.decreases-statements
decreases-statements l = 8 * l.depth + 4

abbrev pub decreases-block_end : goal.decreases-block_end
decreases-block_end l = 8 * l.depth + 5

abbrev pub decreases-arms_at : goal.decreases-arms_at
decreases-arms_at l = 8 * l.depth + 5

abbrev pub decreases-case_end : goal.decreases-case_end
decreases-case_end l = 8 * l.depth + 6

abbrev pub decreases-case_at : goal.decreases-case_at
decreases-case_at l = 8 * l.depth + 7

abbrev pub invariant-statements-each : goal.invariant-statements-each
invariant-statements-each l = record {
  reads : (k : ℕ) × (length l.left ≤ k)
      × (read_rounds k (λ s ts. read (statement_round (statement_form (frame_of l.frame) l.depth) l.in_arm s) ts) (said (returned_of l.returned) (stmts_view l.body.items)) (kinds l.left)
      ≡ read (statements_of (statement_form (frame_of l.frame) l.depth) l.in_arm (returned_of l.fn.returned)) (kinds l.fn.tokens));
  shorter : length l.left ≤ length l.fn.tokens;
}

abbrev pub decreases-statements-each : goal.decreases-statements-each
decreases-statements-each l = length l.left

abbrev pub invariant-arms_at-each : goal.invariant-arms_at-each
invariant-arms_at-each l = record {
  reads : (k : ℕ) × (length l.left ≤ k)
      × (read_rounds k (λ s ts. read (arm_round (statement_form (frame_of l.frame) l.depth) l.case.is_of_states l.case.place s) ts) (said (returned_of l.returned) (arms_list l.arms.items)) (kinds l.left)
      ≡ read (arms_form (statement_form (frame_of l.frame) l.depth) l.case.is_of_states l.case.place (returned_of l.fn.returned)) (kinds l.fn.tokens));
  shorter : length l.left ≤ length l.fn.tokens;
}

abbrev pub decreases-arms_at-each : goal.decreases-arms_at-each
decreases-arms_at-each l = length l.left
