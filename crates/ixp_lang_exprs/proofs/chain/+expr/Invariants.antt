use Rattle.std.proofs.Common.{◌≡◌, ◌+◌, ◌*◌, ◌≤◌, ◌<◌, ℕ, length}
use Rattle.ixp_lang_tokens.specs.Reading.{read, kinds, read_rounds}
use Rattle.ixp_lang_exprs.specs.Groups.{place_of, shape_of, parts_of, limit}
use Rattle.ixp_lang_exprs.specs.Joints.{joint_mark, other_mark, joined_by, chain_of}
use Rattle.ixp_lang_exprs.specs.Expressions.{expression_form, unary_form, chain_part, part_form, enclosed}
use Rattle.ixp_lang_exprs.proofs.chain.+expr.Given as goal

abbrev pub decreases-unary : goal.decreases-unary
decreases-unary l = 4 * l.depth

abbrev pub decreases-comparison : goal.decreases-comparison
decreases-comparison l = 4 * l.depth + 1

abbrev pub decreases-expression : goal.decreases-expression
decreases-expression l = 4 * l.depth + 2

abbrev pub decreases-parts_at : goal.decreases-parts_at
decreases-parts_at l = 4 * l.depth + 3

abbrev pub invariant-expression-parts : goal.invariant-expression-parts
invariant-expression-parts l = record {
  reads : (k : ℕ) × (length l.left ≤ k)
      × (read_rounds k (λ c ts. read (chain_part (unary_form (place_of l.cx) l.depth) (joint_mark l.chain.joint) (other_mark l.chain.joint) (joined_by l.chain.joint) c) ts) (chain_of l.chain) (kinds l.left)
      ≡ read (expression_form (place_of l.cx) l.depth l.fn.wanted) (kinds l.fn.tokens));
  shorter : length l.left < length l.fn.tokens;
}

abbrev pub decreases-expression-parts : goal.decreases-expression-parts
decreases-expression-parts l = length l.left

abbrev pub invariant-parts_at-parts : goal.invariant-parts_at-parts
invariant-parts_at-parts l = record {
  reads : (k : ℕ) × (length l.left ≤ k)
      × (read_rounds k (λ s ts. read (part_form (expression_form (place_of l.cx) l.depth) (shape_of l.group.shape) l.group.place s) ts) (parts_of l.parts) (kinds l.left)
      ≡ read (enclosed (place_of l.cx) (expression_form (place_of l.cx) l.depth) (shape_of l.group.shape) l.group.place) (kinds l.fn.tokens));
  room : length l.parts.exprs.items + 1 < limit l.group.shape (length l.parts.exprs.items);
  shorter : length l.left ≤ length l.fn.tokens;
}

abbrev pub decreases-parts_at-parts : goal.decreases-parts_at-parts
decreases-parts_at-parts l = length l.left
