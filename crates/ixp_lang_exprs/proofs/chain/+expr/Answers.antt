use Rattle.std.proofs.Common.{◌≡◌, ◌≤◌, length, ℕ, ◌-◌, List, Bor, ◌∙◌, sym, ap, subst, Err, Ok, arith}
use Rattle.ixp_lang_tokens.specs.Grammars.{Step, checks, rounds}
use Rattle.ixp_lang_tokens.specs.Reading.{read, read_rounds, kinds, Gives, checked, ◌>>=◌}
use Rattle.ixp_lang_exprs.specs.declared.types.ValueType.TheVariants.{Bool as Truth}
use Rattle.ixp_lang_exprs.specs.Operands.{operand_of, fits, anything, one_type, in_vain, Operand}
use Rattle.ixp_lang_exprs.specs.Groups.{place_of, shape_of, parts_of, from_opening, finishing, finished, finished_read, shape_in}
use Rattle.ixp_lang_exprs.specs.Joints.{joint_mark, other_mark, joined_by, chain_of, ended_chain}
use Rattle.ixp_lang_exprs.specs.Expressions.{Chain, Parts as TheParts, part_form, part_ending, chain_part, begun_with, part_joint, unary_form, comparison_of, expression_form, enclosed, wanted_part, no_parts}
use Rattle.ixp_lang_exprs.proofs.chain.+expr.Goals as goal
use Rattle.std.proofs.lemmas.Result.{err_from_is_err_and}
use Rattle.ixp_lang_tokens.specs.declared.token.Kind.{Kind}
use Rattle.ixp_lang_tokens.specs.declared.token.Token.{Token}
use Rattle.ixp_lang_tokens.specs.Pieces.{the_mark}
use Rattle.ixp_lang_tokens.specs.declared.fault.Cause.TheVariants.{Deep}
use Rattle.ixp_lang_exprs.proofs.Firsts.{kinds_length}
use Rattle.ixp_lang_exprs.proofs.Levels.{negation_of, not_more, not_none}
use Rattle.ixp_lang_exprs.proofs.Rounds.{ends, goes_on, passed_on, round_fails}
use Rattle.ixp_lang_exprs.proofs.Steps.{refused, leads_to, hindered, not_at_last, in_vain_known, left_read, right_read, operator_known, operator_unknown, at_wanted, expression_joint, expression_alone, chain_begins}
use Rattle.ixp_lang_exprs.proofs.PartSteps.{after_first, told_whole, told_fault, untold, room_first, unmade, chain_tests}

pub comparison-returns-in_default-clause-reads : goal.comparison-returns-in_default-clause-reads
comparison-returns-in_default-clause-reads t c =
    operator_unknown (unary_form (place_of c.args.cx) c.args.depth) c.args.wanted (kinds c.args.tokens.now) (kinds c.in_ok-left.rest.now) (operand_of c.in_ok-left.left) c.in_ok-left.ensures.reads c.in_ok-begins.ensures (sym c.in_default.ensures.reads)

pub comparison-returns-in_err-fits_wanted-clause-reads :
    goal.comparison-returns-in_err-fits_wanted-clause-reads
comparison-returns-in_err-fits_wanted-clause-reads t c =
    let p = err_from_is_err_and c.from_residual-in_err-fits_wanted.result c.from_residual-in_err-fits_wanted.ensures.1 in
    let whole = operator_known (unary_form (place_of c.args.cx) c.args.depth) c.args.wanted (kinds c.args.tokens.now) (kinds c.in_ok-left.rest.now) (kinds c.in-Some.behind.now) (operand_of c.in_ok-left.left) c.in-Some.op (length c.in_ok-left.rest.now)
    (sym (kinds_length c.in_ok-left.rest.now)) c.in_ok-left.ensures.reads c.in_ok-begins.ensures (sym c.in-Some.ensures.reads) in
    rw (p.1, p.2) (subst (λ r. Gives {X = Operand × List Kind} (λ x. x) (Err c.in_err-fits_wanted.field-0.0) r) (sym whole) (refused c.in_err-fits_wanted.field-0.0 _ _ c.in_err-fits_wanted.ensures))

pub comparison-returns-in_err-right-clause-reads :
    goal.comparison-returns-in_err-right-clause-reads
comparison-returns-in_err-right-clause-reads t c =
    let p = err_from_is_err_and c.from_residual-in_err-right.result c.from_residual-in_err-right.ensures.1 in
    let u = unary_form (place_of c.args.cx) c.args.depth in
    let left = operand_of c.in_ok-left.left in
    let n = length c.in_ok-left.rest.now in
    let whole = operator_known u c.args.wanted (kinds c.args.tokens.now) (kinds c.in_ok-left.rest.now) (kinds c.in-Some.behind.now) left c.in-Some.op n (sym (kinds_length c.in_ok-left.rest.now)) c.in_ok-left.ensures.reads c.in_ok-begins.ensures (sym c.in-Some.ensures.reads)
    ∙ ap (λ o. checked o (read (u anything) (kinds c.in-Some.behind.now) >>= right_read u c.args.wanted c.in-Some.op left n)) c.in_ok-fits_wanted.ensures in
    rw (p.1, p.2) (subst (λ r. Gives {X = Operand × List Kind} (λ x. x) (Err c.in_err-right.field-0.0) r) (sym whole)
    (passed_on c.in_err-right.field-0.0 (read (u anything) (kinds c.in-Some.behind.now)) (right_read u c.args.wanted c.in-Some.op left n) c.in_err-right.ensures.reads))

pub comparison-returns-clause-reads : goal.comparison-returns-clause-reads
comparison-returns-clause-reads t c =
    let u = unary_form (place_of c.args.cx) c.args.depth in
    let left = operand_of c.in_ok-left.left in
    let n = length c.in_ok-left.rest.now in
    let whole = operator_known u c.args.wanted (kinds c.args.tokens.now) (kinds c.in_ok-left.rest.now) (kinds c.in-Some.behind.now) left c.in-Some.op n (sym (kinds_length c.in_ok-left.rest.now)) c.in_ok-left.ensures.reads c.in_ok-begins.ensures (sym c.in-Some.ensures.reads)
    ∙ ap (λ o. checked o (read (u anything) (kinds c.in-Some.behind.now) >>= right_read u c.args.wanted c.in-Some.op left n)) c.in_ok-fits_wanted.ensures
    ∙ ap (λ r. r >>= right_read u c.args.wanted c.in-Some.op left n) c.in_ok-right.ensures.reads in
    subst (λ r. Gives (λ x. (operand_of x.0, kinds x.1.now)) c.compared_operand.result r) (sym whole) c.compared_operand.ensures.reads

pub expression-returns-in_default-clause-reads : goal.expression-returns-in_default-clause-reads
expression-returns-in_default-clause-reads t c =
    expression_alone (unary_form (place_of c.args.cx) c.args.depth) c.args.wanted (kinds c.args.tokens.now) (kinds c.in_ok-first.rest.now) (operand_of c.in_ok-first.first) c.in_ok-first.ensures.reads (sym c.in_default.ensures)

pub expression-returns-in_err-part-clause-reads : goal.expression-returns-in_err-part-clause-reads
expression-returns-in_err-part-clause-reads t c =
    let p = err_from_is_err_and c.from_residual-in_err-part.result c.from_residual-in_err-part.ensures.1 in
    rw (p.1, p.2) (round_fails (λ s ts. read (chain_part (unary_form (place_of c.args.cx) c.args.depth) (joint_mark c.parts.chain.joint) (other_mark c.parts.chain.joint) (joined_by c.parts.chain.joint) s) ts) c.parts.invariant.reads.0 (chain_of c.parts.chain) (kinds c.parts.left.now) (read (expression_form (place_of c.args.cx) c.args.depth c.args.wanted) (kinds c.args.tokens.now)) c.parts.invariant.reads.2 c.in_err-part.field-0.0
    (passed_on c.in_err-part.field-0.0 (read (comparison_of (unary_form (place_of c.args.cx) c.args.depth) (one_type Truth c.parts.chain.place)) (kinds c.parts.left.now)) (λ a. read (part_joint (joint_mark c.parts.chain.joint) (other_mark c.parts.chain.joint) (joined_by c.parts.chain.joint) (chain_of c.parts.chain) a.0) a.1) (at_wanted (comparison_of (unary_form (place_of c.args.cx) c.args.depth)) (kinds c.parts.left.now) (λ r. Gives {X = Operand × List Kind} (λ x. x) (Err c.in_err-part.field-0.0) r) c.wanted.ensures c.in_err-part.ensures.reads)))

pub expression-returns-in_err-is_last-clause-reads :
    goal.expression-returns-in_err-is_last-clause-reads
expression-returns-in_err-is_last-clause-reads t c =
    let p = err_from_is_err_and c.from_residual-in_err-is_last.result c.from_residual-in_err-is_last.ensures.1 in
    rw (p.1, p.2) (round_fails (λ s ts. read (chain_part (unary_form (place_of c.args.cx) c.args.depth) (joint_mark c.parts.chain.joint) (other_mark c.parts.chain.joint) (joined_by c.parts.chain.joint) s) ts) c.parts.invariant.reads.0 (chain_of c.parts.chain) (kinds c.parts.left.now) (read (expression_form (place_of c.args.cx) c.args.depth c.args.wanted) (kinds c.args.tokens.now)) c.parts.invariant.reads.2 c.in_err-is_last.field-0.0
    (subst (λ r. Gives {X = Step Chain Operand × List Kind} (λ x. x) (Err c.in_err-is_last.field-0.0) r) (sym (ap (λ r. r >>= (λ a. read (part_joint (joint_mark c.parts.chain.joint) (other_mark c.parts.chain.joint) (joined_by c.parts.chain.joint) (chain_of c.parts.chain) a.0) a.1)) (at_wanted (comparison_of (unary_form (place_of c.args.cx) c.args.depth)) (kinds c.parts.left.now) (λ r. r ≡ Ok (operand_of c.in_ok-part.part, kinds c.in_ok-part.after.now)) c.wanted.ensures c.in_ok-part.ensures.reads))) c.in_err-is_last.ensures.reads))

pub expression-returns-then-is_last-clause-reads :
    goal.expression-returns-then-is_last-clause-reads
expression-returns-then-is_last-clause-reads t c =
    sym c.parts.invariant.reads.2
    ∙ ends (λ s ts. read (chain_part (unary_form (place_of c.args.cx) c.args.depth) (joint_mark c.parts.chain.joint) (other_mark c.parts.chain.joint) (joined_by c.parts.chain.joint) s) ts) c.parts.invariant.reads.0 (chain_of c.parts.chain) (kinds c.parts.left.now) (kinds c.in_ok-is_last.next.now) (ended_chain c.link.new.self)
    (ap (λ r. r >>= (λ a. read (part_joint (joint_mark c.parts.chain.joint) (other_mark c.parts.chain.joint) (joined_by c.parts.chain.joint) (chain_of c.parts.chain) a.0) a.1)) (at_wanted (comparison_of (unary_form (place_of c.args.cx) c.args.depth)) (kinds c.parts.left.now) (λ r. r ≡ Ok (operand_of c.in_ok-part.part, kinds c.in_ok-part.after.now)) c.wanted.ensures c.in_ok-part.ensures.reads) ∙ (rw c.if-is_last.true at c.in_ok-is_last.ensures.reads))
    ∙ ap (λ o. Ok (o, kinds c.in_ok-is_last.next.now)) (sym c.ended.ensures)

pub expression-parts-preserved : goal.expression-parts-preserved
expression-parts-preserved t c =
    let g = goes_on (λ s ts. read (chain_part (unary_form (place_of c.args.cx) c.args.depth) (joint_mark c.parts.chain.joint) (other_mark c.parts.chain.joint) (joined_by c.parts.chain.joint) s) ts) c.parts.invariant.reads.0 (length c.parts.left.now) (length c.in_ok-is_last.next.now) (chain_of c.parts.chain) (chain_of c.link.new.self) (kinds c.parts.left.now) (kinds c.in_ok-is_last.next.now)
    c.parts.invariant.reads.1 (omega (arith, c.in_ok-part.ensures.shorter, c.in_ok-is_last.ensures.shorter)) (ap (λ r. r >>= (λ a. read (part_joint (joint_mark c.parts.chain.joint) (other_mark c.parts.chain.joint) (joined_by c.parts.chain.joint) (chain_of c.parts.chain) a.0) a.1)) (at_wanted (comparison_of (unary_form (place_of c.args.cx) c.args.depth)) (kinds c.parts.left.now) (λ r. r ≡ Ok (operand_of c.in_ok-part.part, kinds c.in_ok-part.after.now)) c.wanted.ensures c.in_ok-part.ensures.reads) ∙ (rw c.if-is_last.false at c.in_ok-is_last.ensures.reads)) in
    record {
      reads = subst (λ j. (k : ℕ) × (length c.in_ok-is_last.next.now ≤ k) × (read_rounds k (λ s ts. read (chain_part (unary_form (place_of c.args.cx) c.args.depth) (joint_mark j) (other_mark j) (joined_by j) s) ts) (chain_of c.link.new.self) (kinds c.in_ok-is_last.next.now) ≡ (read (expression_form (place_of c.args.cx) c.args.depth c.args.wanted) (kinds c.args.tokens.now)))) (sym c.in_ok-is_last.ensures.joint)
          (g.bound, g.enough, g.same ∙ c.parts.invariant.reads.2);
      shorter = omega (arith, c.parts.invariant.shorter, c.in_ok-part.ensures.shorter, c.in_ok-is_last.ensures.shorter);
    }

pub parts_at-returns-in_err-part-clause-reads : goal.parts_at-returns-in_err-part-clause-reads
parts_at-returns-in_err-part-clause-reads t c =
    let p = err_from_is_err_and c.from_residual-in_err-part.result c.from_residual-in_err-part.ensures.1 in
    rw (p.1, p.2) (round_fails (λ s ts. read (part_form (expression_form (place_of c.args.cx) c.args.depth) (shape_of c.args.group.shape) c.args.group.place s) ts) c.parts.invariant.reads.0 (parts_of c.parts.parts) (kinds c.parts.left.now) (read (enclosed (place_of c.args.cx) (expression_form (place_of c.args.cx) c.args.depth) (shape_of c.args.group.shape) c.args.group.place) (kinds c.args.tokens.now)) c.parts.invariant.reads.2 c.in_err-part.field-0.0
    (passed_on c.in_err-part.field-0.0 (read (expression_form (place_of c.args.cx) c.args.depth (wanted_part (shape_of c.args.group.shape) (length (parts_of c.parts.parts).trees) c.args.group.place)) (kinds c.parts.left.now)) (λ a. read (part_ending (shape_of c.args.group.shape) c.args.group.place (length (kinds c.parts.left.now)) (parts_of c.parts.parts) a.0) a.1) (at_wanted (expression_form (place_of c.args.cx) c.args.depth) (kinds c.parts.left.now) (λ r. Gives {X = Operand × List Kind} (λ x. x) (Err c.in_err-part.field-0.0) r) c.wanted.ensures c.in_err-part.ensures.reads)))

pub parts_at-returns-in_err-is_last-clause-reads :
    goal.parts_at-returns-in_err-is_last-clause-reads
parts_at-returns-in_err-is_last-clause-reads t c =
    let p = err_from_is_err_and c.from_residual-in_err-is_last.result c.from_residual-in_err-is_last.ensures.1 in
    rw (p.1, p.2) (round_fails (λ s ts. read (part_form (expression_form (place_of c.args.cx) c.args.depth) (shape_of c.args.group.shape) c.args.group.place s) ts) c.parts.invariant.reads.0 (parts_of c.parts.parts) (kinds c.parts.left.now) (read (enclosed (place_of c.args.cx) (expression_form (place_of c.args.cx) c.args.depth) (shape_of c.args.group.shape) c.args.group.place) (kinds c.args.tokens.now)) c.parts.invariant.reads.2 c.in_err-is_last.field-0.0
    (subst (λ r. Gives {X = Step TheParts TheParts × List Kind} (λ x. x) (Err c.in_err-is_last.field-0.0) r) (sym (ap (λ r. r >>= (λ a. read (part_ending (shape_of c.args.group.shape) c.args.group.place (length (kinds c.parts.left.now)) (parts_of c.parts.parts) a.0) a.1)) (at_wanted (expression_form (place_of c.args.cx) c.args.depth) (kinds c.parts.left.now) (λ r. r ≡ Ok (operand_of c.in_ok-part.part, kinds c.in_ok-part.after.now)) c.wanted.ensures c.in_ok-part.ensures.reads) ∙ ap (λ n. read (part_ending (shape_of c.args.group.shape) c.args.group.place n (parts_of c.parts.parts) (operand_of c.in_ok-part.part)) (kinds c.in_ok-part.after.now)) (kinds_length c.parts.left.now))) c.in_err-is_last.ensures.reads))

pub parts_at-returns-then-is_last-clause-reads : goal.parts_at-returns-then-is_last-clause-reads
parts_at-returns-then-is_last-clause-reads t c =
    sym c.parts.invariant.reads.2
    ∙ ends (λ s ts. read (part_form (expression_form (place_of c.args.cx) c.args.depth) (shape_of c.args.group.shape) c.args.group.place s) ts) c.parts.invariant.reads.0 (parts_of c.parts.parts) (kinds c.parts.left.now) (kinds c.in_ok-is_last.next.now) (parts_of c.add.new.self) ((ap (λ r. r >>= (λ a. read (part_ending (shape_of c.args.group.shape) c.args.group.place (length (kinds c.parts.left.now)) (parts_of c.parts.parts) a.0) a.1)) (at_wanted (expression_form (place_of c.args.cx) c.args.depth) (kinds c.parts.left.now) (λ r. r ≡ Ok (operand_of c.in_ok-part.part, kinds c.in_ok-part.after.now)) c.wanted.ensures c.in_ok-part.ensures.reads) ∙ ap (λ n. read (part_ending (shape_of c.args.group.shape) c.args.group.place n (parts_of c.parts.parts) (operand_of c.in_ok-part.part)) (kinds c.in_ok-part.after.now)) (kinds_length c.parts.left.now)) ∙ (rw c.if-is_last.true at c.in_ok-is_last.ensures.reads))

pub unary-returns-in_err-operand-clause-reads : goal.unary-returns-in_err-operand-clause-reads
unary-returns-in_err-operand-clause-reads t c =
    let p = err_from_is_err_and c.from_residual.result c.from_residual.ensures.1 in
    let at = place_of c.args.cx in
    rw (p.1, p.2) (subst (λ r. Gives {X = Operand × List Kind} (λ x. x) (Err c.in_err-operand.field-0.0) r)
    (sym (not_more at c.args.depth c.args.wanted (kinds c.args.tokens.now) (kinds c.in-Some.behind.now) c.if-depth-eq0.false (sym c.in-Some.ensures.reads)))
    (passed_on c.in_err-operand.field-0.0 (read (unary_form at (c.args.depth - 1) anything) (kinds c.in-Some.behind.now)) (λ a. negation_of a (length (kinds c.args.tokens.now))) c.in_err-operand.ensures.reads))

pub unary-returns-in-Some-clause-reads : goal.unary-returns-in-Some-clause-reads
unary-returns-in-Some-clause-reads t c =
    let at = place_of c.args.cx in
    let ts = kinds c.args.tokens.now in
    subst (λ r. Gives (λ x. (operand_of x.0, kinds x.1.now)) c.negated.result r)
    (sym (not_more at c.args.depth c.args.wanted ts (kinds c.in-Some.behind.now) c.if-depth-eq0.false (sym c.in-Some.ensures.reads)
    ∙ ap (λ r. r >>= λ a. negation_of a (length ts)) c.in_ok-operand.ensures.reads
    ∙ ap (λ n. negation_of (operand_of c.in_ok-operand.operand, kinds c.in_ok-operand.rest.now) n) (kinds_length c.args.tokens.now)))
    c.negated.ensures.reads

pub unary-returns-in_err-opened-clause-reads : goal.unary-returns-in_err-opened-clause-reads
unary-returns-in_err-opened-clause-reads t c =
    let p = err_from_is_err_and c.from_residual-in_err-opened.result c.from_residual-in_err-opened.ensures.1 in
    let at = place_of c.args.cx in
    rw (p.1, p.2) (subst (λ r. Gives {X = Operand × List Kind} (λ x. x) (Err c.in_err-opened.field-0.0) r) (sym (not_none at c.args.depth c.args.wanted (kinds c.args.tokens.now) (sym c.in_default.ensures.reads)))
    (leads_to (from_opening at c.args.wanted c.args.depth (kinds c.args.tokens.now)) c.in_err-opened.field-0.0 _ (c.in_err-opened.ensures.reads c.args.wanted)))

pub unary-returns-in_ok-typed-in-Some-2-clause-reads :
    goal.unary-returns-in_ok-typed-in-Some-2-clause-reads
unary-returns-in_ok-typed-in-Some-2-clause-reads t c =
    not_none (place_of c.args.cx) c.args.depth c.args.wanted (kinds c.args.tokens.now) (sym c.in_default.ensures.reads)
    ∙ (rw c.in-Some-2.is at (c.in_ok-opened.ensures.reads c.args.wanted))
    ∙ ap (finishing c.in-Some-2.opened.opening) (rw c.shape-shape.ensures at c.in_ok-parts-in-Some-2.ensures.reads)
    ∙ ap (λ o. Ok (o, kinds c.in_ok-parts-in-Some-2.rest.now)) (sym c.in_ok-typed-in-Some-2.ensures)

pub unary-returns-in-None-clause-reads : goal.unary-returns-in-None-clause-reads
unary-returns-in-None-clause-reads t c =
    subst (λ r. Gives (λ x. (operand_of x.0, kinds x.1.now)) c.atom_at.result r)
    (sym (not_none (place_of c.args.cx) c.args.depth c.args.wanted (kinds c.args.tokens.now) (sym c.in_default.ensures.reads) ∙ (rw c.in-None.is at (c.in_ok-opened.ensures.reads c.args.wanted)))) c.atom_at.ensures.reads

pub comparison-returns-in_err-left-clause-reads : goal.comparison-returns-in_err-left-clause-reads
comparison-returns-in_err-left-clause-reads t c =
    let p = err_from_is_err_and c.from_residual.result c.from_residual.ensures.1 in
    let u = unary_form (place_of c.args.cx) c.args.depth in
    rw (p.1, p.2) (passed_on c.in_err-left.field-0.0 (read (u c.args.wanted) (kinds c.args.tokens.now)) (left_read u c.args.wanted) c.in_err-left.ensures.reads)

pub expression-returns-in_err-first-clause-reads : goal.expression-returns-in_err-first-clause-reads
expression-returns-in_err-first-clause-reads t c =
    let p = err_from_is_err_and c.from_residual.result c.from_residual.ensures.1 in
    let u = unary_form (place_of c.args.cx) c.args.depth in
    rw (p.1, p.2) (passed_on c.in_err-first.field-0.0 (read (comparison_of u c.args.wanted) (kinds c.args.tokens.now)) (λ a. read (after_first u a.0 (length a.1)) a.1) c.in_err-first.ensures.reads)

pub expression-returns-in_err-left-clause-reads : goal.expression-returns-in_err-left-clause-reads
expression-returns-in_err-left-clause-reads t c =
    let p = err_from_is_err_and c.from_residual-in_err-left.result c.from_residual-in_err-left.ensures.1 in
    let u = unary_form (place_of c.args.cx) c.args.depth in
    let first = operand_of c.in_ok-first.first in
    let j = c.in-Some.joint in
    let n = length c.in_ok-first.rest.now in
    let whole = expression_joint u c.args.wanted (kinds c.args.tokens.now) (kinds c.in_ok-first.rest.now) first j n (sym (kinds_length c.in_ok-first.rest.now)) c.in_ok-first.ensures.reads (sym c.in-Some.ensures) in
    rw (p.1, p.2) (subst (λ r. Gives {X = Operand × List Kind} (λ x. x) (Err c.in_err-left.field-0.0) r) (sym whole)
    (passed_on c.in_err-left.field-0.0 (read (the_mark (joint_mark j)) (kinds c.in_ok-first.rest.now))
    (λ a. read (checks (fits first Truth n) (rounds (chain_part u (joint_mark j) (other_mark j) (joined_by j)) (begun_with first n))) a.1) (subst (λ m. Gives {X = Unit {0} × List Kind} (λ x. x) (Err c.in_err-left.field-0.0) (read (the_mark m) (kinds c.in_ok-first.rest.now))) c.mark.ensures c.in_err-left.ensures.reads)))

pub expression-returns-in_err-chain-clause-reads : goal.expression-returns-in_err-chain-clause-reads
expression-returns-in_err-chain-clause-reads t c =
    let p = err_from_is_err_and c.from_residual-in_err-chain.result c.from_residual-in_err-chain.ensures.1 in
    let u = unary_form (place_of c.args.cx) c.args.depth in
    let first = operand_of c.in_ok-first.first in
    let j = c.in-Some.joint in
    let n = length c.in_ok-first.rest.now in
    let whole = expression_joint u c.args.wanted (kinds c.args.tokens.now) (kinds c.in_ok-first.rest.now) first j n (sym (kinds_length c.in_ok-first.rest.now)) c.in_ok-first.ensures.reads (sym c.in-Some.ensures)
    ∙ chain_tests u j first n (kinds c.in_ok-first.rest.now) (kinds c.in_ok-left.left.now) (subst (λ m. read (the_mark m) (kinds c.in_ok-first.rest.now) ≡ Ok (tt, kinds c.in_ok-left.left.now)) c.mark.ensures c.in_ok-left.ensures.reads) in
    rw (p.1, p.2) (subst (λ r. Gives {X = Operand × List Kind} (λ x. x) (Err c.in_err-chain.field-0.0) r) (sym whole)
    (hindered chain_of (begun_with first n) c.in_err-chain.field-0.0 (fits first Truth n) (read (rounds (chain_part u (joint_mark j) (other_mark j) (joined_by j)) (begun_with first n)) (kinds c.in_ok-left.left.now)) c.in_err-chain.ensures.exact))

pub expression-parts-init : goal.expression-parts-init
expression-parts-init t c =
    let u = unary_form (place_of c.args.cx) c.args.depth in
    let first = operand_of c.in_ok-first.first in
    let j = c.in-Some.joint in
    let n = length c.in_ok-first.rest.now in
    let left = kinds c.in_ok-left.left.now in
    let whole = expression_joint u c.args.wanted (kinds c.args.tokens.now) (kinds c.in_ok-first.rest.now) first j n (sym (kinds_length c.in_ok-first.rest.now)) c.in_ok-first.ensures.reads (sym c.in-Some.ensures)
    ∙ chain_begins u j first n (kinds c.in_ok-first.rest.now) left (subst (λ m. read (the_mark m) (kinds c.in_ok-first.rest.now) ≡ Ok (tt, kinds c.in_ok-left.left.now)) c.mark.ensures c.in_ok-left.ensures.reads) c.in_ok-chain.ensures.exact.0 in
    record {
      reads = (
        length left,
        subst (λ m. length c.in_ok-left.left.now ≤ m) (sym (kinds_length c.in_ok-left.left.now)) (omega arith),
        subst (λ i. read_rounds (length left) (λ s ts. read (chain_part u (joint_mark i) (other_mark i) (joined_by i) s) ts) (chain_of c.in_ok-chain.chain) left ≡ read (expression_form (place_of c.args.cx) c.args.depth c.args.wanted) (kinds c.args.tokens.now)) (sym c.in_ok-chain.ensures.joint)
            (ap (λ s. read_rounds (length left) (λ s ts. read (chain_part u (joint_mark j) (other_mark j) (joined_by j) s) ts) s left) c.in_ok-chain.ensures.exact.1 ∙ sym whole),
      );
      shorter = omega (arith, c.in_ok-first.ensures.shorter, c.in_ok-left.ensures.shorter);
    }

pub unary-returns-then-depth-eq0-clause-reads : goal.unary-returns-then-depth-eq0-clause-reads
unary-returns-then-depth-eq0-clause-reads t c =
    let at = place_of c.args.cx in
    let ts = kinds c.args.tokens.now in
    rw c.deep.ensures (not_at_last at c.args.depth c.args.wanted ts (kinds c.in-Some.behind.now) c.if-depth-eq0.true (sym c.in-Some.ensures.reads) ∙ ap (λ n. Err (Deep, n)) (kinds_length c.args.tokens.now))

pub unary-returns-in_err-parts-in-Some-2-clause-reads : goal.unary-returns-in_err-parts-in-Some-2-clause-reads
unary-returns-in_err-parts-in-Some-2-clause-reads t c =
    let p = err_from_is_err_and c.from_residual-in_err-parts-in-Some-2.result c.from_residual-in_err-parts-in-Some-2.ensures.1 in
    let at = place_of c.args.cx in
    let opened = c.in-Some-2.opened in
    let whole = not_none at c.args.depth c.args.wanted (kinds c.args.tokens.now) (sym c.in_default.ensures.reads) ∙ (rw c.in-Some-2.is at (c.in_ok-opened.ensures.reads c.args.wanted)) in
    rw (p.1, p.2) (subst (λ r. Gives {X = Operand × List Kind} (λ x. x) (Err c.in_err-parts-in-Some-2.field-0.0) r) (sym whole)
    (passed_on c.in_err-parts-in-Some-2.field-0.0 (read (enclosed at (expression_form at (c.args.depth - 1)) (shape_of (shape_in opened.opening)) opened.place) (kinds opened.behind.now)) (finished_read opened.opening)
    (rw c.shape-shape.ensures at c.in_err-parts-in-Some-2.ensures.reads)))

pub unary-returns-in_err-typed-in-Some-2-clause-reads : goal.unary-returns-in_err-typed-in-Some-2-clause-reads
unary-returns-in_err-typed-in-Some-2-clause-reads t c =
    let p = err_from_is_err_and c.from_residual-in_err-typed-in-Some-2.result c.from_residual-in_err-typed-in-Some-2.ensures.1 in
    rw (p.1, p.2) (unmade operand_of (finished c.in-Some-2.opened.opening (parts_of c.in_ok-parts-in-Some-2.parts)) c.in_err-typed-in-Some-2.field-0.0
    (read (unary_form (place_of c.args.cx) c.args.depth c.args.wanted) (kinds c.args.tokens.now)) c.in_err-typed-in-Some-2.ensures)

pub parts_at-returns-in_err-rest-clause-reads : goal.parts_at-returns-in_err-rest-clause-reads
parts_at-returns-in_err-rest-clause-reads t c =
    let p = err_from_is_err_and c.from_residual.result c.from_residual.ensures.1 in
    rw (p.1, p.2) (told_fault (place_of c.args.cx) (expression_form (place_of c.args.cx) c.args.depth) (λ (r : Bor (List Token)). (no_parts (length c.args.tokens.now), kinds r.now)) (shape_of c.args.group.shape) c.args.group.place (kinds c.args.tokens.now) c.in_err-rest.field-0.0 c.in_err-rest.ensures.reads)

pub parts_at-returns-in-Some-clause-reads : goal.parts_at-returns-in-Some-clause-reads
parts_at-returns-in-Some-clause-reads t c =
    told_whole (place_of c.args.cx) (expression_form (place_of c.args.cx) c.args.depth) (shape_of c.args.group.shape) c.args.group.place (kinds c.args.tokens.now) (Ok (no_parts (length c.args.tokens.now), kinds c.in-Some.rest.now)) (rw c.in-Some.is at c.in_ok-rest.ensures.reads)
    ∙ ap (λ s. Ok (s, kinds c.in-Some.rest.now)) (sym c.new-parts.ensures.exact)

pub parts_at-parts-init : goal.parts_at-parts-init
parts_at-parts-init t c =
    let at = place_of c.args.cx in
    let ts = kinds c.args.tokens.now in
    let shape = shape_of c.args.group.shape in
    let place = c.args.group.place in
    record {
      reads = (
        length ts,
        subst (λ m. length c.args.tokens.now ≤ m) (sym (kinds_length c.args.tokens.now)) (omega arith),
        ap (λ s. read_rounds (length ts) (λ s ts. read (part_form (expression_form (place_of c.args.cx) c.args.depth) shape place s) ts) s ts) (c.new-parts.ensures.exact ∙ ap no_parts (sym (kinds_length c.args.tokens.now)))
            ∙ sym (untold at (expression_form (place_of c.args.cx) c.args.depth) shape place ts (rw c.in_default.is at c.in_ok-rest.ensures.reads)),
      );
      room = room_first c.args.group.shape c.new-parts.result.exprs.items c.new-parts.ensures.none;
      shorter = omega arith;
    }

pub parts_at-parts-preserved : goal.parts_at-parts-preserved
parts_at-parts-preserved t c =
    let g = goes_on (λ s ts. read (part_form (expression_form (place_of c.args.cx) c.args.depth) (shape_of c.args.group.shape) c.args.group.place s) ts) c.parts.invariant.reads.0 (length c.parts.left.now) (length c.in_ok-is_last.next.now) (parts_of c.parts.parts) (parts_of c.add.new.self) (kinds c.parts.left.now) (kinds c.in_ok-is_last.next.now)
    c.parts.invariant.reads.1 (omega (arith, c.in_ok-part.ensures.shorter, c.in_ok-is_last.ensures.shorter))
    (ap (λ r. r >>= (λ a. read (part_ending (shape_of c.args.group.shape) c.args.group.place (length (kinds c.parts.left.now)) (parts_of c.parts.parts) a.0) a.1)) (at_wanted (expression_form (place_of c.args.cx) c.args.depth) (kinds c.parts.left.now) (λ r. r ≡ Ok (operand_of c.in_ok-part.part, kinds c.in_ok-part.after.now)) c.wanted.ensures c.in_ok-part.ensures.reads)
    ∙ ap (λ n. read (part_ending (shape_of c.args.group.shape) c.args.group.place n (parts_of c.parts.parts) (operand_of c.in_ok-part.part)) (kinds c.in_ok-part.after.now)) (kinds_length c.parts.left.now) ∙ (rw c.if-is_last.false at c.in_ok-is_last.ensures.reads)) in
    record {
      reads = (g.bound, g.enough, g.same ∙ c.parts.invariant.reads.2);
      room = c.in_ok-is_last.ensures.room c.if-is_last.false;
      shorter = omega (arith, c.parts.invariant.shorter, c.in_ok-part.ensures.shorter, c.in_ok-is_last.ensures.shorter);
    }

pub comparison-returns-in_err-begins-clause-reads :
    goal.comparison-returns-in_err-begins-clause-reads
comparison-returns-in_err-begins-clause-reads t c =
    let p = err_from_is_err_and c.from_residual-in_err-begins.result c.from_residual-in_err-begins.ensures.1 in
    let whole = in_vain_known (unary_form (place_of c.args.cx) c.args.depth) c.args.wanted (kinds c.args.tokens.now) (kinds c.in_ok-left.rest.now) (operand_of c.in_ok-left.left) c.in_ok-left.ensures.reads in
    rw (p.1, p.2) (subst (λ r. Gives {X = Operand × List Kind} (λ x. x) (Err c.in_err-begins.field-0.0) r) (sym whole) (refused c.in_err-begins.field-0.0 _ _ c.in_err-begins.ensures))
