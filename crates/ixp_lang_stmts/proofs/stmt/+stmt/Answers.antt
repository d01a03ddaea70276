use Rattle.std.proofs.Common.{◌≡◌, ◌≤◌, ◌-◌, ◌++◌, true, false, List, [], ◌∷◌, length, Ok, Err, refl, sym, ap, ◌∙◌, subst, arith}
use Rattle.std.proofs.lemmas.Result.{err_from_is_err_and}
use Rattle.ixp_lang.specs.Trees.{StmtTree, stmts, case_of}
use Rattle.ixp_lang.specs.Views.{expr_view, stmt_view, stmts_view}
use Rattle.ixp_lang.proofs.CaseView.{view-Case}
use Rattle.ixp_lang_tokens.specs.declared.fault.Cause.TheVariants.{Deep}
use Rattle.ixp_lang_tokens.specs.declared.token.Kind.{Kind}
use Rattle.ixp_lang_tokens.specs.Grammars.{Step, onward, sequence}
use Rattle.ixp_lang_tokens.specs.Reading.{read, read_rounds, kinds, Gives, ◌>>=◌}
use Rattle.ixp_lang_exprs.proofs.Firsts.{kinds_length}
use Rattle.ixp_lang_exprs.proofs.Rounds.{ends, goes_on, passed_on, round_fails}
use Rattle.ixp_lang_stmts.specs.Statements.{Said, said, place_in, Arms, arms, arms_form, arm_round, below, body_form, branch_form, case_end, case_body, else_form, if_end, labels_form, statement_form, statement_round, statements_of}
use Rattle.ixp_lang_stmts.specs.Views.{frame_of, returned_of, behind_else, else_read, arms_list}
use Rattle.ixp_lang_stmts.proofs.Steps.{one_more, block_read, block_known, block_deep, if_known, case_known, case_deep, plain_known, branch_read, branch_block, branch_one, branch_deep, if_read, else_parts, views_more, arms_more_view, arms_same, view-Block, view-If, arms_read, case_read, one_read, round_more, round_ends, arm_read, labelled_read, arm_more, arms_end_here}
use Rattle.ixp_lang_stmts.proofs.stmt.+stmt.Goals as goal

-- Statements that hold others.

pub statement-returns-then-depth-eq0-clause-reads : goal.statement-returns-then-depth-eq0-clause-reads
statement-returns-then-depth-eq0-clause-reads t c =
    rw c.deep.ensures
    (block_deep (frame_of c.args.frame) c.args.in_arm (returned_of c.args.returned.now) (kinds c.args.tokens.now) c.args.depth (kinds c.in-Some.behind.now) c.if-depth-eq0.true (sym c.in-Some.ensures.reads)
    ∙ ap (λ n. Err (Deep, n)) (kinds_length c.args.tokens.now))

pub statement-returns-in_err-body-clause-reads : goal.statement-returns-in_err-body-clause-reads
statement-returns-in_err-body-clause-reads t c =
    let p = err_from_is_err_and c.from_residual.result c.from_residual.ensures.1 in
    let frame = frame_of c.args.frame in
    let r = returned_of c.args.returned.now in
    rw (p.1, p.2)
    (subst (λ x. Gives {X = Said StmtTree × List Kind} (λ x. x) (Err c.in_err-body.field-0.0) x)
    (sym (block_known frame c.args.in_arm r (kinds c.args.tokens.now) c.args.depth (c.args.depth - 1) (kinds c.in-Some.behind.now) (one_more c.args.depth c.if-depth-eq0.false) (sym c.in-Some.ensures.reads)))
    (passed_on c.in_err-body.field-0.0 (read (body_form frame (c.args.depth - 1) r) (kinds c.in-Some.behind.now)) block_read c.in_err-body.ensures.reads))

pub statement-returns-in-Some-clause-reads : goal.statement-returns-in-Some-clause-reads
statement-returns-in-Some-clause-reads t c =
    block_known (frame_of c.args.frame) c.args.in_arm (returned_of c.args.returned.now) (kinds c.args.tokens.now) c.args.depth (c.args.depth - 1) (kinds c.in-Some.behind.now) (one_more c.args.depth c.if-depth-eq0.false)
    (sym c.in-Some.ensures.reads)
    ∙ ap (λ x. x >>= block_read) c.in_ok-body.ensures.reads
    ∙ ap (λ s. Ok (said (returned_of c.block_end.new.returned) s, kinds c.in_ok-body.rest.now)) (sym (view-Block c.in_ok-body.body))

pub statement-returns-in-Some-after_word-clause-reads : goal.statement-returns-in-Some-after_word-clause-reads
statement-returns-in-Some-after_word-clause-reads t c =
    let frame = frame_of c.args.frame in
    let r = returned_of c.args.returned.now in
    let behind = kinds c.in-Some-after_word.behind.now in
    subst (λ x. Gives (λ x. (said (returned_of c.if_at.new.returned) (stmt_view x.0), kinds x.1.now)) c.if_at.result x)
    (sym (if_known frame c.args.in_arm r (kinds c.args.tokens.now) c.args.depth behind (sym c.in_default.ensures.reads) (sym c.in-Some-after_word.ensures.reads)
    ∙ ap (λ at. read (if_end at frame c.args.depth (below frame c.args.depth) c.args.in_arm r) behind) (ap (place_in frame) (kinds_length c.args.tokens.now) ∙ sym c.statement.ensures)))
    c.if_at.ensures.reads

pub statement-returns-then-depth-eq0-2-clause-reads : goal.statement-returns-then-depth-eq0-2-clause-reads
statement-returns-then-depth-eq0-2-clause-reads t c =
    rw c.deep-then-depth-eq0-2.ensures
    (case_deep (frame_of c.args.frame) c.args.in_arm (returned_of c.args.returned.now) (kinds c.args.tokens.now) c.args.depth (kinds c.in-Some-after_word-2.behind.now) c.if-depth-eq0-2.true
    (sym c.in_default.ensures.reads) (sym c.in_default-after_word.ensures.reads) (sym c.in-Some-after_word-2.ensures.reads)
    ∙ ap (λ n. Err (Deep, n)) (kinds_length c.args.tokens.now))

pub statement-returns-in-Some-after_word-2-clause-reads : goal.statement-returns-in-Some-after_word-2-clause-reads
statement-returns-in-Some-after_word-2-clause-reads t c =
    let frame = frame_of c.args.frame in
    let r = returned_of c.args.returned.now in
    let d = c.args.depth - 1 in
    let behind = kinds c.in-Some-after_word-2.behind.now in
    subst (λ x. Gives (λ x. (said (returned_of c.case_at.new.returned) (stmt_view x.0), kinds x.1.now)) c.case_at.result x)
    (sym (case_known frame c.args.in_arm r (kinds c.args.tokens.now) c.args.depth d behind (one_more c.args.depth c.if-depth-eq0-2.false)
    (sym c.in_default.ensures.reads) (sym c.in_default-after_word.ensures.reads) (sym c.in-Some-after_word-2.ensures.reads)
    ∙ ap (λ at. read (case_body at d (statement_form frame d) r) behind) (ap (place_in frame) (kinds_length c.args.tokens.now) ∙ sym c.statement-in-Some-after_word-2.ensures)))
    c.case_at.ensures.reads

pub statement-returns-clause-reads : goal.statement-returns-clause-reads
statement-returns-clause-reads t c =
    subst (λ x. Gives (λ x. (said (returned_of c.plain_at.new.returned) (stmt_view x.0), kinds x.1.now)) c.plain_at.result x)
    (sym (plain_known (frame_of c.args.frame) c.args.in_arm (returned_of c.args.returned.now) (kinds c.args.tokens.now) c.args.depth
    (sym c.in_default.ensures.reads) (sym c.in_default-after_word.ensures.reads) (sym c.in_default-after_word-2.ensures.reads)))
    c.plain_at.ensures.reads

-- What follows `case`.

pub case_at-returns-in_err-arms-clause-reads : goal.case_at-returns-in_err-arms-clause-reads
case_at-returns-in_err-arms-clause-reads t c =
    let p = err_from_is_err_and c.from_residual-in_err-arms.result c.from_residual-in_err-arms.ensures.1 in
    let statement = statement_form (frame_of c.args.frame) c.args.depth in
    let r = returned_of c.args.returned.now in
    let subject = c.in_ok-subject.subject in
    let ts = kinds c.in_ok-subject.rest.now in
    rw (p.1, p.2)
    (subst (λ x. Gives {X = Said StmtTree × List Kind} (λ x. x) (Err c.in_err-arms.field-0.0) x)
    (sym (ap (λ x. x >>= λ a. read (arms_form statement a.0.is_of_states c.args.cx.statement r) a.1 >>= arms_read statement a.0.on) c.in_ok-subject.ensures.reads))
    (passed_on c.in_err-arms.field-0.0 (read (arms_form statement subject.case.is_of_states c.args.cx.statement r) ts) (arms_read statement (expr_view subject.on))
    (subst (λ n. Gives {X = Arms × List Kind} (λ x. x) (Err c.in_err-arms.field-0.0) (read (arms_form statement subject.case.is_of_states n r) ts)) c.in_ok-subject.ensures.place c.in_err-arms.ensures.reads)))

pub case_at-returns-in_err-other-clause-reads : goal.case_at-returns-in_err-other-clause-reads
case_at-returns-in_err-other-clause-reads t c =
    let p = err_from_is_err_and c.from_residual-in_err-other.result c.from_residual-in_err-other.ensures.1 in
    let statement = statement_form (frame_of c.args.frame) c.args.depth in
    let r = returned_of c.args.returned.now in
    let subject = c.in_ok-subject.subject in
    let some_arms = said (returned_of c.arms_at.new.returned) (arms_list c.in_ok-arms.arms.items) in
    rw (p.1, p.2)
    (subst (λ x. Gives {X = Said StmtTree × List Kind} (λ x. x) (Err c.in_err-other.field-0.0) x)
    (sym (ap (λ x. x >>= λ a. read (arms_form statement a.0.is_of_states c.args.cx.statement r) a.1 >>= arms_read statement a.0.on) c.in_ok-subject.ensures.reads
    ∙ ap (λ x. x >>= arms_read statement (expr_view subject.on))
    (subst (λ n. read (arms_form statement subject.case.is_of_states n r) (kinds c.in_ok-subject.rest.now) ≡ Ok (some_arms, kinds c.in_ok-arms.rest.now)) c.in_ok-subject.ensures.place c.in_ok-arms.ensures.reads)))
    (passed_on c.in_err-other.field-0.0 (read (case_end statement some_arms.returned) (kinds c.in_ok-arms.rest.now)) (case_read (expr_view subject.on) some_arms.it) c.in_err-other.ensures.reads))

pub case_at-returns-clause-reads : goal.case_at-returns-clause-reads
case_at-returns-clause-reads t c =
    let statement = statement_form (frame_of c.args.frame) c.args.depth in
    let r = returned_of c.args.returned.now in
    let subject = c.in_ok-subject.subject in
    let some_arms = said (returned_of c.arms_at.new.returned) (arms_list c.in_ok-arms.arms.items) in
    ap (λ x. x >>= λ a. read (arms_form statement a.0.is_of_states c.args.cx.statement r) a.1 >>= arms_read statement a.0.on) c.in_ok-subject.ensures.reads
    ∙ ap (λ x. x >>= arms_read statement (expr_view subject.on))
    (subst (λ n. read (arms_form statement subject.case.is_of_states n r) (kinds c.in_ok-subject.rest.now) ≡ Ok (some_arms, kinds c.in_ok-arms.rest.now)) c.in_ok-subject.ensures.place c.in_ok-arms.ensures.reads)
    ∙ ap (λ x. x >>= case_read (expr_view subject.on) some_arms.it) c.in_ok-other.ensures.reads
    ∙ ap (λ s. Ok (said (returned_of c.case_end.new.returned) s, kinds c.in_ok-other.rest.now))
    (ap (λ x. case_of (expr_view subject.on) x (stmts (stmts_view c.in_ok-other.other.items))) (arms_same c.in_ok-arms.arms.items) ∙ sym (view-Case subject.on c.in_ok-arms.arms c.in_ok-other.other))

-- Branches.

pub if_at-returns-in_err-no-clause-reads : goal.if_at-returns-in_err-no-clause-reads
if_at-returns-in_err-no-clause-reads t c =
    let p = err_from_is_err_and c.from_residual-in_err-no.result c.from_residual-in_err-no.ensures.1 in
    let frame = frame_of c.args.frame in
    let r = returned_of c.args.returned.now in
    let inner = below frame c.args.depth in
    let test = expr_view c.in_ok-test.test in
    let chosen = said (returned_of c.branch-frame.new.returned) (stmts_view c.in_ok-yes.yes.items) in
    let ts = kinds c.in_ok-yes.rest.now in
    rw (p.1, p.2)
    (subst (λ x. Gives {X = Said StmtTree × List Kind} (λ x. x) (Err c.in_err-no.field-0.0) x)
    (sym (ap (λ x. x >>= λ a. read (sequence (branch_form frame inner c.args.in_arm r) (λ b. else_form frame inner c.args.in_arm a.0 b)) a.1) c.in_ok-test.ensures.reads
    ∙ ap (λ x. x >>= λ b. read (else_form frame inner c.args.in_arm test b.0) b.1) c.in_ok-yes.ensures.reads
    ∙ else_parts frame inner c.args.in_arm test chosen ts))
    (passed_on c.in_err-no.field-0.0 (else_read frame inner c.args.in_arm chosen.returned ts (behind_else c.args.in_arm ts)) (if_read test chosen.it) c.in_err-no.ensures.reads))

pub if_at-returns-clause-reads : goal.if_at-returns-clause-reads
if_at-returns-clause-reads t c =
    let frame = frame_of c.args.frame in
    let r = returned_of c.args.returned.now in
    let inner = below frame c.args.depth in
    let test = expr_view c.in_ok-test.test in
    let chosen = said (returned_of c.branch-frame.new.returned) (stmts_view c.in_ok-yes.yes.items) in
    ap (λ x. x >>= λ a. read (sequence (branch_form frame inner c.args.in_arm r) (λ b. else_form frame inner c.args.in_arm a.0 b)) a.1) c.in_ok-test.ensures.reads
    ∙ ap (λ x. x >>= λ b. read (else_form frame inner c.args.in_arm test b.0) b.1) c.in_ok-yes.ensures.reads
    ∙ else_parts frame inner c.args.in_arm test chosen (kinds c.in_ok-yes.rest.now)
    ∙ ap (λ x. x >>= if_read test chosen.it) c.in_ok-no.ensures.reads
    ∙ ap (λ s. Ok (said (returned_of c.else_at.new.returned) s, kinds c.in_ok-no.rest.now)) (sym (view-If c.in_ok-test.test c.in_ok-yes.yes c.in_ok-no.no))

pub branch-returns-then-depth-eq0-clause-reads : goal.branch-returns-then-depth-eq0-clause-reads
branch-returns-then-depth-eq0-clause-reads t c =
    branch_deep (frame_of c.args.frame) c.args.in_arm (returned_of c.args.returned.now) (kinds c.args.tokens.now) c.args.depth c.no_branch.result c.if-depth-eq0.true c.no_branch.ensures

pub branch-returns-in-Some-clause-reads : goal.branch-returns-in-Some-clause-reads
branch-returns-in-Some-clause-reads t c =
    subst (λ x. Gives (λ x. (said (returned_of c.block_end.new.returned) (stmts_view x.0.items), kinds x.1.now)) c.block_end.result x)
    (sym (branch_block (frame_of c.args.frame) c.args.in_arm (returned_of c.args.returned.now) (kinds c.args.tokens.now) c.args.depth (c.args.depth - 1) (kinds c.in-Some.behind.now)
    (one_more c.args.depth c.if-depth-eq0.false) (sym c.in-Some.ensures.reads)))
    c.block_end.ensures.reads

pub branch-returns-in_err-stmt-clause-reads : goal.branch-returns-in_err-stmt-clause-reads
branch-returns-in_err-stmt-clause-reads t c =
    let p = err_from_is_err_and c.from_residual.result c.from_residual.ensures.1 in
    let frame = frame_of c.args.frame in
    let r = returned_of c.args.returned.now in
    let ts = kinds c.args.tokens.now in
    rw (p.1, p.2)
    (subst (λ x. Gives {X = Said (List StmtTree) × List Kind} (λ x. x) (Err c.in_err-stmt.field-0.0) x)
    (sym (branch_one frame c.args.in_arm r ts c.args.depth (c.args.depth - 1) (one_more c.args.depth c.if-depth-eq0.false) (sym c.in_default.ensures.reads)))
    (passed_on c.in_err-stmt.field-0.0 (read (statement_form frame (c.args.depth - 1) c.args.in_arm r) ts) branch_read c.in_err-stmt.ensures.reads))

pub branch-returns-clause-reads : goal.branch-returns-clause-reads
branch-returns-clause-reads t c =
    branch_one (frame_of c.args.frame) c.args.in_arm (returned_of c.args.returned.now) (kinds c.args.tokens.now) c.args.depth (c.args.depth - 1) (one_more c.args.depth c.if-depth-eq0.false)
    (sym c.in_default.ensures.reads)
    ∙ ap (λ x. x >>= branch_read) c.in_ok-stmt.ensures.reads
    ∙ ap (λ xs. Ok (said (returned_of c.statement.new.returned) (stmts_view xs), kinds c.in_ok-stmt.rest.now))
    (sym (c.exact.ensures ∙ c.in_ok-push.ensures.items ∙ ap (λ xs. xs ++ c.in_ok-stmt.stmt ∷ []) c.new-body.ensures.items))

-- Statements one behind the other.

pub statements-each-init : goal.statements-each-init
statements-each-init t c =
    let ts = kinds c.args.tokens.now in
    record {
      reads = (
        length ts,
        subst (λ m. length c.args.tokens.now ≤ m) (sym (kinds_length c.args.tokens.now)) (omega arith),
        ap (λ xs. read_rounds (length ts) (λ s ts. read (statement_round (statement_form (frame_of c.args.frame) c.args.depth) c.args.in_arm s) ts) (said (returned_of c.args.returned.now) (stmts_view xs)) ts) c.new-body.ensures.items,
      );
      shorter = omega arith;
    }

pub statements-returns-in_err-stmt-clause-reads : goal.statements-returns-in_err-stmt-clause-reads
statements-returns-in_err-stmt-clause-reads t c =
    let p = err_from_is_err_and c.from_residual.result c.from_residual.ensures.1 in
    let frame = frame_of c.args.frame in
    let before = said (returned_of c.each.returned) (stmts_view c.each.body.items) in
    let ts = kinds c.each.left.now in
    rw (p.1, p.2)
    (round_fails (λ s ts. read (statement_round (statement_form frame c.args.depth) c.args.in_arm s) ts) c.each.invariant.reads.0 before ts
    (read (statements_of (statement_form frame c.args.depth) c.args.in_arm (returned_of c.args.returned.now)) (kinds c.args.tokens.now)) c.each.invariant.reads.2 c.in_err-stmt.field-0.0
    (subst (λ x. Gives {X = Step (Said (List StmtTree)) (Said (List StmtTree)) × List Kind} (λ x. x) (Err c.in_err-stmt.field-0.0) x)
    (sym (round_more frame c.args.depth c.args.in_arm before ts (sym c.is_statement.ensures ∙ c.each-test.true)))
    (passed_on c.in_err-stmt.field-0.0 (read (statement_form frame c.args.depth c.args.in_arm before.returned) ts) (one_read before) c.in_err-stmt.ensures.reads)))

pub statements-each-preserved : goal.statements-each-preserved
statements-each-preserved t c =
    let frame = frame_of c.args.frame in
    let before = said (returned_of c.each.returned) (stmts_view c.each.body.items) in
    let after = said (returned_of c.statement.new.returned) (stmts_view c.push.new.self.items) in
    let g = goes_on (λ s ts. read (statement_round (statement_form frame c.args.depth) c.args.in_arm s) ts) c.each.invariant.reads.0 (length c.each.left.now) (length c.in_ok-stmt.rest.now) before after
    (kinds c.each.left.now) (kinds c.in_ok-stmt.rest.now) c.each.invariant.reads.1 c.in_ok-stmt.ensures.shorter
    (round_more frame c.args.depth c.args.in_arm before (kinds c.each.left.now) (sym c.is_statement.ensures ∙ c.each-test.true)
    ∙ ap (λ x. x >>= one_read before) c.in_ok-stmt.ensures.reads
    ∙ ap (λ xs. Ok (onward (said (returned_of c.statement.new.returned) xs), kinds c.in_ok-stmt.rest.now)) (sym (ap stmts_view c.in_ok-push.ensures.items ∙ views_more c.each.body.items c.in_ok-stmt.stmt))) in
    record {
      reads = (g.bound, g.enough, g.same ∙ c.each.invariant.reads.2);
      shorter = omega (arith, c.each.invariant.shorter, c.in_ok-stmt.ensures.shorter);
    }

pub statements-returns-clause-reads : goal.statements-returns-clause-reads
statements-returns-clause-reads t c =
    let frame = frame_of c.args.frame in
    let before = said (returned_of c.each.returned) (stmts_view c.each.body.items) in
    let ts = kinds c.each.left.now in
    sym c.each.invariant.reads.2
    ∙ ends (λ s ts. read (statement_round (statement_form frame c.args.depth) c.args.in_arm s) ts) c.each.invariant.reads.0 before ts ts before
    (round_ends frame c.args.depth c.args.in_arm before ts (sym c.is_statement.ensures ∙ c.each-test.false))
    ∙ ap (λ xs. Ok (said (returned_of c.each.returned) (stmts_view xs), ts)) (sym c.exact.ensures)

-- The arms of a `case`.

pub arms_at-each-init : goal.arms_at-each-init
arms_at-each-init t c =
    let ts = kinds c.args.tokens.now in
    record {
      reads = (
        length ts,
        subst (λ m. length c.args.tokens.now ≤ m) (sym (kinds_length c.args.tokens.now)) (omega arith),
        ap (λ xs. read_rounds (length ts) (λ s ts. read (arm_round (statement_form (frame_of c.args.frame) c.args.depth) c.args.case.is_of_states c.args.case.place s) ts) (said (returned_of c.args.returned.now) (arms_list xs)) ts) c.new-arms.ensures.items,
      );
      shorter = omega arith;
    }

pub arms_at-same-labels : goal.arms_at-same-labels
arms_at-same-labels t c = refl

pub arms_at-returns-in_err-labels-clause-reads : goal.arms_at-returns-in_err-labels-clause-reads
arms_at-returns-in_err-labels-clause-reads t c =
    let p = err_from_is_err_and c.from_residual.result c.from_residual.ensures.1 in
    let frame = frame_of c.args.frame in
    let before = said (returned_of c.each.returned) (arms_list c.each.arms.items) in
    let case = c.args.case in
    let ts = kinds c.each.left.now in
    rw (p.1, p.2)
    (round_fails (λ s ts. read (arm_round (statement_form frame c.args.depth) case.is_of_states case.place s) ts) c.each.invariant.reads.0 before ts
    (read (arms_form (statement_form frame c.args.depth) case.is_of_states case.place (returned_of c.args.returned.now)) (kinds c.args.tokens.now)) c.each.invariant.reads.2 c.in_err-labels.field-0.0
    (subst (λ x. Gives {X = Step Arms Arms × List Kind} (λ x. x) (Err c.in_err-labels.field-0.0) x)
    (sym (arm_more frame c.args.depth case.is_of_states case.place before ts (sym c.is_label.ensures ∙ c.each-test.true)))
    (passed_on c.in_err-labels.field-0.0 (read (labels_form case.is_of_states case.place) ts) (labelled_read frame c.args.depth before) c.in_err-labels.ensures.reads)))

pub arms_at-returns-in_err-body-clause-reads : goal.arms_at-returns-in_err-body-clause-reads
arms_at-returns-in_err-body-clause-reads t c =
    let p = err_from_is_err_and c.from_residual-in_err-body.result c.from_residual-in_err-body.ensures.1 in
    let frame = frame_of c.args.frame in
    let before = said (returned_of c.each.returned) (arms_list c.each.arms.items) in
    let case = c.args.case in
    let ts = kinds c.each.left.now in
    rw (p.1, p.2)
    (round_fails (λ s ts. read (arm_round (statement_form frame c.args.depth) case.is_of_states case.place s) ts) c.each.invariant.reads.0 before ts
    (read (arms_form (statement_form frame c.args.depth) case.is_of_states case.place (returned_of c.args.returned.now)) (kinds c.args.tokens.now)) c.each.invariant.reads.2 c.in_err-body.field-0.0
    (subst (λ x. Gives {X = Step Arms Arms × List Kind} (λ x. x) (Err c.in_err-body.field-0.0) x)
    (sym (arm_more frame c.args.depth case.is_of_states case.place before ts (sym c.is_label.ensures ∙ c.each-test.true) ∙ ap (λ x. x >>= labelled_read frame c.args.depth before) c.in_ok-labels.ensures.reads))
    (passed_on c.in_err-body.field-0.0 (read (statements_of (statement_form frame c.args.depth) true before.returned) (kinds c.in_ok-labels.rest.now)) (arm_read before c.in_ok-labels.labels) c.in_err-body.ensures.reads)))

pub arms_at-each-preserved : goal.arms_at-each-preserved
arms_at-each-preserved t c =
    let frame = frame_of c.args.frame in
    let before = said (returned_of c.each.returned) (arms_list c.each.arms.items) in
    let after = said (returned_of c.statements.new.returned) (arms_list c.push.new.self.items) in
    let case = c.args.case in
    let g = goes_on (λ s ts. read (arm_round (statement_form frame c.args.depth) case.is_of_states case.place s) ts) c.each.invariant.reads.0 (length c.each.left.now) (length c.in_ok-body.rest.now) before after
    (kinds c.each.left.now) (kinds c.in_ok-body.rest.now) c.each.invariant.reads.1 (omega (arith, c.in_ok-labels.ensures.shorter, c.in_ok-body.ensures.shorter))
    (arm_more frame c.args.depth case.is_of_states case.place before (kinds c.each.left.now) (sym c.is_label.ensures ∙ c.each-test.true)
    ∙ ap (λ x. x >>= labelled_read frame c.args.depth before) c.in_ok-labels.ensures.reads
    ∙ ap (λ x. x >>= arm_read before c.in_ok-labels.labels) c.in_ok-body.ensures.reads
    ∙ ap (λ xs. Ok (onward (said (returned_of c.statements.new.returned) xs), kinds c.in_ok-body.rest.now)) (sym (ap arms_list c.in_ok-push.ensures.items ∙ arms_more_view c.each.arms.items (c.in_ok-labels.labels, c.in_ok-body.body)))) in
    record {
      reads = (g.bound, g.enough, g.same ∙ c.each.invariant.reads.2);
      shorter = omega (arith, c.each.invariant.shorter, c.in_ok-labels.ensures.shorter, c.in_ok-body.ensures.shorter);
    }

pub arms_at-returns-clause-reads : goal.arms_at-returns-clause-reads
arms_at-returns-clause-reads t c =
    let frame = frame_of c.args.frame in
    let before = said (returned_of c.each.returned) (arms_list c.each.arms.items) in
    let case = c.args.case in
    let ts = kinds c.each.left.now in
    sym c.each.invariant.reads.2
    ∙ ends (λ s ts. read (arm_round (statement_form frame c.args.depth) case.is_of_states case.place s) ts) c.each.invariant.reads.0 before ts ts before
    (arms_end_here frame c.args.depth case.is_of_states case.place before ts (sym c.is_label.ensures ∙ c.each-test.false))
    ∙ ap (λ xs. Ok (said (returned_of c.each.returned) (arms_list xs), ts)) (sym c.exact.ensures)
