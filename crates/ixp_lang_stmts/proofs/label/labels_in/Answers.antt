use Rattle.std.proofs.Common.{◌∙◌, length, arith}
use Rattle.std.proofs.lemmas.Result.{err_from_is_err_and}
use Rattle.ixp_lang_tokens.specs.Reading.{read, kinds}
use Rattle.ixp_lang_exprs.specs.Lists.{list_round, listed}
use Rattle.ixp_lang_exprs.proofs.Rounds.{round_fails, goes_on}
use Rattle.ixp_lang_stmts.specs.Statements.{label_form}
use Rattle.ixp_lang_stmts.proofs.label.labels_in.Goals as goal

pub returns-in_err-is_last-clause-reads : goal.returns-in_err-is_last-clause-reads
returns-in_err-is_last-clause-reads c =
    let p = err_from_is_err_and c.from_residual.result c.from_residual.ensures.1 in
    rw (p.1, p.2)
    (round_fails (λ s ts. read (list_round (λ before. label_form c.args.case.is_of_states c.args.case.place) s) ts) c.each.invariant.reads.0 c.each.labels (kinds c.each.left.now)
    (read (listed (λ before. label_form c.args.case.is_of_states c.args.case.place)) (kinds c.args.tokens.now)) c.each.invariant.reads.2 _ c.in_err-is_last.ensures.reads)

pub each-preserved : goal.each-preserved
each-preserved c =
    let g = goes_on (λ s ts. read (list_round (λ before. label_form c.args.case.is_of_states c.args.case.place) s) ts) c.each.invariant.reads.0 (length c.each.left.now) (length c.in_ok-is_last.rest.now) c.each.labels c.label_round.new.labels
    (kinds c.each.left.now) (kinds c.in_ok-is_last.rest.now) c.each.invariant.reads.1 c.in_ok-is_last.ensures.shorter (rw c.if-is_last.false at c.in_ok-is_last.ensures.reads) in
    record {
      reads = (g.bound, g.enough, g.same ∙ c.each.invariant.reads.2);
      shorter = omega (arith, c.each.invariant.shorter, c.in_ok-is_last.ensures.shorter);
    }
