use Rattle.std.proofs.Common.{◌≡◌, ◌∙◌, sym, List, Bor, length, arith, nat_lt}
use Rattle.std.proofs.lemmas.Result.{err_from_is_err_and}
use Rattle.ixp_lang_tokens.specs.Reading.{read, kinds}
use Rattle.ixp_lang_exprs.specs.Lists.{list_round, listed}
use Rattle.ixp_lang_exprs.proofs.Rounds.{ends, round_fails, goes_on}
use Rattle.ixp_lang_exprs.specs.Sets.{tuple_form, arity_of}
use Rattle.ixp_lang_exprs.specs.Names.{names_at}
use Rattle.ixp_lang_exprs.proofs.set.tuples_at.Goals as goal

pub returns-in_err-is_last-clause-reads : goal.returns-in_err-is_last-clause-reads
returns-in_err-is_last-clause-reads c =
    let p = err_from_is_err_and c.from_residual.result c.from_residual.ensures.1 in
    rw (p.1, p.2)
    (round_fails (λ s ts. read (list_round (λ before. tuple_form (names_at c.args.cx) (nat_lt 0 c.args.depth) (arity_of before)) s) ts) c.each.invariant.reads.0 c.each.tuples (kinds c.each.left.now)
    (read (listed (λ before. tuple_form (names_at c.args.cx) (nat_lt 0 c.args.depth) (arity_of before))) (kinds c.args.tokens.now)) c.each.invariant.reads.2 _ c.in_err-is_last.ensures.reads)

pub each-preserved : goal.each-preserved
each-preserved c =
    let g = goes_on (λ s ts. read (list_round (λ before. tuple_form (names_at c.args.cx) (nat_lt 0 c.args.depth) (arity_of before)) s) ts) c.each.invariant.reads.0 (length c.each.left.now) (length c.in_ok-is_last.rest.now) c.each.tuples c.tuple_round.new.tuples
    (kinds c.each.left.now) (kinds c.in_ok-is_last.rest.now) c.each.invariant.reads.1 c.in_ok-is_last.ensures.shorter (rw c.if-is_last.false at c.in_ok-is_last.ensures.reads) in
    record {
      reads = (g.bound, g.enough, g.same ∙ c.each.invariant.reads.2);
      shorter = omega (arith, c.each.invariant.shorter, c.in_ok-is_last.ensures.shorter);
    }

pub returns-then-is_last-clause-reads : goal.returns-then-is_last-clause-reads
returns-then-is_last-clause-reads c =
    sym c.each.invariant.reads.2
    ∙ ends (λ s ts. read (list_round (λ before. tuple_form (names_at c.args.cx) (nat_lt 0 c.args.depth) (arity_of before)) s) ts) c.each.invariant.reads.0 c.each.tuples (kinds c.each.left.now)
    (kinds c.in_ok-is_last.rest.now) c.tuple_round.new.tuples (rw c.if-is_last.true at c.in_ok-is_last.ensures.reads)
