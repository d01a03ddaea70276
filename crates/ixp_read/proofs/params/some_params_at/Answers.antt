use Rattle.std.proofs.Common.{◌≡◌, ◌∙◌, refl, length, arith}
use Rattle.std.proofs.lemmas.Result.{err_from_is_err_and}
use Rattle.ixp_lang_tokens.specs.Grammars.{rounds}
use Rattle.ixp_lang_tokens.specs.Reading.{read, kinds}
use Rattle.ixp_lang_exprs.specs.Names.{names_of}
use Rattle.ixp_lang_exprs.proofs.Firsts.{kinds_length}
use Rattle.ixp_lang_exprs.proofs.Rounds.{round_fails, goes_on}
use Rattle.ixp_read.specs.Functions.{no_params, param_round}
use Rattle.ixp_read.specs.Views.{params_of}
use Rattle.ixp_read.proofs.params.some_params_at.Goals as goal

pub each-init : goal.each-init
each-init c = record {
  reads = (length (kinds c.args.tokens.now), omega (arith, kinds_length c.args.tokens.now), rw (c.new-params.ensures.none, c.new-params.ensures.no_types) refl);
  shorter = omega arith;
}

pub returns-in_err-is_last-clause-reads : goal.returns-in_err-is_last-clause-reads
returns-in_err-is_last-clause-reads c =
    let p = err_from_is_err_and c.from_residual.result c.from_residual.ensures.1 in
    rw (p.1, p.2)
    (round_fails (λ s ts. read (param_round c.args.number s) ts) c.each.invariant.reads.0 (params_of c.each.params (names_of c.each.env)) (kinds c.each.left.now)
    (read (rounds (param_round c.args.number) (no_params (names_of c.args.env.now))) (kinds c.args.tokens.now)) c.each.invariant.reads.2 _ c.in_err-is_last.ensures.reads)

pub each-preserved : goal.each-preserved
each-preserved c =
    let g = goes_on (λ s ts. read (param_round c.args.number s) ts) c.each.invariant.reads.0 (length c.each.left.now) (length c.in_ok-is_last.rest.now)
    (params_of c.each.params (names_of c.each.env)) (params_of c.parameter_round.new.params (names_of c.parameter_round.new.env))
    (kinds c.each.left.now) (kinds c.in_ok-is_last.rest.now) c.each.invariant.reads.1 c.in_ok-is_last.ensures.shorter (rw c.if-is_last.false at c.in_ok-is_last.ensures.reads) in
    record {
      reads = (g.bound, g.enough, g.same ∙ c.each.invariant.reads.2);
      shorter = omega (arith, c.each.invariant.shorter, c.in_ok-is_last.ensures.shorter);
    }
