use Rattle.std.proofs.Common.{◌≡◌, ◌∙◌, List, Bor, length, arith, nat_lt}
use Rattle.std.proofs.lemmas.Result.{err_from_is_err_and}
use Rattle.ixp_lang_tokens.specs.Reading.{read, kinds}
use Rattle.ixp_lang_exprs.specs.Lists.{list_round, listed}
use Rattle.ixp_lang_exprs.proofs.Rounds.{round_fails, goes_on}
use Rattle.ixp_lang_tokens.specs.Pieces.{an_addr}
use Rattle.ixp_lang_exprs.proofs.set.addrs_at.Goals as goal

pub returns-in_err-is_last-clause-reads : goal.returns-in_err-is_last-clause-reads
returns-in_err-is_last-clause-reads c =
    let p = err_from_is_err_and c.from_residual.result c.from_residual.ensures.1 in
    rw (p.1, p.2)
    (round_fails (λ s ts. read (list_round (λ before. an_addr) s) ts) c.each.invariant.reads.0 c.each.addrs (kinds c.each.left.now)
    (read (listed (λ before. an_addr)) (kinds c.args.tokens.now)) c.each.invariant.reads.2 _ c.in_err-is_last.ensures.reads)
