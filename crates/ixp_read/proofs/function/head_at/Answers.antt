use Rattle.std.proofs.Common.{◌≡◌, ◌∙◌, ap}
use Rattle.std.proofs.lemmas.Result.{err_from_is_err_and}
use Rattle.ixp_lang_tokens.specs.Reading.{read, kinds, ◌>>=◌}
use Rattle.ixp_lang_exprs.specs.Names.{names_of}
use Rattle.ixp_lang_exprs.proofs.Rounds.{passed_on}
use Rattle.ixp_read.specs.Functions.{params_form}
use Rattle.ixp_read.proofs.HeadSteps.{headed, head_reads}
use Rattle.ixp_read.proofs.function.head_at.Goals as goal

pub returns-in_err-params-clause-reads : goal.returns-in_err-params-clause-reads
returns-in_err-params-clause-reads c =
    let p = err_from_is_err_and c.from_residual-in_err-params.result c.from_residual-in_err-params.ensures.1 in
    rw (p.1, p.2, head_reads c.args.number (names_of c.args.env.now) (names_of c.declare.new.self) (kinds c.args.tokens.now) (kinds c.in_ok-name.rest.now) c.in_ok-name.name c.in_ok-name.ensures.reads c.in_ok-declare.ensures)
    (passed_on _ (read (params_form c.args.number (names_of c.declare.new.self)) (kinds c.in_ok-name.rest.now)) (headed c.in_ok-name.name) c.in_err-params.ensures.reads)

pub returns-clause-reads : goal.returns-clause-reads
returns-clause-reads c =
    head_reads c.args.number (names_of c.args.env.now) (names_of c.declare.new.self) (kinds c.args.tokens.now) (kinds c.in_ok-name.rest.now) c.in_ok-name.name c.in_ok-name.ensures.reads c.in_ok-declare.ensures
    ∙ ap (λ r. r >>= headed c.in_ok-name.name) c.in_ok-params.ensures.reads
