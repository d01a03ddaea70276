use Rattle.std.proofs.Common.{◌∙◌, codes, length, sym, ap, subst}
use Rattle.ixp_lang.specs.Views.{stmt_view}
use Rattle.ixp_lang_tokens.specs.Grammars.{gives, checks, sequence}
use Rattle.ixp_lang_tokens.specs.Pieces.{is_word}
use Rattle.ixp_lang_tokens.specs.Reading.{read, kinds, checked, Gives}
use Rattle.ixp_lang_exprs.specs.Sets.{unless_so}
use Rattle.ixp_lang_exprs.specs.Operands.{misfit_at}
use Rattle.ixp_lang_exprs.proofs.Firsts.{kinds_length}
use Rattle.ixp_lang_stmts.specs.Statements.{said, place_in, may_return, return_end, change_form}
use Rattle.ixp_lang_stmts.specs.Views.{frame_of, returned_of}
use Rattle.ixp_lang_stmts.proofs.Choices.{known}
use Rattle.ixp_lang_stmts.proofs.change.plain_at.Goals as goal

pub returns-clause-reads : goal.returns-clause-reads
returns-clause-reads c =
    let frame = frame_of c.args.frame in
    let r = returned_of c.args.returned.now in
    let n = length (kinds c.args.tokens.now) in
    let rest = kinds c.in-Some.rest.now in
    subst (λ x. Gives (λ x. (said (returned_of c.return_at.new.returned) (stmt_view x.0), kinds x.1.now)) c.return_at.result x)
    (sym (known (is_word (codes "return")) (checks (unless_so (may_return frame.scope) (misfit_at n)) (return_end (place_in frame n) c.args.depth r))
    (sequence (change_form (place_in frame n) c.args.depth) (λ change. gives (said r change))) (kinds c.args.tokens.now) rest (sym c.in-Some.ensures.reads)
    ∙ ap (λ b. checked (unless_so b (misfit_at n)) (read (return_end (place_in frame n) c.args.depth r) rest)) (sym c.returns.ensures ∙ c.if-not-returns.false)
    ∙ ap (λ at. read (return_end at c.args.depth r) rest) (ap (place_in frame) (kinds_length c.args.tokens.now) ∙ sym c.statement-cx.ensures)))
    c.return_at.ensures.reads
