use Rattle.std.proofs.Common.{◌∙◌, List, codes, Err, sym, subst}
use Rattle.std.proofs.lemmas.Result.{err_from_is_err_and}
use Rattle.ixp_lang.specs.Trees.{StmtTree, reject}
use Rattle.ixp_lang.specs.Views.{stmt_view}
use Rattle.ixp_lang_tokens.specs.declared.token.Kind.{Kind}
use Rattle.ixp_lang_tokens.specs.declared.token.Mark.TheVariants.{Semicolon}
use Rattle.ixp_lang_tokens.specs.Pieces.{the_word}
use Rattle.ixp_lang_tokens.specs.Reading.{read, kinds, Gives}
use Rattle.ixp_lang_exprs.specs.Groups.{place_of}
use Rattle.ixp_lang_exprs.specs.Lists.{ended}
use Rattle.ixp_lang_exprs.proofs.Rounds.{passed_on}
use Rattle.ixp_lang_stmts.proofs.Changes.{path_known, pairs_known, triples_known, reject_left}
use Rattle.ixp_lang_stmts.proofs.change.change_at.Goals as goal

pub returns-in-Some-after_word-clause-reads : goal.returns-in-Some-after_word-clause-reads
returns-in-Some-after_word-clause-reads c =
    subst (λ x. Gives (λ x. (stmt_view x.0, kinds x.1.now)) c.prepend_at.result x)
    (sym (path_known (place_of c.args.cx) c.args.depth (kinds c.args.tokens.now) (kinds c.in-Some-after_word.rest.now) (sym c.is_name.ensures ∙ c.if-is_name.false)
    (sym c.in_default.ensures.reads) (sym c.in-Some-after_word.ensures.reads)))
    c.prepend_at.ensures.reads

pub returns-in-Some-after_word-2-clause-reads : goal.returns-in-Some-after_word-2-clause-reads
returns-in-Some-after_word-2-clause-reads c =
    subst (λ x. Gives (λ x. (stmt_view x.0, kinds x.1.now)) c.pairs_at.result x)
    (sym (pairs_known (place_of c.args.cx) c.args.depth (kinds c.args.tokens.now) (kinds c.in-Some-after_word-2.rest.now) (sym c.is_name.ensures ∙ c.if-is_name.false)
    (sym c.in_default.ensures.reads) (sym c.in_default-after_word.ensures.reads) (sym c.in-Some-after_word-2.ensures.reads)))
    c.pairs_at.ensures.reads

pub returns-in-Some-after_word-3-clause-reads : goal.returns-in-Some-after_word-3-clause-reads
returns-in-Some-after_word-3-clause-reads c =
    subst (λ x. Gives (λ x. (stmt_view x.0, kinds x.1.now)) c.triples_at.result x)
    (sym (triples_known (place_of c.args.cx) c.args.depth (kinds c.args.tokens.now) (kinds c.in-Some-after_word-3.rest.now) (sym c.is_name.ensures ∙ c.if-is_name.false)
    (sym c.in_default.ensures.reads) (sym c.in_default-after_word.ensures.reads) (sym c.in_default-after_word-2.ensures.reads) (sym c.in-Some-after_word-3.ensures.reads)))
    c.triples_at.ensures.reads

pub returns-in_err-rest-clause-reads : goal.returns-in_err-rest-clause-reads
returns-in_err-rest-clause-reads c =
    let p = err_from_is_err_and c.from_residual.result c.from_residual.ensures.1 in
    rw (p.1, p.2)
    (subst (λ x. Gives {X = StmtTree × List Kind} (λ x. x) (Err c.in_err-rest.field-0.0) x)
    (sym (reject_left (place_of c.args.cx) c.args.depth (kinds c.args.tokens.now) (sym c.is_name.ensures ∙ c.if-is_name.false)
    (sym c.in_default.ensures.reads) (sym c.in_default-after_word.ensures.reads) (sym c.in_default-after_word-2.ensures.reads) (sym c.in_default-after_word-3.ensures.reads) (sym c.in_default-after_word-4.ensures.reads)))
    (passed_on c.in_err-rest.field-0.0 (read (the_word (codes "reject")) (kinds c.args.tokens.now)) (λ a. read (ended Semicolon reject) a.1) c.in_err-rest.ensures.reads))
