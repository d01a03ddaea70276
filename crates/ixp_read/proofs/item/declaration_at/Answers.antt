use Rattle.std.proofs.Common.{◌≡◌, ◌∙◌, length, codes}
use Rattle.std.proofs.lemmas.Result.{err_from_is_err_and}
use Rattle.ixp_lang_tokens.specs.Reading.{read, kinds, ◌>>=◌}
use Rattle.ixp_lang_tokens.specs.Pieces.{the_word}
use Rattle.ixp_lang_exprs.specs.Names.{names_of}
use Rattle.ixp_lang_exprs.proofs.Rounds.{passed_on}
use Rattle.ixp_lang_protocols.specs.Protocols.{protocol_end}
use Rattle.ixp_read.proofs.ItemSteps.{define_next, function_next, filter_next, protocol_left}
use Rattle.ixp_read.proofs.item.declaration_at.Goals as goal

pub returns-in-Some-clause-reads : goal.returns-in-Some-clause-reads
returns-in-Some-clause-reads c =
    rw (define_next c.args.number (length c.args.tokens.now) (names_of c.args.env.now) (kinds c.args.tokens.now) (kinds c.in-Some.rest.now) c.in-Some.ensures.reads)
    c.define_at.ensures.reads

pub returns-in-Some-after_word-clause-reads : goal.returns-in-Some-after_word-clause-reads
returns-in-Some-after_word-clause-reads c =
    rw (function_next c.args.number (length c.args.tokens.now) (names_of c.args.env.now) (kinds c.args.tokens.now) (kinds c.in-Some-after_word.rest.now) c.in_default.ensures.reads c.in-Some-after_word.ensures.reads)
    c.function_at.ensures.reads

pub returns-in-Some-after_word-2-clause-reads : goal.returns-in-Some-after_word-2-clause-reads
returns-in-Some-after_word-2-clause-reads c =
    rw (filter_next c.args.number (length c.args.tokens.now) (names_of c.args.env.now) (kinds c.args.tokens.now) (kinds c.in-Some-after_word-2.rest.now) c.in_default.ensures.reads c.in_default-after_word.ensures.reads c.in-Some-after_word-2.ensures.reads)
    c.filter_at.ensures.reads

pub returns-in_err-rest-clause-reads : goal.returns-in_err-rest-clause-reads
returns-in_err-rest-clause-reads c =
    let p = err_from_is_err_and c.from_residual.result c.from_residual.ensures.1 in
    rw (p.1, p.2, protocol_left c.args.number (length c.args.tokens.now) (names_of c.args.env.now) (kinds c.args.tokens.now) (kinds c.args.tokens.now) c.in_default.ensures.reads c.in_default-after_word.ensures.reads c.in_default-after_word-2.ensures.reads)
    (passed_on _ (read (the_word (codes "protocol")) (kinds c.args.tokens.now)) (λ a. read (protocol_end (names_of c.args.env.now)) a.1) c.in_err-rest.ensures.reads)

pub returns-clause-reads : goal.returns-clause-reads
returns-clause-reads c =
    rw (protocol_left c.args.number (length c.args.tokens.now) (names_of c.args.env.now) (kinds c.args.tokens.now) (kinds c.args.tokens.now) c.in_default.ensures.reads c.in_default-after_word.ensures.reads c.in_default-after_word-2.ensures.reads, c.in_ok-rest.ensures.reads)
    c.protocol_at.ensures.reads
