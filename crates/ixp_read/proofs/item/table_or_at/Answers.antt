use Rattle.std.proofs.Common.{◌≡◌, ◌∙◌, length}
use Rattle.ixp_lang_tokens.specs.Reading.{kinds, ◌>>=◌}
use Rattle.ixp_lang_exprs.specs.Names.{names_of}
use Rattle.ixp_read.proofs.ItemSteps.{ipv4_next, ipv6_next, roa4_next, roa6_next, declaration_left}
use Rattle.ixp_read.proofs.item.table_or_at.Goals as goal

pub returns-in-Some-clause-reads : goal.returns-in-Some-clause-reads
returns-in-Some-clause-reads c =
    rw (ipv4_next c.args.number (length c.args.tokens.now) (names_of c.args.env.now) (kinds c.args.tokens.now) (kinds c.in-Some.rest.now) c.in-Some.ensures.reads)
    c.table_at.ensures.reads

pub returns-in-Some-after_word-clause-reads : goal.returns-in-Some-after_word-clause-reads
returns-in-Some-after_word-clause-reads c =
    rw (ipv6_next c.args.number (length c.args.tokens.now) (names_of c.args.env.now) (kinds c.args.tokens.now) (kinds c.in-Some-after_word.rest.now) c.in_default.ensures.reads c.in-Some-after_word.ensures.reads)
    c.table_at-in-Some-after_word.ensures.reads

pub returns-in-Some-after_word-2-clause-reads : goal.returns-in-Some-after_word-2-clause-reads
returns-in-Some-after_word-2-clause-reads c =
    rw (roa4_next c.args.number (length c.args.tokens.now) (names_of c.args.env.now) (kinds c.args.tokens.now) (kinds c.in-Some-after_word-2.rest.now) c.in_default.ensures.reads c.in_default-after_word.ensures.reads c.in-Some-after_word-2.ensures.reads)
    c.table_at-in-Some-after_word-2.ensures.reads

pub returns-in-Some-after_word-3-clause-reads : goal.returns-in-Some-after_word-3-clause-reads
returns-in-Some-after_word-3-clause-reads c =
    rw (roa6_next c.args.number (length c.args.tokens.now) (names_of c.args.env.now) (kinds c.args.tokens.now) (kinds c.in-Some-after_word-3.rest.now) c.in_default.ensures.reads c.in_default-after_word.ensures.reads c.in_default-after_word-2.ensures.reads c.in-Some-after_word-3.ensures.reads)
    c.table_at-in-Some-after_word-3.ensures.reads

pub returns-clause-reads : goal.returns-clause-reads
returns-clause-reads c =
    rw (declaration_left c.args.number (length c.args.tokens.now) (names_of c.args.env.now) (kinds c.args.tokens.now) (kinds c.args.tokens.now) c.in_default.ensures.reads c.in_default-after_word.ensures.reads c.in_default-after_word-2.ensures.reads c.in_default-after_word-3.ensures.reads)
    c.declaration_at.ensures.reads
