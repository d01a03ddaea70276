use Rattle.std.proofs.Common.{◌≡◌, ◌∙◌, sym, length}
use Rattle.ixp_lang_tokens.specs.Reading.{kinds, ◌>>=◌}
use Rattle.ixp_lang_exprs.specs.Names.{names_of}
use Rattle.ixp_lang_exprs.proofs.Firsts.{kinds_length}
use Rattle.ixp_read.proofs.ItemSteps.{router_next, table_left}
use Rattle.ixp_read.proofs.item.item_at.Goals as goal

pub returns-in-Some-clause-reads : goal.returns-in-Some-clause-reads
returns-in-Some-clause-reads c =
    rw (router_next c.args.number (length c.args.tokens.now) (names_of c.args.env.now) (kinds c.args.tokens.now) (kinds c.in-Some.rest.now) c.in-Some.ensures.reads)
    (c.router_id_at.ensures.reads (names_of c.args.env.now))

pub returns-clause-reads : goal.returns-clause-reads
returns-clause-reads c =
    rw (table_left c.args.number (length c.args.tokens.now) (names_of c.args.env.now) (kinds c.args.tokens.now) (kinds c.args.tokens.now) (sym (kinds_length c.args.tokens.now)) c.in_default.ensures.reads)
    c.table_or_at.ensures.reads
