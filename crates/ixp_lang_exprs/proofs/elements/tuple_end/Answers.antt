use Rattle.std.proofs.Common.{◌≡◌, ◌∙◌, sym, ap, subst, length, Ok}
use Rattle.ixp_lang_tokens.specs.Reading.{read, kinds, Gives, ◌>>=◌}
use Rattle.ixp_lang_exprs.specs.Names.{names_at}
use Rattle.ixp_lang_exprs.specs.Sets.{second_end}
use Rattle.ixp_lang_exprs.proofs.Firsts.{kinds_length}
use Rattle.ixp_lang_exprs.proofs.Stars.{with_star, without_star}
use Rattle.ixp_lang_exprs.proofs.elements.tuple_end.Goals as goal

pub returns-in-Some-clause-reads : goal.returns-in-Some-clause-reads
returns-in-Some-clause-reads c =
    subst (λ r. Gives (λ x. (x.0, kinds x.1.now)) c.pair_end.result r)
    (sym (with_star (names_at c.args.cx) c.args.wanted c.args.first.0 c.args.first.1 (length c.args.tokens.now) (kinds c.args.tokens.now) (kinds c.in-Some.rest.now)
    (sym (kinds_length c.args.tokens.now)) (sym (c.in-Some.ensures.reads)))) c.pair_end.ensures.reads

pub returns-clause-reads : goal.returns-clause-reads
returns-clause-reads c =
    subst (λ r. Gives (λ x. (x.0, kinds x.1.now)) c.second_end.result r)
    (sym (without_star (names_at c.args.cx) c.args.wanted c.args.first.0 c.args.first.1 (length c.args.tokens.now) (kinds c.args.tokens.now)
    (sym (kinds_length c.args.tokens.now)) (sym (c.in_default.ensures.reads))
    ∙ ap (λ r. r >>= λ a. read (second_end (names_at c.args.cx) c.args.wanted c.args.first.0 c.args.first.1 a.0 (length c.args.tokens.now)) a.1) c.in_ok-second.ensures.reads)) c.second_end.ensures.reads
