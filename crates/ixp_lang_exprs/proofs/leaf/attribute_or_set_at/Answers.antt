use Rattle.std.proofs.Common.{◌≡◌, sym, subst, nat_lt}
use Rattle.ixp_lang_tokens.specs.Reading.{kinds, Gives}
use Rattle.ixp_lang_exprs.specs.Expressions.{outside_define, attribute_in, word_in, attribute_form}
use Rattle.ixp_lang_exprs.specs.Groups.{place_of, set_in}
use Rattle.ixp_lang_exprs.specs.Operands.{operand_of}
use Rattle.ixp_lang_exprs.proofs.Firsts.{first_known}
use Rattle.ixp_lang_exprs.proofs.leaf.attribute_or_set_at.Goals as goal

pub returns-clause-reads : goal.returns-clause-reads
returns-clause-reads c =
    subst (λ r. Gives (λ x. (operand_of x.0, kinds x.1.now)) c.attribute_at.result r)
    (sym (first_known (word_in (outside_define (place_of c.args.cx) attribute_in)) (attribute_form c.args.wanted) (set_in (place_of c.args.cx) (nat_lt 0 c.args.depth)) (kinds c.args.tokens.now) c.in-Some.attr (kinds c.in-Some.behind.now)
    (sym c.in-Some.ensures.reads))) c.attribute_at.ensures.reads
