use Rattle.std.proofs.Common.{◌≡◌, ◌∙◌, sym, ap, subst, length}
use Rattle.ixp_lang_tokens.specs.Reading.{read, kinds}
use Rattle.ixp_lang_exprs.specs.Answers.{Leads}
use Rattle.ixp_lang_exprs.specs.Expressions.{outside_define, check_word, word_in, checked_form}
use Rattle.ixp_lang_exprs.specs.Groups.{place_of, below, call_or, from_opening}
use Rattle.ixp_lang_exprs.proofs.Firsts.{first_known, first_unknown, kinds_length}
use Rattle.ixp_lang_exprs.proofs.group.check_opening_at.Goals as goal

pub returns-in_default-clause-reads : goal.returns-in_default-clause-reads
returns-in_default-clause-reads c wanted =
    let at = place_of c.args.cx in
    let inner = below at c.args.depth in
    let ts = kinds c.args.tokens.now in
    subst (λ r. Leads (from_opening at wanted c.args.depth ts) c.call_opening_at.result r)
    (sym (first_unknown (word_in (outside_define at check_word)) (λ x. checked_form at inner (length ts)) (call_or at wanted inner) ts (sym c.in_default.ensures.reads)))
    (c.call_opening_at.ensures.reads wanted)

pub returns-clause-reads : goal.returns-clause-reads
returns-clause-reads c wanted =
    let at = place_of c.args.cx in
    let inner = below at c.args.depth in
    let ts = kinds c.args.tokens.now in
    let rest = kinds c.in-Some.rest.now in
    first_known (word_in (outside_define at check_word)) (λ x. checked_form at inner (length ts)) (call_or at wanted inner) ts tt rest (sym c.in-Some.ensures.reads)
    ∙ ap (λ n. read (checked_form at inner n) rest) (kinds_length c.args.tokens.now)
    ∙ c.in_ok-table.ensures.reads
