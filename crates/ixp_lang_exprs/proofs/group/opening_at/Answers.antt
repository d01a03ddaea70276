use Rattle.std.proofs.Common.{◌≡◌, sym, subst}
use Rattle.ixp_lang_tokens.specs.Reading.{kinds}
use Rattle.ixp_lang_exprs.specs.Answers.{Leads}
use Rattle.ixp_lang_exprs.specs.Groups.{place_of, from_opening}
use Rattle.ixp_lang_exprs.proofs.Levels.{plain_more, not_plain}
use Rattle.ixp_lang_exprs.proofs.group.opening_at.Goals as goal

pub returns-clause-reads : goal.returns-clause-reads
returns-clause-reads c wanted =
    plain_more (place_of c.args.cx) c.args.depth wanted (kinds c.args.tokens.now) (kinds c.in-Some.behind.now) c.if-depth-eq0.false (sym c.in-Some.ensures.reads)

pub returns-in_default-clause-reads : goal.returns-in_default-clause-reads
returns-in_default-clause-reads c wanted =
    let at = place_of c.args.cx in
    let ts = kinds c.args.tokens.now in
    subst (λ r. Leads (from_opening at wanted c.args.depth ts) c.check_opening_at.result r)
    (sym (not_plain at c.args.depth wanted ts (sym c.in_default.ensures.reads))) (c.check_opening_at.ensures.reads wanted)
