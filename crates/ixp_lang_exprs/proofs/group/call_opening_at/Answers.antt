use Rattle.std.proofs.Common.{◌≡◌, ◌∙◌, sym, ap, subst, length, Err}
use Rattle.std.proofs.lemmas.Result.{err_from_is_err_and}
use Rattle.ixp_lang_tokens.specs.Reading.{read, kinds}
use Rattle.ixp_lang_exprs.specs.Answers.{Leads}
use Rattle.ixp_lang_exprs.specs.Expressions.{call_form}
use Rattle.ixp_lang_exprs.specs.Groups.{place_of, below, atom_form, from_opening}
use Rattle.ixp_lang_exprs.proofs.Firsts.{kinds_length}
use Rattle.ixp_lang_exprs.proofs.Levels.{call_known, call_unknown, left_below}
use Rattle.ixp_lang_exprs.proofs.group.call_opening_at.Goals as goal

pub returns-in_default-clause-reads : goal.returns-in_default-clause-reads
returns-in_default-clause-reads c wanted =
    let at = place_of c.args.cx in
    call_unknown at wanted (below at c.args.depth) (kinds c.args.tokens.now) (sym c.in_default.ensures.reads)
    ∙ ap (λ b. read (atom_form at wanted b) (kinds c.args.tokens.now)) (left_below at c.args.depth)

pub returns-in_err-behind-clause-reads : goal.returns-in_err-behind-clause-reads
returns-in_err-behind-clause-reads c wanted =
    let p = err_from_is_err_and c.from_residual.result c.from_residual.ensures.1 in
    let at = place_of c.args.cx in
    let inner = below at c.args.depth in
    let found = c.in-Some.found in
    rw (p.1, p.2)
    (subst (λ r. Leads (from_opening at wanted c.args.depth (kinds c.args.tokens.now)) (Err c.in_err-behind.field-0.0) r)
    (sym (call_known at wanted inner (kinds c.args.tokens.now) found.name.now found.signature.now (kinds found.behind.now) (sym c.in-Some.ensures.reads)
    ∙ ap (λ n. read (call_form at inner found.name.now n found.signature.now) (kinds found.behind.now)) (kinds_length c.args.tokens.now)))
    c.in_err-behind.ensures.reads)

pub returns-clause-reads : goal.returns-clause-reads
returns-clause-reads c wanted =
    let at = place_of c.args.cx in
    let inner = below at c.args.depth in
    let found = c.in-Some.found in
    call_known at wanted inner (kinds c.args.tokens.now) found.name.now found.signature.now (kinds found.behind.now) (sym c.in-Some.ensures.reads)
    ∙ ap (λ n. read (call_form at inner found.name.now n found.signature.now) (kinds found.behind.now)) (kinds_length c.args.tokens.now)
    ∙ c.in_ok-behind.ensures.reads
