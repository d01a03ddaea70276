use Rattle.std.proofs.Common.{◌≡◌, true, false, sym, ◌∙◌}
use Rattle.ixp_rows.proofs.Gathered.{no_rows}
use Rattle.ixp_store_damage.proofs.FaultsTold.{no_site, second_version, other_site, wrong_site, behind_site}
use Rattle.ixp_store_damage.proofs.lines.site.Goals as goal

pub returns-in_default-clause-told : goal.returns-in_default-clause-told
returns-in_default-clause-told c = λ es is up. no_site es c.args.rows.now is up c.missing.result (no_rows c.args.rows.now c.in_default.ensures.cases) c.missing.ensures

pub returns-then-row-lt-SITE-clause-told : goal.returns-then-row-lt-SITE-clause-told
returns-then-row-lt-SITE-clause-told c = λ es is up.
    second_version es c.args.rows.now is up c.damaged.result c.in-Some.row.now c.in-Some.others.now c.in-Some.ensures.cases.0 c.if-row-lt-SITE.true c.damaged.ensures

pub returns-then-not-is_site-clause-told : goal.returns-then-not-is_site-clause-told
returns-then-not-is_site-clause-told c = λ es is up.
    other_site es c.args.rows.now is up c.missing-then-not-is_site.result c.in-Some.row.now c.in-Some.others.now c.in-Some.ensures.cases.0 c.if-row-lt-SITE.false (sym c.is_site.ensures ∙ c.if-not-is_site.true) c.missing-then-not-is_site.ensures

pub returns-then-not-branch-clause-told : goal.returns-then-not-branch-clause-told
returns-then-not-branch-clause-told c = λ es is up.
    wrong_site es c.args.rows.now is up c.damaged-then-not-branch.result c.in-Some.row.now c.in-Some.others.now c.in-Some.ensures.cases.0 (sym c.is_site.ensures ∙ c.if-not-is_site.false)
    (λ row. absurd (let bad : true ≡ false = sym (c.in_ok-is_row.ensures.1 row) ∙ c.if-not-branch.true in cc)) c.damaged-then-not-branch.ensures

pub returns-clause-reached : goal.returns-clause-reached
returns-clause-reached c = λ es is up.
    behind_site es c.args.rows.now is up c.in-Some.row.now c.in-Some.others.now c.in-Some.ensures.cases.0 (sym c.is_site.ensures ∙ c.if-not-is_site.false) (c.in_ok-is_row.ensures.0 c.if-not-branch.false)
