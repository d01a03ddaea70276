use Rattle.std.proofs.Common.{◌≡◌, Bool, rules, Result, Ok, Err, IfErr, sym, ◌∙◌, subst}
use Rattle.ixp_lang.specs.Views.{config_view}
use Rattle.ixp_explain.specs.declared.report.ExplainFault.{ExplainFault}
use Rattle.ixp_explain.specs.declared.report.OwnReport.{OwnReport}
use Rattle.ixp_glass.specs.Forms.{Told}
use Rattle.ixp_glass.proofs.ByForms.{by_forms, by_member, by_none, by_trouble, shows_forms}
use Rattle.ixp_glass.proofs.forms.report_of.Goals as goal

pub returns-in_err-report-clause-err : goal.returns-in_err-report-clause-err
returns-in_err-report-clause-err c =
    let same : c.from_residual.result ≡ Err c.in_err-report.field-0.0 = search rules in
    subst (λ (r : Result (OwnReport × Bool) ExplainFault). IfErr r (λ f. Told c.args.text.now c.args.roas.now c.args.interface c.args.route.now (Err f))) (sym same)
    (by_trouble c.args.text.now (config_view c.args.config.now) c.requires.spelt c.args.roas.now c.args.interface c.args.route.now c.in_err-report.field-0.0 c.in_err-report.ensures)

pub returns-then-has_forms-clause-ok : goal.returns-then-has_forms-clause-ok
returns-then-has_forms-clause-ok c =
    by_forms c.args.text.now (config_view c.args.config.now) c.requires.spelt c.args.roas.now c.args.interface c.args.route.now c.in_ok-report.report c.in_ok-report.ensures
    (c.requires.forms c.if-has_forms.true)

pub returns-then-not-asks-clause-ok : goal.returns-then-not-asks-clause-ok
returns-then-not-asks-clause-ok c =
    by_none c.args.text.now (config_view c.args.config.now) c.requires.spelt c.args.roas.now c.args.interface c.args.route.now c.in_ok-report.report c.in_ok-report.ensures
    (sym c.in_ok-asks.ensures ∙ c.if-not-asks.true)

pub returns-in_err-told-clause-err : goal.returns-in_err-told-clause-err
returns-in_err-told-clause-err c =
    let same : c.from_residual-in_err-told.result ≡ Err c.in_err-told.field-0.0 = search rules in
    subst (λ (r : Result (OwnReport × Bool) ExplainFault). IfErr r (λ f. Told c.args.text.now c.args.roas.now c.args.interface c.args.route.now (Err f))) (sym same)
    (by_member c.args.text.now (config_view c.args.config.now) c.requires.spelt c.args.roas.now c.args.interface c.args.route.now (Err c.in_err-told.field-0.0) c.in_err-told.ensures)

pub returns-clause-ok : goal.returns-clause-ok
returns-clause-ok c =
    by_member c.args.text.now (config_view c.args.config.now) c.requires.spelt c.args.roas.now c.args.interface c.args.route.now (Ok c.in_ok-told.told) c.in_ok-told.ensures

pub returns-clause-forms : goal.returns-clause-forms
returns-clause-forms c = λ yes.
    shows_forms c.args.text.now (config_view c.args.config.now) c.requires.spelt c.args.roas.now c.args.interface c.args.route.now c.in_ok-told.told c.in_ok-told.ensures
    (sym c.in_ok-has_forms.ensures ∙ yes)
