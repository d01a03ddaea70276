use Rattle.std.proofs.Common.{◌≡◌, rules, List, Result, Err, sym, ◌∙◌, subst}
use Rattle.ixp_explain.specs.declared.report.ExplainFault.{ExplainFault}
use Rattle.ixp_explain.specs.declared.report.OwnReport.{OwnReport}
use Rattle.ixp_glass.specs.Reports.{Reports}
use Rattle.ixp_glass.proofs.Reporting.{some_there, unread}
use Rattle.ixp_glass.proofs.reports.reports_of.Goals as goal

pub returns-in_err-config : goal.returns-in_err-config
returns-in_err-config c =
    let same : c.from_residual.result ≡ Err c.in_err-config.field-0.0 = search rules in
    let some = some_there c.args.routes.now (sym c.is_empty.ensures ∙ c.if-is_empty.false) in
    subst (λ (r : Result (List OwnReport) ExplainFault). Reports c.args.text.now c.args.roas.now c.args.interface c.args.routes.now r) (sym same)
    (unread c.args.text.now c.args.roas.now c.args.interface c.args.routes.now some c.in_err-config.field-0.0 c.in_err-config.ensures)
