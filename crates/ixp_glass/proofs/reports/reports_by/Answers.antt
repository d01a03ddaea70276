use Rattle.std.proofs.Common.{◌≡◌, ◌+◌, rules, List, take, Result, Err, sym, ◌∙◌, subst}
use Rattle.ixp_explain.specs.declared.report.ExplainFault.{ExplainFault}
use Rattle.ixp_explain.specs.declared.report.OwnReport.{OwnReport}
use Rattle.ixp_glass.specs.Reports.{AreReports, Reports}
use Rattle.ixp_glass.proofs.Reporting.{one_more, unexplained}
use Rattle.ixp_glass.proofs.reports.reports_by.Goals as goal

pub returns-in_err-report : goal.returns-in_err-report
returns-in_err-report c =
    let same : c.from_residual-in_err-report.result ≡ Err c.in_err-report.field-0.0 = search rules in
    let tables = c.as_slice.ensures ∙ c.in_ok-tables.ensures in
    subst (λ (r : Result (List OwnReport) ExplainFault). Reports c.args.text.now c.args.roas.now c.args.interface c.args.routes.now r) (sym same)
    (unexplained c.args.text.now c.args.roas.now c.args.interface c.args.routes.now c.each.route-index c.route-item.result c.each.reports c.each-test.true c.route-item.is c.each.invariant.are_reports
    c.in_err-report.field-0.0 (c.in_err-report.ensures.err c.args.roas.now tables))

pub each-preserved : goal.each-preserved
each-preserved c =
    let tables = c.as_slice.ensures ∙ c.in_ok-tables.ensures in
    let told = c.in_ok-report.ensures.ok c.args.roas.now tables in
    let more = one_more c.args.text.now c.args.roas.now c.args.interface c.args.routes.now c.each.route-index c.route-item.result c.each.reports c.in_ok-report.report c.each-test.true c.route-item.is
    c.each.invariant.are_reports told in
    record {
      are_reports = subst (λ (xs : List OwnReport). AreReports c.args.text.now c.args.roas.now c.args.interface (take (c.each.route-index + 1) c.args.routes.now) xs) (sym c.in_ok-push.ensures.ok) more;
      forms = c.in_ok-report.ensures.forms;
    }
