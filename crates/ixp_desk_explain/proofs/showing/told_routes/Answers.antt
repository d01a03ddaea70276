use Rattle.std.proofs.Common.{◌≡◌, IfOk, ◌∙◌, subst}
use Rattle.ixp_desk_history.specs.Turns.{registry_of}
use Rattle.ixp_desk_explain.specs.Glass.{reports_text}
use Rattle.ixp_desk_explain.proofs.Places.{own_valid}
use Rattle.ixp_desk_explain.proofs.Reports.{fault_told, routes_told}
use Rattle.ixp_desk_explain.proofs.showing.told_routes.Goals as goal

pub returns-in-Ok-reports : goal.returns-in-Ok-reports
returns-in-Ok-reports g c log x legal =
    let spelt = subst (λ rs. IfOk c.reports_text.result (λ t. t ≡ reports_text c.as_slice-in-Ok-reports.result.now rs)) (c.as_slice-in-Ok-reports-2.ensures ∙ c.get-in-Ok-reports.ensures) c.reports_text.ensures in
    routes_told (registry_of x.first x.before) c.args.router.now x.own.router c.args.interface (own_valid log c.args.router.now c.args.interface c.args.text.now legal x) x.own.is_there x.own.sender x.own.is_sender
    c.as_slice.result.now (c.as_slice.ensures ∙ x.own.bytes) c.in-Ok.roas (c.in-Ok.ensures ∙ x.own.roas) c.args.routes.now c.in-Ok-reports.reports c.reports_text.result c.text_outcome.result c.in-Ok-reports.ensures
    (subst (λ rs. IfOk c.reports_text.result (λ t. t ≡ reports_text rs c.in-Ok-reports.reports)) (c.as_slice-in-Ok-reports.ensures ∙ c.get.ensures) spelt) c.text_outcome.ensures

pub returns : goal.returns
returns g c log x legal =
    fault_told (registry_of x.first x.before) c.args.router.now x.own.router c.args.interface (own_valid log c.args.router.now c.args.interface c.args.text.now legal x) x.own.is_there x.own.sender x.own.is_sender
    c.as_slice.result.now (c.as_slice.ensures ∙ x.own.bytes) c.in-Ok.roas (c.in-Ok.ensures ∙ x.own.roas) c.args.routes.now c.in-Err.fault c.unshown.result c.in-Err.ensures c.unshown.ensures
