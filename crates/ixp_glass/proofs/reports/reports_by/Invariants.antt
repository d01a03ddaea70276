use Rattle.std.proofs.Common.{◌≡◌, true, take}
use Rattle.ixp_lang.specs.Views.{config_view}
use Rattle.ixp_glass.specs.Forms.{HasForms}
use Rattle.ixp_glass.specs.Reports.{AreReports}
use Rattle.ixp_glass.proofs.reports.reports_by.Given as goal

abbrev pub invariant-each : goal.invariant-each
invariant-each l =
    record { are_reports : AreReports l.text l.roas l.interface (take l.route-index l.routes) l.reports; forms : l.has_forms ≡ true → HasForms (config_view l.config) }
