use Rattle.std.proofs.Common.{◌≡◌, ◌++◌, drop}
use Rattle.ixp_desk_explain.specs.Glass.{reports_text}
use Rattle.ixp_desk_explain.proofs.printing.reports_text.Given as goal

abbrev pub invariant-each : goal.invariant-each
invariant-each l = l.text.items ++ reports_text (drop l.route-index l.routes) l.left ≡ reports_text l.routes l.reports
