-- What the rules over a registry's rows say of a route, as reports, and when the texts of its routers explain
-- these.
use Rattle.std.specs.Prelude.{◌≡◌, ℕ, false, List, [], map, Some, Ok, Err, if◌then◌else◌}
use Rattle.ixp_num.specs.declared.asn.Asn.{Asn}
use Rattle.ixp_num.specs.Families.{same_family}
use Rattle.ixp_lang.specs.declared.route.Route.{Route}
use Rattle.ixp_lang.specs.Trees.{ItemTree}
use Rattle.ixp_read.specs.Answers.{SpellsText}
use Rattle.ixp_registry.specs.declared.registry.Registry.{Registry}
use Rattle.ixp_registry.specs.declared.router.Router.{Router}
use Rattle.ixp_registry.specs.Sessions.{Session}
use Rattle.ixp_policy.specs.Export.{wish}
use Rattle.ixp_policy.specs.Fates.{fate_of, passes}
use Rattle.ixp_policy.specs.Import.{refusal, refusal_number}
use Rattle.ixp_policy.specs.Tags.{tagged}
use Rattle.ixp_compile.specs.Generated.{roa_tables}
use Rattle.ixp_compile_laws.specs.Right.{Gen, Part}
use Rattle.ixp_explain.specs.declared.report.Report.{Report}
use Rattle.ixp_explain.specs.declared.report.OwnReport.{OwnReport}
use Rattle.ixp_explain.specs.Explained.{explained, own_explained, other_family}

-- the route's fate, and the number with which it is refused
abbrev pub report_by_rows : Registry → Router → Session → Route → Report
report_by_rows r router s route =
    record { fate = fate_of r router route s; number = refusal_number (refusal r router s route) }

-- the route as the server holds it, whether it passes, the number with which it is refused, and the wish for
-- each peer where it passes
abbrev pub own_report_by_rows : Registry → Router → Session → Route → List Asn → OwnReport
own_report_by_rows r router s route peers = record {
  tagged = Some (tagged r router s route);
  passed = passes r router s route;
  number = refusal_number (refusal r router s route);
  asks = if passes r router s route then map (λ p. (p, wish router s (tagged r router s route) p.0)) peers
      else [];
}

-- The router's text spells a configuration that explains each route of the session of interface n as the rows
-- do. A route of the other family is told so.
pub record ExplainsRows (r : Registry) (router : Router) (n : ℕ) (s : Session) : Type 0 where
  pub items : List ItemTree
  pub is_spelt : SpellsText (Gen r router) items
  pub is_report : (route : Route) → route.net.family ≡ router.family
      → explained items (roa_tables r) n route ≡ Ok (report_by_rows r router s route)
  pub is_apart : (route : Route) → same_family router.family route.net.family ≡ false
      → explained items (roa_tables r) n route ≡ Err (other_family router.family)

-- The session's own text does so for its member, whatever peers are asked.
pub record TellsRows (r : Registry) (router : Router) (n : ℕ) (s : Session) : Type 0 where
  pub items : List ItemTree
  pub is_spelt : SpellsText (Part r router s) items
  pub is_report :
      (route : Route) (peers : List Asn) → route.net.family ≡ router.family
      → own_explained items (roa_tables r) n route peers ≡ Ok (own_report_by_rows r router s route peers)
  pub is_apart :
      (route : Route) (peers : List Asn) → same_family router.family route.net.family ≡ false
      → own_explained items (roa_tables r) n route peers ≡ Err (other_family router.family)
