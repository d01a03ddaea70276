-- What is answered to who asks what becomes of a route.
use Rattle.std.specs.Prelude.{◌≡◌, ℕ, List, [], ◌∷◌, Bool, true, false, ◌==◌, Option, Some, None, if◌then◌else◌}
use Rattle.ixp_num_tables.specs.Tables.{find, if_there}
use Rattle.ixp_num.specs.declared.asn.Asn.{Asn}
use Rattle.ixp_num.specs.Families.{same_family}
use Rattle.ixp_lang.specs.declared.route.Route.{Route}
use Rattle.ixp_lang.specs.Texts.{fate_text}
use Rattle.ixp_registry.specs.declared.kind.Kind.TheVariants.{Routers}
use Rattle.ixp_registry.specs.declared.refusal.Refusal.TheVariants.{Denied, Family, Unknown}
use Rattle.ixp_registry.specs.declared.refusal.Right.TheVariants.{Staff}
use Rattle.ixp_registry.specs.declared.refusal.RowKey.TheVariants.{Handle}
use Rattle.ixp_registry.specs.declared.registry.Registry.{Registry}
use Rattle.ixp_registry.specs.declared.router.Router.{Router}
use Rattle.ixp_registry.specs.Keys.{interface_key, router_key}
use Rattle.ixp_registry.specs.Sessions.{Session, session}
use Rattle.ixp_policy.specs.Fates.{fate_of}
use Rattle.ixp_explain.specs.Texts.{own_text}
use Rattle.ixp_explain_member.specs.Rows.{own_report_by_rows}
use Rattle.ixp_explain_member.specs.declared.explanation.Explanation.{Explanation}
use Rattle.ixp_explain_member.specs.declared.explanation.Explanation.TheVariants.{NoRouter, NoSession, Refused, Text}

-- what a session's text says of a route, where there is one and the route is of the router's family; X7 else
abbrev pub told_by : (Session → List ℕ) → Router → Route → Option Session → Explanation
told_by says router route None = NoSession
told_by says router route (Some s) =
    if same_family router.family route.net.family then Text (says s) else Refused (Family router.family)

-- to the staff: the route's fate; Y3 where there is no such router
abbrev pub staff_explanation : Registry → List ℕ → ℕ → Route → Explanation
staff_explanation r handle n route =
    if_there (find router_key handle r.routers) NoRouter
    (λ router. told_by (λ s. fate_text (fate_of r router route s) (Some router.asn)) router route
    (session r router n))

-- the interface is there, and is the member's
abbrev pub is_own : Registry → ℕ → ℕ → Bool
is_own r m n = if_there (find interface_key (n ∷ []) r.interfaces) false (λ i. i.member == m)

-- To a member: what becomes of its own route, and for each peer its own wish. Of an interface that isn't its
-- own the answer is X1, whether or not the interface is there; X4 where there is no such router.
abbrev pub member_explanation : Registry → ℕ → List ℕ → ℕ → Route → List Asn → Explanation
member_explanation r m handle n route peers =
    if is_own r m n
    then if_there (find router_key handle r.routers) (Refused (Unknown Routers (Handle handle)))
    (λ router. told_by (λ s. own_text (own_report_by_rows r router s route peers)) router route
    (session r router n))
    else Refused (Denied Staff)
