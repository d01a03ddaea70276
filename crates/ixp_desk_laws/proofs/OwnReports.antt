-- What a member is told of its routes, in states that it sees alike.
use Rattle.std.proofs.Common.{◌≡◌, ℕ, List, [], ◌∷◌, map, Bool, true, false, is_none, Option, Some, None, refl, sym, ap, ◌∙◌, subst, if◌then◌else◌}
use Rattle.ixp_num.specs.declared.asn.Asn.{Asn}
use Rattle.ixp_num.specs.Families.{same_family}
use Rattle.ixp_num_tables.specs.Tables.{Ascends, find, if_there}
use Rattle.ixp_lang.specs.declared.route.Route.{Route}
use Rattle.ixp_registry.specs.declared.kind.Kind.TheVariants.{Routers}
use Rattle.ixp_registry.specs.declared.refusal.Refusal.TheVariants.{Denied, Family, Unknown}
use Rattle.ixp_registry.specs.declared.refusal.Right.TheVariants.{Staff}
use Rattle.ixp_registry.specs.declared.refusal.RowKey.TheVariants.{Handle}
use Rattle.ixp_registry.specs.declared.registry.Registry.{Registry}
use Rattle.ixp_registry.specs.declared.router.Router.{Router}
use Rattle.ixp_registry.specs.Keys.{interface_key, router_key}
use Rattle.ixp_registry.specs.Sessions.{Session, session}
use Rattle.ixp_machine_steps.specs.Views.{view}
use Rattle.ixp_policy.specs.declared.line.Line.{Line}
use Rattle.ixp_policy.specs.Export.{wish}
use Rattle.ixp_policy.specs.Import.{first_that_holds, import_table, refusal_number}
use Rattle.ixp_policy.specs.Tags.{tagged}
use Rattle.ixp_explain.specs.Texts.{own_text}
use Rattle.ixp_explain.specs.declared.report.OwnReport.{OwnReport}
use Rattle.ixp_explain_member.specs.declared.explanation.Explanation.{Explanation}
use Rattle.ixp_explain_member.specs.declared.explanation.Explanation.TheVariants.{Refused, Text}
use Rattle.ixp_explain_member.specs.Explanations.{is_own, member_explanation, told_by}
use Rattle.ixp_explain_member.specs.Rows.{own_report_by_rows}
use Rattle.ixp_desk_history.specs.declared.turn.First.{First}
use Rattle.ixp_desk_history.specs.declared.turn.Turn.{Turn}
use Rattle.ixp_desk_history.specs.declared.turn.Text.{Text as OwnText}
use Rattle.ixp_desk_history.specs.Answers.{IsOwnText, is_owned}
use Rattle.ixp_desk_history.specs.Legal.{Legal}
use Rattle.ixp_desk_history.specs.Turns.{registry_of, state_of}
use Rattle.ixp_desk_history.proofs.Versions.{state_valid}
use Rattle.ixp_desk_laws.proofs.OwnRows.{SameRows, owned, owned_alike, session_alike, table_alike, tagged_alike}
use Rattle.ixp_desk_laws.proofs.OwnTexts.{rows_alike, sender_own, sender_rows, senders_alike}

-- by the route as it is held, and the lines by which it is refused
abbrev reported : Router → Session → List Asn → Route → List Line → OwnReport
reported router s peers held lines = record {
  tagged = Some held;
  passed = is_none (first_that_holds lines);
  number = refusal_number (first_that_holds lines);
  asks = if is_none (first_that_holds lines) then map (λ p. (p, wish router s held p.0)) peers else [];
}

-- its own report is the same
pub report_alike : (r t : Registry) (router : Router) (s : Session) (route : Route) (peers : List Asn) → SameRows s.interface.member r t
    → own_report_by_rows r router s route peers ≡ own_report_by_rows t router s route peers
report_alike r t router s route peers same =
    ap (λ held. reported router s peers held (import_table r router s route)) (tagged_alike r t router s same route)
    ∙ ap (reported router s peers (tagged t router s route)) (table_alike r t router s same route)

module _ (m : ℕ) (r t : Registry) (same : SameRows m r t) (up : Ascends interface_key r.interfaces) (up' : Ascends interface_key t.interfaces) (handle : List ℕ) (n : ℕ) (route : Route) (peers : List Asn) where
  abbrev told : Registry → Router → Option Session → Explanation
  told q router o = told_by (λ s. own_text (own_report_by_rows q router s route peers)) router route o

  told_alike : (router : Router) (o : Option Session) → session r router n ≡ o → owned m (find interface_key (n ∷ []) r.interfaces) ≡ true → told r router o ≡ told t router o
  told_alike router None is mine = refl
  told_alike router (Some s) is mine =
      ap (λ x. if same_family router.family route.net.family then Text (own_text x) else Refused (Family router.family))
      (report_alike r t router s route peers (subst (λ k. SameRows k r t) (sym (sender_own r router n m s is mine)) same))

  abbrev by_router : Registry → Option Router → Explanation
  by_router q o = if_there o (Refused (Unknown Routers (Handle handle))) (λ router. told q router (session q router n))

  router_alike : (o : Option Router) → owned m (find interface_key (n ∷ []) r.interfaces) ≡ true → by_router r o ≡ by_router t o
  router_alike None mine = refl
  router_alike (Some router) mine = told_alike router (session r router n) refl mine ∙ ap (told t router) (session_alike m r t same up up' n router mine)

  explained_alike : member_explanation r m handle n route peers ≡ member_explanation t m handle n route peers
  explained_alike = by_test (is_own r m n) refl where
    by_test : (b : Bool) → is_own r m n ≡ b → (if is_own r m n then by_router r (find router_key handle r.routers) else Refused (Denied Staff)) ≡ (if is_own t m n then by_router t (find router_key handle t.routers) else Refused (Denied Staff))
    by_test true mine =
        ap (λ b. if b then by_router r (find router_key handle r.routers) else Refused (Denied Staff)) mine
        ∙ (router_alike (find router_key handle r.routers) mine
        ∙ (ap (λ qs. by_router t (find router_key handle qs)) same.routers
        ∙ sym (ap (λ b. if b then by_router t (find router_key handle t.routers) else Refused (Denied Staff)) (sym (owned_alike m r t same up up' n) ∙ mine))))
    by_test false none =
        ap (λ b. if b then by_router r (find router_key handle r.routers) else Refused (Denied Staff)) none
        ∙ sym (ap (λ b. if b then by_router t (find router_key handle t.routers) else Refused (Denied Staff)) (sym (owned_alike m r t same up up' n) ∙ none))

pub explanations_alike : (f g : First) (before others : List Turn) (m n : ℕ) (handle : List ℕ) (route : Route) (peers : List Asn) → Legal f before → Legal g others → view (state_of f before) m ≡ view (state_of g others) m
    → member_explanation (registry_of f before) m handle n route peers ≡ member_explanation (registry_of g others) m handle n route peers
explanations_alike f g before others m n handle route peers legal legal' seen =
    explained_alike m (registry_of f before) (registry_of g others) (rows_alike (state_of f before) (state_of g others) m seen)
    (state_valid f before legal).registry.interfaces.order (state_valid g others legal').registry.interfaces.order handle n route peers

-- and so is what a session's own text tells
pub reports_alike : (f g : First) (before others : List Turn) (m n : ℕ) (handle : List ℕ) (route : Route) (peers : List Asn) (a b : OwnText) → Legal f before → Legal g others
    → view (state_of f before) m ≡ view (state_of g others) m → is_owned (registry_of f before) m n ≡ true → (x : IsOwnText (state_of f before) handle n a) → (y : IsOwnText (state_of g others) handle n b)
    → own_report_by_rows (registry_of f before) x.router x.sender route peers ≡ own_report_by_rows (registry_of g others) y.router y.sender route peers
reports_alike f g before others m n handle route peers a b legal legal' seen mine x y =
    let s = state_of f before in
    let t = state_of g others in
    let both = senders_alike s t m (state_valid f before legal) (state_valid g others legal') seen handle n a b mine x y in
    report_alike s.registry t.registry x.router x.sender route peers (sender_rows s t m (state_valid f before legal) (state_valid g others legal') seen handle n a mine x)
    ∙ (ap (λ q. own_report_by_rows t.registry q x.sender route peers) both.0 ∙ ap (λ z. own_report_by_rows t.registry y.router z route peers) both.1)
