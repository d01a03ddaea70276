-- What a session's own text says of routes is what the rules over its rows say.
use Rattle.std.proofs.Common.{◌≡◌, ◌⊎◌, inl, inr, ℕ, Bool, true, false, ◌&&◌, List, [], ◌∷◌, ◌++◌, codes, if◌then◌else◌, Some, Result, Ok, Err, IfOk, MatchResult, refl, ap, sym, ◌∙◌}
use Rattle.std.specs.declared.alloc.AllocError.{AllocError}
use Rattle.ixp_num.specs.declared.family.Family.{Family}
use Rattle.ixp_num.specs.declared.family.Family.TheVariants.{V4, V6}
use Rattle.ixp_num.specs.declared.roa.Roa.{Roa}
use Rattle.ixp_num.specs.Families.{same_family}
use Rattle.ixp_num_tables.specs.Tables.{find}
use Rattle.ixp_lang.specs.declared.route.Route.{Route}
use Rattle.ixp_lang.specs.Texts.{route_text}
use Rattle.ixp_registry.specs.declared.refusal.Refusal.TheVariants as refusal
use Rattle.ixp_registry.specs.declared.registry.Registry.{Registry}
use Rattle.ixp_registry.specs.declared.router.Router.{Router}
use Rattle.ixp_registry.specs.Keys.{router_key}
use Rattle.ixp_registry.specs.Sessions.{Session, session}
use Rattle.ixp_registry.specs.Valid.{Valid}
use Rattle.ixp_compile.specs.Generated.{roa_tables}
use Rattle.ixp_compile.specs.Pieces.{roas as name_of_roas}
use Rattle.ixp_compile_laws.specs.Right.{Part}
use Rattle.ixp_explain.specs.declared.report.ExplainFault.{ExplainFault}
use Rattle.ixp_explain.specs.declared.report.ExplainFault.TheVariants as fault
use Rattle.ixp_explain.specs.declared.report.OwnReport.{OwnReport}
use Rattle.ixp_explain.specs.Texts.{own_text}
use Rattle.ixp_explain_member.specs.declared.explanation.Explanation.{Explanation}
use Rattle.ixp_explain_member.specs.declared.explanation.Explanation.TheVariants as explanation
use Rattle.ixp_explain_member.specs.Explanations.{told_by}
use Rattle.ixp_explain_member.specs.Rows.{own_report_by_rows}
use Rattle.ixp_explain_member.proofs.ByText.{member_answered}
use Rattle.ixp_glass.specs.Reports.{AreReports, Explains, IsUnexplained, Reports, tables_named}
use Rattle.ixp_api_replies.specs.declared.outcome.Outcome.{Outcome}
use Rattle.ixp_api_replies.specs.declared.outcome.Outcome.TheVariants as outcome
use Rattle.ixp_desk_explain.specs.Explanations.{OrNoMemory}
use Rattle.ixp_desk_explain.specs.Glass.{are_of, report_text, reports_text, shown_text, text_outcome, unshown}

-- this in place of the first of two cases
pub or_left : {A B C : Type 0} → (A → B) → A ⊎ C → B ⊎ C
or_left f (inl a) = inl (f a)
or_left f (inr c) = inr c

-- a text that is told, where it is told of a route of the family
told_text : (b : Bool) (said says : List ℕ) (family : Family) → explanation.Text said ≡ (if b then explanation.Text says else explanation.Refused (refusal.Family family)) → (b ≡ true) × (said ≡ says)
told_text true said says family is = (refl, let same : said ≡ says = cc in same)
told_text false said says family is = absurd (let bad : ⊥ = cc in bad)

told_apart : (b : Bool) (said family : Family) (says : List ℕ) → explanation.Refused (refusal.Family said) ≡ (if b then explanation.Text says else explanation.Refused (refusal.Family family)) → (b ≡ false) × (said ≡ family)
told_apart true said family says is = absurd (let bad : ⊥ = cc in bad)
told_apart false said family says is = (refl, let same : said ≡ family = cc in same)

and_no : (b : Bool) → (b && false) ≡ false
and_no true = refl
and_no false = refl

apart_in : (family : Family) (before : List Route) (route : Route) (behind : List Route) → same_family family route.net.family ≡ false → are_of family (before ++ route ∷ behind) ≡ false
apart_in family [] route behind apart = ap (λ b. b && are_of family behind) apart
apart_in family (q ∷ qs) route behind apart =
    ap (λ b. same_family family q.net.family && b) (apart_in family qs route behind apart) ∙ and_no (same_family family q.net.family)

module _ (r : Registry) (handle : List ℕ) (router : Router) (n : ℕ) (valid : Valid r) (there : find router_key handle r.routers ≡ Some router) (s : Session) (its : session r router n ≡ Some s)
    (text : List ℕ) (is : text ≡ Part r router s) (roas : List Roa) (are : roas ≡ r.public.roas) where
  abbrev says : Route → OwnReport
  says route = own_report_by_rows r router s route []

  abbrev told : Route → Explanation
  told route = told_by (λ t. own_text (own_report_by_rows r router t route [])) router route (Some s)

  tables_are : tables_named roas ≡ roa_tables r
  tables_are = ap (λ (x : List Roa). (name_of_roas V4, x) ∷ (name_of_roas V6, x) ∷ []) are

  of_report : (route : Route) (report : OwnReport) → Explains text roas n route (Ok report) → explanation.Text (own_text report) ≡ told route
  of_report route report e = member_answered r handle router n route valid there [] s its text (tables_named roas) (Ok report) is tables_are e

  of_family : (route : Route) (family : Family) → Explains text roas n route (Err (fault.Family family)) → explanation.Refused (refusal.Family family) ≡ told route
  of_family route family e = member_answered r handle router n route valid there [] s its text (tables_named roas) (Err (fault.Family family)) is tables_are e

  one_report : (route : Route) (report : OwnReport) → Explains text roas n route (Ok report) → (same_family router.family route.net.family ≡ true) × (own_text report ≡ own_text (says route))
  one_report route report e = told_text (same_family router.family route.net.family) (own_text report) (own_text (says route)) router.family (of_report route report e)

  -- the text of the reports
  all_shown : (routes : List Route) (reports : List OwnReport) → AreReports text roas n routes reports → (are_of router.family routes ≡ true) × (reports_text routes reports ≡ shown_text r router s routes)
  all_shown [] [] a = (refl, refl)
  all_shown [] (x ∷ xs) a = absurd a
  all_shown (q ∷ qs) [] a = absurd a
  all_shown (q ∷ qs) (x ∷ xs) (a, rest) =
      let one = one_report q x a in
      let more = all_shown qs xs rest in (
        ap (λ b. b && are_of router.family qs) one.0 ∙ more.0,
        ap (λ t. (codes "route " ++ (route_text q ++ (codes "\n" ++ t))) ++ reports_text qs xs) one.1 ∙ ap (λ t. report_text q (says q) ++ t) more.1,
      )

  -- a route is of the other family
  one_apart : (routes : List Route) (family : Family) → IsUnexplained text roas n routes (fault.Family family) → (are_of router.family routes ≡ false) × (family ≡ router.family)
  one_apart routes family u =
      let a = told_apart (same_family router.family u.route.net.family) family router.family (own_text (says u.route)) (of_family u.route family u.is_unexplained) in
      (ap (are_of router.family) u.routes_are ∙ apart_in router.family u.before u.route u.behind a.0, a.1)

  abbrev said : List Route → Outcome
  said routes = if are_of router.family routes then outcome.Text (shown_text r router s routes) else outcome.Refused (refusal.Family router.family)

  -- how a request ends by the reports, or by why there are none
  pub routes_told : (routes : List Route) (reports : List OwnReport) (t : Result (List ℕ) AllocError) (o : Outcome) → AreReports text roas n routes reports → IfOk t (λ x. x ≡ reports_text routes reports) → o ≡ text_outcome t
      → OrNoMemory (said routes) o
  routes_told routes reports (Ok t) o a is out =
      let all = all_shown routes reports a in
      inl (out ∙ (ap outcome.Text (is ∙ all.1) ∙ ap (λ b. if b then outcome.Text (shown_text r router s routes) else outcome.Refused (refusal.Family router.family)) (sym all.0)))
  routes_told routes reports (Err x) o a is out = inr out

  pub fault_told : (routes : List Route) (f : ExplainFault) (o : Outcome) → Reports text roas n routes (Err f) → o ≡ unshown f → OrNoMemory (said routes) o
  fault_told routes (fault.Family family) o u out =
      let a = one_apart routes family u in
      inl (out ∙ (ap (λ x. outcome.Refused (refusal.Family x)) a.1 ∙ ap (λ b. if b then outcome.Text (shown_text r router s routes) else outcome.Refused (refusal.Family router.family)) (sym a.0)))
  fault_told routes fault.NoMemory o u out = inr out
  fault_told routes (fault.Unread g) o u out = inr out
  fault_told routes (fault.Fault g) o u out = inr out
  fault_told routes (fault.Shape name) o u out = inr out
