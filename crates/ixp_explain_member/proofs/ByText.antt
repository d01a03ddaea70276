-- What is answered by the texts of a valid registry is what its rows say.
use Rattle.std.proofs.Common.{◌≡◌, ℕ, ◌<◌, ◌^◌, Bool, true, false, List, if◌then◌else◌, Option, Some, None, option_map, Result, Ok, Err, MatchResult, refl, sym, ap, ◌∙◌, subst}
use Rattle.ixp_num.specs.declared.asn.Asn.{Asn}
use Rattle.ixp_num.specs.declared.family.Family.{Family}
use Rattle.ixp_num.specs.Families.{same_family}
use Rattle.ixp_num_tables.specs.Tables.{find}
use Rattle.ixp_lang.specs.declared.fate.Fate.{Fate}
use Rattle.ixp_lang.specs.declared.item.Bgp.{Bgp}
use Rattle.ixp_lang.specs.declared.route.Route.{Route}
use Rattle.ixp_lang.specs.Faults.{CallFault, Fault, failed, no_filter}
use Rattle.ixp_lang.specs.Texts.{fate_text}
use Rattle.ixp_lang.specs.Trees.{ItemTree}
use Rattle.ixp_lang.specs.Walks.{walk, walk_from}
use Rattle.ixp_registry.specs.declared.refusal.Refusal.TheVariants as refusal
use Rattle.ixp_registry.specs.declared.registry.Registry.{Registry}
use Rattle.ixp_registry.specs.declared.router.Router.{Router}
use Rattle.ixp_registry.specs.Keys.{router_key}
use Rattle.ixp_registry.specs.Sessions.{Session, session}
use Rattle.ixp_registry.specs.Valid.{Valid}
use Rattle.ixp_policy.specs.Fates.{fate_of}
use Rattle.ixp_compile.specs.Generated.{generated, roa_tables}
use Rattle.ixp_compile.proofs.Rights.{right}
use Rattle.ixp_compile_laws.specs.Right.{Gen, Part}
use Rattle.ixp_compile_laws.proofs.ReadBack.{whole_spelt}
use Rattle.ixp_explain.specs.declared.report.ExplainFault.{ExplainFault}
use Rattle.ixp_explain.specs.declared.report.ExplainFault.TheVariants as fault
use Rattle.ixp_explain.specs.declared.report.OwnReport.{OwnReport}
use Rattle.ixp_explain.specs.Answers.{Answers, IsFaulty, Tells, fault_of}
use Rattle.ixp_explain.specs.Explained.{Tables, Trouble, and_then, family_apart, fate_text_told, faulty, other_family, own_explained, run, session_name, unless_apart}
use Rattle.ixp_explain.specs.Texts.{own_text}
use Rattle.ixp_explain_member.specs.declared.explanation.Explanation.TheVariants as explanation
use Rattle.ixp_explain_member.specs.ByText.{answered}
use Rattle.ixp_explain_member.specs.Explanations.{told_by}
use Rattle.ixp_explain_member.specs.Rows.{TellsRows, own_report_by_rows}
use Rattle.ixp_explain_member.proofs.Answering.{answer_told}
use Rattle.ixp_explain_member.proofs.Explaining.{never_faulty, same_families}
use Rattle.ixp_explain_member.proofs.Reports.{tells}
use Rattle.ixp_explain_member.proofs.Senders.{no_sender, sender_in_whole}

-- What a text has to tell, by the rows: nothing of a session that isn't there, and nothing of a route of the
-- other family.
abbrev pub outcome_by : {A : Type 0} → (Session → A) → Router → Route → List ℕ → Option Session → Result A Trouble
outcome_by says router route name None = Err (faulty (failed (no_filter name)))
outcome_by says router route name (Some s) = if same_family router.family route.net.family then Ok (says s) else Err (other_family router.family)

not_faulty : (A : Type 0) (family : Family) (o : Option CallFault) → IsFaulty {A = A} o (Err (other_family family)) → ⊥
not_faulty A family None e = e
not_faulty A family (Some f) e = cc

module _ {A : Type 0} (text : A → List ℕ) where
  told_none : (f : CallFault) (answer : Result A ExplainFault) → Tells answer (Err (faulty f)) → MatchResult (answered text answer) (λ e. e ≡ explanation.NoSession) (λ f. f ≡ fault.NoMemory)
  told_none f (Ok x) told = let bad : ⊥ = cc in absurd bad
  told_none f (Err fault.NoMemory) told = refl
  told_none f (Err (fault.Unread g)) told = absurd told
  told_none f (Err (fault.Family family)) told = let bad : ⊥ = cc in absurd bad
  told_none f (Err (fault.Fault g)) told = refl
  told_none f (Err (fault.Shape name)) told = let bad : ⊥ = cc in absurd bad

  told_one : (y : A) (answer : Result A ExplainFault) → Tells answer (Ok y) → MatchResult (answered text answer) (λ e. e ≡ explanation.Text (text y)) (λ f. f ≡ fault.NoMemory)
  told_one y (Ok x) told = let same : x ≡ y = cc in ap (λ (z : A). explanation.Text (text z)) same
  told_one y (Err fault.NoMemory) told = refl
  told_one y (Err (fault.Unread g)) told = absurd told
  told_one y (Err (fault.Family family)) told = let bad : ⊥ = cc in absurd bad
  told_one y (Err (fault.Fault g)) told = absurd (never_faulty y (fault_of g) told)
  told_one y (Err (fault.Shape name)) told = let bad : ⊥ = cc in absurd bad

  told_apart : (family : Family) (answer : Result A ExplainFault) → Tells answer (Err (other_family family))
      → MatchResult (answered text answer) (λ e. e ≡ explanation.Refused (refusal.Family family)) (λ f. f ≡ fault.NoMemory)
  told_apart family (Ok x) told = let bad : ⊥ = cc in absurd bad
  told_apart family (Err fault.NoMemory) told = refl
  told_apart family (Err (fault.Unread g)) told = absurd told
  told_apart family (Err (fault.Family other)) told = let same : other ≡ family = cc in ap (λ (f : Family). explanation.Refused (refusal.Family f)) same
  told_apart family (Err (fault.Fault g)) told = absurd (not_faulty A family (fault_of g) told)
  told_apart family (Err (fault.Shape name)) told = let bad : ⊥ = cc in absurd bad

  -- what is answered to what a text has to tell
  pub answered_is : (says : Session → A) (router : Router) (route : Route) (name : List ℕ) (o : Option Session) (answer : Result A ExplainFault)
      → Tells answer (outcome_by says router route name o) → MatchResult (answered text answer) (λ e. e ≡ told_by (λ s. text (says s)) router route o) (λ f. f ≡ fault.NoMemory)
  answered_is says router route name None answer told = told_none (failed (no_filter name)) answer told
  answered_is says router route name (Some s) answer told = go (same_family router.family route.net.family) told where
    go : (b : Bool) → Tells answer (if b then Ok (says s) else Err (other_family router.family))
        → MatchResult (answered text answer) (λ e. e ≡ (if b then explanation.Text (text (says s)) else explanation.Refused (refusal.Family router.family))) (λ f. f ≡ fault.NoMemory)
    go true h = told_one (says s) answer h
    go false h = told_apart router.family answer h

module _ (r : Registry) (handle : List ℕ) (router : Router) (n : ℕ) (route : Route) (valid : Valid r) (there : find router_key handle r.routers ≡ Some router) where
  -- The router's text.

  abbrev whole : List ItemTree
  whole = generated r router

  abbrev fate_said : Session → List ℕ
  fate_said s = fate_text (fate_of r router route s) (Some router.asn)

  told_away : n < 2 ^ 64 → session r router n ≡ None → fate_text_told whole (roa_tables r) n route ≡ outcome_by fate_said router route (session_name n) None
  told_away small none =
      ap (λ (o : Option Bgp).
      and_then (unless_apart (family_apart o route) (run (walk_from whole (roa_tables r) (session_name n) o route))) (λ fate. Ok (fate_text fate (option_map (λ b. b.own) o))))
      (no_sender r router n none valid small)

  module _ (s : Session) (its : session r router n ≡ Some s) where
    abbrev walked : Result Fate Fault
    walked = walk whole (roa_tables r) (session_name n) route

    told_there : fate_text_told whole (roa_tables r) n route ≡ outcome_by fate_said router route (session_name n) (Some s)
    told_there =
        ap (λ (o : Option Bgp). and_then (unless_apart (family_apart o route) (run walked)) (λ fate. Ok (fate_text fate (option_map (λ b. b.own) o))))
        (sender_in_whole r router n s its valid)
        ∙ go (same_family router.family route.net.family) refl
      where
        go : (b : Bool) → same_family router.family route.net.family ≡ b
            → and_then (unless_apart (if b then None else Some router.family) (run walked)) (λ fate. Ok (fate_text fate (Some router.asn)))
            ≡ (if b then Ok (fate_said s) else Err (other_family router.family))
        go true family =
            ap (λ (w : Result Fate Fault). and_then (run w) (λ fate. Ok (fate_text fate (Some router.asn))))
            (right r valid handle router there n s its route (same_families router.family route.net.family family))
        go false apart = refl

  text_told : n < 2 ^ 64 → (o : Option Session) → session r router n ≡ o → fate_text_told whole (roa_tables r) n route ≡ outcome_by fate_said router route (session_name n) o
  text_told small None none = told_away small none
  text_told small (Some s) its = told_there s its

  pub staff_answered : n < 2 ^ 64 → (text : List ℕ) (tables : Tables) (answer : Result (List ℕ) ExplainFault) → text ≡ Gen r router → tables ≡ roa_tables r
      → Answers text (λ items. fate_text_told items tables n route) answer
      → MatchResult (answered (λ bytes. bytes) answer) (λ e. e ≡ told_by fate_said router route (session r router n)) (λ f. f ≡ fault.NoMemory)
  staff_answered small text tables answer is are answers =
      answered_is (λ bytes. bytes) fate_said router route (session_name n) (session r router n) answer
      (subst (Tells answer) (text_told small (session r router n) refl)
      (answer_told (Gen r router) (λ items. fate_text_told items (roa_tables r) n route) answer whole (whole_spelt r handle router valid there)
      (subst (λ t. Answers t (λ items. fate_text_told items (roa_tables r) n route) answer) is
      (subst (λ ts. Answers text (λ items. fate_text_told items ts n route) answer) are answers))))

  -- A session's own text.

  module _ (peers : List Asn) (s : Session) (its : session r router n ≡ Some s) where
    abbrev report_said : Session → OwnReport
    report_said t = own_report_by_rows r router t route peers

    pub member_answered : (text : List ℕ) (tables : Tables) (answer : Result OwnReport ExplainFault) → text ≡ Part r router s → tables ≡ roa_tables r
        → Answers text (λ items. own_explained items tables n route peers) answer
        → MatchResult (answered own_text answer) (λ e. e ≡ told_by (λ t. own_text (report_said t)) router route (Some s)) (λ f. f ≡ fault.NoMemory)
    member_answered text tables answer is are answers =
        answered_is own_text report_said router route (session_name n) (Some s) answer
        (subst (Tells answer) (own_told (same_family router.family route.net.family) refl)
        (answer_told (Part r router s) (λ items. own_explained items (roa_tables r) n route peers) answer rows.items rows.is_spelt
        (subst (λ t. Answers t (λ items. own_explained items (roa_tables r) n route peers) answer) is
        (subst (λ ts. Answers text (λ items. own_explained items ts n route peers) answer) are answers))))
      where
        rows : TellsRows r router n s
        rows = tells r valid handle router there n s its

        own_told : (b : Bool) → same_family router.family route.net.family ≡ b
            → own_explained rows.items (roa_tables r) n route peers ≡ (if b then Ok (report_said s) else Err (other_family router.family))
        own_told true family = rows.is_report route peers (same_families router.family route.net.family family)
        own_told false apart = rows.is_apart route peers apart
