-- What is told of a route but for the forms of the text's functions, and what `explain_member` answers.
use Rattle.std.proofs.Common.{◌≡◌, ℕ, Bool, true, false, ◌&&◌, List, [], reverse, Option, Some, None, is_some, Result, Ok, Err, refl, sym, ap, ◌∙◌, subst}
use Rattle.ixp_num.specs.declared.asn.Asn.{Asn}
use Rattle.ixp_lang.specs.declared.fate.Fate.{Fate}
use Rattle.ixp_lang.specs.declared.item.Bgp.{Bgp}
use Rattle.ixp_lang.specs.declared.route.Route.{Route}
use Rattle.ixp_lang.specs.declared.route.Verdict.{Verdict}
use Rattle.ixp_lang.specs.declared.route.Verdict.TheVariants.{Accept, Reject}
use Rattle.ixp_lang.specs.Faults.{CallFault}
use Rattle.ixp_lang.specs.Meaning.{Environment, filter_end}
use Rattle.ixp_lang.specs.Trees.{ItemTree}
use Rattle.ixp_read.specs.Answers.{SpellsText}
use Rattle.ixp_read.proofs.AnswerLaws.{one_spelling}
use Rattle.ixp_explain.specs.declared.report.ExplainFault.{ExplainFault}
use Rattle.ixp_explain.specs.declared.report.ExplainFault.TheVariants as told
use Rattle.ixp_explain.specs.declared.report.OwnReport.{OwnReport}
use Rattle.ixp_explain.specs.Answers.{Answers, IsFaulty, Tells, Troubled, fault_of}
use Rattle.ixp_explain.specs.Explained.{Tables, Trouble, and_then, asks_told, env_of, fate_told, own_explained, own_number, own_report_of, run, session_in, shapes_told, up_name, wishes_by, faulty}
use Rattle.ixp_explain.specs.Kinds.{sorts_after}
use Rattle.ixp_explain.proofs.Telling.{told_of}
use Rattle.ixp_glass.specs.Forms.{HasForms, Told, asks_forms, filtered, told_but_forms}

abbrev pub Asks : Type 0
Asks = List (Asn × Option ℕ)

-- what is asked of nobody where a route passed, by the forms and the outcome of the filter up
abbrev asked_with : Result (Unit {0}) Trouble → List ItemTree → Environment → Result Verdict Trouble → Result Asks Trouble
asked_with forms items env o = and_then o (λ verdict. and_then forms (λ _. wishes_by items env [] verdict))

abbrev filtered_with : Result Verdict Trouble → Result (Unit {0}) Trouble
filtered_with o = and_then o (λ verdict. Ok tt)

abbrev reported : (Asks → OwnReport) → Asks → Result OwnReport Trouble
reported rep asks = Ok (rep asks)

abbrev bare : (Asks → OwnReport) → Unit {0} → Result OwnReport Trouble
bare rep done = Ok (rep [])

-- where the forms are right nothing else is told
same_with : (items : List ItemTree) (env : Environment) (rep : Asks → OwnReport) (forms : Result (Unit {0}) Trouble) (o : Result Verdict Trouble) → forms ≡ Ok tt
    → and_then (asked_with forms items env o) (reported rep) ≡ and_then (filtered_with o) (bare rep)
same_with items env rep (Err t) o is = absurd (let bad : ⊥ = cc in bad)
same_with items env rep (Ok done) (Err t) is = refl
same_with items env rep (Ok done) (Ok Reject) is = refl
same_with items env rep (Ok done) (Ok (Accept route)) is = refl

-- a trouble of the filter up comes before the forms
trouble_with : (items : List ItemTree) (env : Environment) (rep : Asks → OwnReport) (forms : Result (Unit {0}) Trouble) (o : Result Verdict Trouble) (t : Trouble)
    → Err t ≡ and_then (filtered_with o) (bare rep) → Err t ≡ and_then (asked_with forms items env o) (reported rep)
trouble_with items env rep forms (Err u) t is = is
trouble_with items env rep forms (Ok verdict) t is = absurd (let bad : ⊥ = cc in bad)

-- a report of a route that passed shows that the forms are right
forms_with : (items : List ItemTree) (env : Environment) (rep : Asks → OwnReport) (forms : Result (Unit {0}) Trouble) (o : Result Verdict Trouble) (x : OwnReport)
    → Ok x ≡ and_then (asked_with forms items env o) (reported rep) → forms ≡ Ok tt
forms_with items env rep forms (Err u) x is = absurd (let bad : ⊥ = cc in bad)
forms_with items env rep (Err t) (Ok verdict) x is = absurd (let bad : ⊥ = cc in bad)
forms_with items env rep (Ok done) (Ok verdict) x is = refl

-- what a report tells that was made
made_with : (rep : Asks → OwnReport) (o : Result Verdict Trouble) (x : OwnReport) → Ok x ≡ and_then (filtered_with o) (bare rep) → x ≡ rep []
made_with rep (Err t) x is = absurd (let bad : ⊥ = cc in bad)
made_with rep (Ok verdict) x is = cc

one_ok : (x y : OwnReport) → ◌≡◌ {A = Result OwnReport Trouble} (Ok x) (Ok y) → x ≡ y
one_ok x y is = cc

not_both : (b : Bool) → b ≡ false → b ≡ true → ⊥
not_both b p q = let bad : false ≡ true = sym p ∙ q in cc

module _ (items : List ItemTree) (roas : Tables) (n : ℕ) where
  abbrev the_forms : Result (Unit {0}) Trouble
  the_forms = shapes_told (sorts_after [] items)

  -- the outcome of the filter up
  abbrev run_up : Bgp → Route → Result Verdict Trouble
  run_up b route = run (filter_end (env_of roas b) (reverse items) (up_name n) route)

  -- what is asked of nobody
  abbrev asked : Option Bgp → Option Route → Bool → Result Asks Trouble
  asked s t p = asks_told items roas n s t p []

  same_at : (rep : Asks → OwnReport) (s : Option Bgp) (t : Option Route) (p : Bool) → the_forms ≡ Ok tt
      → and_then (asked s t p) (reported rep) ≡ and_then (filtered items roas n s t p) (bare rep)
  same_at rep None t p is = refl
  same_at rep (Some b) None p is = refl
  same_at rep (Some b) (Some route) false is = refl
  same_at rep (Some b) (Some route) true is = same_with items (env_of roas b) rep the_forms (run_up b route) is

  trouble_at : (rep : Asks → OwnReport) (s : Option Bgp) (t : Option Route) (p : Bool) (u : Trouble)
      → Err u ≡ and_then (filtered items roas n s t p) (bare rep) → Err u ≡ and_then (asked s t p) (reported rep)
  trouble_at rep None t p u is = absurd (let bad : ⊥ = cc in bad)
  trouble_at rep (Some b) None p u is = absurd (let bad : ⊥ = cc in bad)
  trouble_at rep (Some b) (Some route) false u is = absurd (let bad : ⊥ = cc in bad)
  trouble_at rep (Some b) (Some route) true u is = trouble_with items (env_of roas b) rep the_forms (run_up b route) u is

  unasked_at : (rep : Asks → OwnReport) (s : Option Bgp) (t : Option Route) (p : Bool) (x : OwnReport) → (rep []).tagged ≡ t → (rep []).passed ≡ p
      → Ok x ≡ and_then (filtered items roas n s t p) (bare rep) → (is_some s && is_some x.tagged && x.passed) ≡ false → Ok x ≡ and_then (asked s t p) (reported rep)
  unasked_at rep None t p x tagged passed is un = is
  unasked_at rep (Some b) None p x tagged passed is un = is
  unasked_at rep (Some b) (Some route) false x tagged passed is un = is
  unasked_at rep (Some b) (Some route) true x tagged passed is un =
      let same = made_with rep (run_up b route) x is in
      let told : (is_some x.tagged && x.passed) ≡ true
      = ap (λ (y : OwnReport). is_some y.tagged && y.passed) same ∙ (ap (λ (y : Option Route). is_some y && (rep []).passed) tagged ∙ passed) in
      absurd (not_both (is_some x.tagged && x.passed) un told)

  forms_at : (rep : Asks → OwnReport) (s : Option Bgp) (t : Option Route) (p : Bool) (x : OwnReport) → ((asks : Asks) → (rep asks).tagged ≡ t) → ((asks : Asks) → (rep asks).passed ≡ p)
      → Ok x ≡ and_then (asked s t p) (reported rep) → (is_some s && is_some x.tagged && x.passed) ≡ true → the_forms ≡ Ok tt
  forms_at rep None t p x tagged passed is told = absurd (let bad : ⊥ = cc in bad)
  forms_at rep (Some b) None p x tagged passed is told =
      let same = one_ok x (rep []) is in
      let none : (is_some x.tagged && x.passed) ≡ false = ap (λ (y : OwnReport). is_some y.tagged && y.passed) same ∙ ap (λ (y : Option Route). is_some y && (rep []).passed) (tagged []) in
      absurd (not_both (is_some x.tagged && x.passed) none told)
  forms_at rep (Some b) (Some route) false x tagged passed is told =
      let same = one_ok x (rep []) is in
      let none : (is_some x.tagged && x.passed) ≡ false
      = ap (λ (y : OwnReport). is_some y.tagged && y.passed) same ∙ (ap (λ (y : Option Route). is_some y && (rep []).passed) (tagged []) ∙ passed []) in
      absurd (not_both (is_some x.tagged && x.passed) none told)
  forms_at rep (Some b) (Some route) true x tagged passed is told = forms_with items (env_of roas b) rep the_forms (run_up b route) x is

  module _ (route : Route) where
    abbrev explained_as : Result Fate Trouble → Result OwnReport Trouble
    explained_as f = and_then f (λ fate. and_then (asked (session_in items n) fate.table fate.passed) (λ asks. Ok (own_report_of (own_number items n) fate asks)))

    abbrev told_as : Result Fate Trouble → Result OwnReport Trouble
    told_as f = and_then f (λ fate. and_then (filtered items roas n (session_in items n) fate.table fate.passed) (λ _. Ok (own_report_of (own_number items n) fate [])))

    same_as : (f : Result Fate Trouble) → the_forms ≡ Ok tt → explained_as f ≡ told_as f
    same_as (Err t) is = refl
    same_as (Ok fate) is = same_at (own_report_of (own_number items n) fate) (session_in items n) fate.table fate.passed is

    trouble_as : (f : Result Fate Trouble) (u : Trouble) → Err u ≡ told_as f → Err u ≡ explained_as f
    trouble_as (Err t) u is = is
    trouble_as (Ok fate) u is = trouble_at (own_report_of (own_number items n) fate) (session_in items n) fate.table fate.passed u is

    unasked_as : (f : Result Fate Trouble) (x : OwnReport) → Ok x ≡ told_as f → asks_forms items n x ≡ false → Ok x ≡ explained_as f
    unasked_as (Err t) x is un = absurd (let bad : ⊥ = cc in bad)
    unasked_as (Ok fate) x is un = unasked_at (own_report_of (own_number items n) fate) (session_in items n) fate.table fate.passed x refl refl is un

    forms_as : (f : Result Fate Trouble) (x : OwnReport) → Ok x ≡ explained_as f → asks_forms items n x ≡ true → the_forms ≡ Ok tt
    forms_as (Err t) x is told = absurd (let bad : ⊥ = cc in bad)
    forms_as (Ok fate) x is told = forms_at (own_report_of (own_number items n) fate) (session_in items n) fate.table fate.passed x (λ asks. refl) (λ asks. refl) is told

-- a trouble of what is told is one of what is explained
faulty_by : (o p : Result OwnReport Trouble) → ((u : Trouble) → Err u ≡ o → Err u ≡ p) → (f : Option CallFault) → IsFaulty f o → IsFaulty f p
faulty_by o p on None is = is
faulty_by o p on (Some f) is = on (faulty f) is

troubled_by : (o p : Result OwnReport Trouble) → ((u : Trouble) → Err u ≡ o → Err u ≡ p) → (e : ExplainFault) → Troubled o e → Troubled p e
troubled_by o p on told.NoMemory is = tt
troubled_by o p on (told.Unread f) is = is
troubled_by o p on (told.Family family) is = on _ is
troubled_by o p on (told.Fault f) is = faulty_by o p on (fault_of f) is
troubled_by o p on (told.Shape name) is = on _ is

module _ (text : List ℕ) (items : List ItemTree) (spelt : SpellsText text items) (roas : Tables) (n : ℕ) (route : Route) where
  explained_by : (answer : Result OwnReport ExplainFault) → Tells answer (own_explained items roas n route []) → Told text roas n route answer
  explained_by answer tells list same =
      subst (λ (ts : Tables). Answers text (λ is. own_explained is ts n route []) answer) same (told_of text (λ is. own_explained is roas n route []) answer items spelt tells)

  -- the forms are known to be right
  pub by_forms : (x : OwnReport) → Ok x ≡ told_but_forms items roas n route → HasForms items → Told text roas n route (Ok x)
  by_forms x is forms = explained_by (Ok x) (is ∙ sym (same_as items roas n route (fate_told items roas n route) forms))

  -- the forms don't count
  pub by_none : (x : OwnReport) → Ok x ≡ told_but_forms items roas n route → asks_forms items n x ≡ false → Told text roas n route (Ok x)
  by_none x is un = explained_by (Ok x) (unasked_as items roas n route (fate_told items roas n route) x is un)

  pub by_trouble : (e : ExplainFault) → Troubled (told_but_forms items roas n route) e → Told text roas n route (Err e)
  by_trouble e is = explained_by (Err e) (troubled_by (told_but_forms items roas n route) (own_explained items roas n route []) (trouble_as items roas n route (fate_told items roas n route)) e is)

  -- what `explain_member` answers
  pub by_member : (answer : Result OwnReport ExplainFault) → Answers text (λ is. own_explained is roas n route []) answer → Told text roas n route answer
  by_member answer is list same = subst (λ (ts : Tables). Answers text (λ is. own_explained is ts n route []) answer) same is

  -- a report of a route that passed shows that the forms are right
  pub shows_forms : (x : OwnReport) → Answers text (λ is. own_explained is roas n route []) (Ok x) → asks_forms items n x ≡ true → HasForms items
  shows_forms x (others, again, tells) asks =
      forms_as items roas n route (fate_told items roas n route) x (subst (λ (is : List ItemTree). Ok x ≡ own_explained is roas n route []) (one_spelling text others items again spelt) tells) asks
