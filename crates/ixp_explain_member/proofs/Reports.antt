-- The reports by the texts are those by the rows.
use Rattle.std.proofs.Common.{◌≡◌, ℕ, Bool, true, false, List, [], map, Option, Some, None, option_map, Result, Ok, refl, ap, ◌∙◌, if◌then◌else◌}
use Rattle.ixp_num.specs.declared.asn.Asn.{Asn}
use Rattle.ixp_num.specs.declared.family.Family.{Family}
use Rattle.ixp_num.specs.declared.family.Family.TheVariants.{V4, V6}
use Rattle.ixp_num.specs.Families.{same_family}
use Rattle.ixp_num_tables.specs.Tables.{find}
use Rattle.ixp_lang.specs.declared.item.Bgp.{Bgp}
use Rattle.ixp_lang.specs.declared.fate.Fate.{Fate}
use Rattle.ixp_lang.specs.declared.route.Route.{Route}
use Rattle.ixp_lang.specs.declared.route.Verdict.TheVariants.{Accept}
use Rattle.ixp_lang.specs.Faults.{Fault}
use Rattle.ixp_lang.specs.Meaning.{Environment}
use Rattle.ixp_lang.specs.Trees.{ItemTree}
use Rattle.ixp_lang.specs.Walks.{walk}
use Rattle.ixp_registry.specs.declared.registry.Registry.{Registry}
use Rattle.ixp_registry.specs.declared.router.Router.{Router}
use Rattle.ixp_registry.specs.Keys.{router_key}
use Rattle.ixp_registry.specs.Sessions.{Session, session}
use Rattle.ixp_registry.specs.Valid.{Valid}
use Rattle.ixp_policy.specs.Export.{wish}
use Rattle.ixp_policy.specs.Fates.{fate_of, passes}
use Rattle.ixp_policy.specs.Import.{refusal, refusal_number}
use Rattle.ixp_policy.specs.Tags.{tagged}
use Rattle.ixp_compile.specs.Fragment.{bgp_name}
use Rattle.ixp_compile.specs.Generated.{generated, own_part, roa_tables}
use Rattle.ixp_compile.specs.Rewriting.{rewritten}
use Rattle.ixp_compile.proofs.Rights.{right, own_right, own_up, own_sends, own_counts}
use Rattle.ixp_compile.proofs.SessionsKept.{session_lawful}
use Rattle.ixp_compile.proofs.Walking.{bgp}
use Rattle.ixp_compile_laws.proofs.ReadBack.{whole_spelt, own_spelt}
use Rattle.ixp_explain.specs.declared.report.OwnReport.{OwnReport}
use Rattle.ixp_explain.specs.Explained.{Trouble, and_then, asks_told, env_of, explained, family_apart, number_told, own_explained, own_report_of, passed_told, report_of, run, shapes_told, unless_apart, wishes_by}
use Rattle.ixp_explain_member.specs.Rows.{ExplainsRows, TellsRows, own_report_by_rows, report_by_rows}
use Rattle.ixp_explain_member.proofs.Numbers.{number_is}
use Rattle.ixp_explain_member.proofs.Senders.{sender_in_own, sender_in_whole}
use Rattle.ixp_explain_member.proofs.Shapes.{own_shaped}
use Rattle.ixp_explain_member.proofs.Wishes.{GiveWishes, wish_small, wishes_are}
use Rattle.ixp_explain.specs.Kinds.{sorts_after}

same_refl_family : (f : Family) → same_family f f ≡ true
same_refl_family V4 = refl
same_refl_family V6 = refl

same_of : (f g : Family) → g ≡ f → same_family f g ≡ true
same_of f g e = ap (λ (x : Family). same_family f x) e ∙ same_refl_family f

module _ (r : Registry) (valid : Valid r)
    (handle : List ℕ) (router : Router) (there : find router_key handle r.routers ≡ Some router)
    (n : ℕ) (s : Session) (its : session r router n ≡ Some s) where
  abbrev b : Bgp
  b = bgp r router s

  -- The router's text.

  abbrev whole : List ItemTree
  whole = generated r router

  abbrev walked : Route → Result Fate Fault
  walked route = walk whole (roa_tables r) (bgp_name n) route

  whole_told : (route : Route) → explained whole (roa_tables r) n route
      ≡ and_then (unless_apart (if same_family router.family route.net.family then None else Some router.family) (run (walked route))) (λ fate. Ok (report_of (Some router.asn) fate))
  whole_told route =
      ap (λ (o : Option Bgp). and_then (unless_apart (family_apart o route) (run (walked route))) (λ fate. Ok (report_of (option_map (λ b. b.own) o) fate)))
      (sender_in_whole r router n s its valid)

  whole_reported : (route : Route) → route.net.family ≡ router.family → explained whole (roa_tables r) n route ≡ Ok (report_by_rows r router s route)
  whole_reported route family =
      whole_told route
      ∙ ap (λ (same : Bool). and_then (unless_apart (if same then None else Some router.family) (run (walked route))) (λ fate. Ok (report_of (Some router.asn) fate)))
      (same_of router.family route.net.family family)
      ∙ ap (λ (w : Result Fate Fault). and_then (run w) (λ fate. Ok (report_of (Some router.asn) fate))) (right r valid handle router there n s its route family)
      ∙ ap (λ (number : Option ℕ). Ok (record { fate = fate_of r router route s; number = number })) (number_is r router s route)

  pub explains : ExplainsRows r router n s
  explains = record {
    items = whole;
    is_spelt = whole_spelt r handle router valid there;
    is_report = whole_reported;
    is_apart = λ route apart.
        whole_told route
        ∙ ap (λ (same : Bool). and_then (unless_apart (if same then None else Some router.family) (run (walked route))) (λ fate. Ok (report_of (Some router.asn) fate))) apart;
  }

  -- The session's own text.

  abbrev own : List ItemTree
  own = own_part r router s

  abbrev own_walked : Route → Result Fate Fault
  own_walked route = walk own (roa_tables r) (bgp_name n) route

  abbrev told_by : Option Bgp → Route → List Asn → Fate → Result OwnReport Trouble
  told_by o route peers fate =
      and_then (asks_told own (roa_tables r) n o fate.table fate.passed peers) (λ asks. Ok (own_report_of (option_map (λ b. b.own) o) fate asks))

  own_told : (route : Route) (peers : List Asn) → own_explained own (roa_tables r) n route peers
      ≡ and_then (unless_apart (if same_family router.family route.net.family then None else Some router.family) (run (own_walked route))) (told_by (Some b) route peers)
  own_told route peers =
      ap (λ (o : Option Bgp). and_then (unless_apart (family_apart o route) (run (own_walked route))) (told_by o route peers)) (sender_in_own r router n s its)

  module _ (route : Route) (peers : List Asn) (family : route.net.family ≡ router.family) where
    abbrev t : Route
    t = tagged r router s route

    abbrev env : Environment
    env = env_of (roa_tables r) b

    abbrev sent : Route
    sent = rewritten router.asn.0 s.rules t

    gives : GiveWishes own env sent (wish router s t)
    gives = record {
      sends = λ to. own_sends r valid handle router there n s its env t to;
      counts = λ to times e. own_counts r valid handle router there n s its env t to times e;
      few = λ to times e. wish_small router s t to times (session_lawful r router valid n s its) e;
    }

    passed : passes r router s route ≡ true → passed_told own env n t peers ≡ Ok (map (λ p. (p, wish router s t p.0)) peers)
    passed pass =
        ap (λ w. and_then (run w) (λ verdict. and_then (shapes_told (sorts_after [] own)) (λ _. wishes_by own env peers verdict))) (own_up r valid handle router there n s its env route family pass)
        ∙ ap (λ w. and_then w (λ _. wishes_by own env peers (Accept sent))) (own_shaped r router s)
        ∙ wishes_are own env sent (wish router s t) gives peers

    reported : (pass : Bool) → passes r router s route ≡ pass → number_told (Some router.asn) (Some t) pass ≡ refusal_number (refusal r router s route)
        → told_by (Some b) route peers (record { table = Some t; passed = pass; sent = [] })
        ≡ Ok (record {
          tagged = Some t;
          passed = pass;
          number = refusal_number (refusal r router s route);
          asks = if pass then map (λ p. (p, wish router s t p.0)) peers else [];
        })
    reported false e number = ap (λ (k : Option ℕ). Ok (record { tagged = Some t; passed = false; number = k; asks = [] })) number
    reported true e number =
        ap (λ w. and_then w (λ asks. Ok (own_report_of (Some router.asn) (record { table = Some t; passed = true; sent = [] }) asks))) (passed e)
        ∙ ap (λ (k : Option ℕ). Ok (record { tagged = Some t; passed = true; number = k; asks = map (λ p. (p, wish router s t p.0)) peers })) number

    own_reported : own_explained own (roa_tables r) n route peers ≡ Ok (own_report_by_rows r router s route peers)
    own_reported =
        own_told route peers
        ∙ ap (λ (same : Bool). and_then (unless_apart (if same then None else Some router.family) (run (own_walked route))) (told_by (Some b) route peers))
        (same_of router.family route.net.family family)
        ∙ ap (λ (w : Result Fate Fault). and_then (run w) (told_by (Some b) route peers)) (own_right r valid handle router there n s its route family)
        ∙ reported (passes r router s route) refl (number_is r router s route)

  pub tells : TellsRows r router n s
  tells = record {
    items = own;
    is_spelt = own_spelt r handle router valid there n s its;
    is_report = λ route peers family. own_reported route peers family;
    is_apart = λ route peers apart.
        own_told route peers
        ∙ ap (λ (same : Bool). and_then (unless_apart (if same then None else Some router.family) (run (own_walked route))) (told_by (Some b) route peers)) apart;
  }
