-- A route is stopped on its way up exactly where it was refused.
use Rattle.std.proofs.Common.{◌≡◌, ℕ, Bool, true, false, ◌&&◌, ◌||◌, ◌==◌, not, List, [], ◌∷◌, ◌++◌, filter, Option, Some, None, is_none, refl, ap, ap₂, ◌∙◌, if◌then◌else◌}
use Rattle.std.specs.List.{list_any, AllByRecursion}
use Rattle.std.proofs.lemmas.Bool.{or_parts, not-true}
use Rattle.std.proofs.lemmas.List.Folds.{list_any-append}
use Rattle.ixp_lang.specs.declared.route.Route.{Route}
use Rattle.ixp_lang.specs.Attributes.{in_triples, triple_in}
use Rattle.ixp_lang.specs.Trees.{accept, stmts}
use Rattle.ixp_lang.specs.Meaning.{Environment, Known, End, falls, accepts, rejects, runs_all}
use Rattle.ixp_registry.specs.declared.registry.Registry.{Registry}
use Rattle.ixp_registry.specs.declared.router.Router.{Router}
use Rattle.ixp_registry.specs.Sessions.{Session}
use Rattle.ixp_policy.specs.declared.line.Line.{Line}
use Rattle.ixp_policy.specs.Fates.{passes}
use Rattle.ixp_policy.specs.Import.{brought_triples, is_report, import_table, first_that_holds}
use Rattle.ixp_policy.specs.Reasons.{number_of}
use Rattle.ixp_policy.specs.Tags.{chosen, findings, refusal_told, tagged}
use Rattle.ixp_compile.specs.Fragment.{up_body}
use Rattle.ixp_compile.specs.Generated.{inputs}
use Rattle.ixp_compile.specs.MemberRules.{advertise_rules}
use Rattle.ixp_compile.specs.Rewriting.{rewritten}
use Rattle.ixp_compile.proofs.Communities.{eq_refl, or_false, and_true, and_none, any_map}
use Rattle.ixp_compile.proofs.Passing.{rules_run}
use Rattle.ixp_compile.proofs.Running.{runs_append}
use Rattle.ixp_compile.proofs.Tagging.{filtered_none}

module _ (rs : ℕ) where
  -- rs:1101:n
  abbrev is_refused : ℕ × ℕ × ℕ → Bool
  is_refused t = in_triples t ((rs, 1101, None) ∷ [])

  plain : (t : ℕ × ℕ × ℕ) → is_refused t ≡ (t.0 == rs && t.1 == 1101)
  plain t = or_false (t.0 == rs && t.1 == 1101 && true) ∙ and_true (t.0 == rs && t.1 == 1101)

  base_none : (ts : List (ℕ × ℕ × ℕ)) → list_any is_refused (filter (λ t. not (is_report rs t)) ts) ≡ false
  base_none ts = filtered_none is_refused (λ t. not (is_report rs t)) (λ t e. plain t ∙ third (t.0 == rs) (t.1 == 1000) (t.1 == 1001) (t.1 == 1101) (not-true (is_report rs t) e)) ts where
    third : (a x y z : Bool) → (a && (x || y || z)) ≡ false → (a && z) ≡ false
    third false x y z e = refl
    third true x y z e = (or_parts (x || y) z e).1

  none_chosen : {A : Type 0} (test : A → Bool) (lines : List (Bool × A)) → AllByRecursion (λ l. test l.1 ≡ false) lines → list_any test (chosen lines) ≡ false
  none_chosen test [] all = refl
  none_chosen test ((holds, x) ∷ lines) all = go holds (none_chosen test lines all.1) where
    go : (b : Bool) → list_any test (chosen lines) ≡ false → list_any test (if b then x ∷ chosen lines else chosen lines) ≡ false
    go true rest = rw all.0 rest
    go false rest = rest

  told_none : (a b : ℕ) → (a == 1101) ≡ false → is_refused (rs, a, b) ≡ false
  told_none a b e = plain (rs, a, b) ∙ ap (λ d. rs == rs && d) e ∙ and_none (rs == rs)

pub findings_none : (r : Registry) (router : Router) (s : Session) (route : Route) (lines : List Line)
    → list_any (is_refused router.asn.0) (chosen (findings r router s route lines)) ≡ false
unfolding findings
findings_none r router s route lines =
    none_chosen router.asn.0 (is_refused router.asn.0) (findings r router s route lines) (
      told_none router.asn.0 1001 1200 refl,
      (
        told_none router.asn.0 1001 2 refl,
        (
          told_none router.asn.0 1001 1002 refl,
          (
            told_none router.asn.0 1000 3 refl,
            (told_none router.asn.0 1000 1 refl, (told_none router.asn.0 1000 2 refl, (told_none router.asn.0 1001 1 refl, tt))),
          ),
        ),
      ),
    )

-- the mark of a refusal is there exactly where the route is refused
pub marked : (r : Registry) (router : Router) (s : Session) (route : Route)
    → list_any (is_refused router.asn.0) (tagged r router s route).triples ≡ not (passes r router s route)
marked r router s route = go (import_table r router s route) where
  told : (refused : Option Line) → list_any (is_refused router.asn.0) (refusal_told router refused) ≡ not (is_none refused)
  told None = refl
  told (Some l) = or_false (is_refused router.asn.0 (router.asn.0, 1101, number_of l.reason)) ∙ plain router.asn.0 (router.asn.0, 1101, number_of l.reason) ∙ ap (λ d. d && true) (eq_refl router.asn.0)

  go : (lines : List Line)
      → list_any (is_refused router.asn.0) (brought_triples router.asn.0 route ++ (chosen (findings r router s route lines) ++ refusal_told router (first_that_holds lines))) ≡ not (is_none (first_that_holds lines))
  go lines =
      list_any-append (is_refused router.asn.0) (brought_triples router.asn.0 route) (chosen (findings r router s route lines) ++ refusal_told router (first_that_holds lines))
      ∙ ap₂ (λ a b. a || b) (base_none router.asn.0 route.triples)
      (list_any-append (is_refused router.asn.0) (chosen (findings r router s route lines)) (refusal_told router (first_that_holds lines))
      ∙ ap₂ (λ a b. a || b) (findings_none r router s route lines) (told (first_that_holds lines)))

-- The whole filter.
pub up_runs : (env : Environment) (k : Known) (r : Registry) (router : Router) (s : Session) (route : Route) → route.net.family ≡ router.family
    → runs_all env k [] (stmts (up_body (inputs r router s))) (tagged r router s route) falls
    ≡ (if passes r router s route then accepts (rewritten router.asn.0 s.rules (tagged r router s route)) else rejects)
up_runs env k r router s route same =
    ap (λ b. if b then rejects else runs_all env k [] (stmts (advertise_rules router.asn.0 router.family s.rules ++ accept ∷ [])) (tagged r router s route) falls)
    (any_map (λ t. (t.0, t.1, Some t.2)) (λ t. triple_in t ((router.asn.0, 1101, None) ∷ [])) (tagged r router s route).triples ∙ marked r router s route)
    ∙ ap (λ x. if not (passes r router s route) then rejects else x)
    (runs_append env k [] (advertise_rules router.asn.0 router.family s.rules) (accept ∷ []) (tagged r router s route) falls
    ∙ rules_run env k [] router.asn.0 router.family s.rules (tagged r router s route) (λ q. accepts q) same)
    ∙ turned (passes r router s route) rejects (accepts (rewritten router.asn.0 s.rules (tagged r router s route)))
  where
    turned : (b : Bool) (x y : End) → (if not b then x else y) ≡ (if b then y else x)
    turned true x y = refl
    turned false x y = refl
