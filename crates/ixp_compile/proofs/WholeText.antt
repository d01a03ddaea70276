-- What each filter does in the whole text of a router.
use Rattle.std.proofs.Common.{◌≡◌, ℕ, Bool, true, false, List, [], ◌∷◌, ◌++◌, flat_map, reverse, Option, Some, None, Result, Ok, codes, decimal, refl, ap, ◌∙◌, if◌then◌else◌}
use Rattle.std.specs.List.{AllByRecursion}
use Rattle.std.proofs.lemmas.Grind.{flat_map-append}
use Rattle.ixp_num.specs.declared.pattern.Pattern.{Pattern}
use Rattle.ixp_lang.specs.declared.route.Route.{Route}
use Rattle.ixp_lang.specs.declared.route.Verdict.{Verdict}
use Rattle.ixp_lang.specs.declared.route.Verdict.TheVariants.{Accept, Reject}
use Rattle.ixp_lang.specs.declared.value.Value.TheVariants as value
use Rattle.ixp_lang.specs.Faults.{Fault}
use Rattle.ixp_lang.specs.Steering.{sends, prepends}
use Rattle.ixp_lang.specs.Trees.{ItemTree, device_item}
use Rattle.ixp_lang.specs.Meaning.{Environment, accepts, rejects, same_name, known, filter_of, filter_found, filter_end, must_end, function_of, function_found, function_end}
use Rattle.ixp_registry.specs.declared.registry.Registry.{Registry}
use Rattle.ixp_registry.specs.declared.router.Router.{Router}
use Rattle.ixp_registry.specs.Sessions.{Session}
use Rattle.ixp_policy.specs.Fates.{passes}
use Rattle.ixp_policy.specs.Tags.{tagged}
use Rattle.ixp_compile.specs.declared.inputs.HeaderInputs.{HeaderInputs}
use Rattle.ixp_compile.specs.declared.inputs.Inputs.{Inputs}
use Rattle.ixp_compile.specs.Exports.{passed_on, times_down}
use Rattle.ixp_compile.specs.Fragment.{fragment, in_name, up_name, receive_name, down_name}
use Rattle.ixp_compile.specs.Generated.{header_inputs, inputs, footer}
use Rattle.ixp_compile.specs.Header.{header}
use Rattle.ixp_compile.specs.Imports.{Sees, Allows}
use Rattle.ixp_compile.specs.Pieces.{in_turn}
use Rattle.ixp_compile.specs.Rewriting.{rewritten}
use Rattle.ixp_compile.specs.Shared.{Shared, HeadStands, cleaned, padded}
use Rattle.ixp_compile.proofs.Fragments.{shared_kept, part_calls, part_filters, part_functions, with_sets, with_in, with_receive, part_items, part_laid, in_found, up_found, down_found, names_there, shared_there, shared_down, lets_in_there}
use Rattle.ixp_compile.proofs.GoingDown.{down_runs}
use Rattle.ixp_compile.proofs.HeadKnown.{head_shared, head_laid, before_out, out_shared, sends_asked, count_asked}
use Rattle.ixp_compile.proofs.Importing.{in_runs}
use Rattle.ixp_compile.proofs.Laying.{laid, laid_append, reverse_laid, all_append, CallsNone, FiltersNone, FunctionsNone, filter_kept, function_kept}
use Rattle.ixp_compile.proofs.Outgoing.{out_runs}
use Rattle.ixp_compile.proofs.Refusals.{up_runs}

-- the session's names aren't those of the number
abbrev pub HasOther : ℕ → Session → Type 0
HasOther n s = same_name (decimal s.interface.number) (decimal n) ≡ false

-- what the filter down gives
abbrev pub verdict_of : Option ℕ → Route → Result Verdict Fault
verdict_of None route = Ok Reject
verdict_of (Some times) route = Ok (Accept (padded times route))

module _ (r : Registry) (router : Router) (irr blackholes : Inputs → List Pattern) where
  abbrev h : HeaderInputs
  h = header_inputs r router

  abbrev pub input : Session → Inputs
  input s = inputs r router s

  abbrev pub part : Session → List ItemTree
  part s = fragment (inputs r router s) (irr (inputs r router s)) (blackholes (inputs r router s))

  abbrev base : List ItemTree
  base = laid (header h) []

  abbrev below : List Session → List ItemTree
  below ss = laid (flat_map part ss) base

  abbrev pub text : List Session → List ItemTree
  text ss = in_turn (header h ∷ flat_map part ss ∷ footer ∷ [])

  text_laid : (ss : List Session) → reverse (text ss) ≡ device_item None ∷ below ss
  text_laid ss = reverse_laid (text ss) ∙ laid_append (header h) (flat_map part ss ++ (footer ++ [])) [] ∙ laid_append (flat_map part ss) (footer ++ []) base

  -- of all parts
  parts_all : (P : ItemTree → Type 0) (Q : Session → Type 0) → ((s : Session) → Q s → AllByRecursion P (part s)) → (ss : List Session) → AllByRecursion Q ss
      → AllByRecursion P (flat_map part ss)
  parts_all P Q f [] all = tt
  parts_all P Q f (s ∷ ss) all = all_append P (part s) (flat_map part ss) (f s all.0) (parts_all P Q f ss all.1)

  anything : (ss : List Session) → AllByRecursion (λ s. Unit {0}) ss
  anything [] = tt
  anything (s ∷ ss) = (tt, anything ss)

  split : (front : List Session) (s : Session) (back : List Session) → below (front ++ s ∷ back) ≡ laid (flat_map part back) (laid (part s) (below front))
  split front s back =
      ap (λ is. laid is base) (flat_map-append part front (s ∷ back)) ∙ laid_append (flat_map part front) (part s ++ flat_map part back) base
      ∙ laid_append (part s) (flat_map part back) (below front)

  -- a filter of the session's part
  found : (env : Environment) (n : List ℕ) (front : List Session) (s : Session) (back : List Session) → AllByRecursion (FiltersNone n) (flat_map part back)
      → filter_of (reverse (text (front ++ s ∷ back))) n ≡ filter_of (part_items env r router s (irr (input s)) (blackholes (input s)) (below front)) n
  found env n front s back none =
      ap (λ is. filter_of is n) (text_laid (front ++ s ∷ back))
      ∙ ap (λ is. filter_of is n) (split front s back)
      ∙ filter_kept n (flat_map part back) (laid (part s) (below front)) none
      ∙ ap (λ is. filter_of is n) (part_laid env r router s (irr (input s)) (blackholes (input s)) (below front))

  module _ (env : Environment) (stands : HeadStands r router) where
    shared_below : (ss : List Session) → Shared r router (known env (below ss))
    shared_below ss =
        shared_kept env r router (flat_map part ss) base
        (λ n. parts_all (CallsNone (codes "ixp_" ++ n)) (λ s. Unit {0}) (λ s q. part_calls (input s) (irr (input s)) (blackholes (input s)) n) ss (anything ss))
        (head_shared env r router stands)

    module _ (front : List Session) (s : Session) (back : List Session) (others : AllByRecursion (HasOther s.interface.number) back) where
      abbrev whole : List ItemTree
      whole = reverse (text (front ++ s ∷ back))

      pub in_does : (route : Route) → Sees r router s env → Allows router s (irr (input s)) (blackholes (input s)) → route.net.family ≡ router.family
          → filter_end env whole (in_name s.interface.number) route ≡ Ok (Accept (tagged r router s route))
      in_does route sees allows same =
          ap (λ f. filter_found env (in_name s.interface.number) f route)
          (found env (in_name s.interface.number) front s back
          (parts_all (FiltersNone (in_name s.interface.number)) (HasOther s.interface.number)
          (λ t other. part_filters (input t) (irr (input t)) (blackholes (input t)) (in_name s.interface.number) other refl refl) back others)
          ∙ in_found env r router s (irr (input s)) (blackholes (input s)) (below front))
          ∙ ap (must_end (in_name s.interface.number))
          (in_runs env (known env (with_sets env r router s (irr (input s)) (blackholes (input s)) (below front))) r router s (irr (input s)) (blackholes (input s)) route
          (shared_there env r router s (irr (input s)) (blackholes (input s)) (below front) (shared_below front)) sees allows
          (names_there env r router s (irr (input s)) (blackholes (input s)) (below front)) same)

      pub up_does : (route : Route) → route.net.family ≡ router.family
          → filter_end env whole (up_name s.interface.number) (tagged r router s route)
          ≡ (if passes r router s route then Ok (Accept (rewritten router.asn.0 s.rules (tagged r router s route))) else Ok Reject)
      up_does route same =
          ap (λ f. filter_found env (up_name s.interface.number) f (tagged r router s route))
          (found env (up_name s.interface.number) front s back
          (parts_all (FiltersNone (up_name s.interface.number)) (HasOther s.interface.number)
          (λ t other. part_filters (input t) (irr (input t)) (blackholes (input t)) (up_name s.interface.number) refl other refl) back others)
          ∙ up_found env r router s (irr (input s)) (blackholes (input s)) (below front))
          ∙ ap (must_end (up_name s.interface.number))
          (up_runs env (known env (with_in env r router s (irr (input s)) (blackholes (input s)) (below front))) r router s route same)
          ∙ verdict (passes r router s route)
        where
          verdict : (b : Bool) → must_end (up_name s.interface.number) (if b then accepts (rewritten router.asn.0 s.rules (tagged r router s route)) else rejects)
              ≡ (if b then Ok (Accept (rewritten router.asn.0 s.rules (tagged r router s route))) else Ok Reject)
          verdict true = refl
          verdict false = refl

      pub down_does : (route : Route) → route.net.family ≡ router.family
          → filter_end env whole (down_name s.interface.number) route ≡ verdict_of (times_down router s route) route
      down_does route same =
          ap (λ f. filter_found env (down_name s.interface.number) f route)
          (found env (down_name s.interface.number) front s back
          (parts_all (FiltersNone (down_name s.interface.number)) (HasOther s.interface.number)
          (λ t other. part_filters (input t) (irr (input t)) (blackholes (input t)) (down_name s.interface.number) refl refl other) back others)
          ∙ down_found env r router s (irr (input s)) (blackholes (input s)) (below front))
          ∙ ap (must_end (down_name s.interface.number))
          (down_runs env (known env (with_receive env r router s (irr (input s)) (blackholes (input s)) (below front))) r router s route
          (shared_down env r router s (irr (input s)) (blackholes (input s)) (below front) (shared_below front))
          (lets_in_there env r router s (irr (input s)) (blackholes (input s)) (below front)) same)
          ∙ verdict (times_down router s route)
        where
          verdict : (o : Option ℕ) → must_end (down_name s.interface.number) (passed_on o route) ≡ verdict_of o route
          verdict None = refl
          verdict (Some times) = refl

    pub out_does : (ss : List Session) (route : Route) → route.net.family ≡ router.family
        → filter_end env (reverse (text ss)) (codes "ixp_out") route ≡ Ok (Accept (cleaned router route))
    out_does ss route same =
        ap (λ f. filter_found env (codes "ixp_out") f route)
        (ap (λ is. filter_of is (codes "ixp_out")) (text_laid ss)
        ∙ filter_kept (codes "ixp_out") (flat_map part ss) base
        (parts_all (FiltersNone (codes "ixp_out")) (λ s. Unit {0})
        (λ s q. part_filters (input s) (irr (input s)) (blackholes (input s)) (codes "ixp_out") refl refl refl) ss (anything ss))
        ∙ ap (λ is. filter_of is (codes "ixp_out")) (head_laid env r router stands))
        ∙ ap (must_end (codes "ixp_out"))
        (out_runs env (known env (before_out env r router stands)) router route ((out_shared env r router stands).blackhole route same))

    -- A report's questions.

    asked_in : (n : List ℕ) → ((m : ℕ) → same_name (receive_name m) n ≡ false) → (ss : List Session)
        → function_of (reverse (text ss)) n ≡ function_of base n
    asked_in n other ss =
        ap (λ is. function_of is n) (text_laid ss)
        ∙ function_kept n (flat_map part ss) base
        (parts_all (FunctionsNone n) (λ s. Unit {0}) (λ s q. part_functions (input s) (irr (input s)) (blackholes (input s)) n (other s.interface.number)) ss (anything ss))

    pub sends_does : (ss : List Session) (p : ℕ) (route : Route)
        → function_end env (reverse (text ss)) (codes "ixp_sends") p route ≡ Ok (value.Bool (sends router.asn.0 route p))
    sends_does ss p route =
        ap (λ f. function_found env (codes "ixp_sends") f p route) (asked_in (codes "ixp_sends") (λ m. refl) ss) ∙ sends_asked env r router stands p route

    pub count_does : (ss : List Session) (p : ℕ) (route : Route)
        → function_end env (reverse (text ss)) (codes "ixp_count") p route ≡ Ok (value.Int (prepends router.asn.0 route p))
    count_does ss p route =
        ap (λ f. function_found env (codes "ixp_count") f p route) (asked_in (codes "ixp_count") (λ m. refl) ss) ∙ count_asked env r router stands p route
