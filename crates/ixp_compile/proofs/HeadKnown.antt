-- The head of a text gives what the filters behind it rest on, and their sessions' parts take nothing away.
use Rattle.std.proofs.Common.{◌≡◌, ℕ, true, false, ◌&&◌, List, [], ◌∷◌, Option, Some, None, Ok, codes, refl, ap, ◌∙◌}
use Rattle.std.specs.List.{AllByRecursion}
use Rattle.std.specs.Option.{is_some}
use Rattle.ixp_num.specs.declared.addr.Addr.{Addr}
use Rattle.ixp_num.specs.declared.family.Family.{Family}
use Rattle.ixp_lang.specs.declared.item.Ty.TheVariants.{Int}
use Rattle.ixp_lang.specs.declared.route.Route.{Route}
use Rattle.ixp_lang.specs.declared.value.SetLit.{SetLit}
use Rattle.ixp_lang.specs.declared.value.SetLit.TheVariants as set
use Rattle.ixp_lang.specs.declared.value.Value.TheVariants as value
use Rattle.ixp_lang.specs.Trees.{ItemTree, stmts, function_item, filter_item}
use Rattle.ixp_lang.specs.Meaning.{Environment, returns, same_name, known, function_of, function_found, must_return}
use Rattle.ixp_registry.specs.declared.registry.Registry.{Registry}
use Rattle.ixp_registry.specs.declared.router.Router.{Router}
use Rattle.ixp_policy.specs.Blackholes.{is_host_net}
use Rattle.ixp_lang.specs.Steering.{has_pair, sends, prepends}
use Rattle.ixp_compile.specs.declared.inputs.HeaderInputs.{HeaderInputs}
use Rattle.ixp_compile.specs.Header.{header, tables, public_sets, shared_functions, blackhole_function, drop_body, net_body, bogon_as_body, transit_body, sends_body, count_body, pad_body, out_body, bogons_of, joined_ranges}
use Rattle.ixp_compile.specs.Generated.{header_inputs}
use Rattle.ixp_compile.specs.Pieces.{in_turn, defined, numbers}
use Rattle.ixp_compile.specs.Shared.{Shared, HeadStands, IsNamed, refused_with}
use Rattle.ixp_compile.proofs.Laying.{laid, laid_append, GivesNone, CallsNone, named_kept, defined_named, defined_others, call_kept}
use Rattle.ixp_compile.proofs.NetTests.{net_runs, bogon_as_runs, transit_runs, blackhole_runs}
use Rattle.ixp_compile.proofs.Steered.{sends_runs, count_runs, pad_runs}

module _ (env : Environment) (r : Registry) (router : Router) (stands : HeadStands r router) where
  abbrev h : HeaderInputs
  h = header_inputs r router

  abbrev bogons : List ItemTree
  bogons = defined (codes "ixp_bogons") set.Prefixes (bogons_of h)

  abbrev bogon_ases : List ItemTree
  bogon_ases = defined (codes "ixp_bogon_as") set.Ints (joined_ranges h.bogon_as)

  abbrev transits : List ItemTree
  transits = defined (codes "ixp_transit_as") numbers h.transit

  -- the public sets, behind any items
  module _ (behind : List ItemTree) where
    abbrev sets : List ItemTree
    sets = laid transits (laid bogon_ases (laid bogons behind))

    sets_laid : laid (public_sets h) behind ≡ sets
    sets_laid = laid_append bogons _ behind ∙ laid_append bogon_ases _ (laid bogons behind) ∙ laid_append transits [] (laid bogon_ases (laid bogons behind))

    bogons_named : IsNamed (known env sets) (codes "ixp_bogons") set.Prefixes (bogons_of h)
    bogons_named =
        named_kept env (codes "ixp_bogons") set.Prefixes (bogons_of h) transits (laid bogon_ases (laid bogons behind))
        (defined_others (codes "ixp_bogons") (codes "ixp_transit_as") numbers h.transit refl)
        (named_kept env (codes "ixp_bogons") set.Prefixes (bogons_of h) bogon_ases (laid bogons behind)
        (defined_others (codes "ixp_bogons") (codes "ixp_bogon_as") set.Ints (joined_ranges h.bogon_as) refl)
        (defined_named env (codes "ixp_bogons") set.Prefixes (bogons_of h) behind))

    bogon_as_named : IsNamed (known env sets) (codes "ixp_bogon_as") set.Ints (joined_ranges h.bogon_as)
    bogon_as_named =
        named_kept env (codes "ixp_bogon_as") set.Ints (joined_ranges h.bogon_as) transits (laid bogon_ases (laid bogons behind))
        (defined_others (codes "ixp_bogon_as") (codes "ixp_transit_as") numbers h.transit refl)
        (defined_named env (codes "ixp_bogon_as") set.Ints (joined_ranges h.bogon_as) (laid bogons behind))

    transit_named : IsNamed (known env sets) (codes "ixp_transit_as") numbers h.transit
    transit_named = defined_named env (codes "ixp_transit_as") numbers h.transit (laid bogon_ases (laid bogons behind))

  -- the shared functions, behind the public sets
  module _ (behind : List ItemTree) where
    abbrev with_drop : List ItemTree
    with_drop = function_item (codes "ixp_drop") ((Int, codes "n") ∷ []) (stmts (drop_body router.asn.0)) ∷ behind

    abbrev with_blackhole : List ItemTree
    with_blackhole = laid (blackhole_function router.family router.blackhole) with_drop

    no_call : (n : List ℕ) (family : Family) (bh : Option Addr) → same_name n (codes "ixp_bh") ≡ false → AllByRecursion (CallsNone n) (blackhole_function family bh)
    no_call n family None other = tt
    no_call n family (Some a) other = (other, tt)

    drops : (n : ℕ) (route : Route) → (known env with_blackhole).call (codes "ixp_drop") (value.Int n ∷ []) route ≡ refused_with router.asn.0 n route
    drops n route =
        ap (λ f. f (value.Int n ∷ []) route)
        (call_kept env (codes "ixp_drop") (blackhole_function router.family router.blackhole) with_drop (no_call (codes "ixp_drop") router.family router.blackhole refl))

    blackhole_called : (family : Family) (bh : Option Addr) → is_some bh ≡ true → (route : Route) → route.net.family ≡ family
        → (known env (laid (blackhole_function family bh) with_drop)).call (codes "ixp_bh") [] route
        ≡ returns (value.Bool (is_some bh && is_host_net route.net && has_pair route 65535 666)) route
    blackhole_called family None there route same = absurd (let bad : ⊥ = cc in bad)
    blackhole_called family (Some a) there route same = blackhole_runs env (known env with_drop) family route same

    no_value : (n : List ℕ) (family : Family) (bh : Option Addr) → AllByRecursion (GivesNone n) (blackhole_function family bh)
    no_value n family None = tt
    no_value n family (Some a) = (tt, tt)

    named_there : {A : Type 0} (n : List ℕ) (made : List A → SetLit) (xs : List A) → IsNamed (known env behind) n made xs
        → IsNamed (known env with_blackhole) n made xs
    named_there n made xs is =
        named_kept env n made xs (blackhole_function router.family router.blackhole) with_drop (no_value n router.family router.blackhole)
        (named_kept env n made xs (function_item (codes "ixp_drop") ((Int, codes "n") ∷ []) (stmts (drop_body router.asn.0)) ∷ []) behind (tt, tt) is)

    abbrev with_net : List ItemTree
    with_net = function_item (codes "ixp_net") [] (stmts (net_body h)) ∷ with_blackhole

    abbrev with_bogon_as : List ItemTree
    with_bogon_as = function_item (codes "ixp_as") [] (stmts (bogon_as_body h)) ∷ with_net

    abbrev with_transit : List ItemTree
    with_transit = function_item (codes "ixp_transit") [] (stmts (transit_body h)) ∷ with_bogon_as

    abbrev with_sends : List ItemTree
    with_sends = function_item (codes "ixp_sends") ((Int, codes "p") ∷ []) (stmts (sends_body router.asn.0)) ∷ with_transit

    abbrev last_functions : List ItemTree
    last_functions =
        function_item (codes "ixp_net") [] (stmts (net_body h))
        ∷ function_item (codes "ixp_as") [] (stmts (bogon_as_body h))
        ∷ function_item (codes "ixp_transit") [] (stmts (transit_body h))
        ∷ function_item (codes "ixp_sends") ((Int, codes "p") ∷ []) (stmts (sends_body router.asn.0))
        ∷ function_item (codes "ixp_count") ((Int, codes "p") ∷ []) (stmts (count_body router.asn.0))
        ∷ function_item (codes "ixp_pad") ((Int, codes "n") ∷ []) (stmts pad_body)
        ∷ filter_item (codes "ixp_out") (stmts (out_body router.asn.0 router.blackhole))
        ∷ []

    functions_laid : laid (shared_functions h) behind ≡ laid last_functions with_blackhole
    functions_laid = laid_append (blackhole_function router.family router.blackhole) last_functions with_drop

    functions_shared : IsNamed (known env behind) (codes "ixp_bogons") set.Prefixes (bogons_of h)
        → IsNamed (known env behind) (codes "ixp_bogon_as") set.Ints (joined_ranges h.bogon_as)
        → IsNamed (known env behind) (codes "ixp_transit_as") numbers h.transit
        → Shared r router (known env (laid last_functions with_blackhole))
    functions_shared bogons ases transit = record {
      drop = drops;
      blackhole = λ route same there. blackhole_called router.family router.blackhole there route same;
      net = λ route same clean.
          net_runs env (known env with_blackhole) router.asn.0 drops router route same r stands.bounded clean
          (named_there (codes "ixp_bogons") set.Prefixes (bogons_of h) bogons)
          (λ there. blackhole_called router.family router.blackhole there route same);
      bogon_as = λ route.
          bogon_as_runs env (known env with_net) router.asn.0 drops h r route refl stands.ascend
          (named_there (codes "ixp_bogon_as") set.Ints (joined_ranges h.bogon_as) ases);
      transit = λ route.
          transit_runs env (known env with_bogon_as) router.asn.0 drops h r route refl
          (named_there (codes "ixp_transit_as") numbers h.transit transit);
      sends = λ p route. sends_runs env (known env with_transit) router.asn.0 p route;
      counts = λ p route. count_runs env (known env with_sends) router.asn.0 p route;
      pads = λ n route small. pad_runs env (known env (function_item (codes "ixp_count") ((Int, codes "p") ∷ []) (stmts (count_body router.asn.0)) ∷ with_sends)) n route small;
    }

  -- the head gives what the filters behind it rest on
  pub head_shared : Shared r router (known env (laid (header h) []))
  head_shared =
      let is : laid (header h) [] ≡ laid (shared_functions h) (sets (laid (tables router) [])) =
      laid_append (tables router) (in_turn (public_sets h ∷ shared_functions h ∷ [])) [] ∙ laid_append (public_sets h) (in_turn (shared_functions h ∷ [])) (laid (tables router) [])
      ∙ laid_append (shared_functions h) [] (laid (public_sets h) (laid (tables router) [])) ∙ ap (laid (shared_functions h)) (sets_laid (laid (tables router) [])) in
      rw (is, functions_laid (sets (laid (tables router) [])))
      (functions_shared (sets (laid (tables router) [])) (bogons_named (laid (tables router) [])) (bogon_as_named (laid (tables router) []))
      (transit_named (laid (tables router) [])))

  -- the head's own filter, and what stands before it
  abbrev pub before_out : List ItemTree
  before_out =
      function_item (codes "ixp_pad") ((Int, codes "n") ∷ []) (stmts pad_body)
      ∷ function_item (codes "ixp_count") ((Int, codes "p") ∷ []) (stmts (count_body router.asn.0))
      ∷ with_sends (sets (laid (tables router) []))

  pub head_laid : laid (header h) [] ≡ filter_item (codes "ixp_out") (stmts (out_body router.asn.0 router.blackhole)) ∷ before_out
  head_laid =
      laid_append (tables router) (in_turn (public_sets h ∷ shared_functions h ∷ [])) [] ∙ laid_append (public_sets h) (in_turn (shared_functions h ∷ [])) (laid (tables router) [])
      ∙ laid_append (shared_functions h) [] (laid (public_sets h) (laid (tables router) [])) ∙ ap (laid (shared_functions h)) (sets_laid (laid (tables router) []))
      ∙ functions_laid (sets (laid (tables router) []))

  pub out_shared : Shared r router (known env before_out)
  out_shared =
      functions_shared (sets (laid (tables router) [])) (bogons_named (laid (tables router) [])) (bogon_as_named (laid (tables router) []))
      (transit_named (laid (tables router) []))

  -- the functions that a report asks
  pub sends_asked : (p : ℕ) (route : Route)
      → function_found env (codes "ixp_sends") (function_of (laid (header h) []) (codes "ixp_sends")) p route ≡ Ok (value.Bool (sends router.asn.0 route p))
  sends_asked p route =
      ap (λ is. function_found env (codes "ixp_sends") (function_of is (codes "ixp_sends")) p route) head_laid
      ∙ ap (must_return (codes "ixp_sends")) (sends_runs env (known env (with_transit (sets (laid (tables router) [])))) router.asn.0 p route)

  pub count_asked : (p : ℕ) (route : Route)
      → function_found env (codes "ixp_count") (function_of (laid (header h) []) (codes "ixp_count")) p route ≡ Ok (value.Int (prepends router.asn.0 route p))
  count_asked p route =
      ap (λ is. function_found env (codes "ixp_count") (function_of is (codes "ixp_count")) p route) head_laid
      ∙ ap (must_return (codes "ixp_count")) (count_runs env (known env (with_sends (sets (laid (tables router) [])))) router.asn.0 p route)
