-- A route's way through the whole text.
use Rattle.std.proofs.Common.{◌≡◌, ℕ, ◌&&◌, List, [], ◌∷◌, ◌++◌, map, flat_map, append-nil, Option, Some, None, codes, refl, ap, ap₂, ◌∙◌, if◌then◌else◌}
use Rattle.std.specs.List.{AllByRecursion}
use Rattle.ixp_num.specs.declared.addr.Addr.{Addr}
use Rattle.ixp_num.specs.declared.family.Family.{Family}
use Rattle.ixp_num.specs.declared.family.Family.TheVariants.{V4, V6}
use Rattle.ixp_num.specs.declared.pattern.Pattern.{Pattern}
use Rattle.ixp_lang.specs.declared.item.Bgp.{Bgp}
use Rattle.ixp_lang.specs.declared.item.Pipe.{Pipe}
use Rattle.ixp_lang.specs.declared.value.SetLit.{SetLit}
use Rattle.ixp_lang.specs.declared.value.SetLit.TheVariants as set
use Rattle.ixp_lang.specs.Trees.{ItemTree, router_id_item, table_item, define_item, function_item, filter_item, device_item, pipe_item, bgp_item}
use Rattle.ixp_lang.specs.Meaning.{roas_named}
use Rattle.ixp_lang.specs.Walks.{bgp_sessions, pipes_of, session_named, pipe_from, pipe_between}
use Rattle.ixp_registry.specs.declared.registry.Registry.{Registry}
use Rattle.ixp_registry.specs.declared.router.Router.{Router}
use Rattle.ixp_registry.specs.Sessions.{Session}
use Rattle.ixp_compile.specs.declared.inputs.HeaderInputs.{HeaderInputs}
use Rattle.ixp_compile.specs.declared.inputs.Inputs.{Inputs}
use Rattle.ixp_compile.specs.Fragment.{table_name, bgp_name, pipe_of, bgp_of, member_sets, session_filters, protocols}
use Rattle.ixp_compile.specs.Generated.{header_inputs, inputs, footer, roa_tables}
use Rattle.ixp_compile.specs.Header.{header, tables, public_sets, shared_functions, blackhole_function, bogons_of, joined_ranges}
use Rattle.ixp_compile.specs.Imports.{Sees}
use Rattle.ixp_compile.specs.Pieces.{defined, numbers, master, roas}
use Rattle.ixp_compile.proofs.Fragments.{sets_all}
use Rattle.ixp_compile.proofs.Laying.{all_append, same_refl}
use Rattle.ixp_compile.proofs.WholeText.{HasOther, part, text}

-- The protocols of a text.

sessions_append : (xs ys : List ItemTree) → bgp_sessions (xs ++ ys) ≡ bgp_sessions xs ++ bgp_sessions ys
sessions_append [] ys = refl
sessions_append (bgp_item b ∷ xs) ys = ap (λ bs. b ∷ bs) (sessions_append xs ys)
sessions_append (router_id_item a ∷ xs) ys = sessions_append xs ys
sessions_append (table_item t n ∷ xs) ys = sessions_append xs ys
sessions_append (define_item n e ∷ xs) ys = sessions_append xs ys
sessions_append (function_item n ps ss ∷ xs) ys = sessions_append xs ys
sessions_append (filter_item n ss ∷ xs) ys = sessions_append xs ys
sessions_append (device_item n ∷ xs) ys = sessions_append xs ys
sessions_append (pipe_item p ∷ xs) ys = sessions_append xs ys

pipes_append : (xs ys : List ItemTree) → pipes_of (xs ++ ys) ≡ pipes_of xs ++ pipes_of ys
pipes_append [] ys = refl
pipes_append (pipe_item p ∷ xs) ys = ap (λ ps. p ∷ ps) (pipes_append xs ys)
pipes_append (bgp_item b ∷ xs) ys = pipes_append xs ys
pipes_append (router_id_item a ∷ xs) ys = pipes_append xs ys
pipes_append (table_item t n ∷ xs) ys = pipes_append xs ys
pipes_append (define_item n e ∷ xs) ys = pipes_append xs ys
pipes_append (function_item n ps ss ∷ xs) ys = pipes_append xs ys
pipes_append (filter_item n ss ∷ xs) ys = pipes_append xs ys
pipes_append (device_item n ∷ xs) ys = pipes_append xs ys

abbrev NoProtocol : ItemTree → Type 0
NoProtocol (bgp_item b) = ⊥
NoProtocol (pipe_item p) = ⊥
NoProtocol (router_id_item a) = Unit {0}
NoProtocol (table_item t n) = Unit {0}
NoProtocol (define_item n e) = Unit {0}
NoProtocol (function_item n ps ss) = Unit {0}
NoProtocol (filter_item n ss) = Unit {0}
NoProtocol (device_item n) = Unit {0}

no_sessions : (xs : List ItemTree) → AllByRecursion NoProtocol xs → bgp_sessions xs ≡ []
no_sessions [] all = refl
no_sessions (bgp_item b ∷ xs) all = absurd all.0
no_sessions (pipe_item p ∷ xs) all = absurd all.0
no_sessions (router_id_item a ∷ xs) all = no_sessions xs all.1
no_sessions (table_item t n ∷ xs) all = no_sessions xs all.1
no_sessions (define_item n e ∷ xs) all = no_sessions xs all.1
no_sessions (function_item n ps ss ∷ xs) all = no_sessions xs all.1
no_sessions (filter_item n ss ∷ xs) all = no_sessions xs all.1
no_sessions (device_item n ∷ xs) all = no_sessions xs all.1

no_pipes : (xs : List ItemTree) → AllByRecursion NoProtocol xs → pipes_of xs ≡ []
no_pipes [] all = refl
no_pipes (bgp_item b ∷ xs) all = absurd all.0
no_pipes (pipe_item p ∷ xs) all = absurd all.0
no_pipes (router_id_item a ∷ xs) all = no_pipes xs all.1
no_pipes (table_item t n ∷ xs) all = no_pipes xs all.1
no_pipes (define_item n e ∷ xs) all = no_pipes xs all.1
no_pipes (function_item n ps ss ∷ xs) all = no_pipes xs all.1
no_pipes (filter_item n ss ∷ xs) all = no_pipes xs all.1
no_pipes (device_item n ∷ xs) all = no_pipes xs all.1

set_no : {A : Type 0} (n : List ℕ) (made : List A → SetLit) (xs : List A) → AllByRecursion NoProtocol (defined n made xs)
set_no n made [] = tt
set_no n made (x ∷ xs) = (tt, tt)

blackhole_no : (family : Family) (bh : Option Addr) → AllByRecursion NoProtocol (blackhole_function family bh)
blackhole_no family None = tt
blackhole_no family (Some a) = (tt, tt)

abbrev pub bgp : Registry → Router → Session → Bgp
bgp r router s = bgp_of (inputs r router s)

abbrev pub pipe : Registry → Router → Session → Pipe
pipe r router s = pipe_of (inputs r router s)

module _ (r : Registry) (router : Router) (irr blackholes : Inputs → List Pattern) where
  abbrev h : HeaderInputs
  h = header_inputs r router

  header_no : AllByRecursion NoProtocol (header h)
  header_no =
      all_append NoProtocol (tables router) (public_sets h ++ (shared_functions h ++ [])) (tt, (tt, (tt, tt)))
      (all_append NoProtocol (public_sets h) (shared_functions h ++ [])
      (all_append NoProtocol (defined (codes "ixp_bogons") set.Prefixes (bogons_of h)) _ (set_no (codes "ixp_bogons") set.Prefixes (bogons_of h))
      (all_append NoProtocol (defined (codes "ixp_bogon_as") set.Ints (joined_ranges h.bogon_as)) _ (set_no (codes "ixp_bogon_as") set.Ints (joined_ranges h.bogon_as))
      (all_append NoProtocol (defined (codes "ixp_transit_as") numbers h.transit) [] (set_no (codes "ixp_transit_as") numbers h.transit) tt)))
      (all_append NoProtocol (shared_functions h) [] (
        tt,
        all_append NoProtocol (blackhole_function router.family router.blackhole) _ (blackhole_no router.family router.blackhole)
            (tt, (tt, (tt, (tt, (tt, (tt, (tt, tt))))))),
      ) tt))

  part_sessions : (s : Session) → bgp_sessions (part r router irr blackholes s) ≡ bgp r router s ∷ []
  part_sessions s =
      let i : Inputs = inputs r router s in
      sessions_append (member_sets i (irr i) (blackholes i)) (session_filters i (irr i) (blackholes i) ++ (protocols i ++ []))
      ∙ ap (λ bs. bs ++ bgp r router s ∷ []) (no_sessions (member_sets i (irr i) (blackholes i)) (sets_all NoProtocol (λ n e. tt) i (irr i) (blackholes i)))

  part_pipes : (s : Session) → pipes_of (part r router irr blackholes s) ≡ pipe r router s ∷ []
  part_pipes s =
      let i : Inputs = inputs r router s in
      pipes_append (member_sets i (irr i) (blackholes i)) (session_filters i (irr i) (blackholes i) ++ (protocols i ++ []))
      ∙ ap (λ ps. ps ++ pipe r router s ∷ []) (no_pipes (member_sets i (irr i) (blackholes i)) (sets_all NoProtocol (λ n e. tt) i (irr i) (blackholes i)))

  parts_sessions : (ss : List Session) → bgp_sessions (flat_map (part r router irr blackholes) ss) ≡ map (bgp r router) ss
  parts_sessions [] = refl
  parts_sessions (s ∷ ss) =
      sessions_append (part r router irr blackholes s) (flat_map (part r router irr blackholes) ss) ∙ ap₂ (λ a b. a ++ b) (part_sessions s) (parts_sessions ss)

  parts_pipes : (ss : List Session) → pipes_of (flat_map (part r router irr blackholes) ss) ≡ map (pipe r router) ss
  parts_pipes [] = refl
  parts_pipes (s ∷ ss) =
      pipes_append (part r router irr blackholes s) (flat_map (part r router irr blackholes) ss) ∙ ap₂ (λ a b. a ++ b) (part_pipes s) (parts_pipes ss)

  pub text_sessions : (ss : List Session) → bgp_sessions (text r router irr blackholes ss) ≡ map (bgp r router) ss
  text_sessions ss =
      sessions_append (header h) (flat_map (part r router irr blackholes) ss ++ (footer ++ []))
      ∙ ap₂ (λ a b. a ++ b) (no_sessions (header h) header_no)
      (sessions_append (flat_map (part r router irr blackholes) ss) (footer ++ []) ∙ append-nil (bgp_sessions (flat_map (part r router irr blackholes) ss)) ∙ parts_sessions ss)

  pub text_pipes : (ss : List Session) → pipes_of (text r router irr blackholes ss) ≡ map (pipe r router) ss
  text_pipes ss =
      pipes_append (header h) (flat_map (part r router irr blackholes) ss ++ (footer ++ []))
      ∙ ap₂ (λ a b. a ++ b) (no_pipes (header h) header_no)
      (pipes_append (flat_map (part r router irr blackholes) ss) (footer ++ []) ∙ append-nil (pipes_of (flat_map (part r router irr blackholes) ss)) ∙ parts_pipes ss)

  -- Found by their names.

  pub session_there : (front : List Session) (s : Session) (back : List Session) → AllByRecursion (HasOther s.interface.number) front
      → session_named (map (bgp r router) (front ++ s ∷ back)) (bgp_name s.interface.number) ≡ Some (bgp r router s)
  session_there [] s back others = rw (same_refl (bgp_name s.interface.number)) refl
  session_there (t ∷ front) s back others =
      ap (λ b. if b then Some (bgp r router t) else session_named (map (bgp r router) (front ++ s ∷ back)) (bgp_name s.interface.number)) others.0
      ∙ session_there front s back others.1

  pub pipe_there : (front : List Session) (s : Session) (back : List Session) → AllByRecursion (HasOther s.interface.number) front
      → pipe_from (map (pipe r router) (front ++ s ∷ back)) (table_name s.interface.number) ≡ Some (pipe r router s)
  pipe_there [] s back others = rw (same_refl (table_name s.interface.number)) refl
  pipe_there (t ∷ front) s back others =
      ap (λ b. if b then Some (pipe r router t) else pipe_from (map (pipe r router) (front ++ s ∷ back)) (table_name s.interface.number)) others.0
      ∙ pipe_there front s back others.1

  pub pipe_down : (front : List Session) (s : Session) (back : List Session) → AllByRecursion (HasOther s.interface.number) front
      → pipe_between (map (pipe r router) (front ++ s ∷ back)) (master router.family) (table_name s.interface.number) ≡ Some (pipe r router s)
  pipe_down [] s back others = rw (same_refl (master router.family), same_refl (table_name s.interface.number)) refl
  pipe_down (t ∷ front) s back others =
      ap₂ (λ a b. if a && b then Some (pipe r router t) else pipe_between (map (pipe r router) (front ++ s ∷ back)) (master router.family) (table_name s.interface.number))
      (same_refl (master router.family)) others.0
      ∙ pipe_down front s back others.1

  pub sees_there : (s : Session) → Sees r router s (record { from = s.address.addr; roas = roa_tables r })
  sees_there s = record { from = refl; roas = by_family router.family } where
    by_family : (family : Family) → roas_named (roa_tables r) (roas family) ≡ r.public.roas
    by_family V4 = refl
    by_family V6 = refl
