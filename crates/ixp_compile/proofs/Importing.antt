-- What a session's import filter does, step by step, from its last part on.
use Rattle.std.proofs.Common.{◌≡◌, ℕ, Bool, true, false, ◌&&◌, ◌||◌, ◌==◌, not, nat_le, nat_lt, List, [], ◌∷◌, ◌++◌, filter, length, Option, Some, None, codes, refl, sym, ap, ap₂, ◌∙◌, subst, append-nil, if◌then◌else◌}
use Rattle.std.specs.List.{list_any}
use Rattle.std.specs.Option.{is_some}
use Rattle.std.proofs.lemmas.Bool.{and_parts, ltb-false, le-leb}
use Rattle.ixp_num.specs.declared.addr.Addr.{Addr}
use Rattle.ixp_num.specs.declared.asn.Asn.{Asn}
use Rattle.ixp_num.specs.declared.pattern.Pattern.{Pattern}
use Rattle.ixp_num.specs.declared.roa.Validity.TheVariants.{Valid, Invalid}
use Rattle.ixp_num.specs.Prefixes.{is_in_set}
use Rattle.ixp_lang.specs.declared.route.Route.{Route}
use Rattle.ixp_lang.specs.declared.expr.Attr.TheVariants as attr
use Rattle.ixp_lang.specs.declared.expr.Op.TheVariants as op
use Rattle.ixp_lang.specs.declared.value.SetLit.TheVariants as set
use Rattle.ixp_lang.specs.declared.value.Value.TheVariants as value
use Rattle.ixp_lang.specs.Attributes.{last_of, same_state, with_triple, in_triples}
use Rattle.ixp_lang.specs.Steering.{has_pair}
use Rattle.ixp_lang.specs.Trees.{StmtTree, accept, stmts}
use Rattle.ixp_lang.specs.Meaning.{Environment, Known, End, falls, accepts, for_effect, runs_all}
use Rattle.ixp_registry.specs.declared.registry.Registry.{Registry}
use Rattle.ixp_registry.specs.declared.router.Router.{Router}
use Rattle.ixp_registry.specs.Sessions.{Session}
use Rattle.ixp_policy.specs.Blackholes.{is_blackhole, is_host_net}
use Rattle.ixp_policy.specs.Import.{state_of, is_registered, is_covered_by, is_listed, bogon_as_in_path, transit_free_as_in_path, is_hop_at, is_own_hop, first_as_not_peer_as, is_report, brought_triples, prefix_too_long, prefix_too_short, prefix_is_bogon, path_empty, path_too_long, too_many_communities, import_table}
use Rattle.ixp_policy.specs.Tags.{is_empty, findings, tagged}
use Rattle.ixp_compile.specs.declared.inputs.Inputs.{Inputs}
use Rattle.ixp_compile.specs.Fragment.{irr_name, origins_name, blackhole_name, net_test, prefix_test, told_registered, state_test, blackhole_set, blackhole_test, registered_origin, origin_test, transit_test, next_hop_test, in_body}
use Rattle.ixp_compile.specs.Generated.{inputs}
use Rattle.ixp_compile.specs.Imports.{Sees, Allows, Names}
use Rattle.ixp_compile.specs.Pieces.{int, compared, when, numbers, run, in_turn, drop_with, tell as told_line}
use Rattle.ixp_compile.specs.Shared.{Shared, IsNamed, stops, first_number, has_transit_as, net_refusal}
use Rattle.ixp_compile.proofs.Addresses.{addresses_have}
use Rattle.ixp_compile.proofs.Communities.{eq_swap, or_false, and_true, in_large, without_agree}
use Rattle.ixp_compile.proofs.InTags.{tags_registered, tags_state, tags_drop, tags_blackhole, tags_origin, tags_path, or_refused, hop_end, net_end, whole_said}
use Rattle.ixp_compile.proofs.PublicSets.{numbers_hold}
use Rattle.ixp_compile.proofs.Running.{choose, chosen_by, if_same, unless}
use Rattle.ixp_compile.proofs.Tagging.{base, told, tell, tell_hop, has_tag, fresh_more}

module _ (env : Environment) (k : Known) (r : Registry) (router : Router) (s : Session) (irr blackholes : List Pattern) (route : Route)
    (shared : Shared r router k) (sees : Sees r router s env) (allows : Allows router s irr blackholes) (names : Names router s irr blackholes k)
    (same : route.net.family ≡ router.family) where
  abbrev rs : ℕ
  rs = router.asn.0

  abbrev i : Inputs
  i = inputs r router s

  abbrev at : Bool → List (ℕ × ℕ) → Route
  at own more = told rs route own more

  abbrev ends : Bool → List (ℕ × ℕ) → End
  ends own more = accepts (at own more)

  abbrev running_to : (Route → End) → List StmtTree → Route → End
  running_to next ss q = runs_all env k [] (stmts ss) q next

  abbrev running : List StmtTree → Route → End
  running ss q = running_to falls ss q

  -- a refusal, whatever follows it
  dropped : (own : Bool) (more : List (ℕ × ℕ)) (n : ℕ) (next : Route → End) → has_tag 1101 n more ≡ false
      → for_effect (k.call (codes "ixp_drop") (value.Int n ∷ []) (at own more)) next ≡ ends own (more ++ (1101, n) ∷ [])
  dropped own more n next g =
      ap (λ x. for_effect x next) (shared.drop n (at own more)) ∙ ap accepts (tell rs route own more 1101 n refl refl g)

  -- something is told, and then more is done
  telling : (next : Route → End) (own : Bool) (more : List (ℕ × ℕ)) (a b : ℕ) (rest : List StmtTree) (tags : List (ℕ × ℕ))
      → with_triple (value.Triple rs a b) (at own more) ≡ at own (more ++ (a, b) ∷ [])
      → running_to next rest (at own (more ++ (a, b) ∷ [])) ≡ ends own tags
      → running_to next (told_line rs a b ∷ rest) (at own more) ≡ ends own tags
  telling next own more a b rest tags e p = ap (running_to next rest) e ∙ p

  -- the net is in a set, or refused
  in_set : (next : Route → End) (name : List ℕ) (ts : List Pattern) (own : Bool) (more : List (ℕ × ℕ)) (b : Bool) (rest : List StmtTree) → IsNamed k name set.Prefixes ts
      → is_in_set ts route.net ≡ b → has_tag 1101 9 more ≡ false
      → running_to next (net_test name ts ∷ rest) (at own more) ≡ (if b then running_to next rest (at own more) else ends own (more ++ (1101, 9) ∷ []))
  in_set next name [] own more b rest is e g =
      dropped own more 9 _ g ∙ ap (λ c. if c then running_to next rest (at own more) else ends own (more ++ (1101, 9) ∷ [])) e
  in_set next name (t ∷ ts) own more b rest is e g = rw (is (at own more)) (unless e (dropped own more 9 _ g) refl)

  abbrev end_parts : List StmtTree
  end_parts = in_turn (prefix_test i irr ∷ told_registered i ∷ (accept ∷ []) ∷ [])

  abbrev allowed : Bool
  allowed = is_registered s route

  registered_runs : (own : Bool) (more : List (ℕ × ℕ)) → nat_le route.net.len router.high ≡ true → has_tag 1001 1 more ≡ false → has_tag 1101 9 more ≡ false
      → running end_parts (at own more) ≡ ends own (tags_registered s.address.irr allowed more)
  registered_runs own more short f g = go s.address.irr refl where
    go : (b : Bool) → s.address.irr ≡ b → running end_parts (at own more) ≡ ends own (tags_registered b allowed more)
    go false e = rw e refl
    go true e =
        rw e
        (in_set falls (irr_name s.interface.number) irr own more allowed (told_line rs 1001 1 ∷ accept ∷ []) (names.registered e)
        (allows.registered route same short) g
        ∙ choose (ends own) allowed (ap accepts (tell rs route own more 1001 1 refl refl f)) refl)

  -- the state of the route's origin
  abbrev state_parts : List StmtTree
  state_parts = in_turn (state_test i ∷ prefix_test i irr ∷ told_registered i ∷ (accept ∷ []) ∷ [])

  state_runs : (own : Bool) (more : List (ℕ × ℕ)) → nat_le route.net.len router.high ≡ true
      → ((a b : ℕ) → (a == 1001 && b == 2) ≡ false → has_tag a b more ≡ false)
      → running state_parts (at own more) ≡ ends own (tags_state s.address.irr router.rpki (state_of r route) allowed more)
  state_runs own more short fresh = go router.rpki refl where
    go : (b : Bool) → router.rpki ≡ b → running state_parts (at own more) ≡ ends own (tags_state s.address.irr b (state_of r route) allowed more)
    go false e =
        rw e
        (telling falls own more 1000 3 end_parts (tags_registered s.address.irr allowed (more ++ (1000, 3) ∷ []))
        (tell rs route own more 1000 3 refl refl (fresh 1000 3 refl))
        (registered_runs own (more ++ (1000, 3) ∷ []) short (fresh_more 1001 1 1000 3 more (fresh 1001 1 refl) refl)
        (fresh_more 1101 9 1000 3 more (fresh 1101 9 refl) refl)))
    go true e =
        rw (e, sees.roas)
        (choose (ends own) (same_state (state_of r route) Invalid) (dropped own more 13 _ (fresh 1101 13 refl))
        (choose (ends own) (same_state (state_of r route) Valid) (ap accepts (tell rs route own more 1000 1 refl refl (fresh 1000 1 refl)))
        (telling falls own more 1000 2 end_parts (tags_registered s.address.irr allowed (more ++ (1000, 2) ∷ []))
        (tell rs route own more 1000 2 refl refl (fresh 1000 2 refl))
        (registered_runs own (more ++ (1000, 2) ∷ []) short (fresh_more 1001 1 1000 2 more (fresh 1001 1 refl) refl)
        (fresh_more 1101 9 1000 2 more (fresh 1101 9 refl) refl)))))

  -- a blackhole route
  abbrev is_drop : Bool
  is_drop = is_blackhole router route

  abbrev covered : Bool
  covered = is_covered_by route.net s.prefixes

  drop_parts : (next : Route → End) (own : Bool) (more : List (ℕ × ℕ)) → is_some router.blackhole ≡ true → is_host_net route.net ≡ true
      → has_tag 1001 1 more ≡ false → has_tag 1101 9 more ≡ false
      → running_to next (net_test (blackhole_name s.interface.number) (blackhole_set i blackholes) ∷ in_turn (told_registered i ∷ (accept ∷ []) ∷ [])) (at own more)
      ≡ ends own (tags_drop s.address.irr covered more)
  drop_parts next own more there host f g = go s.address.irr refl where
    go : (b : Bool) → s.address.irr ≡ b
        → running_to next (net_test (blackhole_name s.interface.number) (blackhole_set i blackholes) ∷ in_turn (told_registered i ∷ (accept ∷ []) ∷ [])) (at own more)
        ≡ ends own (tags_drop b covered more)
    go false e = rw e (dropped own more 9 _ g)
    go true e =
        rw e
        (in_set next (blackhole_name s.interface.number) blackholes own more covered (told_line rs 1001 1 ∷ accept ∷ []) (names.covered e there)
        (allows.covered route same host) g
        ∙ choose (ends own) covered (ap accepts (tell rs route own more 1001 1 refl refl f)) refl)

  abbrev blackhole_parts : Option Addr → List StmtTree
  blackhole_parts bh = in_turn (blackhole_test i blackholes bh ∷ state_test i ∷ prefix_test i irr ∷ told_registered i ∷ (accept ∷ []) ∷ [])

  host_of : (a b c : Bool) → (a && b && c) ≡ true → b ≡ true
  host_of a b c e = (and_parts a b (and_parts (a && b) c e).0).1

  blackhole_runs : (own : Bool) (more : List (ℕ × ℕ)) (bh : Option Addr) → router.blackhole ≡ bh
      → (is_drop ≡ false → nat_le route.net.len router.high ≡ true)
      → ((a b : ℕ) → (a == 1001 && b == 2) ≡ false → has_tag a b more ≡ false)
      → running (blackhole_parts bh) (at own more) ≡ ends own (tags_blackhole s.address.irr is_drop covered router.rpki (state_of r route) allowed more)
  blackhole_runs own more None e short fresh =
      let none : is_drop ≡ false = ap (λ b. is_some b && is_host_net route.net && has_pair route 65535 666) e in
      rw none (state_runs own more (short none) fresh)
  blackhole_runs own more (Some a) e short fresh =
      let after : Route → End = running state_parts in
      rw (shared.blackhole (at own more) same (ap is_some e))
      (chosen_by (ends own) is_drop
      (λ yes_drop. telling after own more 1000 3 (net_test (blackhole_name s.interface.number) (blackhole_set i blackholes) ∷ in_turn (told_registered i ∷ (accept ∷ []) ∷ []))
      (tags_drop s.address.irr covered (more ++ (1000, 3) ∷ []))
      (tell rs route own more 1000 3 refl refl (fresh 1000 3 refl))
      (drop_parts after own (more ++ (1000, 3) ∷ []) (ap is_some e) (host_of (is_some router.blackhole) (is_host_net route.net) (has_pair route 65535 666) yes_drop)
      (fresh_more 1001 1 1000 3 more (fresh 1001 1 refl) refl) (fresh_more 1101 9 1000 3 more (fresh 1101 9 refl) refl)))
      (λ no_drop. state_runs own more (short no_drop) fresh))

  -- the origin
  abbrev listed : Bool
  listed = is_listed s.origins (last_of route.path)

  module _ (short : is_drop ≡ false → nat_le route.net.len router.high ≡ true) where
    abbrev after_origin : List StmtTree
    after_origin = blackhole_parts router.blackhole

    abbrev tags_left : List (ℕ × ℕ) → List (ℕ × ℕ)
    tags_left more = tags_blackhole s.address.irr is_drop covered router.rpki (state_of r route) allowed more

    if_ends : (own b : Bool) (x y : List (ℕ × ℕ)) → (if b then ends own x else ends own y) ≡ ends own (if b then x else y)
    if_ends own b x y = choose (ends own) b refl refl

    listed_runs : (own : Bool) (asns : List Asn) → s.address.irr ≡ true → s.origins ≡ asns
        → running (registered_origin i asns ++ after_origin) (at own [])
        ≡ ends own (if is_empty asns then (1001, 1002) ∷ (1101, 10) ∷ []
        else (if is_listed asns (last_of route.path) then tags_left [] else (1101, 10) ∷ []))
    listed_runs own [] held e =
        ap (λ q. running (drop_with 10 ∷ after_origin) q) (tell rs route own [] 1001 1002 refl refl refl) ∙ dropped own ((1001, 1002) ∷ []) 10 _ refl
    listed_runs own (a ∷ asns) held e =
        let is : IsNamed k (origins_name s.interface.number) numbers (a ∷ asns) = subst (IsNamed k (origins_name s.interface.number) numbers) e (names.origins held) in
        rw (is (at own []))
        (unless (numbers_hold (last_of route.path) (a ∷ asns)) (dropped own [] 10 _ refl)
        (blackhole_runs own [] router.blackhole refl short (λ x y z. refl))
        ∙ if_ends own (is_listed (a ∷ asns) (last_of route.path)) (tags_left []) ((1101, 10) ∷ []))

    not_found : (a b : ℕ) → (a == 1001 && b == 2) ≡ false → has_tag a b ((1001, 2) ∷ []) ≡ false
    not_found a b e = or_false (1001 == a && 2 == b) ∙ ap₂ (λ x y. x && y) (eq_swap 1001 a) (eq_swap 2 b) ∙ e

    abbrev origin_tags : List (ℕ × ℕ)
    origin_tags = tags_origin s.address.irr (is_empty s.origins) listed is_drop covered router.rpki (state_of r route) allowed

    origin_runs : (own : Bool) → running (origin_test i ++ after_origin) (at own []) ≡ ends own origin_tags
    origin_runs own = go s.address.irr refl where
      go : (b : Bool) → s.address.irr ≡ b → running (origin_test i ++ after_origin) (at own [])
          ≡ ends own (if b then (if is_empty s.origins then (1001, 1002) ∷ (1101, 10) ∷ [] else (if listed then tags_left [] else (1101, 10) ∷ [])) else tags_left ((1001, 2) ∷ []))
      go true e = ap (λ b. running ((if b then registered_origin i s.origins else told_line rs 1001 2 ∷ []) ++ after_origin) (at own [])) e ∙ listed_runs own s.origins e refl
      go false e =
          ap (λ b. running ((if b then registered_origin i s.origins else told_line rs 1001 2 ∷ []) ++ after_origin) (at own [])) e
          ∙ telling falls own [] 1001 2 after_origin (tags_left ((1001, 2) ∷ [])) (tell rs route own [] 1001 2 refl refl refl)
          (blackhole_runs own ((1001, 2) ∷ []) router.blackhole refl short not_found)

    -- the tests of the path's numbers
    stopping : (o : Option ℕ) (own : Bool) (tags : List (ℕ × ℕ)) (next : Route → End) → next (at own []) ≡ ends own tags
        → for_effect (stops rs o (at own [])) next ≡ ends own (or_refused o tags)
    stopping None own tags next p = p
    stopping (Some n) own tags next p = ap accepts (tell rs route own [] 1101 n refl refl refl)

    abbrev has_transit : Bool
    has_transit = transit_free_as_in_path r s route

    transit_runs : (own : Bool) → running (transit_test i ++ (origin_test i ++ after_origin)) (at own []) ≡ ends own (or_refused (first_number ((has_transit, 14) ∷ [])) origin_tags)
    transit_runs own = go (is_listed r.public.transit s.member.asn.0) refl where
      and_not : (a : Bool) → (a && true) ≡ a
      and_not true = refl
      and_not false = refl

      none : (a : Bool) → (a && false) ≡ false
      none true = refl
      none false = refl

      go : (b : Bool) → is_listed r.public.transit s.member.asn.0 ≡ b → running (transit_test i ++ (origin_test i ++ after_origin)) (at own [])
          ≡ ends own (or_refused (first_number ((has_transit_as r route && not b, 14) ∷ [])) origin_tags)
      go true e = rw (e, none (has_transit_as r route)) (origin_runs own)
      go false e =
          rw (e, and_not (has_transit_as r route), shared.transit (at own []))
          (stopping (first_number ((has_transit_as r route, 14) ∷ [])) own origin_tags (running (origin_test i ++ after_origin)) (origin_runs own))

    path_runs : (own : Bool) → running (run (codes "ixp_as") ∷ transit_test i ++ (origin_test i ++ after_origin)) (at own [])
        ≡ ends own (tags_path (bogon_as_in_path r route) has_transit origin_tags)
    path_runs own =
        rw (shared.bogon_as (at own []))
        (stopping (first_number ((bogon_as_in_path r route, 4) ∷ [])) own (or_refused (first_number ((has_transit, 14) ∷ [])) origin_tags)
        (running (transit_test i ++ (origin_test i ++ after_origin))) (transit_runs own))

    -- the next hop and the path's first number
    abbrev beside : Bool
    beside = list_any (is_hop_at router s route) r.interfaces

    abbrev path_parts : List StmtTree
    path_parts = run (codes "ixp_as") ∷ transit_test i ++ (origin_test i ++ after_origin)

    abbrev path_tags : List (ℕ × ℕ)
    path_tags = tags_path (bogon_as_in_path r route) has_transit origin_tags

    hop_runs : running (next_hop_test i ∷ path_parts) (at true [])
        ≡ (if is_own_hop s route then ends true path_tags else (if beside then ends false path_tags else ends true ((1101, 8) ∷ [])))
    hop_runs =
        rw sees.from
        (unless refl
        (ap (λ b. if b then running path_parts (with_triple (value.Triple rs 1001 1200) (at true [])) else for_effect (k.call (codes "ixp_drop") (value.Int 8 ∷ []) (at true [])) (running path_parts)) (addresses_have r router s route.next_hop)
        ∙ if_same beside (ap (running path_parts) (tell_hop rs route) ∙ path_runs false) (dropped true [] 8 _ refl))
        (path_runs true))

    first_runs : running (when (compared op.Ne attr.First (int i.asn.0)) (drop_with 7 ∷ []) ∷ next_hop_test i ∷ path_parts) (at true [])
        ≡ hop_end rs route (first_as_not_peer_as s route) (is_own_hop s route) beside path_tags
    first_runs = if_same (first_as_not_peer_as s route) (dropped true [] 7 _ refl) hop_runs

  -- the net and the lengths of lists
  filter_again : (f : ℕ × ℕ × ℕ → Bool) (ts : List (ℕ × ℕ × ℕ)) → filter f (filter f ts ++ []) ≡ filter f ts
  filter_again f ts = ap (filter f) (append-nil (filter f ts)) ∙ again ts where
    again : (ts : List (ℕ × ℕ × ℕ)) → filter f (filter f ts) ≡ filter f ts
    again [] = refl
    again (t ∷ ts) = go (again ts) (f t) refl where
      go : filter f (filter f ts) ≡ filter f ts → (b : Bool) → f t ≡ b → filter f (filter f (t ∷ ts)) ≡ filter f (t ∷ ts)
      go rest false e = rw e rest
      go rest true e = rw (e, e) (ap (λ l. t ∷ l) rest)

  brought_again : brought_triples rs (at true []) ≡ base rs route
  brought_again = filter_again (λ t. not (is_report rs t)) route.triples

  not_refused : (b : Bool) (n : ℕ) (rest : List (Bool × ℕ)) → first_number ((b, n) ∷ rest) ≡ None → b ≡ false
  not_refused false n rest e = refl
  not_refused true n rest e = absurd (let bad : ⊥ = cc in bad)

  abbrev refusals : List (Bool × ℕ)
  refusals =
      (prefix_too_short router route, 2) ∷ (prefix_is_bogon r route, 3) ∷ (path_empty route, 6) ∷ (path_too_long route, 5)
      ∷ (too_many_communities router route, 15) ∷ []

  short_enough : net_refusal r router route ≡ None → is_drop ≡ false → nat_le route.net.len router.high ≡ true
  short_enough none no_drop =
      let long : (nat_lt router.high route.net.len && not is_drop) ≡ false = not_refused (prefix_too_long router route) 1 refusals none in
      let longer : nat_lt router.high route.net.len ≡ false =
      sym (and_true (nat_lt router.high route.net.len)) ∙ ap (λ b. nat_lt router.high route.net.len && not b) (sym no_drop) ∙ long in
      le-leb route.net.len router.high (ltb-false router.high route.net.len longer)

  abbrev transit_free : Bool
  transit_free = transit_free_as_in_path r s route

  abbrev all_tags : List (ℕ × ℕ)
  all_tags =
      tags_path (bogon_as_in_path r route) transit_free
      (tags_origin s.address.irr (is_empty s.origins) listed is_drop covered router.rpki (state_of r route) allowed)

  abbrev first_parts : List StmtTree
  first_parts =
      when (compared op.Ne attr.First (int i.asn.0)) (drop_with 7 ∷ []) ∷ next_hop_test i ∷ run (codes "ixp_as") ∷ transit_test i
      ++ (origin_test i ++ blackhole_parts router.blackhole)

  abbrev hop_ends : End
  hop_ends = hop_end rs route (first_as_not_peer_as s route) (is_own_hop s route) (list_any (is_hop_at router s route) r.interfaces) all_tags

  net_ends : (o : Option ℕ) → net_refusal r router route ≡ o → for_effect (stops rs o (at true [])) (running first_parts) ≡ net_end rs route o hop_ends
  net_ends None e = first_runs (short_enough e)
  net_ends (Some n) e = ap accepts (tell rs route true [] 1101 n refl refl refl)

  abbrev refusal_with : List (ℕ × ℕ × ℕ) → Option ℕ
  refusal_with ts =
      first_number
      ((prefix_too_long router route, 1) ∷ (prefix_too_short router route, 2) ∷ (prefix_is_bogon r route, 3) ∷ (path_empty route, 6) ∷ (path_too_long route, 5)
      ∷ (not (router.max_comms == 0) && (nat_lt router.max_comms (length route.pairs) || nat_lt router.max_comms (length ts)), 15) ∷ [])

  net_runs : running (run (codes "ixp_net") ∷ first_parts) (at true []) ≡ net_end rs route (net_refusal r router route) hop_ends
  net_runs =
      rw (shared.net (at true []) same (brought_again ∙ sym (append-nil (base rs route))))
      (ap (λ ts. for_effect (stops rs (refusal_with ts) (at true [])) (running first_parts)) brought_again
      ∙ net_ends (net_refusal r router route) refl)

  reports : (t : ℕ × ℕ × ℕ) → in_triples t ((rs, 1000, None) ∷ (rs, 1001, None) ∷ (rs, 1101, None) ∷ []) ≡ is_report rs t
  reports t = in_large rs t (1000 ∷ 1001 ∷ 1101 ∷ []) ∙ ap (λ b. t.0 == rs && b) (three t.1) where
    together : (x y z : Bool) → (x || (y || (z || false))) ≡ (x || y || z)
    together true y z = refl
    together false true z = refl
    together false false true = refl
    together false false false = refl

    three : (n : ℕ) → list_any (λ a. a == n) (1000 ∷ 1001 ∷ 1101 ∷ []) ≡ (n == 1000 || n == 1001 || n == 1101)
    three n = together (1000 == n) (1001 == n) (1101 == n) ∙ (λ j. eq_swap 1000 n j || eq_swap 1001 n j || eq_swap 1101 n j)

  none_listed : (asns : List Asn) → is_empty asns ≡ true → is_listed asns (last_of route.path) ≡ false
  none_listed [] e = refl
  none_listed (a ∷ asns) e = absurd (let bad : ⊥ = cc in bad)

  -- the whole filter
  pub in_runs : running (in_body i irr blackholes) route ≡ accepts (tagged r router s route)
  unfolding import_table findings
  in_runs =
      ap (λ ts. running (run (codes "ixp_net") ∷ first_parts) (record route { triples = ts }))
      (without_agree _ _ reports route.triples ∙ sym (append-nil (base rs route)))
      ∙ net_runs
      ∙ whole_said rs s.address.irr (is_empty s.origins) listed is_drop covered router.rpki (state_of r route) allowed (none_listed s.origins) route
      (prefix_too_long router route) (prefix_too_short router route) (prefix_is_bogon r route) (path_empty route) (path_too_long route) (too_many_communities router route)
      (first_as_not_peer_as s route) (is_own_hop s route) (list_any (is_hop_at router s route) r.interfaces) (bogon_as_in_path r route) transit_free
