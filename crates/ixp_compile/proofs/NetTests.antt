-- What the head's tests of any session's routes do.
use Rattle.std.proofs.Common.{◌≡◌, ℕ, ◌<◌, Bool, true, false, ◌&&◌, ◌||◌, ◌==◌, not, nat_lt, min, List, [], ◌∷◌, ◌++◌, length, map, filter, Option, Some, None, codes, refl, sym, ap, ◌∙◌, arith, lit<, if◌then◌else◌}
use Rattle.std.specs.List.{list_any}
use Rattle.std.specs.Option.{is_some}
use Rattle.std.proofs.lemmas.Bool.{ltb-true, ltb-false, lt-ltb, le-ltb, eq-eqb, ne_eqb, eqb-true, eqb-false}
use Rattle.ixp_num.specs.declared.addr.Addr.{Addr}
use Rattle.ixp_num.specs.declared.asn.Asn.{Asn}
use Rattle.ixp_num.specs.declared.pattern.Pattern.{Pattern}
use Rattle.ixp_num.specs.declared.prefix.Prefix.{Prefix}
use Rattle.ixp_num.specs.declared.family.Family.{Family}
use Rattle.ixp_num.specs.Families.{same_family, bits_of}
use Rattle.ixp_num.specs.Prefixes.{is_in_set, matches}
use Rattle.ixp_lang.specs.declared.route.Route.{Route}
use Rattle.ixp_lang.specs.declared.expr.Attr.{Attr}
use Rattle.ixp_lang.specs.declared.expr.Attr.TheVariants as attr
use Rattle.ixp_lang.specs.declared.expr.Op.TheVariants as op
use Rattle.ixp_lang.specs.declared.value.SetLit.{SetLit}
use Rattle.ixp_lang.specs.declared.value.SetLit.TheVariants as set
use Rattle.ixp_lang.specs.Attributes.{is_in, in_ranges, attribute_of}
use Rattle.ixp_lang.specs.declared.value.Value.TheVariants as value
use Rattle.ixp_lang.specs.Steering.{has_pair}
use Rattle.ixp_lang.specs.Trees.{StmtTree, named, stmts}
use Rattle.ixp_lang.specs.Meaning.{Environment, Known, End, falls, returns, for_effect, runs_all}
use Rattle.ixp_registry.specs.declared.registry.Registry.{Registry}
use Rattle.ixp_registry.specs.declared.router.Router.{Router}
use Rattle.ixp_compile.specs.Header.{is_too_long as too_long, community_tests, bogons_of, net_body, joined_ranges, bogon_as_body, transit_body, blackhole_body}
use Rattle.ixp_compile.specs.declared.inputs.HeaderInputs.{HeaderInputs}
use Rattle.ixp_compile.specs.Generated.{header_inputs}
use Rattle.ixp_policy.specs.Blackholes.{is_blackhole, is_host_net}
use Rattle.ixp_policy.specs.Import.{prefix_is_bogon, is_bogon_as, bogon_as_in_path, is_listed}
use Rattle.ixp_compile.specs.Pieces.{int, compared, numbers, when, drop_with, where_any}
use Rattle.ixp_compile.specs.Shared.{FirstsAscend, IsNamed, HasNoReports, refused_with, stops, first_number, net_refusal, bogon_as_refusal, has_transit_as, transit_refusal}
use Rattle.ixp_compile.proofs.Communities.{any_filter, and_true, in_own_pairs}
use Rattle.ixp_compile.proofs.PublicSets.{joined_holds, numbers_hold, path_in, none_found}
use Rattle.ixp_compile.proofs.Running.{chooses}

-- a number of the language is the length of a list, up to where it matters
pub count_above : (n m : ℕ) → n < 4294967295 → nat_lt n (min m 4294967295) ≡ nat_lt n m
count_above n m small = go (nat_lt n m) refl where
  go : (b : Bool) → nat_lt n m ≡ b → nat_lt n (min m 4294967295) ≡ nat_lt n m
  go true e = let h : n < m = ltb-true n m e in lt-ltb n (min m 4294967295) (omega arith) ∙ sym e
  go false e = let h = ltb-false n m e in le-ltb n (min m 4294967295) (omega arith) ∙ sym e

pub count_zero : (m : ℕ) → (min m 4294967295 == 0) ≡ (m == 0)
count_zero m = go (m == 0) refl where
  go : (b : Bool) → (m == 0) ≡ b → (min m 4294967295 == 0) ≡ (m == 0)
  go true e = let h : m ≡ 0 = eqb-true m 0 e in eq-eqb (min m 4294967295) 0 (omega arith) ∙ sym e
  go false e = ne_eqb (min m 4294967295) 0 (λ f. eqb-false m 0 e (omega arith)) ∙ sym e

-- the patterns of another family match no net
pub bogons_alike : (family : Family) (net : Prefix) → net.family ≡ family → (ts : List Pattern)
    → is_in_set (filter (λ t. same_family t.prefix.family family) ts) net ≡ is_in_set ts net
bogons_alike family net e ts =
    any_filter (λ t. matches t net) (λ t. same_family t.prefix.family family)
    (λ t other. let apart : same_family t.prefix.family net.family ≡ false = ap (same_family t.prefix.family) e ∙ other in rw apart)
    ts

module _ (env : Environment) (k : Known) (rs : ℕ)
    (drop : (n : ℕ) (route : Route) → k.call (codes "ixp_drop") (value.Int n ∷ []) route ≡ refused_with rs n route) where
  -- a test that refuses, and what follows it
  pub refuses : {a b : Bool} (n : ℕ) (route : Route) {x : End} (o : Option ℕ) (next : Route → End) → a ≡ b → x ≡ stops rs o route
      → (if a then for_effect (k.call (codes "ixp_drop") (value.Int n ∷ []) route) next else x) ≡ stops rs (if b then Some n else o) route
  refuses n route o next e p = chooses (λ o. stops rs o route) e (ap (λ x. for_effect x next) (drop n route)) p

  -- a test of a set that has a name, and of one that would be empty
  pub named_refuses : {A : Type 0} (name : List ℕ) (made : List A → SetLit) (a : Attr) (n : ℕ) (xs : List A) (rest : List StmtTree) (route : Route)
      (b : Bool) (o : Option ℕ) → IsNamed k name made xs
      → is_in (attribute_of env.from a route) (value.Set (made [])) ≡ false
      → is_in (attribute_of env.from a route) (value.Set (made xs)) ≡ b
      → runs_all env k [] (stmts rest) route falls ≡ stops rs o route
      → runs_all env k [] (stmts (where_any xs (when (compared op.In a (named name)) (drop_with n ∷ []) ∷ []) ++ rest)) route falls ≡ stops rs (if b then Some n else o) route
  named_refuses name made a n [] rest route b o is none e p = rw (sym e ∙ none) p
  named_refuses name made a n (x ∷ xs) rest route b o is none e p = rw is (refuses n route o _ e p)

  -- the same as the last test
  pub named_refuses_last : {A : Type 0} (name : List ℕ) (made : List A → SetLit) (a : Attr) (n : ℕ) (xs : List A) (route : Route) (b : Bool)
      → IsNamed k name made xs
      → is_in (attribute_of env.from a route) (value.Set (made [])) ≡ false
      → is_in (attribute_of env.from a route) (value.Set (made xs)) ≡ b
      → runs_all env k [] (stmts (where_any xs (when (compared op.In a (named name)) (drop_with n ∷ []) ∷ []))) route falls
      ≡ stops rs (first_number ((b, n) ∷ [])) route
  named_refuses_last name made a n [] route b is none e = rw (sym e ∙ none) refl
  named_refuses_last name made a n (x ∷ xs) route b is none e = rw is (refuses n route None _ e refl)

  -- numbers that may stand in no path
  pub bogon_as_runs : (h : HeaderInputs) (r : Registry) (route : Route) → h.bogon_as ≡ r.public.bogon_as → FirstsAscend r.public.bogon_as
      → IsNamed k (codes "ixp_bogon_as") set.Ints (joined_ranges h.bogon_as)
      → runs_all env k [] (stmts (bogon_as_body h)) route falls ≡ stops rs (bogon_as_refusal r route) route
  bogon_as_runs h r route same up is =
      named_refuses_last (codes "ixp_bogon_as") set.Ints attr.Path 4 (joined_ranges h.bogon_as) route (bogon_as_in_path r route) is
      (path_in [] (λ a. false) (λ a. refl) route.path ∙ none_found (λ a. false) (λ a. refl) route.path)
      (ap (λ bs. list_any (λ (n : ℕ × ℕ). in_ranges n.0 (joined_ranges bs)) (map (λ (a : Asn). (a.0, a.0)) route.path)) same
      ∙ path_in (joined_ranges r.public.bogon_as) (is_bogon_as r) (λ a. joined_holds a.0 r.public.bogon_as up) route.path)

  -- networks that buy no transit
  pub transit_runs : (h : HeaderInputs) (r : Registry) (route : Route) → h.transit ≡ r.public.transit
      → IsNamed k (codes "ixp_transit_as") numbers h.transit
      → runs_all env k [] (stmts (transit_body h)) route falls ≡ stops rs (transit_refusal r route) route
  transit_runs h r route same is =
      named_refuses_last (codes "ixp_transit_as") numbers attr.Path 14 h.transit route (has_transit_as r route) is
      (path_in [] (λ a. false) (λ a. refl) route.path ∙ none_found (λ a. false) (λ a. refl) route.path)
      (ap (λ bs. list_any (λ (n : ℕ × ℕ). in_ranges n.0 (map (λ (a : Asn). (a.0, a.0)) bs)) (map (λ (a : Asn). (a.0, a.0)) route.path)) same
      ∙ path_in (map (λ a. (a.0, a.0)) r.public.transit) (λ a. is_listed r.public.transit a.0) (λ a. numbers_hold a.0 r.public.transit) route.path)

  module _ (router : Router) (route : Route) (same : route.net.family ≡ router.family) where
    -- the net is too long, and the route isn't a blackhole route
    pub long_refuses : (bh : Option Addr) (is_host has_pair : Bool) (rest : List StmtTree) (o : Option ℕ)
        → (is_some bh ≡ true → k.call (codes "ixp_bh") [] route ≡ returns (value.Bool (is_some bh && is_host && has_pair)) route)
        → runs_all env k [] (stmts rest) route falls ≡ stops rs o route
        → runs_all env k [] (stmts (when (too_long bh router.high) (drop_with 1 ∷ []) ∷ rest)) route falls
        ≡ stops rs (if nat_lt router.high route.net.len && not (is_some bh && is_host && has_pair) then Some 1 else o) route
    long_refuses None is_host has_pair rest o call p = refuses 1 route o _ (sym (and_true (nat_lt router.high route.net.len))) p
    long_refuses (Some a) is_host has_pair rest o call p = go (nat_lt router.high route.net.len) refl where
      go : (b : Bool) → nat_lt router.high route.net.len ≡ b → runs_all env k [] (stmts (when (too_long (Some a) router.high) (drop_with 1 ∷ []) ∷ rest)) route falls
          ≡ stops rs (if nat_lt router.high route.net.len && not (is_host && has_pair) then Some 1 else o) route
      go false e = rw e p
      go true e = rw (e, call refl) (refuses 1 route o _ refl p)

    abbrev has_many : ℕ → List (ℕ × ℕ × ℕ) → Bool
    has_many bound triples = not (bound == 0) && (nat_lt bound (length route.pairs) || nat_lt bound (length triples))

    -- the tests of how many communities there are
    pub community_refuses : (bound : ℕ) → bound < 4294967295
        → runs_all env k [] (stmts (community_tests bound)) route falls ≡ stops rs (first_number ((has_many bound route.triples, 15) ∷ [])) route
    community_refuses bound small = go (bound == 0) refl where
      either : (b c : Bool) → first_number ((b, 15) ∷ (c, 15) ∷ []) ≡ first_number ((b || c, 15) ∷ [])
      either true c = refl
      either false c = refl

      by_lengths : (b c : Bool) → nat_lt bound (min (length route.pairs) 4294967295) ≡ b → nat_lt bound (min (length route.triples) 4294967295) ≡ c
          → (bound == 0) ≡ false
          → runs_all env k [] (stmts (community_tests bound)) route falls ≡ stops rs (first_number ((b || c, 15) ∷ [])) route
      by_lengths b c eb ec e =
          rw e (refuses 15 route (first_number ((c, 15) ∷ [])) _ eb (refuses 15 route None _ ec refl) ∙ ap (λ o. stops rs o route) (either b c))

      go : (b : Bool) → (bound == 0) ≡ b
          → runs_all env k [] (stmts (community_tests bound)) route falls
          ≡ stops rs (first_number ((not b && (nat_lt bound (length route.pairs) || nat_lt bound (length route.triples)), 15) ∷ [])) route
      go true e = rw e refl
      go false e =
          by_lengths (nat_lt bound (length route.pairs)) (nat_lt bound (length route.triples)) (count_above bound (length route.pairs) small)
          (count_above bound (length route.triples) small) e

    abbrev bogon_rest : List StmtTree
    bogon_rest =
        when (compared op.Eq attr.Len (int 0)) (drop_with 6 ∷ []) ∷ when (compared op.Gt attr.Len (int 64)) (drop_with 5 ∷ [])
        ∷ community_tests router.max_comms

    abbrev net_rest : Registry → List StmtTree
    net_rest r =
        when (compared op.Lt attr.NetLen (int router.low)) (drop_with 2 ∷ [])
        ∷ where_any (bogons_of (header_inputs r router)) (when (compared op.In attr.Net (named (codes "ixp_bogons"))) (drop_with 3 ∷ []) ∷ [])
        ++ bogon_rest

    -- all of them, in the order of the import table
    pub net_runs : (r : Registry) → router.max_comms < 4294967295 → HasNoReports router.asn.0 route
        → IsNamed k (codes "ixp_bogons") set.Prefixes (bogons_of (header_inputs r router))
        → (is_some router.blackhole ≡ true → k.call (codes "ixp_bh") [] route ≡ returns (value.Bool (is_blackhole router route)) route)
        → runs_all env k [] (stmts (net_body (header_inputs r router))) route falls ≡ stops rs (net_refusal r router route) route
    net_runs r small clean is call =
        long_refuses router.blackhole (is_host_net route.net) (has_pair route 65535 666) (net_rest r) _ call
        (refuses 2 route _ _ refl
        (named_refuses (codes "ixp_bogons") set.Prefixes attr.Net 3 (bogons_of (header_inputs r router)) bogon_rest route (prefix_is_bogon r route) _ is refl
        (bogons_alike router.family route.net same r.public.bogons)
        (refuses 6 route _ _ (count_zero (length route.path))
        (refuses 5 route _ _ (count_above 64 (length route.path) (lit< tt))
        (community_refuses router.max_comms small ∙ ap (λ ts. stops rs (first_number ((has_many router.max_comms ts, 15) ∷ [])) route) (sym clean))))))

-- whether the route's traffic is to be dropped
pub blackhole_runs : (env : Environment) (k : Known) (family : Family) (route : Route) → route.net.family ≡ family
    → runs_all env k [] (stmts (blackhole_body family)) route falls ≡ returns (value.Bool (is_host_net route.net && has_pair route 65535 666)) route
blackhole_runs env k family route same = go (is_host_net route.net) (ap (λ f. route.net.len == bits_of f) (sym same))
  where
    told : Bool → End
    told b = returns (value.Bool b) route

    as_told : (b : Bool) → (if b then true else false) ≡ b
    as_told true = refl
    as_told false = refl

    go : (b : Bool) → (route.net.len == bits_of family) ≡ b
        → runs_all env k [] (stmts (blackhole_body family)) route falls ≡ returns (value.Bool (b && has_pair route 65535 666)) route
    go false e = rw e refl
    go true e = rw e (chooses told (in_own_pairs 65535 666 route.pairs) refl refl ∙ ap told (as_told (has_pair route 65535 666)))

pub blackhole_answers : (env : Environment) (k : Known) (router : Router) (route : Route) → is_some router.blackhole ≡ true → route.net.family ≡ router.family
    → runs_all env k [] (stmts (blackhole_body router.family)) route falls ≡ returns (value.Bool (is_blackhole router route)) route
blackhole_answers env k router route there same =
    blackhole_runs env k router.family route same
    ∙ ap (λ b. returns (value.Bool (b && is_host_net route.net && has_pair route 65535 666)) route) (sym there)
