-- Registries that a member sees alike: its sessions, their parts and what the rules say of its routes are the
-- same.
use Rattle.std.proofs.Common.{◌≡◌, ℕ, List, [], ◌∷◌, ◌++◌, Bool, true, false, not, ◌==◌, ◌&&◌, Option, Some, None, cond, filter, flat_map, refl, sym, ap, ◌∙◌, subst, if◌then◌else◌}
use Rattle.std.specs.declared.cmp.Ordering.{Ordering}
use Rattle.std.specs.declared.cmp.Ordering.TheVariants.{Less, Equal, Greater}
use Rattle.std.specs.Ordering.{match_ordering}
use Rattle.std.specs.List.{list_any}
use Rattle.std.proofs.lemmas.Bool.{eqb-false, eqb-true}
use Rattle.std.proofs.lemmas.Map.Views.{any-filter_same}
use Rattle.ixp_num.specs.AddressForms.{version_of}
use Rattle.ixp_num.specs.declared.asn.Asn.{Asn}
use Rattle.ixp_num.specs.declared.family.Family.{Family}
use Rattle.ixp_num.specs.declared.prefix.Prefix.{Prefix}
use Rattle.ixp_num_tables.specs.Tables.{order, Ascends, find, if_there}
use Rattle.ixp_num_tables.proofs.Orders.{head_same}
use Rattle.ixp_num_tables.proofs.Places.{above_equal, find_above}
use Rattle.ixp_num_tables.proofs.Views.{find-filter}
use Rattle.ixp_lang.specs.declared.route.Route.{Route}
use Rattle.ixp_registry.specs.declared.lists.IrrList.{IrrList}
use Rattle.ixp_registry.specs.declared.lists.OriginList.{OriginList}
use Rattle.ixp_registry.specs.declared.lists.PublicLists.{PublicLists}
use Rattle.ixp_registry.specs.declared.members.Member.{Member}
use Rattle.ixp_registry.specs.declared.network.IfAddr.{IfAddr}
use Rattle.ixp_registry.specs.declared.network.Interface.{Interface}
use Rattle.ixp_registry.specs.declared.registry.Registry.{Registry}
use Rattle.ixp_registry.specs.declared.router.Router.{Router}
use Rattle.ixp_registry.specs.declared.rules.MemberRule.{MemberRule}
use Rattle.ixp_registry.specs.Keys.{member_key, interface_key, irr_key, origins_key, rules_key}
use Rattle.ixp_registry.specs.Lookups.{is_connected}
use Rattle.ixp_registry.specs.Sessions.{Session, address_of, ascending, is_beside, is_session, listed_address, origins_in, prefixes_in, rules_of, session, session_at, session_with}
use Rattle.ixp_policy.specs.declared.line.Line.{Line}
use Rattle.ixp_policy.specs.declared.line.Reason.TheVariants.{PrefixTooLong, PrefixTooShort, Bogon, PathEmpty, PathTooLong, TooManyCommunities, FirstAsNotPeerAs, NextHopNotPeer, BogonAsInPath, TransitFreeAsInPath, OriginNotRegistered, OriginInvalid, PrefixNotRegistered}
use Rattle.ixp_policy.specs.Import.{bogon_as_in_path, brought_triples, first_as_not_peer_as, first_that_holds, import_table, is_hop_at, is_own_hop, line, origin_invalid, origin_not_registered, path_empty, path_too_long, prefix_is_bogon, prefix_not_registered, prefix_too_long, prefix_too_short, too_many_communities, transit_free_as_in_path}
use Rattle.ixp_policy.specs.Tags.{chosen, findings, refusal_told, tagged}
use Rattle.ixp_compile.specs.Generated.{footer, header_inputs, inputs, own_part, session_part}
use Rattle.ixp_compile.specs.Header.{header}
use Rattle.ixp_compile.specs.Pieces.{in_turn}

-- Rows of one owner.

-- what is kept of a row that is found
abbrev pub kept_row : {R : Type 0} → (R → Bool) → Option R → Option R
kept_row p o = if_there o None (λ r. if p r then Some r else None)

module _ {R : Type 0} (key : R → List ℕ) where
  find_step : (p : R → Bool) (k : List ℕ) (r : R) (rs : List R) (b : Bool) (o : Ordering) → p r ≡ b → order (key r) k ≡ o → (o ≡ Equal → find key k rs ≡ None)
      → find key k (filter p rs) ≡ kept_row p (find key k rs)
      → find key k (cond b (r ∷ filter p rs) (filter p rs)) ≡ kept_row p (match_ordering o (find key k rs) (Some r) (find key k rs))
  find_step p k r rs true Less e x none rest = ap (λ o. match_ordering o (find key k (filter p rs)) (Some r) (find key k (filter p rs))) x ∙ rest
  find_step p k r rs true Equal e x none rest =
      ap (λ o. match_ordering o (find key k (filter p rs)) (Some r) (find key k (filter p rs))) x ∙ sym (ap (λ b. if b then Some r else None) e)
  find_step p k r rs true Greater e x none rest = ap (λ o. match_ordering o (find key k (filter p rs)) (Some r) (find key k (filter p rs))) x ∙ rest
  find_step p k r rs false Less e x none rest = rest
  find_step p k r rs false Equal e x none rest = rest ∙ (ap (kept_row p) (none refl) ∙ sym (ap (λ b. if b then Some r else None) e))
  find_step p k r rs false Greater e x none rest = rest

  -- a row of the owner's is found among its rows, and no other one
  pub find_own : (p : R → Bool) (k : List ℕ) (rs : List R) → Ascends key rs → find key k (filter p rs) ≡ kept_row p (find key k rs)
  find_own p k [] up = refl
  find_own p k (r ∷ rs) up =
      find_step p k r rs (p r) (order (key r) k) refl refl (λ e. find_above key k rs (above_equal key r k rs e up.0)) (find_own p k rs up.1)

-- rows that pass a test which the owner's alone can pass
filter_own : {R : Type 0} (h p : R → Bool) → ((r : R) → p r ≡ false → h r ≡ false) → (rs : List R) → filter h rs ≡ filter h (filter p rs)
filter_own h p none [] = refl
filter_own h p none (r ∷ rs) = by_test (p r) refl (filter_own h p none rs) where
  by_test : (b : Bool) → p r ≡ b → filter h rs ≡ filter h (filter p rs) → filter h (r ∷ rs) ≡ filter h (cond b (r ∷ filter p rs) (filter p rs))
  by_test true e rest = ap (λ f. cond (h r) (r ∷ f) f) rest
  by_test false e rest = ap (λ b. cond b (r ∷ filter h rs) (filter h rs)) (none r e) ∙ rest

any_own : {R : Type 0} (h p : R → Bool) → ((r : R) → h r ≡ true → p r ≡ true) → (rs : List R) → list_any h rs ≡ list_any h (filter p rs)
any_own h p all rs = sym (any-filter_same h p true all rs)

and_first : (a b : Bool) → (a && b) ≡ true → a ≡ true
and_first true b e = refl
and_first false b e = e

and_none : (a b : Bool) → a ≡ false → (a && b) ≡ false
and_none false b e = refl
and_none true b e = absurd (let bad : ⊥ = cc in bad)

same_number : (m n : ℕ) → m ≡ n → (m == n) ≡ true
same_number m n is = by_test (m == n) refl where
  by_test : (b : Bool) → (m == n) ≡ b → b ≡ true
  by_test true h = refl
  by_test false h = absurd (eqb-false m n h is)

-- What a member sees of two registries.

abbrev pub is_mine : ℕ → Interface → Bool
is_mine m i = i.member == m

pub record SameRows (m : ℕ) (r t : Registry) : Type 0 where
  pub member : find member_key (m ∷ []) r.members ≡ find member_key (m ∷ []) t.members
  pub interfaces : filter (is_mine m) r.interfaces ≡ filter (is_mine m) t.interfaces
  pub irr : filter (λ l. l.member == m) r.irr ≡ filter (λ l. l.member == m) t.irr
  pub origins : filter (λ l. l.member == m) r.origins ≡ filter (λ l. l.member == m) t.origins
  pub rules : find rules_key (m ∷ []) r.rules ≡ find rules_key (m ∷ []) t.rules
  pub routers : r.routers ≡ t.routers
  pub public : r.public ≡ t.public

-- Sessions.

prefixes_alike : (m : ℕ) (r t : Registry) (family : Family) → SameRows m r t → prefixes_in r m family ≡ prefixes_in t m family
prefixes_alike m r t family same = ap (λ o. if_there o [] (λ l. l.prefixes)) lists where
  own : (l : IrrList) → order (irr_key l) (m ∷ version_of family ∷ []) ≡ Equal → (l.member == m) ≡ true
  own l e = same_number l.member m (head_same l.member m (version_of l.family ∷ []) (version_of family ∷ []) e)

  lists : find irr_key (m ∷ version_of family ∷ []) r.irr ≡ find irr_key (m ∷ version_of family ∷ []) t.irr
  lists =
      sym (find-filter irr_key (λ l. l.member == m) (m ∷ version_of family ∷ []) r.irr own)
      ∙ (ap (find irr_key (m ∷ version_of family ∷ [])) same.irr ∙ find-filter irr_key (λ l. l.member == m) (m ∷ version_of family ∷ []) t.irr own)

origins_alike : (m : ℕ) (r t : Registry) (family : Family) → SameRows m r t → origins_in r m family ≡ origins_in t m family
origins_alike m r t family same = ap (λ o. if_there o [] (λ l. l.asns)) lists where
  own : (l : OriginList) → order (origins_key l) (m ∷ version_of family ∷ []) ≡ Equal → (l.member == m) ≡ true
  own l e = same_number l.member m (head_same l.member m (version_of l.family ∷ []) (version_of family ∷ []) e)

  lists : find origins_key (m ∷ version_of family ∷ []) r.origins ≡ find origins_key (m ∷ version_of family ∷ []) t.origins
  lists =
      sym (find-filter origins_key (λ l. l.member == m) (m ∷ version_of family ∷ []) r.origins own)
      ∙ (ap (find origins_key (m ∷ version_of family ∷ [])) same.origins ∙ find-filter origins_key (λ l. l.member == m) (m ∷ version_of family ∷ []) t.origins own)

rules_alike : (m : ℕ) (r t : Registry) → SameRows m r t → rules_of r m ≡ rules_of t m
rules_alike m r t same = ap (λ o. if_there o [] (λ l. l.rules)) same.rules

abbrev made : Interface → IfAddr → Member → List Prefix → List Asn → List MemberRule → Option Session
made i a m prefixes origins rules = Some (record { interface = i; address = a; member = m; prefixes = prefixes; origins = origins; rules = rules })

with_alike : (r t : Registry) (router : Router) (i : Interface) (a : Option IfAddr) (m : Option Member) → SameRows i.member r t → session_with r router i a m ≡ session_with t router i a m
with_alike r t router i None m same = refl
with_alike r t router i (Some a) None same = refl
with_alike r t router i (Some a) (Some m) same =
    ap (λ ps. made i a m ps (origins_in r i.member router.family) (rules_of r i.member)) (prefixes_alike i.member r t router.family same)
    ∙ (ap (λ os. made i a m (prefixes_in t i.member router.family) os (rules_of r i.member)) (origins_alike i.member r t router.family same)
    ∙ ap (made i a m (prefixes_in t i.member router.family) (origins_in t i.member router.family)) (rules_alike i.member r t same))

at_alike : (r t : Registry) (router : Router) (i : Interface) → SameRows i.member r t → session_at r router i ≡ session_at t router i
at_alike r t router i same =
    ap (λ o. if i.vlan == router.vlan && if_there (address_of router.family i) false (λ a. a.rs) && if_there o false (λ m. is_connected m.status)
    then session_with r router i (address_of router.family i) o else None) same.member
    ∙ ap (λ x. if is_session t router i then x else None) (with_alike r t router i (address_of router.family i) (find member_key (i.member ∷ []) t.members) same)

-- An interface of a member's own.

abbrev pub owned : ℕ → Option Interface → Bool
owned m o = if_there o false (is_mine m)

some_kept : (m : ℕ) (o : Option Interface) → owned m o ≡ true → kept_row (is_mine m) o ≡ o
some_kept m None e = refl
some_kept m (Some i) e = ap (λ b. if b then Some i else None) e

none_kept : (m : ℕ) (o : Option Interface) → owned m o ≡ false → kept_row (is_mine m) o ≡ None
none_kept m None e = refl
none_kept m (Some i) e = ap (λ b. if b then Some i else None) e

-- what is kept of a row tells whether it is the member's
kept_owned : (m : ℕ) (o : Option Interface) → owned m (kept_row (is_mine m) o) ≡ owned m o
kept_owned m o = by_test (owned m o) refl where
  by_test : (b : Bool) → owned m o ≡ b → owned m (kept_row (is_mine m) o) ≡ owned m o
  by_test true e = ap (owned m) (some_kept m o e)
  by_test false e = ap (owned m) (none_kept m o e) ∙ sym e

module _ (m : ℕ) (r t : Registry) (same : SameRows m r t) (up : Ascends interface_key r.interfaces) (up' : Ascends interface_key t.interfaces) (n : ℕ) where
  abbrev here : Option Interface
  here = find interface_key (n ∷ []) r.interfaces

  abbrev there : Option Interface
  there = find interface_key (n ∷ []) t.interfaces

  kept_alike : kept_row (is_mine m) here ≡ kept_row (is_mine m) there
  kept_alike =
      sym (find_own interface_key (is_mine m) (n ∷ []) r.interfaces up)
      ∙ (ap (find interface_key (n ∷ [])) same.interfaces ∙ find_own interface_key (is_mine m) (n ∷ []) t.interfaces up')

  pub owned_alike : owned m here ≡ owned m there
  owned_alike = sym (kept_owned m here) ∙ (ap (owned m) kept_alike ∙ kept_owned m there)

  -- its own interface is the same one
  pub found_alike : owned m here ≡ true → here ≡ there
  found_alike e = sym (some_kept m here e) ∙ (kept_alike ∙ some_kept m there (sym owned_alike ∙ e))

  -- and so is its session
  pub session_alike : (router : Router) → owned m here ≡ true → session r router n ≡ session t router n
  session_alike router e = ap (λ o. if_there o None (session_at r router)) (found_alike e) ∙ by_row there (sym owned_alike ∙ e) where
    by_row : (o : Option Interface) → owned m o ≡ true → if_there o None (session_at r router) ≡ if_there o None (session_at t router)
    by_row None mine = refl
    by_row (Some i) mine = at_alike r t router i (subst (λ x. SameRows x r t) (sym (eqb-true i.member m mine)) same)

-- What depends on a session's own rows.

module _ (r t : Registry) (router : Router) (s : Session) (same : SameRows s.interface.member r t) where
  -- what lies beside the session is its member's
  beside_alike : filter (is_beside s) r.interfaces ≡ filter (is_beside s) t.interfaces
  beside_alike = own r ∙ (ap (filter (is_beside s)) same.interfaces ∙ sym (own t)) where
    own : (q : Registry) → filter (is_beside s) q.interfaces ≡ filter (is_beside s) (filter (is_mine s.interface.member) q.interfaces)
    own q = filter_own (is_beside s) (is_mine s.interface.member) (λ i none. and_none (i.member == s.interface.member) (i.vlan == s.interface.vlan) none) q.interfaces

  -- the session's own part
  pub part_alike : own_part r router s ≡ own_part t router s
  part_alike =
      ap (λ (p : PublicLists). own_part (record r { public = p }) router s) same.public
      ∙ ap (λ (is : List Interface). in_turn (
      header (header_inputs t router)
      ∷ session_part (record (inputs t router s) { addresses = ascending (flat_map (λ i. listed_address (address_of router.family i)) is) })
      ∷ footer ∷ [])) beside_alike

  module _ (route : Route) where
    hop_alike : list_any (is_hop_at router s route) r.interfaces ≡ list_any (is_hop_at router s route) t.interfaces
    hop_alike = own r ∙ (ap (list_any (is_hop_at router s route)) same.interfaces ∙ sym (own t)) where
      own : (q : Registry) → list_any (is_hop_at router s route) q.interfaces ≡ list_any (is_hop_at router s route) (filter (is_mine s.interface.member) q.interfaces)
      own q = any_own (is_hop_at router s route) (is_mine s.interface.member) (λ i hop. and_first (i.member == s.interface.member) (i.vlan == s.interface.vlan) (and_first (is_beside s i) _ hop)) q.interfaces

    -- the lines by which its routes are refused
    pub table_alike : import_table r router s route ≡ import_table t router s route
    unfolding import_table
    table_alike =
        ap (λ (p : PublicLists). import_table (record r { public = p }) router s route) same.public
        ∙ ap (λ (b : Bool).
        line PrefixTooLong (prefix_too_long router route)
        ∷ line PrefixTooShort (prefix_too_short router route)
        ∷ line Bogon (prefix_is_bogon t route)
        ∷ line PathEmpty (path_empty route)
        ∷ line PathTooLong (path_too_long route)
        ∷ line TooManyCommunities (too_many_communities router route)
        ∷ line FirstAsNotPeerAs (first_as_not_peer_as s route)
        ∷ line NextHopNotPeer (not (is_own_hop s route) && not b)
        ∷ line BogonAsInPath (bogon_as_in_path t route)
        ∷ line TransitFreeAsInPath (transit_free_as_in_path t s route)
        ∷ line OriginNotRegistered (origin_not_registered s route)
        ∷ line OriginInvalid (origin_invalid t router route)
        ∷ line PrefixNotRegistered (prefix_not_registered t router s route)
        ∷ []) hop_alike

    findings_alike : (lines : List Line) → findings r router s route lines ≡ findings t router s route lines
    unfolding findings
    findings_alike lines = ap (λ (p : PublicLists). findings (record r { public = p }) router s route lines) same.public

    -- and its routes as the router holds them
    pub tagged_alike : tagged r router s route ≡ tagged t router s route
    tagged_alike =
        ap (λ (lines : List Line). record route { triples = brought_triples router.asn.0 route ++ (chosen (findings r router s route lines) ++ refusal_told router (first_that_holds lines)) }) table_alike
        ∙ ap (λ fs. record route { triples = brought_triples router.asn.0 route ++ (chosen fs ++ refusal_told router (first_that_holds (import_table t router s route))) }) (findings_alike (import_table t router s route))
