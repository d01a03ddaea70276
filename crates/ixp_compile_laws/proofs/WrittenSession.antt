-- The tokens of a session's part are such as texts have.
use Rattle.std.proofs.Common.{◌≡◌, ℕ, ◌+◌, ◌<◌, ◌^◌, ◌==◌, Bool, true, false, ◌&&◌, nat_le, List, [], ◌∷◌, ◌++◌, map, filter, flat_map, reverse, codes, Option, Some, None, is_none, refl, sym, ap, ◌∙◌, subst, if◌then◌else◌}
use Rattle.std.specs.List.{list_all}
use Rattle.std.proofs.lemmas.Bool.{and_parts, and_from}
use Rattle.std.proofs.lemmas.List.{reverse-append}
use Rattle.ixp_num.specs.declared.addr.Addr.{Addr}
use Rattle.ixp_num.specs.declared.asn.Asn.{Asn}
use Rattle.ixp_num.specs.declared.pattern.Pattern.{Pattern}
use Rattle.ixp_num.specs.declared.prefix.Prefix.{Prefix}
use Rattle.ixp_lang.specs.Trees.{StmtTree, set_literal, delete_triples, accept, return_value}
use Rattle.ixp_lang.specs.declared.value.SetLit.TheVariants as set
use Rattle.ixp_num_tables.specs.Tables.{if_there}
use Rattle.ixp_lang_tokens.specs.declared.token.Mark.TheVariants.{BlockClose}
use Rattle.ixp_registry.specs.declared.rules.Action.{Action}
use Rattle.ixp_registry.specs.declared.rules.Action.TheVariants.{AsIs, Prepend, Stop}
use Rattle.ixp_registry.specs.declared.rules.MemberRule.{MemberRule}
use Rattle.ixp_lang_laws.specs.Canonical.{sign}
use Rattle.ixp_lang_laws.specs.CanonicalItems.{password_tokens, limit_tokens}
use Rattle.ixp_compile.specs.declared.inputs.Inputs.{Inputs}
use Rattle.ixp_compile.specs.Pieces.{defined, numbers, run, truth_value, when}
use Rattle.ixp_compile.specs.MemberRules.{within, is_printed, any_number, number_or_0, pairs_rewritten, steering_actions, action_written, rewriting, where_about, advertise_rule, advertise_rules, is_receive, receive_test, receive_rule, receive_body}
use Rattle.ixp_compile.specs.Fragment.{irr_name, origins_name, blackhole_name, if_blackholes, member_sets, net_test, first_tests, transit_test, origin_test, registered_origin, blackhole_test, blackhole_set, told_registered, state_test, prefix_test, in_body, up_body, down_body, if_not_empty, if_not_0, session_filters, protocols, fragment}
use Rattle.ixp_lang_laws.specs.Sound.{is_lawful}
use Rattle.ixp_compile_laws.proofs.OtherFilters.{lawful_within}
use Rattle.ixp_compile_laws.proofs.WrittenHead.{patterns_defined, numbers_defined}
use Rattle.ixp_compile_laws.proofs.WrittenNames.{HeadNames, SessionNames, master_named, roas_named}
use Rattle.ixp_compile_laws.proofs.WrittenTokens.{written, is_word_name, is_small, is_said, is_small_range, Same, PartSame, ItemsSame, both_same, both_items, if_same, if_items, addrs_written, pattern_same}

-- numbers of 32 bits
abbrev pub is_small_action : Action → Bool
is_small_action AsIs = true
is_small_action Stop = true
is_small_action (Prepend k) = is_small (100 + k)

abbrev pub is_small_rule : MemberRule → Bool
is_small_rule rule = if_there rule.peer true (λ p. is_small p.0) && is_small_action rule.action

-- numbers of 32 bits, and a secret that texts have
pub record SmallSession (i : Inputs) : Type 0 where
  pub rs : is_small i.rs.0 ≡ true
  pub asn : is_small i.asn.0 ≡ true
  pub interface : i.interface < 2 ^ 32
  pub limit : is_small i.address.max_prefix ≡ true
  pub secret : is_said i.address.secret ≡ true
  pub origins : list_all is_small_range (map (λ a. (a.0, a.0)) i.origins) ≡ true
  pub rules : list_all is_small_rule i.rules ≡ true

-- Lists.

all_filtered : {A : Type 0} (test kept : A → Bool) (xs : List A) → list_all test xs ≡ true → list_all test (filter kept xs) ≡ true
all_filtered test kept [] all = refl
all_filtered test kept (x ∷ xs) all = let parts = and_parts (test x) (list_all test xs) all in by_case (kept x) parts.0 (all_filtered test kept xs parts.1) where
  by_case : (b : Bool) → test x ≡ true → list_all test (filter kept xs) ≡ true → list_all test (if b then x ∷ filter kept xs else filter kept xs) ≡ true
  by_case true one rest = and_from (test x) _ one rest
  by_case false one rest = rest

all_joined : {A : Type 0} (test : A → Bool) (xs ys : List A) → list_all test xs ≡ true → list_all test ys ≡ true → list_all test (xs ++ ys) ≡ true
all_joined test [] ys one two = two
all_joined test (x ∷ xs) ys one two = let parts = and_parts (test x) (list_all test xs) one in and_from (test x) _ parts.0 (all_joined test xs ys parts.1 two)

all_reversed : {A : Type 0} (test : A → Bool) (xs : List A) → list_all test xs ≡ true → list_all test (reverse xs) ≡ true
all_reversed test [] all = refl
all_reversed test (x ∷ xs) all =
    let parts = and_parts (test x) (list_all test xs) all in
    subst (λ l. list_all test l ≡ true) (sym (reverse-append (x ∷ []) xs))
    (all_joined test (reverse xs) (x ∷ []) (all_reversed test xs parts.1) (and_from (test x) true parts.0 refl))

-- A member's rules.

module _ (rs : ℕ) (server : is_small rs ≡ true) where
  pairs_same : (peer : Option Asn) → if_there peer true (λ p. is_small p.0) ≡ true → PartSame (pairs_rewritten rs peer)
  pairs_same None small = if_same (nat_le rs 65535 && true) _ [] (λ rest. rw server refl) (λ rest. refl)
  pairs_same (Some p) small = if_same (nat_le rs 65535 && nat_le p.0 65535) _ [] (λ rest. rw (small, server) refl) (λ rest. refl)

  taken_same : (peer : Option Asn) (ss : List StmtTree) → if_there peer true (λ p. is_small p.0) ≡ true → PartSame ss
      → PartSame (delete_triples (set_literal (set.Triples (map (λ a. (rs, a, any_number peer)) steering_actions))) ∷ ss)
  taken_same None ss small same rest = rw server (same rest)
  taken_same (Some p) ss small same rest = rw (server, small) (same rest)

  action_same : (p : ℕ) (a : Action) → is_small p ≡ true → is_small_action a ≡ true → PartSame (action_written rs p a)
  action_same p Stop small fits rest = rw (server, small) refl
  action_same p AsIs small fits rest = rw (server, small) refl
  action_same p (Prepend k) small fits rest = rw (server, small, fits) refl

  small_or_0 : (peer : Option Asn) → if_there peer true (λ p. is_small p.0) ≡ true → is_small (number_or_0 peer) ≡ true
  small_or_0 None small = refl
  small_or_0 (Some p) small = small

  rewriting_same : (rule : MemberRule) → is_small_rule rule ≡ true → PartSame (rewriting rs rule)
  rewriting_same rule small =
      let parts = and_parts (if_there rule.peer true (λ p. is_small p.0)) (is_small_action rule.action) small in
      both_same (pairs_rewritten rs rule.peer) _ (pairs_same rule.peer parts.0)
      (taken_same rule.peer _ parts.0 (action_same (number_or_0 rule.peer) rule.action (small_or_0 rule.peer parts.0) parts.1))

  about_same : (p : Option Prefix) (ss : List StmtTree) → PartSame ss → PartSame (where_about p ss)
  about_same None ss same rest = same rest
  about_same (Some p) ss same rest = pattern_same (within p) (lawful_within p) _ ∙ same (sign BlockClose rest)

  advertised_same : (rules : List MemberRule) → list_all is_small_rule rules ≡ true → PartSame (flat_map (advertise_rule rs) rules)
  advertised_same [] all = λ rest. refl
  advertised_same (rule ∷ rules) all =
      let parts = and_parts (is_small_rule rule) (list_all is_small_rule rules) all in
      both_same (advertise_rule rs rule) _ (about_same rule.prefix (rewriting rs rule) (rewriting_same rule parts.0)) (advertised_same rules parts.1)

test_same : (peer : Option Asn) (p : Option Prefix) (b : Bool) → if_there peer true (λ q. is_small q.0) ≡ true → PartSame (when (receive_test peer p) (return_value (truth_value b) ∷ []) ∷ [])
test_same None None b small rest = refl
test_same (Some q) None b small rest = rw small refl
test_same None (Some p) b small rest = pattern_same (within p) (lawful_within p) _
test_same (Some q) (Some p) b small rest = rw small (pattern_same (within p) (lawful_within p) _)

received_same : (rules : List MemberRule) → list_all is_small_rule rules ≡ true → PartSame (map receive_rule rules ++ return_value (truth_value true) ∷ [])
received_same [] all = λ rest. refl
received_same (rule ∷ rules) all =
    let parts = and_parts (is_small_rule rule) (list_all is_small_rule rules) all in
    let small = and_parts (if_there rule.peer true (λ p. is_small p.0)) (is_small_action rule.action) parts.0 in
    both_same (receive_rule rule ∷ []) _ (test_same rule.peer rule.prefix _ small.0) (received_same rules parts.1)

-- What is left out where it is empty.

secret_same : (secret : List ℕ) → is_said secret ≡ true → Same (password_tokens (if_not_empty secret))
secret_same [] said rest = refl
secret_same (b ∷ bytes) said rest = ap (λ x. x && list_all written rest) said

limit_same : (n : ℕ) → is_small n ≡ true → Same (limit_tokens (if_not_0 n))
limit_same n small rest = by_case (n == 0) where
  by_case : (b : Bool) → list_all written (limit_tokens (if b then None else Some n) rest) ≡ list_all written rest
  by_case true = refl
  by_case false = rw small refl

-- The parts of a session.

module _ (i : Inputs) (irr blackholes : List Pattern) (s : SmallSession i) (w : SessionNames i.interface) (h : HeadNames) where
  told : PartSame (told_registered i)
  told = if_same i.address.irr _ [] (λ rest. rw s.rs refl) (λ rest. refl)

  set_same : (name : List ℕ) (ts : List Pattern) → is_word_name name ≡ true → PartSame (net_test name ts ∷ [])
  set_same name [] ok rest = rw h.drop refl
  set_same name (t ∷ ts) ok rest = rw (ok, h.drop) refl

  registered : (asns : List Asn) → PartSame (registered_origin i asns)
  registered [] rest = rw (s.rs, h.drop) refl
  registered (a ∷ asns) rest = rw (w.origins, h.drop) refl

  blackhole_same : (a : Option Addr) → PartSame (blackhole_test i blackholes a)
  blackhole_same None rest = refl
  blackhole_same (Some a) rest =
      rw (h.blackhole, s.rs)
      (both_same (net_test (blackhole_name i.interface) (blackhole_set i blackholes) ∷ []) (told_registered i ++ accept ∷ [])
      (set_same (blackhole_name i.interface) (blackhole_set i blackholes) w.blackholes)
      (both_same (told_registered i) (accept ∷ []) told (λ r. refl)) _)

  transit_same : PartSame (transit_test i)
  transit_same = if_same i.transit_free [] (run (codes "ixp_transit") ∷ []) (λ rest. refl) (λ rest. rw h.transit refl)

  origin_same : PartSame (origin_test i)
  origin_same = if_same i.address.irr (registered_origin i i.origins) _ (registered i.origins) (λ rest. rw s.rs refl)

  state_same : PartSame (state_test i)
  state_same = if_same i.rpki _ _ (λ rest. rw (roas_named i.family, h.drop, s.rs) refl) (λ rest. rw s.rs refl)

  in_same : PartSame (in_body i irr blackholes)
  in_same =
      both_same (first_tests i) _ (λ rest. rw (s.rs, h.net, s.asn, h.drop) (addrs_written i.addresses _ ∙ rw (s.rs, h.drop, h.as_numbers) refl))
      (both_same (transit_test i) _ transit_same
      (both_same (origin_test i) _ origin_same
      (both_same (blackhole_test i blackholes i.blackhole) _ (blackhole_same i.blackhole)
      (both_same (state_test i) _ state_same
      (both_same (prefix_test i irr) _ (if_same i.address.irr (net_test (irr_name i.interface) irr ∷ []) [] (set_same (irr_name i.interface) irr w.irr) (λ rest. refl))
      (both_same (told_registered i) _ told (λ rest. refl)))))))

  up_same : PartSame (up_body i)
  up_same =
      λ rest. rw s.rs
      (both_same (advertise_rules i.rs.0 i.family i.rules) (accept ∷ [])
      (advertised_same i.rs.0 s.rs (reverse (filter (is_printed i.rs.0 i.family) i.rules))
      (all_reversed is_small_rule (filter (is_printed i.rs.0 i.family) i.rules) (all_filtered is_small_rule (is_printed i.rs.0 i.family) i.rules s.rules)))
      (λ r. refl) rest)

  receive_same : PartSame (receive_body i.family i.rules)
  receive_same = received_same (filter (is_receive i.family) i.rules) (all_filtered is_small_rule (is_receive i.family) i.rules s.rules)

  down_same : PartSame (down_body i)
  down_same rest = rw (w.receive, h.sends, s.asn, h.pad, h.count) refl

  -- Items.

  sets_same : list_all is_lawful irr ≡ true → list_all is_lawful blackholes ≡ true → ItemsSame (member_sets i irr blackholes)
  sets_same lawful lawful_blackholes =
      if_items i.address.irr _ []
      (both_items (defined (irr_name i.interface) set.Prefixes irr) _ (patterns_defined (irr_name i.interface) irr w.irr lawful)
      (both_items (defined (origins_name i.interface) numbers i.origins) _ (numbers_defined (origins_name i.interface) i.origins w.origins s.origins)
      (both_items (if_blackholes i (defined (blackhole_name i.interface) set.Prefixes blackholes)) []
      (if_items (is_none i.blackhole) [] _ (λ rest. refl) (patterns_defined (blackhole_name i.interface) blackholes w.blackholes lawful_blackholes))
      (λ rest. refl))))
      (λ rest. refl)

  filters_same : ItemsSame (session_filters i irr blackholes)
  filters_same =
      λ rest. rw w.inward (in_same _ ∙ rw w.up (up_same _ ∙ rw w.receive (receive_same _ ∙ rw w.down (down_same (sign BlockClose rest)))))

  protocols_same : ItemsSame (protocols i)
  protocols_same =
      λ rest. rw (w.pipe, master_named i.family, w.table, w.up, w.down, w.bgp, s.rs, s.asn)
      (secret_same i.address.secret s.secret _ ∙ rw (w.table, w.inward, h.out) (limit_same i.address.max_prefix s.limit _))

  pub fragment_same : list_all is_lawful irr ≡ true → list_all is_lawful blackholes ≡ true → ItemsSame (fragment i irr blackholes)
  fragment_same lawful lawful_blackholes =
      λ rest. rw w.table
      (both_items (member_sets i irr blackholes) _ (sets_same lawful lawful_blackholes)
      (both_items (session_filters i irr blackholes) (protocols i ++ []) filters_same
      (both_items (protocols i) [] protocols_same (λ r. refl))) rest)
