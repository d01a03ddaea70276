-- What stands between a session's table and the one that all share: the way up.
use Rattle.std.proofs.Common.{◌≡◌, ℕ, ◌+◌, ◌≤◌, arith, Bool, true, false, ◌&&◌, ◌||◌, ◌==◌, not, nat_le, min, List, [], ◌∷◌, map, filter, flat_map, reverse, Option, Some, None, refl, sym, ap, ◌∙◌, append-nil, subst, true≢false, if◌then◌else◌}
use Rattle.std.specs.List.{list_any}
use Rattle.std.proofs.lemmas.Bool.{and_parts, leb-true, le-leb}
use Rattle.std.proofs.lemmas.List.{reverse-append}
use Rattle.std.proofs.lemmas.Grind.{flat_map-append}
use Rattle.ixp_num.specs.declared.family.Family.{Family}
use Rattle.ixp_num.specs.declared.family.Family.TheVariants.{V4, V6}
use Rattle.ixp_num.specs.declared.prefix.Prefix.{Prefix}
use Rattle.ixp_num.specs.Families.{bits_of, same_family}
use Rattle.ixp_num.specs.Prefixes.{covers, matches, first_bits}
use Rattle.ixp_lang.specs.declared.route.Route.{Route}
use Rattle.ixp_lang.specs.declared.value.Value.TheVariants as value
use Rattle.ixp_lang.specs.Attributes.{fits_part, in_pairs, in_triples, with_triple}
use Rattle.ixp_lang.specs.declared.value.SetLit.TheVariants as set
use Rattle.ixp_lang.specs.Trees.{StmtTree, set_literal, delete_triples, stmts}
use Rattle.ixp_lang.specs.Meaning.{Environment, Known, Params, End, runs_all}
use Rattle.ixp_registry.specs.declared.rules.Action.{Action}
use Rattle.ixp_registry.specs.declared.rules.Action.TheVariants.{AsIs, Prepend, Stop}
use Rattle.ixp_registry.specs.declared.rules.MemberRule.{MemberRule}
use Rattle.ixp_num_tables.specs.Tables.{if_there}
use Rattle.ixp_registry.specs.Sessions.{is_about, is_advertise}
use Rattle.ixp_compile.specs.MemberRules.{within, any_number, number_or_0, steering_actions, is_printed, is_of_family, action_written, rewriting, where_about, advertise_rule, advertise_rules}
use Rattle.ixp_compile.specs.Rewriting.{applies, steers_triple, steers_pair, with_one, with_action, rewritten}
use Rattle.ixp_compile.proofs.Communities.{eq_swap, or_false, and_true, and_none, without_agree, filter_none}
use Rattle.ixp_compile.proofs.Running.{runs_append}

-- Nets within a prefix.

one_family : (f g : Family) → same_family f g ≡ true → f ≡ g
one_family V4 V4 e = refl
one_family V6 V6 e = refl
one_family V4 V6 e = absurd (true≢false (sym e))
one_family V6 V4 e = absurd (true≢false (sym e))

min_left : (m n : ℕ) → m ≤ n → min m n ≡ m
min_left m n h = omega arith

-- `net ~ [prefix{len,max}]`
pub within_covers : (p net : Prefix) → matches (within p) net ≡ covers p net
within_covers p net = go (same_family p.family net.family) refl where
  in_family : same_family p.family net.family ≡ true → (b : Bool) → nat_le p.len net.len ≡ b → matches (within p) net ≡ covers p net
  in_family e false l = rw (e, l) (ap (λ d. d && nat_le net.len (bits_of p.family)) (and_none (first_bits net.family (min p.len net.len) net.value == first_bits net.family (min p.len net.len) p.value)))
  in_family e true l =
      let f : p.family ≡ net.family = one_family p.family net.family e in
      let short : nat_le net.len (bits_of p.family) ≡ true = le-leb net.len (bits_of p.family) (subst (λ g. net.len ≤ bits_of g) (sym f) net.short) in
      let m : min p.len net.len ≡ p.len = min_left p.len net.len (leb-true p.len net.len l) in
      let bits : Bool = first_bits p.family p.len net.value == first_bits p.family p.len p.value in
      (λ i. ((e i && (first_bits (sym f i) (m i) net.value == first_bits (sym f i) (m i) p.value)) && l i) && short i)
      ∙ and_true (bits && true) ∙ and_true bits ∙ sym (λ i. (e i && l i) && bits)

  go : (b : Bool) → same_family p.family net.family ≡ b → matches (within p) net ≡ covers p net
  go false e = rw e refl
  go true e = in_family e (nat_le p.len net.len) refl

-- One rule.

module _ (env : Environment) (k : Known) (ps : Params) (rs : ℕ) where
  abbrev running : List StmtTree → Route → (Route → End) → End
  running ss route next = runs_all env k ps (stmts ss) route next

  one_told : (a b c : ℕ) (route : Route) → with_triple (value.Triple a b c) route ≡ record route { triples = with_one a b c route.triples }
  one_told a b c route = go (list_any (λ t. t.0 == a && t.1 == b && t.2 == c) route.triples) refl where
    go : (d : Bool) → list_any (λ t. t.0 == a && t.1 == b && t.2 == c) route.triples ≡ d → with_triple (value.Triple a b c) route ≡ record route { triples = with_one a b c route.triples }
    go true e = rw e refl
    go false e = rw e refl

  action_runs : (n : ℕ) (action : Action) (route : Route) (next : Route → End)
      → running (action_written rs n action) route next ≡ next (record route { triples = with_action rs n action route.triples })
  action_runs n Stop route next = ap next (one_told rs 0 n route)
  action_runs n AsIs route next = ap next (one_told rs 1 n route)
  action_runs n (Prepend p) route next =
      ap (λ q. next (with_triple (value.Triple rs (100 + p) n) q)) (one_told rs 1 n route)
      ∙ ap next (one_told rs (100 + p) n (record route { triples = with_one rs 1 n route.triples }))

  steering : (o : Option ℕ) (t : ℕ × ℕ × ℕ) (actions : List ℕ)
      → in_triples t (map (λ a. (rs, a, o)) actions) ≡ (t.0 == rs && list_any (λ a. a == t.1) actions && fits_part t.2 o)
  steering o t [] = sym (ap (λ d. d && fits_part t.2 o) (and_none (t.0 == rs)))
  steering o t (a ∷ actions) =
      ap (λ b. (t.0 == rs && t.1 == a && fits_part t.2 o) || b) (steering o t actions)
      ∙ ap (λ b. (t.0 == rs && b && fits_part t.2 o) || (t.0 == rs && list_any (λ a. a == t.1) actions && fits_part t.2 o)) (eq_swap t.1 a)
      ∙ together (t.0 == rs) (a == t.1) (list_any (λ a. a == t.1) actions) (fits_part t.2 o)
    where
      together : (x y z w : Bool) → ((x && y && w) || (x && z && w)) ≡ (x && (y || z) && w)
      together false y z w = refl
      together true true z true = refl
      together true true true false = refl
      together true true false false = refl
      together true false z w = refl

  pair_steering : (o : Option ℕ) (p : ℕ × ℕ) → in_pairs p ((0, o) ∷ (rs, o) ∷ []) ≡ ((p.0 == 0 || p.0 == rs) && fits_part p.1 o)
  pair_steering o p = together (p.0 == 0) (p.0 == rs) (fits_part p.1 o) where
    together : (x y w : Bool) → ((x && w) || ((y && w) || false)) ≡ ((x || y) && w)
    together true y true = refl
    together true true false = refl
    together true false false = refl
    together false true true = refl
    together false true false = refl
    together false false w = refl

  abbrev ruled : MemberRule → Route → Route
  ruled rule route = record route {
    pairs = filter (λ p. not (steers_pair rs rule.peer p)) route.pairs;
    triples = with_action rs (number_or_0 rule.peer) rule.action (filter (λ t. not (steers_triple rs rule.peer t)) route.triples);
  }

  rewriting_runs : (rule : MemberRule) (route : Route) (next : Route → End) → running (rewriting rs rule) route next ≡ next (ruled rule route)
  rewriting_runs rule route next = pairs (nat_le rs 65535 && nat_le (number_or_0 rule.peer) 65535) refl where
    rest : (qs : List (ℕ × ℕ)) → running (delete_triples (set_literal (set.Triples (map (λ a. (rs, a, any_number rule.peer)) steering_actions))) ∷ action_written rs (number_or_0 rule.peer) rule.action) (record route { pairs = qs }) next
        ≡ next (record route { pairs = qs; triples = with_action rs (number_or_0 rule.peer) rule.action (filter (λ t. not (steers_triple rs rule.peer t)) route.triples) })
    rest qs =
        ap (λ ts. running (action_written rs (number_or_0 rule.peer) rule.action) (record route { pairs = qs; triples = ts }) next)
        (without_agree _ _ (λ t. steering (any_number rule.peer) t steering_actions) route.triples)
        ∙ action_runs (number_or_0 rule.peer) rule.action (record route { pairs = qs; triples = filter (λ t. not (steers_triple rs rule.peer t)) route.triples }) next

    pairs : (b : Bool) → (nat_le rs 65535 && nat_le (number_or_0 rule.peer) 65535) ≡ b → running (rewriting rs rule) route next ≡ next (ruled rule route)
    pairs false e = rw e (rest route.pairs ∙ ap (λ qs. next (record route { pairs = qs; triples = with_action rs (number_or_0 rule.peer) rule.action (filter (λ t. not (steers_triple rs rule.peer t)) route.triples) })) (sym (filter_none route.pairs)))
    pairs true e =
        rw e
        (rest (filter (λ p. not (in_pairs p ((0, any_number rule.peer) ∷ (rs, any_number rule.peer) ∷ []))) route.pairs)
        ∙ ap (λ qs. next (record route { pairs = qs; triples = with_action rs (number_or_0 rule.peer) rule.action (filter (λ t. not (steers_triple rs rule.peer t)) route.triples) }))
        (without_agree _ _ (pair_steering (any_number rule.peer)) route.pairs))

  -- Where the rule is about the net.

  about_runs : (rule : MemberRule) (route : Route) (next : Route → End)
      → running (advertise_rule rs rule) route next ≡ (if is_about rule route.net then next (ruled rule route) else next route)
  about_runs rule route next = go rule.prefix refl where
    go : (o : Option Prefix) → rule.prefix ≡ o → running (where_about o (rewriting rs rule)) route next
        ≡ (if if_there o true (λ p. covers p route.net) then next (ruled rule route) else next route)
    go None e = rewriting_runs rule route next
    go (Some p) e =
        ap (λ b. if b then running (rewriting rs rule) route next else next route) (or_false (matches (within p) route.net) ∙ within_covers p route.net)
        ∙ ap (λ x. if covers p route.net then x else next route) (rewriting_runs rule route next)

  -- A rule that isn't printed isn't about a net of the family.

  other_family : (rule : MemberRule) (family : Family) (net : Prefix) → net.family ≡ family → (o : Option Prefix)
      → if_there o true (λ p. same_family p.family family) ≡ false → if_there o true (λ p. covers p net) ≡ false
  other_family rule family net same None e = absurd (true≢false e)
  other_family rule family net same (Some p) e = let apart : same_family p.family net.family ≡ false = ap (same_family p.family) same ∙ e in rw apart refl

  printed_applies : (rule : MemberRule) (family : Family) (net : Prefix) → net.family ≡ family → is_printed rs family rule ≡ true
      → applies rs rule net ≡ is_about rule net
  printed_applies rule family net same e =
      ap (λ d. d && is_about rule net)
      (and_parts (is_advertise rule.way && if_there rule.peer true (λ p. not (p.0 == rs))) (is_of_family family rule) e).0

  unprinted_applies : (rule : MemberRule) (family : Family) (net : Prefix) → net.family ≡ family → is_printed rs family rule ≡ false
      → applies rs rule net ≡ false
  unprinted_applies rule family net same e =
      go (is_advertise rule.way && if_there rule.peer true (λ p. not (p.0 == rs))) (is_of_family family rule) refl e
    where
      go : (a b : Bool) → is_of_family family rule ≡ b → (a && b) ≡ false → (a && is_about rule net) ≡ false
      go false b f h = refl
      go true true f h = absurd (true≢false h)
      go true false f h = other_family rule family net same rule.prefix f

  -- All rules, the last one first.

  abbrev printed : Family → List MemberRule → List StmtTree
  printed family rules = advertise_rules rs family rules

  pub rules_run : (family : Family) (rules : List MemberRule) (route : Route) (next : Route → End) → route.net.family ≡ family
      → running (printed family rules) route next ≡ next (rewritten rs rules route)
  rules_run family [] route next same = refl
  rules_run family (rule ∷ rules) route next same = go (is_printed rs family rule) refl (rules_run family rules route) where
    abbrev-less : (b : Bool) → applies rs rule route.net ≡ b → (if b then next (ruled rule (rewritten rs rules route)) else next (rewritten rs rules route)) ≡ next (rewritten rs (rule ∷ rules) route)
    abbrev-less true e = rw e refl
    abbrev-less false e = rw e refl

    go : (b : Bool) → is_printed rs family rule ≡ b
        → ((after : Route → End) → route.net.family ≡ family → running (printed family rules) route after ≡ after (rewritten rs rules route))
        → running (printed family (rule ∷ rules)) route next ≡ next (rewritten rs (rule ∷ rules) route)
    go false e rest =
        rw e (rest next same ∙ abbrev-less false (unprinted_applies rule family route.net same e))
    go true e rest =
        let fs : List MemberRule = filter (is_printed rs family) rules in
        rw e
        (ap (λ rs'. running (flat_map (advertise_rule rs) rs') route next) (reverse-append (rule ∷ []) fs)
        ∙ ap (λ ss. running ss route next) (flat_map-append (advertise_rule rs) (reverse fs) (rule ∷ []))
        ∙ runs_append env k ps (flat_map (advertise_rule rs) (reverse fs)) (flat_map (advertise_rule rs) (rule ∷ [])) route next
        ∙ rest (λ q. running (flat_map (advertise_rule rs) (rule ∷ [])) q next) same
        ∙ ap (λ ss. running ss (rewritten rs rules route) next) (append-nil (advertise_rule rs rule))
        ∙ about_runs rule (rewritten rs rules route) next
        ∙ ap (λ b. if b then next (ruled rule (rewritten rs rules route)) else next (rewritten rs rules route)) (sym (printed_applies rule family route.net same e))
        ∙ abbrev-less (applies rs rule route.net) refl)
