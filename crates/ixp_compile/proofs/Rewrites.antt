-- A route that a member's advertise rules have rewritten asks what the rules say.
use Rattle.std.proofs.Common.{◌≡◌, ℕ, zero, suc, ◌+◌, ◌≤◌, Bool, true, false, ◌&&◌, ◌||◌, ◌==◌, not, nat_le, List, [], ◌∷◌, filter, Option, Some, None, refl, sym, ap, ap₂, ◌∙◌, arith, subst, true≢false, if◌then◌else◌}
use Rattle.std.specs.List.{list_any}
use Rattle.std.proofs.lemmas.Bool.{and_parts, eqb-true, leb-true, ne_eqb, not-true}
use Rattle.std.proofs.lemmas.List.Folds.{list_any-append}
use Rattle.std.proofs.lemmas.Map.Views.{any-filter_same}
use Rattle.ixp_num.specs.declared.asn.Asn.{Asn}
use Rattle.ixp_num.specs.declared.prefix.Prefix.{Prefix}
use Rattle.ixp_lang.specs.declared.route.Route.{Route}
use Rattle.ixp_lang.specs.Attributes.{fits_part}
use Rattle.ixp_lang.specs.Steering.{has_pair, has_triple, first_line, fit_pairs}
use Rattle.ixp_registry.specs.declared.rules.Action.{Action}
use Rattle.ixp_registry.specs.declared.rules.Action.TheVariants.{AsIs, Prepend, Stop}
use Rattle.ixp_registry.specs.declared.rules.MemberRule.{MemberRule}
use Rattle.ixp_registry.specs.declared.rules.Way.{Way}
use Rattle.ixp_registry.specs.declared.rules.Way.TheVariants.{Advertise, Receive}
use Rattle.ixp_num_tables.specs.Tables.{if_there}
use Rattle.ixp_registry.specs.Words.{is_action_of}
use Rattle.ixp_registry.specs.Sessions.{asked, is_for, is_about, is_advertise}
use Rattle.ixp_policy.specs.Export.{steered, times_of}
use Rattle.ixp_compile.specs.MemberRules.{any_number, number_or_0, steering_actions}
use Rattle.ixp_compile.specs.Rewriting.{applies, steers_triple, steers_pair, with_one, with_action, rewritten, rewritten_triples, rewritten_pairs, IsLawful, AreLawful}
use Rattle.ixp_compile.proofs.Communities.{eq_refl, eq_swap, or_false, and_none}

-- the large community is in the list
abbrev is_it : ℕ → ℕ → ℕ → ℕ × ℕ × ℕ → Bool
is_it a b c t = t.0 == a && t.1 == b && t.2 == c

abbrev has : ℕ → ℕ → ℕ → List (ℕ × ℕ × ℕ) → Bool
has a b c ts = list_any (is_it a b c) ts

parts_of : (x y z : ℕ) (t : ℕ × ℕ × ℕ) → is_it x y z t ≡ true → (t.0 ≡ x) × (t.1 ≡ y) × (t.2 ≡ z)
parts_of x y z t e =
    let both = and_parts (t.0 == x && t.1 == y) (t.2 == z) e in
    let firsts = and_parts (t.0 == x) (t.1 == y) both.0 in
    (eqb-true t.0 x firsts.0, eqb-true t.1 y firsts.1, eqb-true t.2 z both.1)

has_one : (a b c x y z : ℕ) (ts : List (ℕ × ℕ × ℕ)) → has x y z (with_one a b c ts) ≡ (has x y z ts || is_it x y z (a, b, c))
has_one a b c x y z ts = go (has a b c ts) refl where
  there : (d : Bool) → is_it x y z (a, b, c) ≡ d → has a b c ts ≡ true → has x y z ts ≡ (has x y z ts || d)
  there false e h = sym (or_false (has x y z ts))
  there true e h =
      let p = parts_of x y z (a, b, c) e in
      let is : has x y z ts ≡ true = (λ i. has (sym p.0 i) (sym p.1 i) (sym p.2 i) ts) ∙ h in
      rw is refl

  go : (d : Bool) → has a b c ts ≡ d → has x y z (with_one a b c ts) ≡ (has x y z ts || is_it x y z (a, b, c))
  go true e = rw e (there (is_it x y z (a, b, c)) refl e)
  go false e = rw e (list_any-append (is_it x y z) ts ((a, b, c) ∷ []) ∙ ap (λ d. has x y z ts || d) (or_false (is_it x y z (a, b, c))))

has_cleared : (st : ℕ × ℕ × ℕ → Bool) (x y z : ℕ) (ts : List (ℕ × ℕ × ℕ)) → has x y z (filter (λ t. not (st t)) ts) ≡ (not (st (x, y, z)) && has x y z ts)
has_cleared st x y z ts =
    any-filter_same (is_it x y z) (λ t. not (st t)) (not (st (x, y, z)))
    (λ t e. let p = parts_of x y z t e in λ i. not (st (p.0 i, p.1 i, p.2 i))) ts

module _ (rs : ℕ) where
  -- the same with what an action writes for the number `n`
  abbrev added : ℕ → Action → ℕ → ℕ → Bool → Bool
  added n Stop a z b = b || (0 == a && n == z)
  added n AsIs a z b = b || (1 == a && n == z)
  added n (Prepend k) a z b = (b || (1 == a && n == z)) || (100 + k == a && n == z)

  own : (b n a z : ℕ) → is_it rs a z (rs, b, n) ≡ (b == a && n == z)
  own b n a z = ap (λ d. d && b == a && n == z) (eq_refl rs)

  has_action : (n : ℕ) (action : Action) (a z : ℕ) (ts : List (ℕ × ℕ × ℕ)) → has rs a z (with_action rs n action ts) ≡ added n action a z (has rs a z ts)
  has_action n Stop a z ts = has_one rs 0 n rs a z ts ∙ ap (λ d. has rs a z ts || d) (own 0 n a z)
  has_action n AsIs a z ts = has_one rs 1 n rs a z ts ∙ ap (λ d. has rs a z ts || d) (own 1 n a z)
  has_action n (Prepend k) a z ts =
      has_one rs (100 + k) n rs a z (with_one rs 1 n ts)
      ∙ ap₂ (λ d e. d || e) (has_one rs 1 n rs a z ts ∙ ap (λ d. has rs a z ts || d) (own 1 n a z)) (own (100 + k) n a z)

  -- what a rule leaves of a large community that steers, and what it writes
  has_rule : (peer : Option Asn) (action : Action) (a z : ℕ) (ts : List (ℕ × ℕ × ℕ)) → list_any (λ b. b == a) steering_actions ≡ true
      → has rs a z (with_action rs (number_or_0 peer) action (filter (λ t. not (steers_triple rs peer t)) ts))
      ≡ added (number_or_0 peer) action a z (not (fits_part z (any_number peer)) && has rs a z ts)
  has_rule peer action a z ts steers =
      has_action (number_or_0 peer) action a z (filter (λ t. not (steers_triple rs peer t)) ts)
      ∙ ap (added (number_or_0 peer) action a z)
      (has_cleared (steers_triple rs peer) rs a z ts
      ∙ ap (λ d. not d && has rs a z ts) (ap₂ (λ d e. d && e && fits_part z (any_number peer)) (eq_refl rs) steers))

  -- what is asked for a peer, by the communities that are there
  abbrev steered_by : Bool → Bool → Bool → Bool → Bool → Bool → Bool → Bool → Bool → Bool → List (Bool × Bool) → Option ℕ
  steered_by stop go stop_all go_all three two one three_all two_all one_all pairs =
      if first_line ((stop, false) ∷ (go, true) ∷ (stop_all, false) ∷ (go_all, true) ∷ pairs) true
      then Some (first_line ((three, 3) ∷ (two, 2) ∷ (one, 1) ∷ (go, 0) ∷ (three_all, 3) ∷ (two_all, 2) ∷ (one_all, 1) ∷ []) 0)
      else None

  abbrev pair_lines : Route → ℕ → List (Bool × Bool)
  pair_lines route p =
      (fit_pairs rs p && has_pair route 0 p, false)
      ∷ (fit_pairs rs p && has_pair route rs p, true)
      ∷ (fit_pairs rs p && has_pair route 0 rs, false)
      ∷ (fit_pairs rs p && has_pair route rs rs, true)
      ∷ []

  abbrev steered_with : (ℕ → ℕ → Bool) → List (Bool × Bool) → ℕ → Option ℕ
  steered_with h pairs p = steered_by (h 0 p) (h 1 p) (h 0 0) (h 1 0) (h 103 p) (h 102 p) (h 101 p) (h 103 0) (h 102 0) (h 101 0) pairs

  steered_same : (route : Route) (p : ℕ) (h : ℕ → ℕ → Bool) (pairs : List (Bool × Bool))
      → ((a : ℕ) → list_any (λ b. b == a) steering_actions ≡ true → has_triple route rs a p ≡ h a p)
      → ((a : ℕ) → list_any (λ b. b == a) steering_actions ≡ true → has_triple route rs a 0 ≡ h a 0)
      → pair_lines route p ≡ pairs
      → steered rs route p ≡ steered_with h pairs p
  steered_same route p h pairs e f g = λ i.
      steered_by (e 0 refl i) (e 1 refl i) (f 0 refl i) (f 1 refl i) (e 103 refl i) (e 102 refl i) (e 101 refl i) (f 103 refl i) (f 102 refl i) (f 101 refl i) (g i)

  abbrev ruled : Option Asn → Action → Route → List (ℕ × ℕ) → List (ℕ × ℕ × ℕ) → Route
  ruled peer action route ps ts =
      record route { pairs = ps; triples = with_action rs (number_or_0 peer) action (filter (λ t. not (steers_triple rs peer t)) ts) }

  abbrev pub lawful : Action → Bool
  lawful action = is_action_of Advertise action

  pub too_many : {A : Type 0} (k : ℕ) → lawful (Prepend (suc (suc (suc (suc k))))) ≡ true → A
  too_many k ok =
      let h : suc (suc (suc (suc k))) ≤ 3 = leb-true (suc (suc (suc (suc k)))) 3 (and_parts (nat_le 1 (suc (suc (suc (suc k))))) (nat_le (suc (suc (suc (suc k)))) 3) ok).1 in
      absurd (omega arith)

  none_at_all : {A : Type 0} → lawful (Prepend zero) ≡ true → A
  none_at_all ok = absurd (true≢false (sym ok))

  -- a rule for any peer
  any_by : (action : Action) (p : ℕ) (pairs : List (Bool × Bool)) → lawful action ≡ true → (c : Bool) → (0 == p) ≡ c
      → steered_with (λ a z. added 0 action a z false) pairs p ≡ times_of action
  any_by Stop p pairs ok true e = rw e refl
  any_by Stop p pairs ok false e = rw e refl
  any_by AsIs p pairs ok true e = rw e refl
  any_by AsIs p pairs ok false e = rw e refl
  any_by (Prepend zero) p pairs ok c e = none_at_all ok
  any_by (Prepend (suc zero)) p pairs ok true e = rw e refl
  any_by (Prepend (suc zero)) p pairs ok false e = rw e refl
  any_by (Prepend (suc (suc zero))) p pairs ok true e = rw e refl
  any_by (Prepend (suc (suc zero))) p pairs ok false e = rw e refl
  any_by (Prepend (suc (suc (suc zero)))) p pairs ok true e = rw e refl
  any_by (Prepend (suc (suc (suc zero)))) p pairs ok false e = rw e refl
  any_by (Prepend (suc (suc (suc (suc k))))) p pairs ok c e = too_many k ok

  any_steers : (action : Action) (route : Route) (ps : List (ℕ × ℕ)) (ts : List (ℕ × ℕ × ℕ)) (p : ℕ) → lawful action ≡ true
      → steered rs (ruled None action route ps ts) p ≡ times_of action
  any_steers action route ps ts p ok =
      steered_same (ruled None action route ps ts) p (λ a z. added 0 action a z false) (pair_lines (ruled None action route ps ts) p)
      (λ a e. has_rule None action a p ts e) (λ a e. has_rule None action a 0 ts e) refl
      ∙ any_by action p (pair_lines (ruled None action route ps ts) p) ok (0 == p) refl

  -- a rule for the peer itself
  own_by : (action : Action) (n : ℕ) (h : ℕ → ℕ → Bool) (pairs : List (Bool × Bool)) → lawful action ≡ true
      → ((a : ℕ) → h a n ≡ added n action a n false) → steered_with h pairs n ≡ times_of action
  own_by Stop n h pairs ok e = rw (e 0, eq_refl n) refl
  own_by AsIs n h pairs ok e = rw (e 0, e 1, e 103, e 102, e 101, eq_refl n) refl
  own_by (Prepend zero) n h pairs ok e = none_at_all ok
  own_by (Prepend (suc zero)) n h pairs ok e = rw (e 0, e 1, e 103, e 102, e 101, eq_refl n) refl
  own_by (Prepend (suc (suc zero))) n h pairs ok e = rw (e 0, e 1, e 103, e 102, e 101, eq_refl n) refl
  own_by (Prepend (suc (suc (suc zero)))) n h pairs ok e = rw (e 0, e 1, e 103, e 102, e 101, eq_refl n) refl
  own_by (Prepend (suc (suc (suc (suc k))))) n h pairs ok e = too_many k ok

  own_steers : (n : Asn) (action : Action) (route : Route) (ps : List (ℕ × ℕ)) (ts : List (ℕ × ℕ × ℕ)) → lawful action ≡ true
      → steered rs (ruled (Some n) action route ps ts) n.0 ≡ times_of action
  own_steers n action route ps ts ok =
      let h : ℕ → ℕ → Bool = λ a z. added n.0 action a z (not (z == n.0) && has rs a z ts) in
      steered_same (ruled (Some n) action route ps ts) n.0 h (pair_lines (ruled (Some n) action route ps ts) n.0)
      (λ a e. has_rule (Some n) action a n.0 ts e) (λ a e. has_rule (Some n) action a 0 ts e) refl
      ∙ own_by action n.0 h (pair_lines (ruled (Some n) action route ps ts) n.0) ok
      (λ a. ap (λ d. added n.0 action a n.0 (not d && has rs a n.0 ts)) (eq_refl n.0))

  -- a rule for another peer
  added_none : (action : Action) (n a z : ℕ) (b : Bool) → (n == z) ≡ false → added n action a z b ≡ b
  added_none Stop n a z b e = ap (λ d. b || (0 == a && d)) e ∙ ap (λ d. b || d) (and_none (0 == a)) ∙ or_false b
  added_none AsIs n a z b e = ap (λ d. b || (1 == a && d)) e ∙ ap (λ d. b || d) (and_none (1 == a)) ∙ or_false b
  added_none (Prepend k) n a z b e =
      ap (λ d. (b || (1 == a && d)) || (100 + k == a && d)) e
      ∙ ap₂ (λ d f. (b || d) || f) (and_none (1 == a)) (and_none (100 + k == a)) ∙ or_false (b || false) ∙ or_false b

  other_has : (n : Asn) (action : Action) (a z : ℕ) (ts : List (ℕ × ℕ × ℕ)) → (n.0 == z) ≡ false → list_any (λ b. b == a) steering_actions ≡ true
      → has rs a z (with_action rs n.0 action (filter (λ t. not (steers_triple rs (Some n) t)) ts)) ≡ has rs a z ts
  other_has n action a z ts e steers =
      has_rule (Some n) action a z ts steers
      ∙ added_none action n.0 a z (not (z == n.0) && has rs a z ts) e
      ∙ ap (λ d. not d && has rs a z ts) (eq_swap z n.0 ∙ e)

  pair_kept : (n : Asn) (a b : ℕ) (ps : List (ℕ × ℕ)) → (b == n.0) ≡ false
      → list_any (λ p. p.0 == a && p.1 == b) (filter (λ p. not (steers_pair rs (Some n) p)) ps) ≡ list_any (λ p. p.0 == a && p.1 == b) ps
  pair_kept n a b ps e =
      any-filter_same (λ p. p.0 == a && p.1 == b) (λ p. not (steers_pair rs (Some n) p)) true
      (λ p is. let same : p.1 ≡ b = eqb-true p.1 b (and_parts (p.0 == a) (p.1 == b) is).1 in
      ap (λ d. not ((nat_le rs 65535 && nat_le n.0 65535) && ((p.0 == 0 || p.0 == rs) && (d == n.0)))) same
      ∙ ap (λ d. not ((nat_le rs 65535 && nat_le n.0 65535) && ((p.0 == 0 || p.0 == rs) && d))) e
      ∙ ap (λ d. not ((nat_le rs 65535 && nat_le n.0 65535) && d)) (and_none (p.0 == 0 || p.0 == rs)) ∙ ap not (and_none (nat_le rs 65535 && nat_le n.0 65535)))
      ps

  other_steers : (n : Asn) (action : Action) (route : Route) (ps : List (ℕ × ℕ)) (ts : List (ℕ × ℕ × ℕ)) (p : ℕ)
      → (n.0 == p) ≡ false → (n.0 == 0) ≡ false → (n.0 == rs) ≡ false
      → steered rs (ruled (Some n) action route (filter (λ q. not (steers_pair rs (Some n) q)) ps) ts) p
      ≡ steered rs (record route { pairs = ps; triples = ts }) p
  other_steers n action route ps ts p other zero_other server =
      steered_same (ruled (Some n) action route (filter (λ q. not (steers_pair rs (Some n) q)) ps) ts) p (λ a z. has rs a z ts)
      (pair_lines (record route { pairs = ps; triples = ts }) p)
      (λ a e. other_has n action a p ts other e) (λ a e. other_has n action a 0 ts zero_other e)
      (λ i.
      (fit_pairs rs p && pair_kept n 0 p ps (eq_swap p n.0 ∙ other) i, false)
      ∷ (fit_pairs rs p && pair_kept n rs p ps (eq_swap p n.0 ∙ other) i, true)
      ∷ (fit_pairs rs p && pair_kept n 0 rs ps (eq_swap rs n.0 ∙ server) i, false)
      ∷ (fit_pairs rs p && pair_kept n rs rs ps (eq_swap rs n.0 ∙ server) i, true)
      ∷ [])

  -- A rule that isn't about the net and the server is about no receiver, and one that is, about its peer.
  none_for : (a m n b : Bool) → (a && n && b) ≡ false → (a && (m && n) && b) ≡ false
  none_for false m n b e = refl
  none_for true true n b e = e
  none_for true false n b e = refl

  own_for : (a m n b : Bool) → (a && n && b) ≡ true → (a && (m && n) && b) ≡ m
  own_for true true true true e = refl
  own_for true false n b e = refl
  own_for false m n b e = absurd (true≢false (sym e))
  own_for true true false b e = absurd (true≢false (sym e))
  own_for true true true false e = absurd (true≢false (sym e))

  not_for : (rule : MemberRule) (peer : Option Asn) (net : Prefix) (p : ℕ) → rule.peer ≡ peer → applies rs rule net ≡ false → is_for rs rule net p ≡ false
  not_for rule None net p e h =
      ap (λ o. is_advertise rule.way && if_there o true (λ peer. peer.0 == p && not (peer.0 == rs)) && is_about rule net) e
      ∙ ap (λ o. is_advertise rule.way && if_there o true (λ peer. not (peer.0 == rs)) && is_about rule net) (sym e) ∙ h
  not_for rule (Some n) net p e h =
      ap (λ o. is_advertise rule.way && if_there o true (λ peer. peer.0 == p && not (peer.0 == rs)) && is_about rule net) e
      ∙ none_for (is_advertise rule.way) (n.0 == p) (not (n.0 == rs)) (is_about rule net)
      (ap (λ o. is_advertise rule.way && if_there o true (λ peer. not (peer.0 == rs)) && is_about rule net) (sym e) ∙ h)

  for_any : (rule : MemberRule) (net : Prefix) (p : ℕ) → rule.peer ≡ None → applies rs rule net ≡ true → is_for rs rule net p ≡ true
  for_any rule net p e h =
      ap (λ o. is_advertise rule.way && if_there o true (λ peer. peer.0 == p && not (peer.0 == rs)) && is_about rule net) e
      ∙ ap (λ o. is_advertise rule.way && if_there o true (λ peer. not (peer.0 == rs)) && is_about rule net) (sym e) ∙ h

  for_own : (rule : MemberRule) (n : Asn) (net : Prefix) (p : ℕ) → rule.peer ≡ Some n → applies rs rule net ≡ true → is_for rs rule net p ≡ (n.0 == p)
  for_own rule n net p e h =
      ap (λ o. is_advertise rule.way && if_there o true (λ peer. peer.0 == p && not (peer.0 == rs)) && is_about rule net) e
      ∙ own_for (is_advertise rule.way) (n.0 == p) (not (n.0 == rs)) (is_about rule net)
      (ap (λ o. is_advertise rule.way && if_there o true (λ peer. not (peer.0 == rs)) && is_about rule net) (sym e) ∙ h)

  not_server : (rule : MemberRule) (n : Asn) (net : Prefix) → rule.peer ≡ Some n → applies rs rule net ≡ true → (n.0 == rs) ≡ false
  not_server rule n net e h =
      let at : (is_advertise rule.way && not (n.0 == rs) && is_about rule net) ≡ true =
      ap (λ o. is_advertise rule.way && if_there o true (λ peer. not (peer.0 == rs)) && is_about rule net) (sym e) ∙ h in
      not-true (n.0 == rs) (and_parts (is_advertise rule.way) (not (n.0 == rs)) (and_parts (is_advertise rule.way && not (n.0 == rs)) (is_about rule net) at).0).1

  action_ok : (way : Way) (action : Action) → is_advertise way ≡ true → is_action_of way action ≡ true → lawful action ≡ true
  action_ok Advertise action e ok = ok
  action_ok Receive action e ok = absurd (true≢false (sym e))

  pub lawful_action : (rule : MemberRule) (net : Prefix) → IsLawful rule → applies rs rule net ≡ true → lawful rule.action ≡ true
  lawful_action rule net ok h =
      action_ok rule.way rule.action
      (and_parts (is_advertise rule.way) (if_there rule.peer true (λ peer. not (peer.0 == rs))) (and_parts (is_advertise rule.way && if_there rule.peer true (λ peer. not (peer.0 == rs))) (is_about rule net) h).0).0
      (and_parts (is_action_of rule.way rule.action) (if_there rule.peer true (λ p. nat_le 1 p.0)) ok).0

  not_zero : (rule : MemberRule) (n : Asn) → IsLawful rule → rule.peer ≡ Some n → (n.0 == 0) ≡ false
  not_zero rule n ok e =
      let least : nat_le 1 n.0 ≡ true =
      ap (λ o. if_there o true (λ p. nat_le 1 p.0)) (sym e) ∙ (and_parts (is_action_of rule.way rule.action) (if_there rule.peer true (λ p. nat_le 1 p.0)) ok).1 in
      let h : 1 ≤ n.0 = leb-true 1 n.0 least in
      ne_eqb n.0 0 (λ z. omega arith)

  -- The first rule that is about the net and the receiver decides, else what the route brought.
  module _ (route : Route) (p : ℕ) where
    abbrev left : List MemberRule → Route
    left rules = rewritten rs rules route

    abbrev decided : List MemberRule → Option ℕ
    decided rules = if_there (asked rules rs route.net p) (steered rs route p) times_of

    abbrev one_ruled : MemberRule → List MemberRule → Route
    one_ruled rule rules =
        ruled rule.peer rule.action route (filter (λ q. not (steers_pair rs rule.peer q)) (rewritten_pairs rs route.net rules route.pairs))
        (rewritten_triples rs route.net rules route.triples)

    first_decides : (rule : MemberRule) (rules : List MemberRule) (peer : Option Asn) → rule.peer ≡ peer → IsLawful rule → applies rs rule route.net ≡ true
        → steered rs (left rules) p ≡ decided rules
        → steered rs (one_ruled rule rules) p
        ≡ if_there (if is_for rs rule route.net p then Some rule.action else asked rules rs route.net p) (steered rs route p) times_of
    first_decides rule rules None e ok h rest =
        ap (λ o. steered rs (ruled o rule.action route (filter (λ q. not (steers_pair rs o q)) (rewritten_pairs rs route.net rules route.pairs)) (rewritten_triples rs route.net rules route.triples)) p) e
        ∙ any_steers rule.action route (filter (λ q. not (steers_pair rs None q)) (rewritten_pairs rs route.net rules route.pairs)) (rewritten_triples rs route.net rules route.triples) p (lawful_action rule route.net ok h)
        ∙ ap (λ b. if_there (if b then Some rule.action else asked rules rs route.net p) (steered rs route p) times_of) (sym (for_any rule route.net p e h))
    first_decides rule rules (Some n) e ok h rest =
        ap (λ o. steered rs (ruled o rule.action route (filter (λ q. not (steers_pair rs o q)) (rewritten_pairs rs route.net rules route.pairs)) (rewritten_triples rs route.net rules route.triples)) p) e
        ∙ by_peer (n.0 == p) refl
        ∙ ap (λ b. if_there (if b then Some rule.action else asked rules rs route.net p) (steered rs route p) times_of) (sym (for_own rule n route.net p e h))
      where
        by_peer : (b : Bool) → (n.0 == p) ≡ b
            → steered rs (ruled (Some n) rule.action route (filter (λ q. not (steers_pair rs (Some n) q)) (rewritten_pairs rs route.net rules route.pairs)) (rewritten_triples rs route.net rules route.triples)) p
            ≡ if_there (if n.0 == p then Some rule.action else asked rules rs route.net p) (steered rs route p) times_of
        by_peer true is =
            rw is
            (subst (λ z. steered rs (ruled (Some n) rule.action route (filter (λ q. not (steers_pair rs (Some n) q)) (rewritten_pairs rs route.net rules route.pairs)) (rewritten_triples rs route.net rules route.triples)) z ≡ times_of rule.action)
            (eqb-true n.0 p is)
            (own_steers n rule.action route (filter (λ q. not (steers_pair rs (Some n) q)) (rewritten_pairs rs route.net rules route.pairs)) (rewritten_triples rs route.net rules route.triples) (lawful_action rule route.net ok h)))
        by_peer false is =
            rw is
            (other_steers n rule.action route (rewritten_pairs rs route.net rules route.pairs) (rewritten_triples rs route.net rules route.triples) p is
            (not_zero rule n ok e) (not_server rule n route.net e h)
            ∙ rest)

    pub rules_decide : (rules : List MemberRule) → AreLawful rules → steered rs (left rules) p ≡ decided rules
    rules_decide [] ok = refl
    rules_decide (rule ∷ rules) ok = go (rules_decide rules ok.1) (applies rs rule route.net) refl where
      go : steered rs (left rules) p ≡ decided rules → (b : Bool) → applies rs rule route.net ≡ b → steered rs (left (rule ∷ rules)) p ≡ decided (rule ∷ rules)
      go rest false h = rw (h, not_for rule rule.peer route.net p refl h) rest
      go rest true h = rw h (first_decides rule rules rule.peer refl ok.0 h rest)
