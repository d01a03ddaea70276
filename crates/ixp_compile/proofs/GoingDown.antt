-- What stands between the table that all share and a receiver: the way down.
use Rattle.std.proofs.Common.{◌≡◌, ℕ, ◌≤◌, Bool, true, false, ◌&&◌, ◌==◌, not, List, [], ◌∷◌, Option, Some, None, refl, sym, ap, ◌∙◌, lit≤, true≢false, if◌then◌else◌}
use Rattle.std.specs.List.{AllByRecursion}
use Rattle.std.proofs.lemmas.Bool.{and_parts}
use Rattle.ixp_num.specs.declared.asn.Asn.{Asn}
use Rattle.ixp_num.specs.declared.family.Family.{Family}
use Rattle.ixp_num.specs.declared.prefix.Prefix.{Prefix}
use Rattle.ixp_num.specs.Families.{same_family}
use Rattle.ixp_num.specs.Prefixes.{covers, matches}
use Rattle.ixp_lang.specs.declared.route.Route.{Route}
use Rattle.ixp_lang.specs.declared.value.Value.TheVariants as value
use Rattle.ixp_lang.specs.Attributes.{first_of}
use Rattle.ixp_lang.specs.Steering.{has_triple, first_line, sends, prepends}
use Rattle.ixp_lang.specs.Trees.{return_value, stmts}
use Rattle.ixp_lang.specs.Meaning.{Environment, Known, End, falls, accepts, returns, for_effect, runs, runs_all}
use Rattle.ixp_registry.specs.declared.registry.Registry.{Registry}
use Rattle.ixp_registry.specs.declared.router.Router.{Router}
use Rattle.ixp_registry.specs.declared.rules.MemberRule.{MemberRule}
use Rattle.ixp_num_tables.specs.Tables.{if_there}
use Rattle.ixp_registry.specs.Sessions.{Session, is_about, is_advertise, is_from, is_stop, receives}
use Rattle.ixp_compile.specs.Exports.{LetsIn, passed_on, times_down}
use Rattle.ixp_compile.specs.Fragment.{down_body}
use Rattle.ixp_compile.specs.Generated.{inputs}
use Rattle.ixp_compile.specs.MemberRules.{within, is_receive, is_of_family, receive_test, receive_body}
use Rattle.ixp_compile.specs.Pieces.{truth_value, when}
use Rattle.ixp_compile.specs.Shared.{Shared}
use Rattle.ixp_compile.proofs.Communities.{eq_swap, or_false, and_true}
use Rattle.ixp_compile.proofs.Passing.{within_covers}

module _ (env : Environment) (k : Known) where
  -- a receive rule's test
  abbrev is_meant : Option Asn → Option Prefix → Route → Bool
  is_meant peer prefix route = if_there peer true (λ p. p.0 == first_of route.path) && if_there prefix true (λ p. covers p route.net)

  test_runs : (peer : Option Asn) (prefix : Option Prefix) (answer : Bool) (route : Route) (next : Route → End)
      → runs env k [] (when (receive_test peer prefix) (return_value (truth_value answer) ∷ [])) route next
      ≡ (if is_meant peer prefix route then returns (value.Bool answer) route else next route)
  test_runs None None answer route next = refl
  test_runs (Some peer) None answer route next =
      ap (λ b. if b then returns (value.Bool answer) route else next route)
      (eq_swap (first_of route.path) peer.0 ∙ sym (and_true (peer.0 == first_of route.path)))
  test_runs None (Some p) answer route next =
      ap (λ b. if b then returns (value.Bool answer) route else next route) (or_false (matches (within p) route.net) ∙ within_covers p route.net)
  test_runs (Some peer) (Some p) answer route next = go (first_of route.path == peer.0) refl where
    go : (b : Bool) → (first_of route.path == peer.0) ≡ b
        → runs env k [] (when (receive_test (Some peer) (Some p)) (return_value (truth_value answer) ∷ [])) route next
        ≡ (if (peer.0 == first_of route.path) && covers p route.net then returns (value.Bool answer) route else next route)
    go true e =
        rw (e, eq_swap peer.0 (first_of route.path) ∙ e)
        (ap (λ b. if b then returns (value.Bool answer) route else next route) (or_false (matches (within p) route.net) ∙ within_covers p route.net))
    go false e = rw (e, eq_swap peer.0 (first_of route.path) ∙ e) refl

  other_family : (rule : MemberRule) (family : Family) (net : Prefix) → net.family ≡ family → (o : Option Prefix)
      → if_there o true (λ p. same_family p.family family) ≡ false → if_there o true (λ p. covers p net) ≡ false
  other_family rule family net same None e = absurd (true≢false e)
  other_family rule family net same (Some p) e = let apart : same_family p.family net.family ≡ false = ap (same_family p.family) same ∙ e in rw apart refl

  meant : (rule : MemberRule) (family : Family) (route : Route) → is_receive family rule ≡ true
      → is_from rule route.net (first_of route.path) ≡ is_meant rule.peer rule.prefix route
  meant rule family route e =
      ap (λ d. d && if_there rule.peer true (λ p. p.0 == first_of route.path) && is_about rule route.net)
      (and_parts (not (is_advertise rule.way)) (is_of_family family rule) e).0

  not_meant : (rule : MemberRule) (family : Family) (route : Route) → route.net.family ≡ family → is_receive family rule ≡ false
      → is_from rule route.net (first_of route.path) ≡ false
  not_meant rule family route same e =
      go (not (is_advertise rule.way)) (if_there rule.peer true (λ p. p.0 == first_of route.path)) (is_of_family family rule) refl e
    where
      go : (a b c : Bool) → is_of_family family rule ≡ c → (a && c) ≡ false → (a && b && is_about rule route.net) ≡ false
      go false b c f h = refl
      go true false c f h = refl
      go true true true f h = absurd (true≢false h)
      go true true false f h = other_family rule family route.net same rule.prefix f

  abbrev receiving : Family → List MemberRule → Route → End
  receiving family rules route = runs_all env k [] (stmts (receive_body family rules)) route falls

  pub receive_runs : (family : Family) (rules : List MemberRule) (route : Route) → route.net.family ≡ family
      → receiving family rules route ≡ returns (value.Bool (receives rules route.net (first_of route.path))) route
  receive_runs family [] route same = refl
  receive_runs family (rule ∷ rules) route same = go (is_receive family rule) refl (receive_runs family rules route same) where
    told : Bool → End
    told b = returns (value.Bool b) route

    as_told : (b x y : Bool) → (if b then told x else told y) ≡ told (if b then x else y)
    as_told true x y = refl
    as_told false x y = refl

    go : (b : Bool) → is_receive family rule ≡ b → receiving family rules route ≡ returns (value.Bool (receives rules route.net (first_of route.path))) route
        → receiving family (rule ∷ rules) route ≡ returns (value.Bool (receives (rule ∷ rules) route.net (first_of route.path))) route
    go false e rest = rw (e, not_meant rule family route same e) rest
    go true e rest =
        rw e
        (test_runs rule.peer rule.prefix (not (is_stop rule.action)) route (λ q. receiving family rules q)
        ∙ ap (λ x. if is_meant rule.peer rule.prefix route then returns (value.Bool (not (is_stop rule.action))) route else x) rest
        ∙ ap (λ b. if b then told (not (is_stop rule.action)) else told (receives rules route.net (first_of route.path))) (sym (meant rule family route e))
        ∙ as_told (is_from rule route.net (first_of route.path)) (not (is_stop rule.action)) (receives rules route.net (first_of route.path)))

-- Numbers of times.

small_line : (lines : List (Bool × ℕ)) (other : ℕ) → AllByRecursion (λ l. l.1 ≤ 3) lines → other ≤ 3 → first_line lines other ≤ 3
small_line [] other all h = h
small_line ((holds, n) ∷ lines) other all h = go holds (small_line lines other all.1 h) where
  go : (b : Bool) → first_line lines other ≤ 3 → (if b then n else first_line lines other) ≤ 3
  go true rest = all.0
  go false rest = rest

abbrev prepend_lines : ℕ → Route → ℕ → List (Bool × ℕ)
prepend_lines rs route p =
    (has_triple route rs 103 p, 3) ∷ (has_triple route rs 102 p, 2) ∷ (has_triple route rs 101 p, 1) ∷ (has_triple route rs 1 p, 0)
    ∷ (has_triple route rs 103 0, 3) ∷ (has_triple route rs 102 0, 2) ∷ (has_triple route rs 101 0, 1) ∷ []

pub prepends_small : (rs : ℕ) (route : Route) (p : ℕ) → prepends rs route p ≤ 3
prepends_small rs route p = small_line (prepend_lines rs route p) 0 (lit≤ tt, (lit≤ tt, (lit≤ tt, (lit≤ tt, (lit≤ tt, (lit≤ tt, (lit≤ tt, tt))))))) (lit≤ tt)

-- The way down.

pub down_runs : (env : Environment) (k : Known) (r : Registry) (router : Router) (receiver : Session) (route : Route)
    → Shared r router k → LetsIn router receiver k → route.net.family ≡ router.family
    → runs_all env k [] (stmts (down_body (inputs r router receiver))) route falls ≡ passed_on (times_down router receiver route) route
down_runs env k r router receiver route shared lets same =
    go (receives receiver.rules route.net (first_of route.path)) refl (sends router.asn.0 route receiver.member.asn.0) refl
  where
    go : (b : Bool) → receives receiver.rules route.net (first_of route.path) ≡ b → (c : Bool) → sends router.asn.0 route receiver.member.asn.0 ≡ c
        → runs_all env k [] (stmts (down_body (inputs r router receiver))) route falls ≡ passed_on (times_down router receiver route) route
    go false e c f = rw (lets route same, e) refl
    go true e false f = rw (lets route same, e, shared.sends receiver.member.asn.0 route, f) refl
    go true e true f =
        rw (lets route same, e, shared.sends receiver.member.asn.0 route, f, shared.counts receiver.member.asn.0 route)
        (ap (λ x. for_effect x (λ q. accepts q))
        (shared.pads (prepends router.asn.0 route receiver.member.asn.0) route (prepends_small router.asn.0 route receiver.member.asn.0)))
