-- What a receiver is sent, of a route that its sender's rules have rewritten.
use Rattle.std.proofs.Common.{◌≡◌, ℕ, zero, suc, append-nil, Bool, true, false, ◌&&◌, ◌||◌, ◌==◌, not, nat_le, List, [], ◌∷◌, ◌++◌, filter, replicate, Option, refl, sym, ap, ap₂, ◌∙◌, true≢false, if◌then◌else◌}
use Rattle.std.specs.List.{list_any}
use Rattle.std.specs.Option.{is_some}
use Rattle.std.proofs.lemmas.Bool.{and_parts, eqb-true}
use Rattle.std.proofs.lemmas.List.Elements.{filter-append}
use Rattle.std.proofs.lemmas.Map.Views.{any-filter_same}
use Rattle.ixp_num.specs.declared.asn.Asn.{Asn}
use Rattle.ixp_num.specs.declared.prefix.Prefix.{Prefix}
use Rattle.ixp_lang.specs.declared.route.Route.{Route}
use Rattle.ixp_lang.specs.Attributes.{first_of, fits_part}
use Rattle.ixp_registry.specs.declared.router.Router.{Router}
use Rattle.ixp_registry.specs.declared.rules.Action.{Action}
use Rattle.ixp_registry.specs.declared.rules.Action.TheVariants.{AsIs, Prepend, Stop}
use Rattle.ixp_registry.specs.declared.rules.MemberRule.{MemberRule}
use Rattle.ixp_num_tables.specs.Tables.{if_there}
use Rattle.ixp_registry.specs.Sessions.{Session}
use Rattle.ixp_policy.specs.Blackholes.{is_blackhole, is_host_net}
use Rattle.ixp_policy.specs.Export.{hop_of, is_for_server, is_of_server, server_actions, sent_route}
use Rattle.ixp_compile.specs.MemberRules.{any_number, number_or_0}
use Rattle.ixp_compile.specs.Rewriting.{applies, steers_triple, steers_pair, with_one, with_action, rewritten, rewritten_triples, rewritten_pairs, AreLawful}
use Rattle.ixp_compile.specs.Shared.{cleaned, padded}
use Rattle.ixp_compile.proofs.Rewrites.{lawful, too_many, lawful_action}
use Rattle.ixp_compile.proofs.Communities.{eq_refl, and_none}

-- what a second filter leaves out may be left out before
filter_both : {A : Type 0} (f g : A → Bool) → ((x : A) → f x ≡ true → g x ≡ true) → (xs : List A) → filter f (filter g xs) ≡ filter f xs
filter_both f g h [] = refl
filter_both f g h (x ∷ xs) = go (f x) (g x) refl refl (filter_both f g h xs) where
  go : (a b : Bool) → f x ≡ a → g x ≡ b → filter f (filter g xs) ≡ filter f xs → filter f (filter g (x ∷ xs)) ≡ filter f (x ∷ xs)
  go a true e k rest = rw k (ap (λ l. if f x then x ∷ l else l) rest)
  go false false e k rest = rw (e, k) rest
  go true false e k rest = absurd (true≢false (sym (h x e) ∙ k))

module _ (rs : ℕ) where
  abbrev stays : ℕ × ℕ × ℕ → Bool
  stays t = not (is_of_server rs t)

  abbrev pair_stays : ℕ × ℕ → Bool
  pair_stays p = not (is_for_server rs p)

  one_leaves : (a n : ℕ) (ts : List (ℕ × ℕ × ℕ)) → list_any (λ b. b == a) server_actions ≡ true → filter stays (with_one rs a n ts) ≡ filter stays ts
  one_leaves a n ts own = go (list_any (λ t. t.0 == rs && t.1 == a && t.2 == n) ts) refl where
    gone : stays (rs, a, n) ≡ false
    gone = ap₂ (λ x y. not (x && y)) (eq_refl rs) own

    none : filter stays ((rs, a, n) ∷ []) ≡ []
    none = rw gone refl

    go : (b : Bool) → list_any (λ t. t.0 == rs && t.1 == a && t.2 == n) ts ≡ b → filter stays (with_one rs a n ts) ≡ filter stays ts
    go true e = rw e refl
    go false e = rw e (filter-append stays ts ((rs, a, n) ∷ []) ∙ ap (λ l. filter stays ts ++ l) none ∙ append-nil (filter stays ts))

  action_leaves : (n : ℕ) (action : Action) (ts : List (ℕ × ℕ × ℕ)) → lawful rs action ≡ true → filter stays (with_action rs n action ts) ≡ filter stays ts
  action_leaves n Stop ts ok = one_leaves 0 n ts refl
  action_leaves n AsIs ts ok = one_leaves 1 n ts refl
  action_leaves n (Prepend zero) ts ok = absurd (true≢false (sym ok))
  action_leaves n (Prepend (suc zero)) ts ok = one_leaves 101 n (with_one rs 1 n ts) refl ∙ one_leaves 1 n ts refl
  action_leaves n (Prepend (suc (suc zero))) ts ok = one_leaves 102 n (with_one rs 1 n ts) refl ∙ one_leaves 1 n ts refl
  action_leaves n (Prepend (suc (suc (suc zero)))) ts ok = one_leaves 103 n (with_one rs 1 n ts) refl ∙ one_leaves 1 n ts refl
  action_leaves n (Prepend (suc (suc (suc (suc k))))) ts ok = too_many rs k ok

  -- what steers is the server's own
  own_steers : (peer : Option Asn) (t : ℕ × ℕ × ℕ) → stays t ≡ true → not (steers_triple rs peer t) ≡ true
  own_steers peer t e = go (t.0 == rs) (0 == t.1) (1 == t.1) (101 == t.1) (102 == t.1) (103 == t.1) (list_any (λ a. a == t.1) (1000 ∷ 1001 ∷ 1101 ∷ [])) (fits_part t.2 (any_number peer)) e where
    go : (s a b c d f g w : Bool) → not (s && (a || (b || (c || (d || (f || g)))))) ≡ true → not (s && (a || (b || (c || (d || (f || false))))) && w) ≡ true
    go false a b c d f g w h = refl
    go true false false false false false g w h = refl
    go true true b c d f g w h = absurd (true≢false (sym h))
    go true false true c d f g w h = absurd (true≢false (sym h))
    go true false false true d f g w h = absurd (true≢false (sym h))
    go true false false false true f g w h = absurd (true≢false (sym h))
    go true false false false false true g w h = absurd (true≢false (sym h))

  pair_steers : (peer : Option Asn) (p : ℕ × ℕ) → pair_stays p ≡ true → not (steers_pair rs peer p) ≡ true
  pair_steers peer p e = go (nat_le rs 65535) (nat_le (number_or_0 peer) 65535) (p.0 == 0 || p.0 == rs) (fits_part p.1 (any_number peer)) e where
    go : (a b c w : Bool) → not (a && c) ≡ true → not ((a && b) && (c && w)) ≡ true
    go false b c w h = refl
    go true false c w h = refl
    go true true false w h = refl
    go true true true w h = absurd (true≢false (sym h))

  triples_leave : (net : Prefix) (rules : List MemberRule) (ts : List (ℕ × ℕ × ℕ)) → AreLawful rules
      → filter stays (rewritten_triples rs net rules ts) ≡ filter stays ts
  triples_leave net [] ts ok = refl
  triples_leave net (rule ∷ rules) ts ok = go (applies rs rule net) refl (triples_leave net rules ts ok.1) where
    go : (b : Bool) → applies rs rule net ≡ b → filter stays (rewritten_triples rs net rules ts) ≡ filter stays ts → filter stays (rewritten_triples rs net (rule ∷ rules) ts) ≡ filter stays ts
    go false e rest = rw e rest
    go true e rest =
        rw e
        (action_leaves (number_or_0 rule.peer) rule.action (filter (λ t. not (steers_triple rs rule.peer t)) (rewritten_triples rs net rules ts)) (lawful_action rs rule net ok.0 e)
        ∙ filter_both stays (λ t. not (steers_triple rs rule.peer t)) (own_steers rule.peer) (rewritten_triples rs net rules ts) ∙ rest)

  pairs_leave : (net : Prefix) (rules : List MemberRule) (ps : List (ℕ × ℕ)) → filter pair_stays (rewritten_pairs rs net rules ps) ≡ filter pair_stays ps
  pairs_leave net [] ps = refl
  pairs_leave net (rule ∷ rules) ps = go (applies rs rule net) refl (pairs_leave net rules ps) where
    go : (b : Bool) → applies rs rule net ≡ b → filter pair_stays (rewritten_pairs rs net rules ps) ≡ filter pair_stays ps → filter pair_stays (rewritten_pairs rs net (rule ∷ rules) ps) ≡ filter pair_stays ps
    go false e rest = rw e rest
    go true e rest =
        rw e (filter_both pair_stays (λ p. not (steers_pair rs rule.peer p)) (pair_steers rule.peer) (rewritten_pairs rs net rules ps) ∙ rest)

  -- BLACKHOLE is for no server but one of its number
  blackhole_kept : (65535 == rs) ≡ false → (net : Prefix) (rules : List MemberRule) (ps : List (ℕ × ℕ))
      → list_any (λ p. p.0 == 65535 && p.1 == 666) (rewritten_pairs rs net rules ps) ≡ list_any (λ p. p.0 == 65535 && p.1 == 666) ps
  blackhole_kept other net [] ps = refl
  blackhole_kept other net (rule ∷ rules) ps = go (applies rs rule net) refl (blackhole_kept other net rules ps) where
    stayed : (p : ℕ × ℕ) → (p.0 == 65535 && p.1 == 666) ≡ true → not (steers_pair rs rule.peer p) ≡ true
    stayed p is =
        let same : p.0 ≡ 65535 = eqb-true p.0 65535 (and_parts (p.0 == 65535) (p.1 == 666) is).0 in
        ap (λ d. not ((nat_le rs 65535 && nat_le (number_or_0 rule.peer) 65535) && ((d == 0 || d == rs) && fits_part p.1 (any_number rule.peer)))) same
        ∙ ap (λ d. not ((nat_le rs 65535 && nat_le (number_or_0 rule.peer) 65535) && (d && fits_part p.1 (any_number rule.peer)))) other
        ∙ ap not (and_none (nat_le rs 65535 && nat_le (number_or_0 rule.peer) 65535))

    go : (b : Bool) → applies rs rule net ≡ b
        → list_any (λ p. p.0 == 65535 && p.1 == 666) (rewritten_pairs rs net rules ps) ≡ list_any (λ p. p.0 == 65535 && p.1 == 666) ps
        → list_any (λ p. p.0 == 65535 && p.1 == 666) (rewritten_pairs rs net (rule ∷ rules) ps) ≡ list_any (λ p. p.0 == 65535 && p.1 == 666) ps
    go false e rest = rw e rest
    go true e rest =
        rw e
        (any-filter_same (λ p. p.0 == 65535 && p.1 == 666) (λ p. not (steers_pair rs rule.peer p)) true stayed (rewritten_pairs rs net rules ps) ∙ rest)

-- The whole.
pub sent_same : (router : Router) (s : Session) (route : Route) (times : ℕ) → AreLawful s.rules
    → (is_some router.blackhole ≡ true → (65535 == router.asn.0) ≡ false) → first_of route.path ≡ s.member.asn.0
    → cleaned router (padded times (rewritten router.asn.0 s.rules route)) ≡ sent_route router s route times
sent_same router s route times ok apart first = λ i. record {
  net = route.net;
  path = replicate times (record { 0 = first i }) ++ route.path;
  next_hop = hop i;
  pairs = pairs_leave router.asn.0 route.net s.rules route.pairs i;
  triples = triples_leave router.asn.0 route.net s.rules route.triples ok i;
}
  where
    drops : (b : Bool) → is_some router.blackhole ≡ b → is_blackhole router (rewritten router.asn.0 s.rules route) ≡ is_blackhole router route
    drops true e = ap (λ d. is_some router.blackhole && is_host_net route.net && d) (blackhole_kept router.asn.0 (apart e) route.net s.rules route.pairs)
    drops false e = rw e refl

    hop : hop_of router (rewritten router.asn.0 s.rules route) ≡ hop_of router route
    hop = ap (λ b. if b then if_there router.blackhole route.next_hop (λ a. a) else route.next_hop) (drops (is_some router.blackhole) refl)
