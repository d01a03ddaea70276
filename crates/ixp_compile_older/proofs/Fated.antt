-- The fate of a route by a router without a blackhole address and a bound.
use Rattle.std.proofs.Common.{◌≡◌, ℕ, Bool, true, false, ◌&&◌, ◌||◌, not, nat_lt, List, [], ◌++◌, Option, Some, None, is_none, option_map, refl, ap, ap₂, subst, if◌then◌else◌}
use Rattle.ixp_num_tables.specs.Tables.{find, if_there}
use Rattle.ixp_lang.specs.declared.fate.Fate.{Fate}
use Rattle.ixp_lang.specs.declared.route.Route.{Route}
use Rattle.ixp_registry.specs.declared.registry.Registry.{Registry}
use Rattle.ixp_registry.specs.declared.router.Router.{Router}
use Rattle.ixp_registry.specs.Keys.{router_key}
use Rattle.ixp_registry.specs.Sessions.{Session, session}
use Rattle.ixp_policy.specs.declared.line.Reason.TheVariants.{NextHopNotPeer, OriginNotRegistered, OriginInvalid, PrefixNotRegistered}
use Rattle.ixp_policy.specs.Fates.{at_session, fate_of}
use Rattle.ixp_policy.specs.Import.{brought_triples, import_table, is_got_past, is_reached, refusal}
use Rattle.ixp_policy.specs.Tags.{chosen, findings, refusal_told, tagged}
use Rattle.ixp_compile_older.specs.Fates.{older_fate_of, older_sent_to_others}
use Rattle.ixp_compile_older.specs.Registries.{IsOlder}
use Rattle.ixp_compile_older.specs.Tables.{older_findings, older_refusal, older_table, older_tagged}
use Rattle.ixp_compile_older.proofs.Bare.{bare, is_bare}

and_true : (b : Bool) → (b && true) ≡ b
and_true true = refl
and_true false = refl

or_false : (b : Bool) → (b || false) ≡ b
or_false true = refl
or_false false = refl

module _ (r : Registry) (q : Router) (s : Session) (route : Route) where
  pub refused_alike : refusal r (bare q) s route ≡ older_refusal r (bare q) s route
  unfolding import_table older_table
  refused_alike = rw (and_true (nat_lt q.high route.net.len)) refl

  past_hop : is_got_past NextHopNotPeer (import_table r (bare q) s route) ≡ is_got_past NextHopNotPeer (older_table r (bare q) s route)
  unfolding import_table older_table
  past_hop = rw (and_true (nat_lt q.high route.net.len)) refl

  origin_reached : is_reached OriginNotRegistered (import_table r (bare q) s route) ≡ is_reached OriginNotRegistered (older_table r (bare q) s route)
  unfolding import_table older_table
  origin_reached = rw (and_true (nat_lt q.high route.net.len)) refl

  state_reached : is_reached OriginInvalid (import_table r (bare q) s route) ≡ is_reached OriginInvalid (older_table r (bare q) s route)
  unfolding import_table older_table
  state_reached = rw (and_true (nat_lt q.high route.net.len)) refl

  past_all : is_got_past PrefixNotRegistered (import_table r (bare q) s route) ≡ is_got_past PrefixNotRegistered (older_table r (bare q) s route)
  unfolding import_table older_table
  past_all = rw (and_true (nat_lt q.high route.net.len)) refl

  found_alike : findings r (bare q) s route (import_table r (bare q) s route) ≡ older_findings r (bare q) s route (older_table r (bare q) s route)
  unfolding findings older_findings
  found_alike = rw (past_hop, origin_reached, state_reached, past_all, or_false (not q.rpki)) refl

  pub tagged_alike : tagged r (bare q) s route ≡ older_tagged r (bare q) s route
  tagged_alike =
      ap₂ (λ found line. record route { triples = brought_triples q.asn.0 route ++ (chosen found ++ refusal_told (bare q) line) })
      found_alike refused_alike

  pub fated_alike : fate_of r (bare q) route s ≡ older_fate_of r (bare q) route s
  fated_alike =
      ap₂ {C = Fate} (λ t line. record {
        table = Some t;
        passed = is_none line;
        sent = if is_none line then older_sent_to_others r (bare q) s t else [];
      }) tagged_alike refused_alike

-- the same of a router that is there
pub fated_there : (r : Registry) → IsOlder r → (handle : List ℕ) (q : Router) → find router_key handle r.routers ≡ Some q
    → (s : Session) (route : Route) → fate_of r q route s ≡ older_fate_of r q route s
fated_there r older handle q there s route =
    subst (λ p. fate_of r p route s ≡ older_fate_of r p route s) (is_bare r older handle q there) (fated_alike r q s route)

-- what is alike at each session that there is, is alike at a handle and a number
pub alike_at : {T : Type 0} (r : Registry) → IsOlder r → (handle : List ℕ) (n : ℕ) (f g : Router → Session → T)
    → ((q : Router) (s : Session) → f (bare q) s ≡ g (bare q) s) → at_session r handle n f ≡ at_session r handle n g
alike_at r older handle n f g alike = go (find router_key handle r.routers) refl where
  at : (q : Router) → find router_key handle r.routers ≡ Some q → (o : Option Session) → option_map (f q) o ≡ option_map (g q) o
  at q there None = refl
  at q there (Some s) = ap Some (subst (λ p. f p s ≡ g p s) (is_bare r older handle q there) (alike q s))

  go : (o : Option Router) → find router_key handle r.routers ≡ o
      → if_there o None (λ q. option_map (f q) (session r q n)) ≡ if_there o None (λ q. option_map (g q) (session r q n))
  go None there = refl
  go (Some q) there = at q there (session r q n)
