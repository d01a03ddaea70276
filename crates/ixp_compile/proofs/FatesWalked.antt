-- The way of a route through the whole text is its fate by the rules over rows.
use Rattle.std.proofs.Common.{◌≡◌, ℕ, ◌<◌, ◌^◌, Bool, true, false, ◌==◌, not, List, [], ◌∷◌, ◌++◌, map, find, reverse, append_assoc, Option, Some, None, is_none, option_map, Result, Ok, codes, refl, sym, ap, ap₂, ◌∙◌, subst, true≢false, if◌then◌else◌}
use Rattle.std.specs.List.{AllByRecursion}
use Rattle.std.specs.Option.{is_some}
use Rattle.std.proofs.lemmas.Bool.{eqb-true, not-false}
use Rattle.ixp_num.specs.declared.pattern.Pattern.{Pattern}
use Rattle.ixp_lang.specs.declared.route.Route.{Route}
use Rattle.ixp_lang.specs.declared.route.Verdict.TheVariants.{Accept, Reject}
use Rattle.ixp_lang.specs.Faults.{Fault}
use Rattle.ixp_lang.specs.Trees.{ItemTree}
use Rattle.ixp_lang.specs.Attributes.{first_of}
use Rattle.ixp_lang.specs.Meaning.{Environment, same_name, filter_end}
use Rattle.ixp_lang.specs.Walks.{◌>>=◌, pipes_of, session_named, pipe_from, pipe_between, from_pipe, into_pipe, sent_out, in_primary, to_primary, in_table, walk_from, walk, sent_through as walk_received, sent_to as walk_sent_to}
use Rattle.ixp_registry.specs.declared.registry.Registry.{Registry}
use Rattle.ixp_registry.specs.declared.router.Router.{Router}
use Rattle.ixp_registry.specs.Sessions.{Session, receives}
use Rattle.ixp_policy.specs.declared.line.Line.{Line}
use Rattle.ixp_policy.specs.Export.{wish, lets_in, received, sent_route}
use Rattle.ixp_policy.specs.Fates.{passes}
use Rattle.ixp_policy.specs.Import.{import_table}
use Rattle.ixp_policy.specs.Tags.{tagged}
use Rattle.ixp_compile.specs.declared.inputs.Inputs.{Inputs}
use Rattle.ixp_compile.specs.Exports.{times_down}
use Rattle.ixp_compile.specs.Fragment.{table_name, bgp_name, in_name, up_name, down_name}
use Rattle.ixp_compile.specs.Generated.{inputs, roa_tables}
use Rattle.ixp_compile.specs.Imports.{Allows}
use Rattle.ixp_compile.specs.Pieces.{master}
use Rattle.ixp_compile.specs.Rewriting.{AreLawful, rewritten}
use Rattle.ixp_compile.specs.Shared.{HeadStands, cleaned, padded}
use Rattle.ixp_compile.proofs.Communities.{eq_swap}
use Rattle.ixp_compile.proofs.NamesApart.{same_numbered}
use Rattle.ixp_compile.proofs.Rewrites.{rules_decide}
use Rattle.ixp_compile.proofs.RouterSessions.{sent_entry, others}
use Rattle.ixp_compile.proofs.Sending.{sent_same}
use Rattle.ixp_compile.proofs.Walking.{bgp, pipe, text_sessions, text_pipes, session_there, pipe_there, pipe_down, sees_there}
use Rattle.ixp_compile.proofs.WholeText.{HasOther, text, in_does, up_does, down_does, out_does, verdict_of}

-- A route that passes begins with the sender's number.

none_holds : (ls : List Line) → is_none (find (λ l. l.holds) ls) ≡ true → AllByRecursion (λ l. l.holds ≡ false) ls
none_holds [] e = tt
none_holds (l ∷ ls) e = go l.holds refl (none_holds ls) where
  go : (b : Bool) → l.holds ≡ b → (is_none (find (λ l. l.holds) ls) ≡ true → AllByRecursion (λ l. l.holds ≡ false) ls)
      → (l.holds ≡ false) × AllByRecursion (λ l. l.holds ≡ false) ls
  go true f rest = absurd (true≢false (sym e ∙ ap (λ b. is_none (if b then Some l else find (λ l. l.holds) ls)) f))
  go false f rest = (f, rest (ap (λ b. is_none (if b then Some l else find (λ l. l.holds) ls)) (sym f) ∙ e))

pub first_is_sender : (r : Registry) (router : Router) (s : Session) (route : Route) → passes r router s route ≡ true → first_of route.path ≡ s.member.asn.0
unfolding import_table
first_is_sender r router s route e =
    let all = none_holds (import_table r router s route) e in
    eqb-true (first_of route.path) s.member.asn.0 (not-false (first_of route.path == s.member.asn.0) all.1.1.1.1.1.1.0)

-- Numbers of sessions.

abbrev pub Numbered : List Session → Type 0
Numbered [] = Unit {0}
Numbered (s ∷ ss) =
    (s.interface.number < 2 ^ 64) × AllByRecursion (λ t. (s.interface.number == t.interface.number) ≡ false) ss × Numbered ss

small_at : (front : List Session) (s : Session) (back : List Session) → Numbered (front ++ s ∷ back) → s.interface.number < 2 ^ 64
small_at [] s back n = n.0
small_at (t ∷ front) s back n = small_at front s back n.2

all_at : (P : Session → Type 0) (front : List Session) (s : Session) (back : List Session) → AllByRecursion P (front ++ s ∷ back) → P s
all_at P [] s back all = all.0
all_at P (t ∷ front) s back all = all_at P front s back all.1

-- no session before it has its name
pub others_in_front : (front : List Session) (s : Session) (back : List Session) → Numbered (front ++ s ∷ back) → AllByRecursion (HasOther s.interface.number) front
others_in_front [] s back n = tt
others_in_front (t ∷ front) s back n = (
  same_numbered [] t.interface.number s.interface.number n.0 (small_at front s back n.2)
      ∙ all_at (λ u. (t.interface.number == u.interface.number) ≡ false) front s back n.1,
  others_in_front front s back n.2,
)

others_behind : (front : List Session) (s : Session) (back : List Session) → Numbered (front ++ s ∷ back) → AllByRecursion (HasOther s.interface.number) back
others_behind (t ∷ front) s back n = others_behind front s back n.2
others_behind [] s back n = go back n.0 n.1 n.2 where
  go : (ts : List Session) → s.interface.number < 2 ^ 64 → AllByRecursion (λ t. (s.interface.number == t.interface.number) ≡ false) ts → Numbered ts
      → AllByRecursion (HasOther s.interface.number) ts
  go [] small all ns = tt
  go (t ∷ ts) small all ns =
      (same_numbered [] t.interface.number s.interface.number ns.0 small ∙ eq_swap t.interface.number s.interface.number ∙ all.0, go ts small all.1 ns.2)

-- what holds of each session, by where it stands
all_split : (P : Session → Type 0) (ss : List Session) → ((front : List Session) (s : Session) (back : List Session) → front ++ s ∷ back ≡ ss → P s) → AllByRecursion P ss
all_split P ss f = go [] ss refl where
  go : (front rest : List Session) → front ++ rest ≡ ss → AllByRecursion P rest
  go front [] e = tt
  go front (s ∷ back) e = (f front s back e, go (front ++ s ∷ []) back (append_assoc front (s ∷ []) back ∙ e))

module _ (r : Registry) (router : Router) (irr blackholes : Inputs → List Pattern) (stands : HeadStands r router)
    (apart : is_some router.blackhole ≡ true → (65535 == router.asn.0) ≡ false) (ss : List Session) (numbered : Numbered ss) where
  abbrev items : List ItemTree
  items = text r router irr blackholes ss

  module _ (env : Environment) where
    -- what each receiver's part does
    record Does (m : Session) : Type 0 where
      small : m.interface.number < 2 ^ 64
      pipe_found : pipe_between (pipes_of items) (master router.family) (table_name m.interface.number) ≡ Some (pipe r router m)
      down : (route : Route) → route.net.family ≡ router.family
          → filter_end env (reverse items) (down_name m.interface.number) route ≡ verdict_of (times_down router m route) route

    does : AllByRecursion Does ss
    does = all_split Does ss (λ front m back e. record {
      small = small_at front m back (subst Numbered (sym e) numbered);
      pipe_found =
          ap (λ ps. pipe_between ps (master router.family) (table_name m.interface.number)) (text_pipes r router irr blackholes ss)
          ∙ subst (λ ts. pipe_between (map (pipe r router) ts) (master router.family) (table_name m.interface.number) ≡ Some (pipe r router m)) e
          (pipe_down r router irr blackholes front m back (others_in_front front m back (subst Numbered (sym e) numbered)));
      down = λ route same.
          subst (λ ts. filter_end env (reverse (text r router irr blackholes ts)) (down_name m.interface.number) route ≡ verdict_of (times_down router m route) route) e
          (down_does r router irr blackholes env stands front m back (others_behind front m back (subst Numbered (sym e) numbered)) route same);
    })

    -- what one receiver gets
    module _ (s : Session) (t : Route) (family : t.net.family ≡ router.family) (ok : AreLawful s.rules) (first : first_of t.path ≡ s.member.asn.0) where
      abbrev x : Route
      x = rewritten router.asn.0 s.rules t

      abbrev cleans : ℕ → Route
      cleans n = cleaned router (padded n x)

      map_same : (f g : ℕ → Route) → ((n : ℕ) → f n ≡ g n) → (b : Bool) (w : Option ℕ) → option_map f (if b then w else None) ≡ (if b then option_map g w else None)
      map_same f g h false w = refl
      map_same f g h true None = refl
      map_same f g h true (Some n) = ap (λ q. Some q) (h n)

      times_same : (m : Session) → times_down router m x ≡ (if lets_in m s t then wish router s t m.member.asn.0 else None)
      times_same m =
          ap₂ (λ n w. if receives m.rules t.net n then w else None) first (rules_decide router.asn.0 t m.member.asn.0 s.rules ok)

      received_same : (m : Session) → option_map cleans (times_down router m x) ≡ received router s t m
      received_same m =
          ap (option_map cleans) (times_same m)
          ∙ map_same cleans (sent_route router s t) (λ n. sent_same router s t n ok apart first) (lets_in m s t) (wish router s t m.member.asn.0)

      one_received : (m : Session) → Does m → walk_received env items (master router.family) (bgp r router m) x ≡ Ok (received router s t m)
      one_received m d =
          ap (λ o. into_pipe env items (bgp r router m) o x) d.pipe_found
          ∙ ap (λ v. v >>= from_pipe env items (bgp r router m)) (d.down x family)
          ∙ by_times (times_down router m x)
          ∙ ap (λ o. Ok o) (received_same m)
        where
          by_times : (o : Option ℕ) → (verdict_of o x >>= from_pipe env items (bgp r router m)) ≡ Ok (option_map cleans o)
          by_times None = refl
          by_times (Some n) = ap (λ v. v >>= sent_out env items) (out_does r router irr blackholes env stands ss (padded n x) family)

      -- what all receivers get
      all_received : s.interface.number < 2 ^ 64 → (ms : List Session) → AllByRecursion Does ms
          → walk_sent_to env items (bgp_name s.interface.number) (master router.family) (map (bgp r router) ms) x
          ≡ Ok (map (sent_entry r router s t) (others r router s t ms))
      all_received small [] all = refl
      all_received small (m ∷ ms) all = go (m.interface.number == s.interface.number) refl (all_received small ms all.1) where
        step : Result (List (List ℕ × Option Route)) Fault
        step =
            walk_received env items (master router.family) (bgp r router m) x >>= λ y.
            walk_sent_to env items (bgp_name s.interface.number) (master router.family) (map (bgp r router) ms) x >>= λ ys.
            Ok ((bgp_name m.interface.number, y) ∷ ys)

        named : same_name (bgp_name m.interface.number) (bgp_name s.interface.number) ≡ (m.interface.number == s.interface.number)
        named = same_numbered (codes "b_") m.interface.number s.interface.number all.0.small small

        go : (b : Bool) → (m.interface.number == s.interface.number) ≡ b
            → walk_sent_to env items (bgp_name s.interface.number) (master router.family) (map (bgp r router) ms) x ≡ Ok (map (sent_entry r router s t) (others r router s t ms))
            → walk_sent_to env items (bgp_name s.interface.number) (master router.family) (map (bgp r router) (m ∷ ms)) x
            ≡ Ok (map (sent_entry r router s t) (others r router s t (m ∷ ms)))
        go true e rest =
            ap (λ b. if b then walk_sent_to env items (bgp_name s.interface.number) (master router.family) (map (bgp r router) ms) x else step) (named ∙ e)
            ∙ rest ∙ ap (λ b. Ok (map (sent_entry r router s t) (if not b then m ∷ others r router s t ms else others r router s t ms))) (sym e)
        go false e rest =
            ap (λ b. if b then walk_sent_to env items (bgp_name s.interface.number) (master router.family) (map (bgp r router) ms) x else step) (named ∙ e)
            ∙ ap₂ (λ (v : Result (Option Route) Fault) (w : Result (List (List ℕ × Option Route)) Fault). v >>= λ y. w >>= λ ys. Ok ((bgp_name m.interface.number, y) ∷ ys))
            (one_received m all.0) rest
            ∙ ap (λ b. Ok (map (sent_entry r router s t) (if not b then m ∷ others r router s t ms else others r router s t ms))) (sym e)

  -- The whole way.
  pub walked : (front : List Session) (s : Session) (back : List Session) → front ++ s ∷ back ≡ ss → (route : Route) → route.net.family ≡ router.family
      → Allows router s (irr (inputs r router s)) (blackholes (inputs r router s)) → AreLawful s.rules
      → walk items (roa_tables r) (bgp_name s.interface.number) route
      ≡ Ok (record {
        table = Some (tagged r router s route);
        passed = passes r router s route;
        sent = if passes r router s route then map (sent_entry r router s (tagged r router s route)) (others r router s (tagged r router s route) ss) else [];
      })
  walked front s back e route family allows ok =
      ap (λ bs. walk_from items (roa_tables r) (bgp_name s.interface.number) (session_named bs (bgp_name s.interface.number)) route) (text_sessions r router irr blackholes ss)
      ∙ ap (λ o. walk_from items (roa_tables r) (bgp_name s.interface.number) o route)
      (subst (λ ts. session_named (map (bgp r router) ts) (bgp_name s.interface.number) ≡ Some (bgp r router s)) e
      (session_there r router irr blackholes front s back in_front))
      ∙ ap (λ v. v >>= in_table env items (bgp r router s))
      (subst (λ ts. filter_end env (reverse (text r router irr blackholes ts)) (in_name s.interface.number) route ≡ Ok (Accept t)) e
      (in_does r router irr blackholes env stands front s back behind route (sees_there r router irr blackholes s) allows family))
      ∙ ap (λ ps. to_primary env items (bgp r router s) (pipe_from ps (table_name s.interface.number)) t) (text_pipes r router irr blackholes ss)
      ∙ ap (λ o. to_primary env items (bgp r router s) o t)
      (subst (λ ts. pipe_from (map (pipe r router) ts) (table_name s.interface.number) ≡ Some (pipe r router s)) e
      (pipe_there r router irr blackholes front s back in_front))
      ∙ ap (λ v. v >>= in_primary env items (bgp r router s) (pipe r router s) t)
      (subst (λ ts. filter_end env (reverse (text r router irr blackholes ts)) (up_name s.interface.number) t ≡ (if passes r router s route then Ok (Accept x) else Ok Reject)) e
      (up_does r router irr blackholes env stands front s back behind route family))
      ∙ by_passes (passes r router s route) refl
    where
      env : Environment
      env = record { from = s.address.addr; roas = roa_tables r }

      t : Route
      t = tagged r router s route

      x : Route
      x = rewritten router.asn.0 s.rules t

      at : Numbered (front ++ s ∷ back)
      at = subst Numbered (sym e) numbered

      in_front : AllByRecursion (HasOther s.interface.number) front
      in_front = others_in_front front s back at

      behind : AllByRecursion (HasOther s.interface.number) back
      behind = others_behind front s back at

      by_passes : (b : Bool) → passes r router s route ≡ b
          → ((if b then Ok (Accept x) else Ok Reject) >>= in_primary env items (bgp r router s) (pipe r router s) t)
          ≡ Ok (record { table = Some t; passed = b; sent = if b then map (sent_entry r router s t) (others r router s t ss) else [] })
      by_passes false f = refl
      by_passes true f =
          ap (λ bs. walk_sent_to env items (bgp_name s.interface.number) (master router.family) bs x >>= λ xs. Ok (record { table = Some t; passed = true; sent = xs })) (text_sessions r router irr blackholes ss)
          ∙ ap (λ v. v >>= λ xs. Ok (record { table = Some t; passed = true; sent = xs }))
          (all_received env s t family ok (first_is_sender r router s route f) (small_at front s back at) ss (does env))
