-- The sessions of a router, as records and as interfaces.
use Rattle.std.proofs.Common.{◌≡◌, ℕ, Bool, true, false, ◌&&◌, ◌==◌, List, [], ◌∷◌, map, filter, filter_map, Option, Some, None, refl, sym, ap, ◌∙◌, true≢false, if◌then◌else◌}
use Rattle.std.specs.List.{cons_option}
use Rattle.std.proofs.lemmas.Bool.{and_parts}
use Rattle.ixp_num_tables.specs.Tables.{find, if_there}
use Rattle.ixp_lang.specs.declared.route.Route.{Route}
use Rattle.ixp_registry.specs.declared.members.Member.{Member}
use Rattle.ixp_registry.specs.declared.network.IfAddr.{IfAddr}
use Rattle.ixp_registry.specs.declared.network.Interface.{Interface}
use Rattle.ixp_registry.specs.declared.registry.Registry.{Registry}
use Rattle.ixp_registry.specs.declared.router.Router.{Router}
use Rattle.ixp_registry.specs.Keys.{member_key}
use Rattle.ixp_registry.specs.Lookups.{is_connected, is_member_connected}
use Rattle.ixp_registry.specs.Sessions.{Session, address_of, is_session, session_with, session_at}
use Rattle.ixp_policy.specs.Export.{received}
use Rattle.ixp_policy.specs.Fates.{session_name, sent_at, is_other, sent_to_others}
use Rattle.ixp_compile.specs.Generated.{router_sessions}

module _ (r : Registry) (router : Router) where
  -- an interface with a session has a record of it
  has_session : (i : Interface) → is_session r router i ≡ true → (s : Session) × (session_at r router i ≡ Some s) × (s.interface ≡ i)
  has_session i e = go (address_of router.family i) (find member_key (i.member ∷ []) r.members) refl refl where
    both : (if_there (address_of router.family i) false (λ a. a.rs) ≡ true) × (is_member_connected r.members i.member ≡ true)
    both =
        let parts = and_parts (i.vlan == router.vlan && if_there (address_of router.family i) false (λ a. a.rs)) (is_member_connected r.members i.member) e in
        ((and_parts (i.vlan == router.vlan) (if_there (address_of router.family i) false (λ a. a.rs)) parts.0).1, parts.1)

    go : (a : Option IfAddr) (m : Option Member) → address_of router.family i ≡ a → find member_key (i.member ∷ []) r.members ≡ m
        → (s : Session) × (session_at r router i ≡ Some s) × (s.interface ≡ i)
    go None m f g = absurd (true≢false (sym both.0 ∙ ap (λ o. if_there o false (λ a. a.rs)) f))
    go (Some a) None f g = absurd (true≢false (sym both.1 ∙ ap (λ o. if_there o false (λ m. is_connected m.status)) g))
    go (Some a) (Some m) f g = (_, (λ j. if e j then session_with r router i (f j) (g j) else None), refl)

  no_session : (i : Interface) → is_session r router i ≡ false → session_at r router i ≡ None
  no_session i e = ap (λ b. if b then session_with r router i (address_of router.family i) (find member_key (i.member ∷ []) r.members) else None) e

  module _ (s : Session) (route : Route) where
    abbrev pub sent_entry : Session → List ℕ × Option Route
    sent_entry m = (session_name m.interface.number, received router s route m)

    abbrev pub others : List Session → List Session
    others ms = filter (λ m. is_other s m.interface) ms

    one_more : (i : Interface) (m : Session) → session_at r router i ≡ Some m → m.interface ≡ i → (is : List Interface) (ms : List Session)
        → map (sent_at r router s route) (filter (is_other s) is) ≡ map sent_entry (others ms)
        → map (sent_at r router s route) (filter (is_other s) (i ∷ is)) ≡ map sent_entry (others (m ∷ ms))
    one_more i m there same is ms rest = go (is_other s i) refl (ap (is_other s) same) where
      go : (b : Bool) → is_other s i ≡ b → is_other s m.interface ≡ is_other s i
          → map (sent_at r router s route) (filter (is_other s) (i ∷ is)) ≡ map sent_entry (others (m ∷ ms))
      go false e f =
          ap (λ c. map (sent_at r router s route) (if c then i ∷ filter (is_other s) is else filter (is_other s) is)) e ∙ rest
          ∙ ap (λ c. map sent_entry (if c then m ∷ others ms else others ms)) (sym (f ∙ e))
      go true e f =
          ap (λ c. map (sent_at r router s route) (if c then i ∷ filter (is_other s) is else filter (is_other s) is)) e
          ∙ (λ j. (session_name (sym same j).number, if_there (there j) None (received router s route)) ∷ rest j)
          ∙ ap (λ c. map sent_entry (if c then m ∷ others ms else others ms)) (sym (f ∙ e))

    listed : (i : Interface) (is : List Interface) (m : Session) → session_at r router i ≡ Some m
        → filter_map (session_at r router) (i ∷ is) ≡ m ∷ filter_map (session_at r router) is
    listed i is m there = ap (λ o. cons_option o (filter_map (session_at r router) is)) there

    entries : (is : List Interface) → map (sent_at r router s route) (filter (is_other s) (filter (is_session r router) is))
        ≡ map sent_entry (others (filter_map (session_at r router) is))
    entries [] = refl
    entries (i ∷ is) = go (is_session r router i) refl (entries is) where
      go : (b : Bool) → is_session r router i ≡ b
          → map (sent_at r router s route) (filter (is_other s) (filter (is_session r router) is)) ≡ map sent_entry (others (filter_map (session_at r router) is))
          → map (sent_at r router s route) (filter (is_other s) (filter (is_session r router) (i ∷ is))) ≡ map sent_entry (others (filter_map (session_at r router) (i ∷ is)))
      go false e rest =
          ap (λ c. map (sent_at r router s route) (filter (is_other s) (if c then i ∷ filter (is_session r router) is else filter (is_session r router) is))) e
          ∙ rest ∙ ap (λ o. map sent_entry (others (cons_option o (filter_map (session_at r router) is)))) (sym (no_session i e))
      go true e rest =
          let m : (m : Session) × (session_at r router i ≡ Some m) × (m.interface ≡ i) = has_session i e in
          ap (λ c. map (sent_at r router s route) (filter (is_other s) (if c then i ∷ filter (is_session r router) is else filter (is_session r router) is))) e
          ∙ one_more i m.0 m.1 m.2 (filter (is_session r router) is) (filter_map (session_at r router) is) rest
          ∙ ap (λ ms. map sent_entry (others ms)) (sym (listed i is m.0 m.1))

  pub others_sent : (s : Session) (route : Route) → sent_to_others r router s route ≡ map (sent_entry s route) (others s route (router_sessions r router))
  others_sent s route = entries s route r.interfaces
