-- What a session holds after a turn.
use Rattle.std.proofs.Common.{◌≡◌, ℕ, List, [], ◌∷◌, ◌++◌, Some, option_map, refl, ap, sym, ◌∙◌}
use Rattle.std.specs.declared.cmp.Ordering.TheVariants.{Equal}
use Rattle.ixp_num_tables.specs.Tables.{find, order}
use Rattle.ixp_num_tables.proofs.Orders.{order_equal, order_same}
use Rattle.ixp_num_tables.proofs.TableLaws.{find-put-other, find-put-same-key, find-without-other, find-without-same}
use Rattle.ixp_lang.specs.declared.route.Route.{Route}
use Rattle.ixp_glass_holds.specs.declared.hold.Hold.{Hold}
use Rattle.ixp_glass_holds.specs.declared.hold.SessionKey.{SessionKey}
use Rattle.ixp_glass_holds.specs.Keys.{hold_key, session_key, session_of}
use Rattle.ixp_glass_holds.specs.Holds.{held_after, held_from, instead, some_of}
use Rattle.ixp_glass_holds.specs.Calls.{routes_of}
use Rattle.ixp_glass_holds.proofs.Turns.{held_snoc}

own_instead : (rs : List Route) (h : Hold) (rows : List Hold) → rs ≡ h.routes → option_map (λ (x : Hold). x.routes) (find hold_key (hold_key h) (instead rs h rows)) ≡ some_of rs
own_instead [] h rows is = ap (option_map (λ (x : Hold). x.routes)) (find-without-same hold_key (hold_key h) (hold_key h) rows (order_same (hold_key h)))
own_instead (r ∷ rs) h rows is =
    let there = ap (option_map (λ (x : Hold). x.routes)) (find-put-same-key hold_key (hold_key h) h rows (order_same (hold_key h))) in
    there ∙ ap Some (sym is)

pub own_last : (turns : List Hold) (h : Hold) → routes_of (held_after tt (turns ++ h ∷ [])) h.session.router h.session.interface ≡ some_of h.routes
own_last turns h =
    ap (λ rows. routes_of rows h.session.router h.session.interface) (held_snoc [] turns h) ∙ own_instead h.routes h (held_from [] turns) refl

-- one key names one session
one_session : (a b : SessionKey) → order (session_key a) (session_key b) ≡ Equal → a ≡ b
one_session a b e =
    let same = order_equal (session_key a) (session_key b) e in
    let interfaces : a.interface ≡ b.interface = cc in
    let routers : a.router ≡ b.router = cc in
    ap (λ i. session_of a.router i) interfaces ∙ ap (λ h. session_of h b.interface) routers

others_instead : (rs : List Route) (h : Hold) (k : SessionKey) (rows : List Hold) → (k ≡ h.session → ⊥) → find hold_key (session_key k) (instead rs h rows) ≡ find hold_key (session_key k) rows
others_instead [] h k rows apart = find-without-other hold_key (session_key k) (hold_key h) rows (λ e. apart (one_session k h.session e))
others_instead (r ∷ rs) h k rows apart = find-put-other hold_key (session_key k) h rows (λ e. apart (sym (one_session h.session k e)))

pub others_last : (turns : List Hold) (h : Hold) (router : List ℕ) (interface : ℕ) → (session_of router interface ≡ h.session → ⊥)
    → routes_of (held_after tt (turns ++ h ∷ [])) router interface ≡ routes_of (held_after tt turns) router interface
others_last turns h router interface apart =
    ap (λ rows. routes_of rows router interface) (held_snoc [] turns h)
    ∙ ap (option_map (λ (x : Hold). x.routes)) (others_instead h.routes h (session_of router interface) (held_from [] turns) apart)
