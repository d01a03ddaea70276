-- What a member is answered that asks for a session's own text, in states that it sees alike.
use Rattle.std.proofs.Common.{◌≡◌, ℕ, List, [], ◌∷◌, Bool, true, false, Option, Some, None, refl, sym, ap, ◌∙◌, subst, if◌then◌else◌}
use Rattle.std.proofs.lemmas.Bool.{eqb-true}
use Rattle.ixp_num_tables.specs.Tables.{find, if_there}
use Rattle.ixp_registry.specs.declared.kind.Kind.TheVariants.{Interfaces, Routers}
use Rattle.ixp_registry.specs.declared.members.Member.{Member}
use Rattle.ixp_registry.specs.declared.members.Owner.TheVariants.{Member as Of}
use Rattle.ixp_registry.specs.declared.network.IfAddr.{IfAddr}
use Rattle.ixp_registry.specs.declared.network.Interface.{Interface}
use Rattle.ixp_registry.specs.declared.refusal.Refusal.{Refusal}
use Rattle.ixp_registry.specs.declared.refusal.Refusal.TheVariants.{NoKey, Denied}
use Rattle.ixp_registry.specs.declared.refusal.Right.TheVariants as right
use Rattle.ixp_registry.specs.declared.refusal.RowKey.TheVariants as key
use Rattle.ixp_registry.specs.declared.registry.Registry.{Registry}
use Rattle.ixp_registry.specs.declared.router.Router.{Router}
use Rattle.ixp_registry.specs.Keys.{interface_key, member_key, router_key}
use Rattle.ixp_registry.specs.Sessions.{Session, address_of, is_session, session, session_at, session_with}
use Rattle.ixp_members.specs.Owners.{owner_of}
use Rattle.ixp_machine_edits.specs.Tests.{unless_there}
use Rattle.ixp_machine_steps.specs.declared.state.State.{State}
use Rattle.ixp_machine_steps.specs.States.{ValidState}
use Rattle.ixp_machine_steps.specs.Views.{View, view}
use Rattle.ixp_print.specs.Texts.{config_text}
use Rattle.ixp_compile.specs.Generated.{own_part}
use Rattle.ixp_desk_history.specs.declared.turn.Answered.{Answered}
use Rattle.ixp_desk_history.specs.declared.turn.Answered.TheVariants.{Answer, Text as OfText, Place, Refused, NoSession}
use Rattle.ixp_desk_history.specs.declared.turn.Asked.TheVariants.{OwnText}
use Rattle.ixp_desk_history.specs.declared.turn.Text.{Text}
use Rattle.ixp_desk_history.specs.Answers.{HasNoSession, IsAnswered, IsOwnText, is_owned, may_read, own_refusal, unless_both}
use Rattle.ixp_desk_laws.specs.Calls.{SameAnswered}
use Rattle.ixp_desk_laws.proofs.OwnRows.{SameRows, found_alike, owned, owned_alike, part_alike, session_alike}

-- the rows that make up what a member sees
pub rows_alike : (s t : State) (m : ℕ) → view s m ≡ view t m → SameRows m s.registry t.registry
rows_alike s t m seen = record {
  member = ap (λ (v : View). v.own.member) seen;
  interfaces = ap (λ (v : View). v.own.interfaces) seen;
  irr = ap (λ (v : View). v.own.irr) seen;
  origins = ap (λ (v : View). v.own.origins) seen;
  rules = ap (λ (v : View). v.own.rules) seen;
  routers = ap (λ (v : View). v.routers) seen;
  public = ap (λ (v : View). v.public) seen;
}

-- The sender of a session is the interface that was found.

sender_at : (r : Registry) (router : Router) (i : Interface) (s : Session) → session_at r router i ≡ Some s → i ≡ s.interface
sender_at r router i s is = by_test (is_session r router i) (address_of router.family i) (find member_key (i.member ∷ []) r.members) is where
  by_test : (b : Bool) (a : Option IfAddr) (m : Option Member) → (if b then session_with r router i a m else None) ≡ Some s → i ≡ s.interface
  by_test true (Some a) (Some m) e = let whole : ◌≡◌ {A = Option Session} (session_with r router i (Some a) (Some m)) (Some s) = e in ap (λ o. if_there o i (λ (x : Session). x.interface)) whole
  by_test true None m e = absurd (let bad : ◌≡◌ {A = Option Session} None (Some s) = e in cc)
  by_test true (Some a) None e = absurd (let bad : ◌≡◌ {A = Option Session} None (Some s) = e in cc)
  by_test false a m e = absurd (let bad : ◌≡◌ {A = Option Session} None (Some s) = e in cc)

pub sender_is : (r : Registry) (router : Router) (n : ℕ) (s : Session) → session r router n ≡ Some s → find interface_key (n ∷ []) r.interfaces ≡ Some s.interface
sender_is r router n s is = by_row (find interface_key (n ∷ []) r.interfaces) is where
  by_row : (o : Option Interface) → if_there o None (session_at r router) ≡ Some s → o ≡ Some s.interface
  by_row None e = absurd (let bad : ◌≡◌ {A = Option Session} None (Some s) = e in cc)
  by_row (Some i) e = ap Some (sender_at r router i s e)

-- a member's own session is of one of its interfaces
pub sender_own : (r : Registry) (router : Router) (n m : ℕ) (s : Session) → session r router n ≡ Some s → owned m (find interface_key (n ∷ []) r.interfaces) ≡ true → s.interface.member ≡ m
sender_own r router n m s is mine = eqb-true s.interface.member m (sym (ap (owned m) (sender_is r router n s is)) ∙ mine)

-- Refusals.

-- what is refused of a member's question
abbrev refused_at : ℕ → Registry → List ℕ → ℕ → Bool → Option Refusal
refused_at m r handle n b = if b then unless_both r handle n else Some (Denied right.Staff)

own_refused : (r : Registry) (secret handle : List ℕ) (n m : ℕ) → owner_of r secret ≡ Some (Of m) → own_refusal r secret handle n ≡ refused_at m r handle n (is_owned r m n)
own_refused r secret handle n m own =
    ap (λ o. if_there o (Some NoKey) (λ owner. if may_read r owner n then unless_both r handle n else Some (Denied right.Staff))) own

-- where nothing is refused, the interface is the member's
pub mine_unrefused : (r : Registry) (secret handle : List ℕ) (n m : ℕ) → owner_of r secret ≡ Some (Of m) → own_refusal r secret handle n ≡ None → is_owned r m n ≡ true
mine_unrefused r secret handle n m own none = by_test (is_owned r m n) refl (sym (own_refused r secret handle n m own) ∙ none) where
  by_test : (b : Bool) → is_owned r m n ≡ b → refused_at m r handle n b ≡ None → b ≡ true
  by_test true is e = refl
  by_test false is e = absurd (let bad : ◌≡◌ {A = Option Refusal} (Some (Denied right.Staff)) None = e in cc)

module _ (s t : State) (m : ℕ) (valid : ValidState s) (valid' : ValidState t) (seen : view s m ≡ view t m) where
  same : SameRows m s.registry t.registry
  same = rows_alike s t m seen

  owned_same : (n : ℕ) → is_owned s.registry m n ≡ is_owned t.registry m n
  owned_same n = owned_alike m s.registry t.registry same valid.registry.interfaces.order valid'.registry.interfaces.order n

  both_alike : (handle : List ℕ) (n : ℕ) → is_owned s.registry m n ≡ true → unless_both s.registry handle n ≡ unless_both t.registry handle n
  both_alike handle n mine =
      ap (λ o. if_there (unless_there o Interfaces (key.Number n)) (unless_there (find router_key handle s.registry.routers) Routers (key.Handle handle)) Some)
      (found_alike m s.registry t.registry same valid.registry.interfaces.order valid'.registry.interfaces.order n mine)
      ∙ ap (λ qs. if_there (unless_there (find interface_key (n ∷ []) t.registry.interfaces) Interfaces (key.Number n)) (unless_there (find router_key handle qs) Routers (key.Handle handle)) Some) same.routers

  refusal_alike : (a b handle : List ℕ) (n : ℕ) → owner_of s.registry a ≡ Some (Of m) → owner_of t.registry b ≡ Some (Of m) → own_refusal s.registry a handle n ≡ own_refusal t.registry b handle n
  refusal_alike a b handle n own other =
      own_refused s.registry a handle n m own ∙ (by_test (is_owned s.registry m n) refl ∙ sym (own_refused t.registry b handle n m other))
    where
      by_test : (c : Bool) → is_owned s.registry m n ≡ c → refused_at m s.registry handle n c ≡ refused_at m t.registry handle n (is_owned t.registry m n)
      by_test true mine = both_alike handle n mine ∙ sym (ap (refused_at m t.registry handle n) (sym (owned_same n) ∙ mine))
      by_test false none = sym (ap (refused_at m t.registry handle n) (sym (owned_same n) ∙ none))

  -- Texts.

  router_same : (handle : List ℕ) (q p : Router) → find router_key handle s.registry.routers ≡ Some q → find router_key handle t.registry.routers ≡ Some p → q ≡ p
  router_same handle q p is it =
      let whole : ◌≡◌ {A = Option Router} (Some q) (Some p) = sym is ∙ (ap (find router_key handle) same.routers ∙ it) in
      ap (λ o. if_there o q (λ x. x)) whole

  session_same : (handle : List ℕ) (n : ℕ) (q p : Router) → is_owned s.registry m n ≡ true → find router_key handle s.registry.routers ≡ Some q → find router_key handle t.registry.routers ≡ Some p
      → session s.registry q n ≡ session t.registry p n
  session_same handle n q p mine is it =
      session_alike m s.registry t.registry same valid.registry.interfaces.order valid'.registry.interfaces.order n q mine
      ∙ ap (λ x. session t.registry x n) (router_same handle q p is it)

  -- both texts are of one router and one session
  pub senders_alike : (handle : List ℕ) (n : ℕ) (x y : Text) → is_owned s.registry m n ≡ true → (this : IsOwnText s handle n x) → (that : IsOwnText t handle n y) → (this.router ≡ that.router) × (this.sender ≡ that.sender)
  senders_alike handle n x y mine this that =
      let whole : ◌≡◌ {A = Option Session} (Some this.sender) (Some that.sender)
      = sym this.is_sender ∙ (session_same handle n this.router that.router mine this.is_there that.is_there ∙ that.is_sender) in
      (router_same handle this.router that.router this.is_there that.is_there, ap (λ o. if_there o this.sender (λ x. x)) whole)

  -- and that session is the member's
  pub sender_rows : (handle : List ℕ) (n : ℕ) (x : Text) → is_owned s.registry m n ≡ true → (this : IsOwnText s handle n x) → SameRows this.sender.interface.member s.registry t.registry
  sender_rows handle n x mine this = subst (λ k. SameRows k s.registry t.registry) (sym (sender_own s.registry this.router n m this.sender this.is_sender mine)) same

  text_alike : (handle : List ℕ) (n : ℕ) (x y : Text) → is_owned s.registry m n ≡ true → IsOwnText s handle n x → IsOwnText t handle n y → (x.bytes ≡ y.bytes) × (x.roas ≡ y.roas)
  text_alike handle n x y mine this that =
      let both = senders_alike handle n x y mine this that in (
        this.bytes
            ∙ (ap config_text (part_alike s.registry t.registry this.router this.sender (sender_rows handle n x mine this)
            ∙ (ap (λ q. own_part t.registry q this.sender) both.0 ∙ ap (λ z. own_part t.registry that.router z) both.1))
            ∙ sym that.bytes),
        this.roas ∙ (ap (λ p. p.roas) same.public ∙ sym that.roas),
      )

  none_alike : (handle : List ℕ) (n : ℕ) (x : Text) → is_owned s.registry m n ≡ true → IsOwnText s handle n x → HasNoSession t.registry handle n → ⊥
  none_alike handle n x mine this (router, is_there, none) =
      let bad : ◌≡◌ {A = Option Session} (Some this.sender) None
      = sym this.is_sender ∙ (session_same handle n this.router router mine this.is_there is_there ∙ none) in
      let wrong : ⊥ = cc in wrong

  some_alike : (handle : List ℕ) (n : ℕ) (y : Text) → is_owned s.registry m n ≡ true → HasNoSession s.registry handle n → IsOwnText t handle n y → ⊥
  some_alike handle n y mine (router, is_there, none) that =
      let bad : ◌≡◌ {A = Option Session} None (Some that.sender)
      = sym none ∙ (session_same handle n router that.router mine is_there that.is_there ∙ that.is_sender) in
      let wrong : ⊥ = cc in wrong

  -- Answers.

  pub own_alike : (a b handle : List ℕ) (n : ℕ) (x y : Answered) → owner_of s.registry a ≡ Some (Of m) → owner_of t.registry b ≡ Some (Of m)
      → IsAnswered s (OwnText a handle n) x → IsAnswered t (OwnText b handle n) y → SameAnswered x y
  own_alike a b handle n (OfText x) (OfText y) own other (none, this) (none', that) = text_alike handle n x y (mine_unrefused s.registry a handle n m own none) this that
  own_alike a b handle n (OfText x) (Refused y) own other (none, this) that =
      let bad : ◌≡◌ {A = Option Refusal} None (Some y) = sym none ∙ (refusal_alike a b handle n own other ∙ that) in
      absurd (let wrong : ⊥ = cc in wrong)
  own_alike a b handle n (OfText x) NoSession own other (none, this) (none', that) = absurd (none_alike handle n x (mine_unrefused s.registry a handle n m own none) this that)
  own_alike a b handle n (Refused x) (Refused y) own other this that =
      let whole : ◌≡◌ {A = Option Refusal} (Some x) (Some y) = sym this ∙ (refusal_alike a b handle n own other ∙ that) in
      ap (λ o. if_there o (Refused x) Refused) whole
  own_alike a b handle n (Refused x) (OfText y) own other this (none', that) =
      let bad : ◌≡◌ {A = Option Refusal} (Some x) None = sym this ∙ (refusal_alike a b handle n own other ∙ none') in
      absurd (let wrong : ⊥ = cc in wrong)
  own_alike a b handle n (Refused x) NoSession own other this (none', that) =
      let bad : ◌≡◌ {A = Option Refusal} (Some x) None = sym this ∙ (refusal_alike a b handle n own other ∙ none') in
      absurd (let wrong : ⊥ = cc in wrong)
  own_alike a b handle n NoSession NoSession own other this that = refl
  own_alike a b handle n NoSession (OfText y) own other (none, this) (none', that) = absurd (some_alike handle n y (mine_unrefused s.registry a handle n m own none) this that)
  own_alike a b handle n NoSession (Refused y) own other (none, this) that =
      let bad : ◌≡◌ {A = Option Refusal} None (Some y) = sym none ∙ (refusal_alike a b handle n own other ∙ that) in
      absurd (let wrong : ⊥ = cc in wrong)
  own_alike a b handle n (Answer x) y own other this that = absurd this
  own_alike a b handle n (Place x) y own other this that = absurd this
  own_alike a b handle n (OfText x) (Answer y) own other this that = absurd that
  own_alike a b handle n (OfText x) (Place y) own other this that = absurd that
  own_alike a b handle n (Refused x) (Answer y) own other this that = absurd that
  own_alike a b handle n (Refused x) (Place y) own other this that = absurd that
  own_alike a b handle n NoSession (Answer y) own other this that = absurd that
  own_alike a b handle n NoSession (Place y) own other this that = absurd that
