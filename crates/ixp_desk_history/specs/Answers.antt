-- What a question is answered of a state.
use Rattle.std.specs.Prelude.{◌≡◌, ℕ, List, [], ◌∷◌, Bool, true, false, ◌==◌, Option, Some, None, if◌then◌else◌}
use Rattle.ixp_num_tables.specs.Tables.{find, if_there}
use Rattle.ixp_registry.specs.declared.kind.Kind.TheVariants.{Interfaces, Routers}
use Rattle.ixp_registry.specs.declared.members.Owner.{Owner}
use Rattle.ixp_registry.specs.declared.members.Owner.TheVariants.{Staff, Member}
use Rattle.ixp_registry.specs.declared.refusal.Refusal.{Refusal}
use Rattle.ixp_registry.specs.declared.refusal.Refusal.TheVariants.{NoKey, Denied}
use Rattle.ixp_registry.specs.declared.refusal.Right.TheVariants as right
use Rattle.ixp_registry.specs.declared.refusal.RowKey.TheVariants as key
use Rattle.ixp_registry.specs.declared.registry.Registry.{Registry}
use Rattle.ixp_registry.specs.declared.router.Router.{Router}
use Rattle.ixp_registry.specs.Keys.{interface_key, router_key}
use Rattle.ixp_registry.specs.Sessions.{Session, session}
use Rattle.ixp_members.specs.Owners.{owner_of}
use Rattle.ixp_machine_edits.specs.Tests.{unless_there}
use Rattle.ixp_machine_steps.specs.declared.state.State.{State}
use Rattle.ixp_machine.specs.Decisions.{place_of}
use Rattle.ixp_machine.specs.Questions.{ask_refusal, IsAnswer}
use Rattle.ixp_print.specs.Texts.{config_text}
use Rattle.ixp_compile.specs.Generated.{own_part}
use Rattle.ixp_desk_history.specs.declared.turn.Answered.{Answered}
use Rattle.ixp_desk_history.specs.declared.turn.Answered.TheVariants as answered
use Rattle.ixp_desk_history.specs.declared.turn.Asked.{Asked}
use Rattle.ixp_desk_history.specs.declared.turn.Asked.TheVariants.{Query, OwnText, Seen}
use Rattle.ixp_desk_history.specs.declared.turn.Text.{Text}

-- the interface is there, and is the member's
abbrev pub is_owned : Registry → ℕ → ℕ → Bool
is_owned r m n = if_there (find interface_key (n ∷ []) r.interfaces) false (λ i. i.member == m)

-- The staff may ask for the text of every session, a member for those at its own interfaces.
abbrev pub may_read : Registry → Owner → ℕ → Bool
may_read r (Staff n) interface = true
may_read r (Member m) interface = is_owned r m interface

-- X4: the interface has to be there, and the router
abbrev pub unless_both : Registry → List ℕ → ℕ → Option Refusal
unless_both r handle n =
    if_there (unless_there (find interface_key (n ∷ []) r.interfaces) Interfaces (key.Number n))
    (unless_there (find router_key handle r.routers) Routers (key.Handle handle)) Some

-- Why a session's own text is refused: X0, X1 or X4. Of an interface that isn't its own a member is told the
-- same whether or not it is there.
abbrev pub own_refusal : Registry → List ℕ → List ℕ → ℕ → Option Refusal
own_refusal r secret handle n =
    if_there (owner_of r secret) (Some NoKey) (λ owner. if may_read r owner n then unless_both r handle n
    else Some (Denied right.Staff))

-- the text of the session's own part, of this state, with its ROAs
pub record IsOwnText (s : State) (handle : List ℕ) (n : ℕ) (text : Text) : Type 0 where
  pub router : Router
  pub is_there : find router_key handle s.registry.routers ≡ Some router
  pub sender : Session
  pub is_sender : session s.registry router n ≡ Some sender
  pub built : text.built ≡ s.accepted
  pub bytes : text.bytes ≡ config_text (own_part s.registry router sender)
  pub roas : text.roas ≡ s.registry.public.roas

-- the router is there, and the interface is no session of it
abbrev pub HasNoSession : Registry → List ℕ → ℕ → Type 0
HasNoSession r handle n = (router : Router) × (find router_key handle r.routers ≡ Some router)
    × (session r router n ≡ None)

-- what a question is answered of the state
abbrev pub IsAnswered : State → Asked → Answered → Type 0
IsAnswered s (Query secret query) (answered.Answer a) =
    (ask_refusal s.registry secret query ≡ None) × IsAnswer s.registry query a
IsAnswered s (Query secret query) (answered.Refused x) = ask_refusal s.registry secret query ≡ Some x
IsAnswered s (OwnText secret router n) (answered.Text t) =
    (own_refusal s.registry secret router n ≡ None) × IsOwnText s router n t
IsAnswered s (OwnText secret router n) (answered.Refused x) = own_refusal s.registry secret router n ≡ Some x
IsAnswered s (OwnText secret router n) answered.NoSession =
    (own_refusal s.registry secret router n ≡ None) × HasNoSession s.registry router n
IsAnswered s (Seen owner number) (answered.Place p) = p ≡ place_of s owner number
IsAnswered s q a = ⊥
