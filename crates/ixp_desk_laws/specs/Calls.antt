-- Calls of members in histories: when two are the same call, what a member sees of two states, and when two
-- answers are the same.
use Rattle.std.specs.Prelude.{◌≡◌, ◌⊎◌, ℕ, Some, None}
use Rattle.ixp_registry.specs.declared.members.Owner.TheVariants.{Member}
use Rattle.ixp_registry.specs.declared.registry.Registry.{Registry}
use Rattle.ixp_members.specs.Owners.{owner_of}
use Rattle.ixp_machine_steps.specs.declared.state.State.{State}
use Rattle.ixp_machine_steps.specs.Views.{view}
use Rattle.ixp_machine.specs.declared.decision.Decision.{Decision}
use Rattle.ixp_machine.specs.declared.decision.Decision.TheVariants.{Accepted}
use Rattle.ixp_machine.specs.Questions.{right_asked}
use Rattle.ixp_ixf.specs.Export.{exchange_tree, members_tree}
use Rattle.ixp_desk_history.specs.declared.turn.Answered.{Answered}
use Rattle.ixp_desk_history.specs.declared.turn.Answered.TheVariants as answered
use Rattle.ixp_desk_history.specs.declared.turn.Asked.{Asked}
use Rattle.ixp_desk_history.specs.declared.turn.Asked.TheVariants.{Query, OwnText, Seen}
use Rattle.ixp_desk_history.specs.declared.turn.Event.{Event}
use Rattle.ixp_desk_history.specs.declared.turn.Event.TheVariants.{Edit, Question, Install, Fault}

-- Whose calls.

-- The question shows a secret of the member's; the export asks for none. Where an edit stands is asked for
-- the staff alone.
abbrev pub IsAskedBy : Registry → ℕ → Asked → Type 0
IsAskedBy r m (Query secret query) = (right_asked query ≡ None) ⊎ (owner_of r secret ≡ Some (Member m))
IsAskedBy r m (OwnText secret router n) = owner_of r secret ≡ Some (Member m)
IsAskedBy r m (Seen owner number) = ⊥

-- the event is a call of the member: an edit with a secret of its own, or such a question
abbrev pub IsCallOf : Registry → ℕ → Event → Type 0
IsCallOf r m (Edit e d) = owner_of r e.value.secret ≡ Some (Member m)
IsCallOf r m (Question q a) = IsAskedBy r m q
IsCallOf r m (Install upto) = ⊥
IsCallOf r m (Fault count) = ⊥

-- Same calls, with whichever secrets.

abbrev pub SameAsked : Asked → Asked → Type 0
SameAsked (Query a q) (Query b p) = q ≡ p
SameAsked (OwnText a router n) (OwnText b other k) = (router ≡ other) × (n ≡ k)
SameAsked (Seen owner n) (Seen other k) = (owner ≡ other) × (n ≡ k)
SameAsked q p = ⊥

-- two requests with one number for the same edit, or the same question; the export is asked at the same
-- second
abbrev pub SameCall : Event → Event → Type 0
SameCall (Edit e d) (Edit f c) = (e.value.number ≡ f.value.number) × (e.value.edit ≡ f.value.edit)
SameCall (Question q a) (Question p b) = SameAsked q p
SameCall v w = ⊥

-- What a member sees of two states is the same: its own records and what is kept of its requests, the
-- routers, the site and the public lists; and the directory, which is the member export without its second.
pub record SeesAlike (m : ℕ) (s t : State) : Type 0 where
  pub own : view s m ≡ view t m
  pub exchange : exchange_tree s.registry ≡ exchange_tree t.registry
  pub members : members_tree s.registry ≡ members_tree t.registry

-- Same answers.

-- no reply tells for whom an edit was accepted
abbrev pub SameDecision : Decision → Decision → Type 0
SameDecision (Accepted a) (Accepted b) = Unit {0}
SameDecision d c = d ≡ c

-- texts but for the count of their version, which no reply to a member tells
abbrev pub SameAnswered : Answered → Answered → Type 0
SameAnswered (answered.Text t) (answered.Text u) = (t.bytes ≡ u.bytes) × (t.roas ≡ u.roas)
SameAnswered a b = a ≡ b

abbrev pub SameAnswer : Event → Event → Type 0
SameAnswer (Edit e d) (Edit f c) = SameDecision d.value c.value
SameAnswer (Question q a) (Question p b) = SameAnswered a.value b.value
SameAnswer v w = ⊥
