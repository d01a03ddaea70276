-- Edits of histories: which were made, and which are sent again.
use Rattle.std.specs.Prelude.{◌≡◌, ℕ, true, List, [], ◌∷◌, ◌++◌, Some}
use Rattle.ixp_num_tables.specs.Tables.{find}
use Rattle.ixp_registry.specs.declared.members.Owner.{Owner}
use Rattle.ixp_registry.specs.declared.refusal.Refusal.TheVariants.{KeyOld}
use Rattle.ixp_registry.specs.declared.registry.Registry.{Registry}
use Rattle.ixp_members.specs.Owners.{owner_of}
use Rattle.ixp_machine_edits.specs.declared.edit.Edit as edits
use Rattle.ixp_machine_steps.specs.declared.kept.KeptNumber.{KeptNumber}
use Rattle.ixp_machine_steps.specs.declared.state.Entry.{Entry}
use Rattle.ixp_machine_steps.specs.declared.state.State.{State}
use Rattle.ixp_machine_steps.specs.Kept.{kept_key, kept_of}
use Rattle.ixp_machine_steps.specs.Rights.{right_of, has_right}
use Rattle.ixp_machine_steps.specs.Subjects.{kind_of, subject_of, same_kind, same_subject}
use Rattle.ixp_machine.specs.declared.decision.Decision.{Decision}
use Rattle.ixp_machine.specs.declared.decision.Decision.TheVariants.{Accepted, Repeated, Refused}
use Rattle.ixp_desk_history.specs.declared.turn.Event.{Event}
use Rattle.ixp_desk_history.specs.declared.turn.Event.TheVariants.{Edit, Question, Install, Fault}
use Rattle.ixp_desk_history.specs.declared.turn.Turn.{Turn}

-- Edits that were made.

abbrev pub IsMade : Decision → Type 0
IsMade (Accepted owner) = Unit {0}
IsMade (Repeated reply) = ⊥
IsMade (Refused x) = ⊥

-- an edit of the owner with the number is accepted
abbrev pub Makes : Registry → Owner → ℕ → Event → Type 0
Makes r owner n (Edit e d) = (owner_of r e.value.secret ≡ Some owner) × (e.value.number ≡ n) × IsMade d.value
Makes r owner n (Question q a) = ⊥
Makes r owner n (Install upto) = ⊥
Makes r owner n (Fault count) = ⊥

abbrev pub if_made : Decision → edits.Edit → List edits.Edit
if_made (Accepted owner) e = e ∷ []
if_made (Repeated reply) e = []
if_made (Refused x) e = []

abbrev pub made_in : Event → List edits.Edit
made_in (Edit e d) = if_made d.value e.value.edit
made_in (Question q a) = []
made_in (Install upto) = []
made_in (Fault count) = []

-- the edits that turns accepted, the oldest first; all other turns are left out
abbrev pub edits_made : List Turn → List edits.Edit
edits_made [] = []
edits_made (t ∷ ts) = made_in t.event ++ edits_made ts

-- Edits that are sent again.

-- The request's number is kept for its kind and its subject, and its owner has the right for it.
pub record IsRepeat (s : State) (owner : Owner) (e : Entry) : Type 0 where
  pub owner_is : owner_of s.registry e.secret ≡ Some owner
  pub right : has_right owner (right_of e.edit) ≡ true
  pub number : KeptNumber
  pub kept : find kept_key (e.number ∷ []) (kept_of s.kept owner).numbers ≡ Some number
  pub kind : same_kind number.kind (kind_of e.edit) ≡ true
  pub subject : same_subject number.subject (subject_of e.edit) ≡ true

abbrev pub Repeats : State → Owner → Event → Type 0
Repeats s owner (Edit e d) = IsRepeat s owner e.value
Repeats s owner (Question q a) = ⊥
Repeats s owner (Install upto) = ⊥
Repeats s owner (Fault count) = ⊥

-- it is answered as it was when it was made: by its number
abbrev pub AnswersAgain : Event → Type 0
AnswersAgain (Edit e d) = d.value ≡ Repeated (record { number = e.value.number })
AnswersAgain (Question q a) = ⊥
AnswersAgain (Install upto) = ⊥
AnswersAgain (Fault count) = ⊥

-- The second is the first edit sent again, by its owner who has the right for it: with the number, kind and
-- subject of the first.
abbrev pub Resends : Registry → Owner → ℕ → Event → Event → Type 0
Resends r owner n (Edit e d) (Edit i c) =
    (owner_of r i.value.secret ≡ Some owner) × (i.value.number ≡ n)
    × (has_right owner (right_of i.value.edit) ≡ true)
    × (same_kind (kind_of e.value.edit) (kind_of i.value.edit) ≡ true)
    × (same_subject (subject_of e.value.edit) (subject_of i.value.edit) ≡ true)
Resends r owner n v w = ⊥

-- X3: its number isn't kept any more
abbrev pub IsTooOld : Event → Type 0
IsTooOld (Edit e d) = (floor : ℕ) × (d.value ≡ Refused (KeyOld floor))
IsTooOld (Question q a) = ⊥
IsTooOld (Install upto) = ⊥
IsTooOld (Fault count) = ⊥
