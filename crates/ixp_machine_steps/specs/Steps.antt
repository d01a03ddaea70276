-- What is decided of a request, and the state after it.
use Rattle.std.specs.Prelude.{ℕ, ◌+◌, nat_lt, List, [], ◌∷◌, ◌&&◌, Option, Some, None, option_map, if◌then◌else◌}
use Rattle.ixp_num_tables.specs.Tables.{find, if_there}
use Rattle.ixp_registry.specs.declared.edit_kind.EditKind.{EditKind}
use Rattle.ixp_registry.specs.declared.members.Owner.{Owner}
use Rattle.ixp_registry.specs.declared.refusal.Refusal.{Refusal}
use Rattle.ixp_registry.specs.declared.refusal.Refusal.TheVariants.{NoKey, Denied, KeyOld}
use Rattle.ixp_registry.specs.declared.registry.Registry.{Registry}
use Rattle.ixp_registry.specs.Weight.{weight_of}
use Rattle.ixp_members.specs.Owners.{owner_of}
use Rattle.ixp_machine_edits.specs.declared.edit.Edit.{Edit}
use Rattle.ixp_machine_edits.specs.Edits.{next, refusal}
use Rattle.ixp_machine_edits.specs.Lists.{prefixes_in}
use Rattle.ixp_machine_steps.specs.declared.kept.KeptNumber.{KeptNumber}
use Rattle.ixp_machine_steps.specs.declared.kept.KeptOwner.{KeptOwner}
use Rattle.ixp_machine_steps.specs.declared.state.Entry.{Entry}
use Rattle.ixp_machine_steps.specs.declared.state.State.{State}
use Rattle.ixp_machine_steps.specs.declared.subject.Subject.{Subject}
use Rattle.ixp_machine_steps.specs.Kept.{kept_key, kept_of, noted_for}
use Rattle.ixp_machine_steps.specs.Rights.{right_of, has_right}
use Rattle.ixp_machine_steps.specs.Subjects.{kind_of, subject_of, same_kind, same_subject}

pub data Verdict : Type 0 where
  -- the edit is made, and its number kept
  Accepted : Verdict
  -- the request was accepted before, and isn't made again
  Repeated : Verdict
  -- X2: the number is kept for another kind or subject
  Reused : EditKind → Subject → Verdict
  -- all other refusals
  Refused : Refusal → Verdict

-- the first that says something; where none does, the request is accepted
abbrev pub first_said : List (Option Verdict) → Verdict
first_said [] = Accepted
first_said (None ∷ vs) = first_said vs
first_said (Some v ∷ vs) = v

-- what a number that is kept says of a request with it
abbrev pub kept_says : Edit → KeptNumber → Verdict
kept_says e k = if same_kind k.kind (kind_of e) && same_subject k.subject (subject_of e) then Repeated
    else Reused k.kind k.subject

-- what is decided of an owner's request, by what is kept for the owner: X1 to X3, and then the tests of the
-- edit
abbrev pub verdict_by : Registry → KeptOwner → Owner → ℕ → Edit → Verdict
verdict_by r kept owner number e = first_said (
    (if has_right owner (right_of e) then None else Some (Refused (Denied (right_of e))))
    ∷ option_map (kept_says e) (find kept_key (number ∷ []) kept.numbers)
    ∷ (if nat_lt number kept.floor then Some (Refused (KeyOld kept.floor)) else None)
    ∷ option_map Refused (refusal r e) ∷ [])

abbrev pub verdict_of : State → Owner → ℕ → Edit → Verdict
verdict_of s owner number e = verdict_by s.registry (kept_of s.kept owner) owner number e

-- what is decided of a request: X0 where no API key has its secret
abbrev pub verdict : State → Entry → Verdict
verdict s e = if_there (owner_of s.registry e.secret) (Refused NoKey)
    (λ owner. verdict_of s owner e.number e.edit)

-- what is kept of a request that is accepted as the one at this place
abbrev pub kept_entry : Entry → ℕ → KeptNumber
kept_entry e place =
    record { number = e.number; kind = kind_of e.edit; subject = subject_of e.edit; place = place; small = e.small }

-- the state after an accepted request
abbrev pub after : State → Owner → Entry → State
after s owner e = record {
  registry = next s.registry e.edit;
  kept = noted_for owner (kept_entry e (s.accepted + 1)) s.kept;
  accepted = s.accepted + 1;
  weight = weight_of (next s.registry e.edit);
  prefixes = prefixes_in (next s.registry e.edit).irr;
}

-- the state after a request: every other one than those that are accepted leaves it as it was
abbrev pub after_verdict : Verdict → State → State → State
after_verdict Accepted old new = new
after_verdict Repeated old new = old
after_verdict (Reused kind subject) old new = old
after_verdict (Refused x) old new = old

abbrev pub step : State → Entry → State
step s e = if_there (owner_of s.registry e.secret) s
    (λ owner. after_verdict (verdict_of s owner e.number e.edit) s (after s owner e))
