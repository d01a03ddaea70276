-- Runs of requests.
use Rattle.std.specs.Prelude.{ℕ, List, [], ◌∷◌, ◌++◌}
use Rattle.ixp_num_tables.specs.Tables.{if_there}
use Rattle.ixp_registry.specs.declared.members.Owner.{Owner}
use Rattle.ixp_registry.specs.declared.registry.Registry.{Registry}
use Rattle.ixp_registry.specs.Words.{owner_numbers}
use Rattle.ixp_members.specs.Owners.{owner_of}
use Rattle.ixp_machine_edits.specs.declared.edit.Edit.{Edit}
use Rattle.ixp_machine_edits.specs.Edits.{next}
use Rattle.ixp_machine_steps.specs.declared.state.Entry.{Entry}
use Rattle.ixp_machine_steps.specs.declared.state.State.{State}
use Rattle.ixp_machine_steps.specs.Steps.{Verdict, Accepted, Repeated, Reused, Refused, verdict, verdict_of, step}

-- the state after a run of requests
abbrev pub run : State → List Entry → State
run s [] = s
run s (e ∷ es) = run (step s e) es

-- what is accepted stands, and all else is left out
abbrev pub if_accepted : {X : Type 0} → Verdict → X → List X
if_accepted Accepted x = x ∷ []
if_accepted Repeated x = []
if_accepted (Reused kind subject) x = []
if_accepted (Refused r) x = []

-- an owner and a number
abbrev pub act_key : Owner → ℕ → List ℕ
act_key owner number = number ∷ owner_numbers owner

-- the owner and the number of a request, where it is accepted
abbrev pub acts : State → Entry → List (List ℕ)
acts s e = if_there (owner_of s.registry e.secret) []
    (λ owner. if_accepted (verdict_of s owner e.number e.edit) (act_key owner e.number))

-- those of all that are accepted in a run
abbrev pub acted : State → List Entry → List (List ℕ)
acted s [] = []
acted s (e ∷ es) = acts s e ++ acted (step s e) es

-- the edits that are accepted in a run
abbrev pub accepted_edits : State → List Entry → List Edit
accepted_edits s [] = []
accepted_edits s (e ∷ es) = if_accepted (verdict s e) e.edit ++ accepted_edits (step s e) es

-- a registry after edits
abbrev pub after_all : Registry → List Edit → Registry
after_all r [] = r
after_all r (e ∷ es) = after_all (next r e) es
