-- What is known of a request that is accepted, and what a request does that isn't.
use Rattle.std.proofs.Common.{◌≡◌, ℕ, ◌≤◌, ◌⊎◌, inl, inr, Bool, true, false, ◌&&◌, nat_lt, List, [], ◌∷◌, Option, Some, None, option_map, refl, ap, ◌∙◌, arith, if◌then◌else◌}
use Rattle.std.specs.Option.{is_some}
use Rattle.std.proofs.lemmas.Bool.{ltb-false}
use Rattle.ixp_num_tables.specs.Tables.{find, if_there}
use Rattle.ixp_registry.specs.declared.edit_kind.EditKind.{EditKind}
use Rattle.ixp_registry.specs.declared.members.Owner.{Owner}
use Rattle.ixp_registry.specs.declared.refusal.Refusal.{Refusal}
use Rattle.ixp_registry.specs.declared.refusal.Refusal.TheVariants.{NoKey, Denied, KeyOld}
use Rattle.ixp_registry.specs.declared.registry.Registry.{Registry}
use Rattle.ixp_members.specs.Owners.{owner_of}
use Rattle.ixp_machine_edits.specs.declared.edit.Edit.{Edit}
use Rattle.ixp_machine_edits.specs.Edits.{refusal}
use Rattle.ixp_machine_steps.specs.declared.kept.KeptNumber.{KeptNumber}
use Rattle.ixp_machine_steps.specs.declared.kept.KeptOwner.{KeptOwner}
use Rattle.ixp_machine_steps.specs.declared.state.Entry.{Entry}
use Rattle.ixp_machine_steps.specs.declared.state.State.{State}
use Rattle.ixp_machine_steps.specs.declared.subject.Subject.{Subject}
use Rattle.ixp_machine_steps.specs.Kept.{kept_key, kept_of, IsSpent}
use Rattle.ixp_machine_steps.specs.Rights.{right_of, has_right}
use Rattle.ixp_machine_steps.specs.Runs.{act_key, acts, if_accepted}
use Rattle.ixp_machine_steps.specs.Steps.{Verdict, Accepted, Repeated, Reused, Refused, first_said, kept_says, verdict_by, verdict_of, verdict, after, after_verdict, step}
use Rattle.ixp_machine_steps.specs.Subjects.{kind_of, subject_of, same_kind, same_subject}

right_first : (b : Bool) (x : Refusal) (vs : List (Option Verdict)) → first_said ((if b then None else Some (Refused x)) ∷ vs) ≡ Accepted → (b ≡ true) × (first_said vs ≡ Accepted)
right_first true x vs e = (refl, e)
right_first false x vs e = absurd (let bad : ⊥ = cc in bad)

floor_first : (b : Bool) (x : Refusal) (vs : List (Option Verdict)) → first_said ((if b then Some (Refused x) else None) ∷ vs) ≡ Accepted → (b ≡ false) × (first_said vs ≡ Accepted)
floor_first false x vs e = (refl, e)
floor_first true x vs e = absurd (let bad : ⊥ = cc in bad)

never_accepted : (b : Bool) (kind : EditKind) (subject : Subject) → (if b then Repeated else Reused kind subject) ≡ Accepted → ⊥
never_accepted true kind subject e = let bad : ⊥ = cc in bad
never_accepted false kind subject e = let bad : ⊥ = cc in bad

kept_first : (e : Edit) (o : Option KeptNumber) (vs : List (Option Verdict)) → first_said (option_map (kept_says e) o ∷ vs) ≡ Accepted → (o ≡ None) × (first_said vs ≡ Accepted)
kept_first e None vs h = (refl, h)
kept_first e (Some k) vs h = absurd (never_accepted (same_kind k.kind (kind_of e) && same_subject k.subject (subject_of e)) k.kind k.subject h)

refusal_last : (o : Option Refusal) → first_said (option_map Refused o ∷ []) ≡ Accepted → o ≡ None
refusal_last None e = refl
refusal_last (Some x) e = absurd (let bad : ⊥ = cc in bad)

pub record IsAccepted (r : Registry) (kept : KeptOwner) (owner : Owner) (n : ℕ) (e : Edit) : Type 0 where
  pub right : has_right owner (right_of e) ≡ true
  pub new : find kept_key (n ∷ []) kept.numbers ≡ None
  pub floor : kept.floor ≤ n
  pub lawful : refusal r e ≡ None

pub accepted_parts : (r : Registry) (kept : KeptOwner) (owner : Owner) (n : ℕ) (e : Edit) → verdict_by r kept owner n e ≡ Accepted → IsAccepted r kept owner n e
accepted_parts r kept owner n e h =
    let behind_floor = option_map Refused (refusal r e) ∷ [] in
    let behind_kept = (if nat_lt n kept.floor then Some (Refused (KeyOld kept.floor)) else None) ∷ behind_floor in
    let behind_right = option_map (kept_says e) (find kept_key (n ∷ []) kept.numbers) ∷ behind_kept in
    let one = right_first (has_right owner (right_of e)) (Denied (right_of e)) behind_right h in
    let two = kept_first e (find kept_key (n ∷ []) kept.numbers) behind_kept one.1 in
    let three = floor_first (nat_lt n kept.floor) (KeyOld kept.floor) behind_floor two.1 in
    record { right = one.0; new = two.0; floor = ltb-false n kept.floor three.0; lawful = refusal_last (refusal r e) three.1 }

-- a number that is used isn't accepted
pub not_spent : (s : State) (owner : Owner) (n : ℕ) (e : Edit) → verdict_of s owner n e ≡ Accepted → IsSpent n (kept_of s.kept owner) → ⊥
not_spent s owner n e h = by_use (accepted_parts s.registry (kept_of s.kept owner) owner n e h) where
  by_use : IsAccepted s.registry (kept_of s.kept owner) owner n e → IsSpent n (kept_of s.kept owner) → ⊥
  by_use a (inl is) = let new : is_some (find kept_key (n ∷ []) (kept_of s.kept owner).numbers) ≡ false = ap is_some a.new in let bad : ⊥ = cc in bad
  by_use a (inr lt) = let floor = a.floor in let bad : ⊥ = omega (arith, floor, lt) in bad

-- a request is accepted for an owner, or changes nothing
abbrev pub Acts : State → Entry → Type 0
Acts s e =
    (owner : Owner) × (owner_of s.registry e.secret ≡ Some owner) × (verdict_of s owner e.number e.edit ≡ Accepted)
    × (step s e ≡ after s owner e) × (acts s e ≡ act_key owner e.number ∷ []) × (if_accepted (verdict s e) e.edit ≡ e.edit ∷ [])

abbrev pub Rests : State → Entry → Type 0
Rests s e = (step s e ≡ s) × (acts s e ≡ []) × (if_accepted (verdict s e) e.edit ≡ [])

abbrev step_of : (s : State) (e : Entry) → Option Owner → State
step_of s e o = if_there o s (λ owner. after_verdict (verdict_of s owner e.number e.edit) s (after s owner e))

abbrev acts_of : (s : State) (e : Entry) → Option Owner → List (List ℕ)
acts_of s e o = if_there o [] (λ owner. if_accepted (verdict_of s owner e.number e.edit) (act_key owner e.number))

abbrev said_of : (s : State) (e : Entry) → Option Owner → List Edit
said_of s e o = if_accepted (if_there o (Refused NoKey) (λ owner. verdict_of s owner e.number e.edit)) e.edit

-- where the verdict is this
by_verdict : (s : State) (e : Entry) (owner : Owner) → owner_of s.registry e.secret ≡ Some owner → (v : Verdict) → verdict_of s owner e.number e.edit ≡ v
    → (step s e ≡ after_verdict v s (after s owner e)) × (acts s e ≡ if_accepted v (act_key owner e.number)) × (if_accepted (verdict s e) e.edit ≡ if_accepted v e.edit)
by_verdict s e owner found v h = (
  ap (step_of s e) found ∙ ap (λ v. after_verdict v s (after s owner e)) h,
  ap (acts_of s e) found ∙ ap (λ v. if_accepted v (act_key owner e.number)) h,
  ap (said_of s e) found ∙ ap (λ v. if_accepted v e.edit) h,
)

pub either : (s : State) (e : Entry) → Acts s e ⊎ Rests s e
either s e = by_owner (owner_of s.registry e.secret) refl where
  by_owner : (o : Option Owner) → owner_of s.registry e.secret ≡ o → Acts s e ⊎ Rests s e
  by_owner None h = inr (ap (step_of s e) h, ap (acts_of s e) h, ap (said_of s e) h)
  by_owner (Some owner) h = of_verdict (verdict_of s owner e.number e.edit) refl where
    of_verdict : (v : Verdict) → verdict_of s owner e.number e.edit ≡ v → Acts s e ⊎ Rests s e
    of_verdict Accepted v = let all = by_verdict s e owner h Accepted v in inl (owner, h, v, all.0, all.1, all.2)
    of_verdict Repeated v = inr (by_verdict s e owner h Repeated v)
    of_verdict (Reused kind subject) v = inr (by_verdict s e owner h (Reused kind subject) v)
    of_verdict (Refused x) v = inr (by_verdict s e owner h (Refused x) v)

pub accepted_step : (s : State) (owner : Owner) (e : Entry) → owner_of s.registry e.secret ≡ Some owner → verdict_of s owner e.number e.edit ≡ Accepted → step s e ≡ after s owner e
accepted_step s owner e found h = (by_verdict s e owner found Accepted h).0
