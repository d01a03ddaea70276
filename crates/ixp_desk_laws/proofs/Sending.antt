-- Edits are made once, and sending them again changes nothing.
use Rattle.std.proofs.Common.{◌≡◌, ◌⊎◌, inl, inr, ◌<◌, ◌+◌, ℕ, nat_lt, Bool, true, ◌&&◌, List, [], ◌∷◌, ◌++◌, Option, Some, None, option_map, refl, sym, ap, ◌∙◌, subst, append_assoc, if◌then◌else◌}
use Rattle.std.proofs.lemmas.List.{append-nil}
use Rattle.ixp_registry.specs.declared.members.Owner.{Owner}
use Rattle.ixp_registry.specs.declared.refusal.Refusal.TheVariants.{NoKey, Denied, KeyOld}
use Rattle.ixp_num_tables.specs.Tables.{find, if_there}
use Rattle.ixp_members.specs.Owners.{owner_of}
use Rattle.ixp_machine_edits.specs.declared.edit.Edit as edits
use Rattle.ixp_machine_edits.specs.Edits.{refusal}
use Rattle.ixp_machine_steps.specs.declared.kept.KeptNumber.{KeptNumber}
use Rattle.ixp_machine_steps.specs.declared.state.Entry.{Entry}
use Rattle.ixp_machine_steps.specs.declared.state.State.{State}
use Rattle.ixp_machine_steps.specs.Kept.{kept_key, kept_of, IsSpent}
use Rattle.ixp_machine_steps.specs.Rights.{has_right, right_of}
use Rattle.ixp_machine_steps.specs.Runs.{accepted_edits, after_all, if_accepted, run}
use Rattle.ixp_machine_steps.specs.States.{ValidState}
use Rattle.ixp_machine_steps.specs.Steps.{Verdict, Accepted, Repeated, Reused, Refused, after, after_verdict, first_said, kept_entry, kept_says, step, verdict, verdict_of}
use Rattle.ixp_machine_steps.specs.Subjects.{kind_of, same_kind, same_subject, subject_of}
use Rattle.ixp_machine_steps.proofs.Accepting.{not_spent}
use Rattle.ixp_machine_steps.proofs.Once.{KeptStands, run_registry, spent_run, step_stands, used_step}
use Rattle.ixp_machine.specs.declared.decision.Decision.{Decision}
use Rattle.ixp_machine.specs.declared.decision.Decision.TheVariants as decision
use Rattle.ixp_machine.specs.Decisions.{Says}
use Rattle.ixp_desk_history.specs.declared.turn.Event.{Event}
use Rattle.ixp_desk_history.specs.declared.turn.Event.TheVariants.{Edit, Question, Install, Fault}
use Rattle.ixp_desk_history.specs.declared.turn.First.{First}
use Rattle.ixp_desk_history.specs.declared.turn.Turn.{Turn}
use Rattle.ixp_desk_history.specs.Legal.{GoesOn, Legal, MayCome}
use Rattle.ixp_desk_history.specs.Turns.{entries_of, entry_in, registry_of, state_of}
use Rattle.ixp_desk_history.proofs.Snocs.{run_both, state_snoc}
use Rattle.ixp_desk_history.proofs.Versions.{legal_before, state_both, state_valid}
use Rattle.ixp_desk_laws.specs.Edits.{AnswersAgain, IsMade, IsRepeat, IsTooOld, Makes, Repeats, Resends, edits_made, if_made, made_in}
use Rattle.ixp_desk_laws.proofs.Keeping.{Keeps, keeps_made, keeps_run, too_old}
use Rattle.ixp_desk_laws.proofs.Places.{comes}

-- what is said to be made was accepted
says_made : (n : ℕ) (v : Verdict) (d : Decision) → Says n v d → IsMade d → v ≡ Accepted
says_made n Accepted d says made = refl
says_made n Repeated d says made = absurd (subst IsMade says made)
says_made n (Reused kind subject) d (key, says, names) made = absurd (subst IsMade says made)
says_made n (Refused x) d says made = absurd (subst IsMade says made)

-- and the other way round
says_edits : (n : ℕ) (v : Verdict) (d : Decision) (e : edits.Edit) → Says n v d → if_accepted v e ≡ if_made d e
says_edits n Accepted d e (owner, says) = sym (ap (λ x. if_made x e) says)
says_edits n Repeated d e says = sym (ap (λ x. if_made x e) says)
says_edits n (Reused kind subject) d e (key, says, names) = sym (ap (λ x. if_made x e) says)
says_edits n (Refused x) d e says = sym (ap (λ x. if_made x e) says)

by_owner : (s : State) (e : Entry) (owner : Owner) → owner_of s.registry e.secret ≡ Some owner → verdict s e ≡ verdict_of s owner e.number e.edit
by_owner s e owner is = ap (λ o. if_there o (Refused NoKey) (λ owner. verdict_of s owner e.number e.edit)) is

made_accepted : (s : State) (e : Entry) (d : Decision) (owner : Owner) → owner_of s.registry e.secret ≡ Some owner → Says e.number (verdict s e) d → IsMade d
    → verdict_of s owner e.number e.edit ≡ Accepted
made_accepted s e d owner is says made = sym (by_owner s e owner is) ∙ says_made e.number (verdict s e) d says made

-- the number of an edit that is made is used from then on
spent_by : (f : First) (before : List Turn) (v : Event) (owner : Owner) (n : ℕ) → ValidState (state_of f before) → MayCome f before v → Makes (registry_of f before) owner n v
    → IsSpent n (kept_of (run (state_of f before) (entry_in v)).kept owner)
spent_by f before (Edit e d) owner n valid may (is, number, made) =
    subst (λ k. IsSpent k (kept_of (step (state_of f before) e.value).kept owner)) number
    (used_step (state_of f before) owner e.value valid is (made_accepted (state_of f before) e.value d.value owner is may.2 made))
spent_by f before (Question q a) owner n valid may makes = absurd makes
spent_by f before (Install upto) owner n valid may makes = absurd makes
spent_by f before (Fault count) owner n valid may makes = absurd makes

-- and a number that is used isn't made again
unspent : (f : First) (before : List Turn) (v : Event) (owner : Owner) (n : ℕ) → MayCome f before v → Makes (registry_of f before) owner n v → IsSpent n (kept_of (state_of f before).kept owner) → ⊥
unspent f before (Edit e d) owner n may (is, number, made) spent =
    not_spent (state_of f before) owner e.value.number e.value.edit (made_accepted (state_of f before) e.value d.value owner is may.2 made)
    (subst (λ k. IsSpent k (kept_of (state_of f before).kept owner)) (sym number) spent)
unspent f before (Question q a) owner n may makes spent = makes
unspent f before (Install upto) owner n may makes spent = makes
unspent f before (Fault count) owner n may makes spent = makes

-- what comes after a turn goes on from the state that it makes
later_state : (f : First) (before between : List Turn) (t : Turn) → state_of f (before ++ t ∷ between) ≡ run (run (state_of f before) (entry_in t.event)) (entries_of between)
later_state f before between t = state_both f before (t ∷ between) ∙ run_both (state_of f before) (entry_in t.event) (entries_of between)

stands_run : (es : List Entry) (s : State) → KeptStands s → KeptStands (run s es)
stands_run [] s stands = stands
stands_run (e ∷ es) s stands = stands_run es (step s e) (step_stands s e stands)

stands_of : (s : State) → ValidState s → KeptStands s
stands_of s valid = record { order = valid.order; each = valid.each }

-- Two turns of a legal history.
module _ (f : First) (before between after' : List Turn) (t u : Turn) (legal : Legal f (before ++ t ∷ (between ++ u ∷ after'))) where
  valid_first : ValidState (state_of f before)
  valid_first = state_valid f before (legal_before f before (t ∷ (between ++ u ∷ after')) legal)

  comes_first : MayCome f before t.event
  comes_first = (comes f before (between ++ u ∷ after') t legal).event

  legal_second : Legal f ((before ++ t ∷ between) ++ u ∷ after')
  legal_second = subst (Legal f) (sym (append_assoc before (t ∷ between) (u ∷ after'))) legal

  valid_second : ValidState (state_of f (before ++ t ∷ between))
  valid_second = state_valid f (before ++ t ∷ between) (legal_before f (before ++ t ∷ between) (u ∷ after') legal_second)

  comes_second : MayCome f (before ++ t ∷ between) u.event
  comes_second = (comes f (before ++ t ∷ between) after' u legal_second).event

  pub never_again : (owner : Owner) (n : ℕ) → Makes (registry_of f before) owner n t.event → Makes (registry_of f (before ++ t ∷ between)) owner n u.event → ⊥
  never_again owner n first second =
      let now : State = run (state_of f before) (entry_in t.event) in
      let used : IsSpent n (kept_of now.kept owner) = spent_by f before t.event owner n valid_first comes_first first in
      let stands : KeptStands now = stands_run (entry_in t.event) (state_of f before) (stands_of (state_of f before) valid_first) in
      unspent f (before ++ t ∷ between) u.event owner n comes_second second
      (subst (λ (s : State). IsSpent n (kept_of s.kept owner)) (sym (later_state f before between t)) (spent_run (entries_of between) now owner n stands used))

-- A request that is sent again.

repeat_said : (s : State) (owner : Owner) (e : Entry) → IsRepeat s owner e → verdict_of s owner e.number e.edit ≡ Repeated
repeat_said s owner e again =
    let k = again.number in
    let said = λ (b : Bool) (o : Option KeptNumber). first_said (
    (if b then None else Some (Refused (Denied (right_of e.edit))))
    ∷ option_map (kept_says e.edit) o
    ∷ (if nat_lt e.number (kept_of s.kept owner).floor then Some (Refused (KeyOld (kept_of s.kept owner).floor)) else None)
    ∷ option_map Refused (refusal s.registry e.edit) ∷ []) in
    ap (λ b. said b (find kept_key (e.number ∷ []) (kept_of s.kept owner).numbers)) again.right
    ∙ (ap (said true) again.kept
    ∙ (ap (λ b. if b && same_subject k.subject (subject_of e.edit) then Repeated else Reused k.kind k.subject) again.kind
    ∙ ap (λ b. if b then Repeated else Reused k.kind k.subject) again.subject))

repeat_rests : (s : State) (owner : Owner) (e : Entry) → IsRepeat s owner e → step s e ≡ s
repeat_rests s owner e again =
    ap (λ o. if_there o s (λ owner. after_verdict (verdict_of s owner e.number e.edit) s (after s owner e))) again.owner_is
    ∙ ap (λ v. after_verdict v s (after s owner e)) (repeat_said s owner e again)

again_by : (f : First) (before : List Turn) (v : Event) (owner : Owner) → MayCome f before v → Repeats (state_of f before) owner v → AnswersAgain v
again_by f before (Edit e d) owner may again =
    subst (λ v. Says e.value.number v d.value) (by_owner (state_of f before) e.value owner again.owner_is ∙ repeat_said (state_of f before) owner e.value again) may.2
again_by f before (Question q a) owner may again = again
again_by f before (Install upto) owner may again = again
again_by f before (Fault count) owner may again = again

pub answered_again : (f : First) (before after : List Turn) (t : Turn) (owner : Owner) → Legal f (before ++ t ∷ after) → Repeats (state_of f before) owner t.event → AnswersAgain t.event
answered_again f before after t owner legal again = again_by f before t.event owner (comes f before after t legal).event again

rests_by : (s : State) (v : Event) (owner : Owner) → Repeats s owner v → run s (entry_in v) ≡ s
rests_by s (Edit e d) owner again = repeat_rests s owner e.value again
rests_by s (Question q a) owner again = refl
rests_by s (Install upto) owner again = refl
rests_by s (Fault count) owner again = refl

pub nothing_changed : (f : First) (before : List Turn) (t : Turn) (owner : Owner) → Repeats (state_of f before) owner t.event → state_of f (before ++ t ∷ []) ≡ state_of f before
nothing_changed f before t owner again = state_snoc f before t ∙ rests_by (state_of f before) t.event owner again

-- The registry.

edits_both : (s : State) (es ds : List Entry) → accepted_edits s (es ++ ds) ≡ accepted_edits s es ++ accepted_edits (run s es) ds
edits_both s [] ds = refl
edits_both s (e ∷ es) ds =
    ap (λ xs. if_accepted (verdict s e) e.edit ++ xs) (edits_both (step s e) es ds)
    ∙ sym (append_assoc (if_accepted (verdict s e) e.edit) (accepted_edits (step s e) es) (accepted_edits (run (step s e) es) ds))

edits_by : (f : First) (before : List Turn) (v : Event) → MayCome f before v → accepted_edits (state_of f before) (entry_in v) ≡ made_in v
edits_by f before (Edit e d) may = append-nil (if_accepted (verdict (state_of f before) e.value) e.value.edit) ∙ says_edits e.value.number (verdict (state_of f before) e.value) d.value e.value.edit may.2
edits_by f before (Question q a) may = refl
edits_by f before (Install upto) may = refl
edits_by f before (Fault count) may = refl

edits_after : (f : First) (before ts : List Turn) → GoesOn f before ts → accepted_edits (state_of f before) (entries_of ts) ≡ edits_made ts
edits_after f before [] goes = refl
edits_after f before (t ∷ ts) goes =
    edits_both (state_of f before) (entry_in t.event) (entries_of ts)
    ∙ (ap (λ (s : State). accepted_edits (state_of f before) (entry_in t.event) ++ accepted_edits s (entries_of ts)) (sym (state_snoc f before t))
    ∙ (ap (λ xs. xs ++ accepted_edits (state_of f (before ++ t ∷ [])) (entries_of ts)) (edits_by f before t.event goes.0.event)
    ∙ ap (λ xs. made_in t.event ++ xs) (edits_after f (before ++ t ∷ []) ts goes.1)))

pub registry_made : (f : First) (ts : List Turn) → Legal f ts → registry_of f ts ≡ after_all f.state.registry (edits_made ts)
registry_made f ts legal = run_registry (entries_of ts) f.state ∙ ap (after_all f.state.registry) (edits_after f [] ts legal.goes)

-- An edit that was made and is sent again.

-- what becomes of it where its number is kept, or below the floor
abbrev Known : State → Owner → Entry → Type 0
Known s owner e = IsRepeat s owner e ⊎ (verdict_of s owner e.number e.edit ≡ Refused (KeyOld (kept_of s.kept owner).floor))

known_by : (s : State) (owner : Owner) (e : Entry) (k : KeptNumber) → ValidState s → owner_of s.registry e.secret ≡ Some owner → has_right owner (right_of e.edit) ≡ true → e.number ≡ k.number
    → same_kind k.kind (kind_of e.edit) ≡ true → same_subject k.subject (subject_of e.edit) ≡ true → Keeps k (kept_of s.kept owner) → Known s owner e
known_by s owner e k valid is right number kind subject (inl kept) =
    inl (record { owner_is = is; right = right; number = k; kept = ap (λ n. find kept_key (n ∷ []) (kept_of s.kept owner).numbers) number ∙ kept; kind = kind; subject = subject })
known_by s owner e k valid is right number kind subject (inr low) =
    inr (too_old s owner e (record { order = valid.order; each = valid.each }) right (subst (λ n. n < (kept_of s.kept owner).floor) (sym number) low))

known_answer : (s : State) (owner : Owner) (e : Entry) (d : Decision) → owner_of s.registry e.secret ≡ Some owner → Says e.number (verdict s e) d → Known s owner e
    → (d ≡ decision.Repeated (record { number = e.number })) ⊎ ((floor : ℕ) × (d ≡ decision.Refused (KeyOld floor)))
known_answer s owner e d is says (inl again) = inl (subst (λ v. Says e.number v d) (by_owner s e owner is ∙ repeat_said s owner e again) says)
known_answer s owner e d is says (inr old) = inr ((kept_of s.kept owner).floor, subst (λ v. Says e.number v d) (by_owner s e owner is ∙ old) says)

known_rests : (s : State) (owner : Owner) (e : Entry) → owner_of s.registry e.secret ≡ Some owner → Known s owner e → step s e ≡ s
known_rests s owner e is (inl again) = repeat_rests s owner e again
known_rests s owner e is (inr old) =
    ap (λ o. if_there o s (λ owner. after_verdict (verdict_of s owner e.number e.edit) s (after s owner e))) is ∙ ap (λ v. after_verdict v s (after s owner e)) old

-- of an event
abbrev KnownIn : State → Owner → Event → Type 0
KnownIn s owner (Edit e d) = (owner_of s.registry e.value.secret ≡ Some owner) × Known s owner e.value
KnownIn s owner (Question q a) = ⊥
KnownIn s owner (Install upto) = ⊥
KnownIn s owner (Fault count) = ⊥

resent_by : (f : First) (before : List Turn) (v w : Event) (owner : Owner) (n : ℕ) (es : List Entry) (s : State) → ValidState (state_of f before) → MayCome f before v → Makes (registry_of f before) owner n v
    → s ≡ run (run (state_of f before) (entry_in v)) es → ValidState s → Resends s.registry owner n v w → KnownIn s owner w
resent_by f before (Edit e d) (Edit i c) owner n es s valid may (is, number, made) later valid' (is', number', right, kind, subject) =
    let old = state_of f before in
    let k = kept_entry e.value (old.accepted + 1) in
    let stands = stands_of old valid in
    let keeps : Keeps k (kept_of (step old e.value).kept owner) = keeps_made old owner e.value stands is (made_accepted old e.value d.value owner is may.2 made) in
    let still : Keeps k (kept_of s.kept owner) = subst (λ (t : State). Keeps k (kept_of t.kept owner)) (sym later) (keeps_run es (step old e.value) owner k (step_stands old e.value stands) keeps) in
    (is', known_by s owner i.value k valid' is' right (number' ∙ sym number) kind subject still)
resent_by f before (Question q a) w owner n es s valid may makes later valid' again = absurd makes
resent_by f before (Install upto) w owner n es s valid may makes later valid' again = absurd makes
resent_by f before (Fault count) w owner n es s valid may makes later valid' again = absurd makes
resent_by f before (Edit e d) (Question q a) owner n es s valid may makes later valid' again = again
resent_by f before (Edit e d) (Install upto) owner n es s valid may makes later valid' again = again
resent_by f before (Edit e d) (Fault count) owner n es s valid may makes later valid' again = again

known_told : (f : First) (before : List Turn) (v : Event) (owner : Owner) → MayCome f before v → KnownIn (state_of f before) owner v → AnswersAgain v ⊎ IsTooOld v
known_told f before (Edit e d) owner may (is, known) = known_answer (state_of f before) owner e.value d.value is may.2 known
known_told f before (Question q a) owner may known = absurd known
known_told f before (Install upto) owner may known = absurd known
known_told f before (Fault count) owner may known = absurd known

known_left : (s : State) (v : Event) (owner : Owner) → KnownIn s owner v → run s (entry_in v) ≡ s
known_left s (Edit e d) owner (is, known) = known_rests s owner e.value is known
known_left s (Question q a) owner known = absurd known
known_left s (Install upto) owner known = absurd known
known_left s (Fault count) owner known = absurd known

module _ (f : First) (before between after' : List Turn) (t u : Turn) (owner : Owner) (n : ℕ) (legal : Legal f (before ++ t ∷ (between ++ u ∷ after'))) (first : Makes (registry_of f before) owner n t.event)
    (again : Resends (registry_of f (before ++ t ∷ between)) owner n t.event u.event) where
  resent : KnownIn (state_of f (before ++ t ∷ between)) owner u.event
  resent =
      resent_by f before t.event u.event owner n (entries_of between) (state_of f (before ++ t ∷ between)) (valid_first f before between after' t u legal) (comes_first f before between after' t u legal) first
      (later_state f before between t) (valid_second f before between after' t u legal) again

  pub resent_told : AnswersAgain u.event ⊎ IsTooOld u.event
  resent_told = known_told f (before ++ t ∷ between) u.event owner (comes_second f before between after' t u legal) resent

  pub resent_left : state_of f ((before ++ t ∷ between) ++ u ∷ []) ≡ state_of f (before ++ t ∷ between)
  resent_left = state_snoc f (before ++ t ∷ between) u ∙ known_left (state_of f (before ++ t ∷ between)) u.event owner resent
