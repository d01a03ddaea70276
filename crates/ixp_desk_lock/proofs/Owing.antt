-- A turn that may follow is owed.
use Rattle.std.proofs.Common.{◌≡◌, ◌<◌, ◌-◌, ◌^◌, ◌+◌, ℕ, Bool, true, false, List, [], ◌∷◌, ◌++◌, length, get_or, set, ◌==◌, Option, Some, None, Result, Ok, Err, IfOk, IfSome, refl, ap, sym, ◌∙◌, subst, arith, nat_lt, inl, inr, ◌⊎◌, if◌then◌else◌}
use Rattle.std.proofs.lemmas.Bool.Decides.{nat_tests}
use Rattle.std.proofs.lemmas.Bool.{eqb-true, eqb-false}
use Rattle.std.proofs.lemmas.List.{get_or-set_same, get_or-set_other}
use Rattle.std.specs.declared.alloc.AllocError.{AllocError}
use Rattle.ixp_io.specs.Faults.{Rose}
use Rattle.ixp_board.specs.Histories.{entries, turns_of, IsViewOf}
use Rattle.ixp_board.proofs.Entries.{same_first, same_turns, turns_of-entries}
use Rattle.ixp_registry.specs.declared.members.Owner.{Owner}
use Rattle.ixp_registry.specs.declared.registry.Registry.{Registry}
use Rattle.ixp_registry_change.specs.declared.change.RegistryChange.{RegistryChange}
use Rattle.ixp_members.specs.Owners.{owner_of}
use Rattle.ixp_machine_edits.specs.declared.edit.Edit as edits
use Rattle.ixp_machine_edits.specs.Edits.{IsLawful, change, next}
use Rattle.ixp_machine_edits.proofs.EditChanges.{change_is_next}
use Rattle.ixp_machine_steps.specs.declared.state.Entry.{Entry}
use Rattle.ixp_machine_steps.specs.declared.state.State.{State}
use Rattle.ixp_machine_steps.specs.Runs.{run, if_accepted}
use Rattle.ixp_machine_steps.specs.States.{ValidState}
use Rattle.ixp_machine_steps.specs.Steps.{Verdict, Accepted, Repeated, Reused, Refused, verdict, step}
use Rattle.ixp_machine_steps.proofs.Accepting.{Acts, Rests, either}
use Rattle.ixp_machine.specs.declared.decision.Decision.{Decision}
use Rattle.ixp_machine.specs.declared.decision.Decision.TheVariants as decision
use Rattle.ixp_machine.specs.Decisions.{IsFor, Says}
use Rattle.ixp_build_pending.specs.declared.pending.Pending.{Pending}
use Rattle.ixp_build_pending.specs.declared.touch.Touch.{Touch}
use Rattle.ixp_build_pending.specs.Pendings.{IsNoted, header_count, later_count, lists_header, lists_session, session_count}
use Rattle.ixp_build_touches.specs.declared.touch.Reached.{Reached}
use Rattle.ixp_build_touches.specs.Touched.{reached, touch, with_after}
use Rattle.ixp_build_touches.proofs.TwoSteps.{headers_alike, roas_alike, sessions_alike}
use Rattle.ixp_desk_history.specs.declared.turn.Answered.{Answered}
use Rattle.ixp_desk_history.specs.declared.turn.Asked.{Asked}
use Rattle.ixp_desk_history.specs.declared.turn.Event.{Event}
use Rattle.ixp_desk_history.specs.declared.turn.Event.TheVariants.{Edit, Question, Install, Fault}
use Rattle.ixp_desk_history.specs.declared.turn.First.{First}
use Rattle.ixp_desk_history.specs.declared.turn.Shown.{Shown}
use Rattle.ixp_desk_history.specs.declared.turn.Turn.{Turn}
use Rattle.ixp_desk_history.specs.Answers.{IsAnswered}
use Rattle.ixp_desk_history.specs.Turns.{entry_in, entries_of, state_of, registry_of, faults_of, fault_in, built_after, built_in, shown_after, turns_by}
use Rattle.ixp_desk_history.specs.Legal.{Legal, MayCome, MayFollow, ShowsTexts}
use Rattle.ixp_desk_history.specs.Touches.{header, last_from, last_touch, part, Pends, roas, touched_by}
use Rattle.ixp_desk_history.proofs.Snocs.{built_snoc, faults_snoc, legal_snoc, state_snoc, entries_snoc, turns_snoc}
use Rattle.ixp_desk_history.proofs.ShownRight.{shown_right}
use Rattle.ixp_desk_history.proofs.Steady.{Makes, Leaves, accepted_makes, makes_or_leaves, last_both, touch_in}
use Rattle.ixp_desk_history.proofs.Versions.{legal_before, state_valid}
use Rattle.ixp_desk_lock.specs.declared.owed.Owed.{Owed}
use Rattle.ixp_desk_lock.specs.Given.{IsAnsweredAt}
use Rattle.ixp_desk_lock.specs.Publishing.{Level}
use Rattle.ixp_desk_lock.specs.Sights.{Sight}
use Rattle.ixp_desk_lock.specs.Facts.{Log, Owes, with_owed, turn_in, reach_in, noted_owed, NotesReach, Folds, Counts, HasAccepted, HasRoom, IsDecided, Accepts, IsEdit, IsQuestion, IsStateAt, MayAccept, Replies, ShowsNext}

pub none_turn : (v : Log × Option Turn) (log : Log) (owed : Option Turn) → ◌≡◌ {A = Log × Option Turn} (log, owed) v → v.1 ≡ None → owed ≡ None
none_turn v log owed view none = ap (λ (w : Log × Option Turn). w.1) view ∙ none

pub no_reach : (owed : Option Owed) → turn_in owed ≡ None → reach_in owed ≡ None
no_reach None e = refl
no_reach (Some o) e = absurd (let bad : ⊥ = cc in bad)

-- where no turn is owed, no reach is
pub unowed : (v : Log × Option Turn) (log : Log) (owed : Option Owed) (s : State) (p : Pending) → ◌≡◌ {A = Log × Option Turn} (log, turn_in owed) v → v.1 ≡ None
    → Folds log (turn_in owed) (reach_in owed) s p → Folds log None None s p
unowed v log owed s p view none g =
    let e = none_turn v log (turn_in owed) view none in
    subst (λ x. Folds log None x s p) (no_reach owed e) (subst (λ o. Folds log o (reach_in owed) s p) e g)

pub uncounted : (v : Log × Option Turn) (log : Log) (owed : Option Owed) (faults : ℕ) (counts : List ℕ) → ◌≡◌ {A = Log × Option Turn} (log, turn_in owed) v → v.1 ≡ None
    → Counts log (turn_in owed) faults counts → Counts log None faults counts
uncounted v log owed faults counts view none g = subst (λ o. Counts log o faults counts) (none_turn v log (turn_in owed) view none) g

pub log_is : (v : Log × Option Turn) (log : Log) (owed : Option Turn) → ◌≡◌ {A = Log × Option Turn} (log, owed) v → v.0 ≡ log
log_is v log owed view = ap (λ (w : Log × Option Turn). w.0) (sym view)

-- what is shown is what the folds' history shows
pub shown_is : (log : Log) (v : Shown) (f : First) (ts : List Turn) → IsViewOf Legal shown_after log v → log ≡ entries f ts → v ≡ shown_after f ts
shown_is log v f ts is at =
    let same : entries is.first is.turns ≡ entries f ts = sym is.entries_are ∙ at in
    is.view_is ∙ (ap (λ g. shown_after g is.turns) (same_first is.first f is.turns ts same) ∙ ap (shown_after f) (same_turns is.first f is.turns ts same))

pub valid_now : (log : Log) (owed : Option Turn) (x : Option Reached) (s : State) (p : Pending) → Folds log owed x s p → ValidState s
valid_now log owed x s p g = subst ValidState (sym g.state) (state_valid g.first (with_owed g.turns owed) g.legal)

pub keys_shown : (log : Log) (s : State) (p : Pending) (v : Shown) → IsViewOf Legal shown_after log v → Folds log None None s p → v.keys ≡ s.registry.keys
keys_shown log s p v is g =
    ap (λ (w : Shown). w.keys) (shown_is log v g.first g.turns is g.is)
    ∙ ((shown_right g.first g.turns g.legal).keys ∙ ap (λ (t : State). t.registry.keys) (sym g.state))

-- the state is that of the history
pub state_is : (log : Log) (s : State) (p : Pending) (f : First) (ts : List Turn) → Folds log None None s p → log ≡ entries f ts → s ≡ state_of f ts
state_is log s p f ts g is =
    let same : entries g.first g.turns ≡ entries f ts = sym g.is ∙ is in
    g.state ∙ (ap (λ (h : First). state_of h g.turns) (same_first g.first f g.turns ts same) ∙ ap (state_of f) (same_turns g.first f g.turns ts same))

pub state_at : (v : Log × Option Turn) (log : Log) (owed : Option Owed) (s : State) (p : Pending) → ◌≡◌ {A = Log × Option Turn} (log, turn_in owed) v → v.1 ≡ None
    → Folds log (turn_in owed) (reach_in owed) s p → IsStateAt v.0 s
state_at v log owed s p view none g f ts is = state_is log s p f ts (unowed v log owed s p view none g) (sym (log_is v log (turn_in owed) view) ∙ is)

pub has_accepted : (v : Log × Option Turn) (log : Log) (owed : Option Owed) (s : State) (p : Pending) → ◌≡◌ {A = Log × Option Turn} (log, turn_in owed) v → v.1 ≡ None
    → Folds log (turn_in owed) (reach_in owed) s p → HasAccepted v.0 s.accepted
has_accepted v log owed s p view none g f ts is = ap (λ (x : State). x.accepted) (sym (state_at v log owed s p view none g f ts is))

pub room_left : (log : Log) (n : ℕ) → HasAccepted log n → n < 2 ^ 64 → (n ≡ 2 ^ 64 - 1 → ⊥) → HasRoom log
room_left log n has small other f ts is = let same = has f ts is in by_less (nat_lt n (2 ^ 64 - 1)) refl same where
  by_less : (b : Bool) → nat_lt n (2 ^ 64 - 1) ≡ b → (state_of f ts).accepted ≡ n → (state_of f ts).accepted < 2 ^ 64 - 1
  by_less true lt same = grind (arith, nat_tests)
  by_less false lt same = absurd (other (grind (arith, nat_tests)))

pub decided_if : (v : Log × Option Turn) (log : Log) (owed : Option Owed) (s : State) (p : Pending) (e : Entry) (r : Result Decision AllocError)
    → ◌≡◌ {A = Log × Option Turn} (log, turn_in owed) v → v.1 ≡ None → Folds log (turn_in owed) (reach_in owed) s p → IfOk r (Says e.number (verdict s e))
    → IfOk r (IsFor (owner_of s.registry e.secret)) → IfOk r (IsDecided v.0 e)
decided_if v log owed s p e (Ok d) view none g says by = λ f ts is.
    let same = state_at v log owed s p view none g f ts is in
    (subst (λ (x : State). Says e.number (verdict x e) d) same says, subst (λ (x : State). IsFor (owner_of x.registry e.secret) d) same by)
decided_if v log owed s p e (Err fault) view none g says by = tt

-- an edit that is accepted may be made
pub may_accept : (log : Log) (e : Entry) (d : Decision) (owner : Owner) → d ≡ decision.Accepted owner → IsLawful e.edit → HasRoom log → IsDecided log e d → MayAccept log owner e
may_accept log e d owner is lawful room decided f ts at =
    let m = decided f ts at in
    (lawful, subst (IsFor (owner_of (registry_of f ts) e.secret)) is m.1, by_verdict (verdict (state_of f ts) e) (subst (Says e.number (verdict (state_of f ts) e)) is m.0), room f ts at) where
      by_verdict : (v : Verdict) → Says e.number v (decision.Accepted owner) → v ≡ Accepted
      by_verdict Accepted says = refl
      by_verdict Repeated says = absurd (let bad : ⊥ = cc in bad)
      by_verdict (Reused kind subject) says = absurd (let e = says.1 in let bad : ⊥ = cc in bad)
      by_verdict (Refused x) says = absurd (let bad : ⊥ = cc in bad)

-- what an accepted edit asks of the state
pub may_keep : (v : Log × Option Turn) (log : Log) (owed : Option Owed) (s : State) (p : Pending) (owner : Owner) (e : Entry) → ◌≡◌ {A = Log × Option Turn} (log, turn_in owed) v → v.1 ≡ None
    → Folds log (turn_in owed) (reach_in owed) s p → MayAccept v.0 owner e
    → IsLawful e.edit × (owner_of s.registry e.secret ≡ Some owner) × (verdict s e ≡ Accepted) × (s.accepted < 2 ^ 64 - 1)
may_keep v log owed s p owner e view none folds may =
    let g = unowed v log owed s p view none folds in
    let m = may g.first g.turns (log_is v log (turn_in owed) view ∙ g.is) in
    subst (λ (x : State). IsLawful e.edit × (owner_of x.registry e.secret ≡ Some owner) × (verdict x e ≡ Accepted) × (x.accepted < 2 ^ 64 - 1)) (sym g.state) m

-- The edit.

edit_entry : (v : Event) (e : Entry) → Accepts v e → entry_in v ≡ e ∷ []
edit_entry (Edit x d) e is = ap (λ (y : Entry). y ∷ []) is.1.0
edit_entry (Question q a) e is = absurd is.1
edit_entry (Install upto) e is = absurd is.1
edit_entry (Fault count) e is = absurd is.1

edit_comes : (f : First) (ts : List Turn) (v : Event) (e : Entry) → Accepts v e → IsLawful e.edit → verdict (state_of f ts) e ≡ Accepted
    → (state_of f ts).accepted < 2 ^ 64 - 1 → MayCome f ts v
edit_comes f ts (Edit x d) e is lawful accepted room = (
  subst (λ (y : Entry). IsLawful y.edit) (sym is.1.0) lawful,
  room,
  subst (λ (y : Entry). Says y.number (verdict (state_of f ts) y) d.value) (sym is.1.0) (subst (λ w. Says e.number w d.value) (sym accepted) (is.0, is.1.1)),
)
edit_comes f ts (Question q a) e is lawful accepted room = absurd is.1
edit_comes f ts (Install upto) e is lawful accepted room = absurd is.1
edit_comes f ts (Fault count) e is lawful accepted room = absurd is.1

edit_shows : (f : First) (ts : List Turn) (v : Event) (e : Entry) (new old : Shown) → Accepts v e → new.bundle ≡ old.bundle → old ≡ shown_after f ts → ShowsTexts f ts v new.bundle
edit_shows f ts (Edit x d) e new old is same was = same ∙ ap (λ (w : Shown). w.bundle) was
edit_shows f ts (Question q a) e new old is same was = absurd is.1
edit_shows f ts (Install upto) e new old is same was = absurd is.1
edit_shows f ts (Fault count) e new old is same was = absurd is.1

edit_built : (n : ℕ) (v : Event) (e : Entry) → Accepts v e → built_in n v ≡ n
edit_built n (Edit x d) e is = refl
edit_built n (Question q a) e is = absurd is.1
edit_built n (Install upto) e is = absurd is.1
edit_built n (Fault count) e is = absurd is.1

pub edit_faults : (n : ℕ) (v : Event) (e : Entry) (d : Decision) → IsEdit v e d → fault_in n v ≡ n
edit_faults n (Edit x y) e d is = refl
edit_faults n (Question q a) e d is = absurd is
edit_faults n (Install upto) e d is = absurd is
edit_faults n (Fault count) e d is = absurd is

-- the state after the edit's turn
edit_state : (f : First) (ts : List Turn) (t : Turn) (e : Entry) → Accepts t.event e → state_of f (ts ++ t ∷ []) ≡ step (state_of f ts) e
edit_state f ts t e is = state_snoc f ts t ∙ ap (run (state_of f ts)) (edit_entry t.event e is)

by_listed : (b : Bool) (built c count last : ℕ) → built < c → count ≡ later_count built last → (if b then c else count) ≡ later_count built (if b then c else last)
by_listed true built c count last low is = by_less (nat_lt built c) refl where
  by_less : (less : Bool) → nat_lt built c ≡ less → c ≡ (if less then c else 0)
  by_less true is = refl
  by_less false is = absurd (grind (arith, nat_tests))
by_listed false built c count last low is = is

-- what the change of an edit reaches
abbrev reached_in : Registry → Entry → Reached
reached_in r e = reached r (change r e.edit)

module _ (f : First) (ts : List Turn) (t : Turn) (e : Entry) (legal : Legal f ts) (is : Accepts t.event e) (accepted : verdict (state_of f ts) e ≡ Accepted) where
  -- the last count after the edit's turn
  edit_last : (p : Touch → Bool) → last_touch f (ts ++ t ∷ []) p ≡ touched_by p (state_of f ts) e (last_touch f ts p)
  edit_last p =
      ap (λ es. last_from p f.state 0 es) (entries_snoc ts t ∙ ap (λ es. entries_of ts ++ es) (edit_entry t.event e is))
      ∙ last_both p f.state 0 (entries_of ts) (e ∷ [])

  -- the count of a text after it is noted
  text_noted : (p : Touch → Bool) (listed : Bool) (c c' : ℕ) → listed ≡ p (touch_in (state_of f ts) e) → c ≡ later_count (built_after f ts) (last_touch f ts p)
      → c' ≡ (if listed then (state_of f ts).accepted + 1 else c) → c' ≡ later_count (built_after f (ts ++ t ∷ [])) (last_touch f (ts ++ t ∷ []) p)
  text_noted p listed c c' lists counts noted =
      let makes = accepted_makes (state_of f ts) e accepted in
      let built : built_after f (ts ++ t ∷ []) ≡ built_after f ts = built_snoc f.state.accepted ts t ∙ edit_built (built_after f ts) t.event e is in
      let last : last_touch f (ts ++ t ∷ []) p ≡ (if listed then (state_of f ts).accepted + 1 else last_touch f ts p)
      = edit_last p ∙ (makes.touched p (last_touch f ts p) ∙ ap (λ b. if b then (state_of f ts).accepted + 1 else last_touch f ts p) (sym lists)) in
      let low = (shown_right f ts legal).low in
      noted
      ∙ (by_listed listed (built_after f ts) ((state_of f ts).accepted + 1) c (last_touch f ts p) (omega (arith, low)) counts
      ∙ sym (ap (λ (b : ℕ). later_count b (last_touch f (ts ++ t ∷ []) p)) built ∙ ap (later_count (built_after f ts)) last))

  edit_pends : (p q : Pending) → Pends f ts p → IsNoted ((state_of f ts).accepted + 1) (with_after (reached_in (registry_of f ts) e) (next (registry_of f ts) e.edit)) p q
      → Pends f (ts ++ t ∷ []) q
  edit_pends p q pends noted =
      let r = registry_of f ts in
      let c = change r e.edit in
      let u = with_after (reached r c) (next r e.edit) in
      let valid = (state_valid f ts legal).registry in
      let made = change_is_next r e.edit in
      record {
        headers = λ h. text_noted (header h) (lists_header u h) (header_count p h) (header_count q h)
            (subst (λ (s : Registry). lists_header (with_after (reached r c) s) h ≡ lists_header (touch r s c) h) made (headers_alike r c h)) (pends.headers h) (noted.headers h);
        sessions = λ h n. text_noted (part h n) (lists_session u h n) (session_count p h n) (session_count q h n)
            (subst (λ (s : Registry). lists_session (with_after (reached r c) s) h n ≡ lists_session (touch r s c) h n) made (sessions_alike r c h n valid)) (pends.sessions h n) (noted.sessions h n);
        roas_are = text_noted roas u.roas p.roas q.roas
            (subst (λ (s : Registry). (with_after (reached r c) s).roas ≡ (touch r s c).roas) made (roas_alike r c)) pends.roas_are noted.roas;
      }

  edit_follows : (old : Shown) → IsLawful e.edit → (state_of f ts).accepted < 2 ^ 64 - 1 → t.number ≡ turns_by t.seat ts → ShowsNext old (state_of f ts) (change (registry_of f ts) e.edit) t.view → old ≡ shown_after f ts
      → MayFollow f ts t
  edit_follows old lawful room number shows was =
      let makes = accepted_makes (state_of f ts) e accepted in
      record {
        number = number;
        event = edit_comes f ts t.event e is lawful accepted room;
        accepted = shows.accepted ∙ sym (ap (λ (s : State). s.accepted) (edit_state f ts t e is) ∙ makes.count);
        keys = shows.keys ∙ (ap (λ (r : Registry). r.keys) (change_is_next (registry_of f ts) e.edit)
            ∙ sym (ap (λ (s : State). s.registry.keys) (edit_state f ts t e is) ∙ ap (λ (r : Registry). r.keys) makes.registry));
        texts = edit_shows f ts t.event e t.view old is shows.bundle was;
      }

  -- What is noted later.
  note_pends : (x : Reached) (s : State) (p q : Pending) → s ≡ state_of f (ts ++ t ∷ []) → x ≡ reached_in (registry_of f ts) e → Pends f ts p
      → IsNoted s.accepted (with_after x s.registry) p q → Pends f (ts ++ t ∷ []) q
  note_pends x s p q made reach pends noted =
      let makes = accepted_makes (state_of f ts) e accepted in
      let now : s ≡ step (state_of f ts) e = made ∙ edit_state f ts t e is in
      let count : s.accepted ≡ (state_of f ts).accepted + 1 = ap (λ (y : State). y.accepted) now ∙ makes.count in
      let registry : s.registry ≡ next (registry_of f ts) e.edit = ap (λ (y : State). y.registry) now ∙ makes.registry in
      edit_pends p q pends
      (subst (λ (n : ℕ). IsNoted n (with_after (reached_in (registry_of f ts) e) (next (registry_of f ts) e.edit)) p q) count
      (subst (λ (r : Registry). IsNoted s.accepted (with_after (reached_in (registry_of f ts) e) r) p q) registry
      (subst (λ (y : Reached). IsNoted s.accepted (with_after y s.registry) p q) reach noted)))

note_folds : (log : Log) (t : Turn) (o : Option Reached) (s : State) (p q : Pending) → NotesReach s o p q → Folds log (Some t) o s p → Folds log (Some t) None s q
note_folds log t None s p q noted g = subst (Folds log (Some t) None s) (sym noted) g
note_folds log t (Some x) s p q noted g =
    let r = g.reaches in
    record {
      first = g.first;
      turns = g.turns;
      is = g.is;
      legal = g.legal;
      state = g.state;
      reaches = tt;
      pends = note_pends g.first g.turns t r.0 (legal_before g.first g.turns (t ∷ []) g.legal) r.1 r.3 x s p q g.state r.4 g.pends noted;
    }

note_all : (log : Log) (owed : Option Owed) (s : State) (p q : Pending) → NotesReach s (reach_in owed) p q → Folds log (turn_in owed) (reach_in owed) s p
    → Folds log (turn_in (noted_owed owed)) (reach_in (noted_owed owed)) s q
note_all log None s p q noted g = subst (Folds log None None s) (sym noted) g
note_all log (Some o) s p q noted g = note_folds log o.turn o.reached s p q noted g

-- the facts once the reach is noted
pub noted_folds : (log : Log) (owed owed' : Option Owed) (s : State) (p q : Pending) → owed' ≡ noted_owed owed → NotesReach s (reach_in owed) p q
    → Folds log (turn_in owed) (reach_in owed) s p → Folds log (turn_in owed') (reach_in owed') s q
noted_folds log owed owed' s p q one two g =
    subst (λ o. Folds log (turn_in o) (reach_in o) s q) (sym one) (note_all log owed s p q two g)

same_turn : (owed : Option Owed) → turn_in (noted_owed owed) ≡ turn_in owed
same_turn None = refl
same_turn (Some o) = refl

pub turn_noted : (owed owed' : Option Owed) → owed' ≡ noted_owed owed → turn_in owed' ≡ turn_in owed
turn_noted owed owed' is = ap turn_in is ∙ same_turn owed

none_left : (owed : Option Owed) → reach_in (noted_owed owed) ≡ None
none_left None = refl
none_left (Some o) = refl

pub reach_noted : (owed owed' : Option Owed) → owed' ≡ noted_owed owed → reach_in owed' ≡ None
reach_noted owed owed' is = ap reach_in is ∙ none_left owed

counts_reach : (log : Log) (t : Turn) (o : Option Reached) (s : State) (p : Pending) → Folds log (Some t) o s p → IfSome o (λ x. 0 < s.accepted)
counts_reach log t None s p g = tt
counts_reach log t (Some x) s p g =
    let r = g.reaches in
    let makes = accepted_makes (state_of g.first g.turns) r.0 r.3 in
    let count : s.accepted ≡ (state_of g.first g.turns).accepted + 1
    = ap (λ (y : State). y.accepted) (g.state ∙ edit_state g.first g.turns t r.0 r.1) ∙ makes.count in
    omega (arith, count)

-- where a reach is owed, an edit was accepted
pub reach_counts : (log : Log) (owed : Option Owed) (s : State) (p : Pending) → Folds log (turn_in owed) (reach_in owed) s p → IfSome (reach_in owed) (λ x. 0 < s.accepted)
reach_counts log None s p g = tt
reach_counts log (Some o) s p g = counts_reach log o.turn o.reached s p g

-- A turn that is owed.

pub folds_edit : (log : Log) (s s' : State) (p : Pending) (t : Turn) (owner : Owner) (e : Entry) (x : Reached) (old : Shown) → Folds log None None s p
    → IsViewOf Legal shown_after log old → Accepts t.event e → MayAccept log owner e → t.number ≡ turns_by t.seat (turns_of log) → ShowsNext old s (change s.registry e.edit) t.view
    → s' ≡ step s e → x ≡ reached_in s.registry e → Folds log (Some t) (Some x) s' p
folds_edit log s s' p t owner e x old g view is may number shows made reach =
    let ok = may g.first g.turns g.is in
    let at : t.number ≡ turns_by t.seat g.turns = number ∙ (ap (λ (l : Log). turns_by t.seat (turns_of l)) g.is ∙ ap (turns_by t.seat) (turns_of-entries g.first g.turns)) in
    record {
      first = g.first;
      turns = g.turns;
      is = g.is;
      legal = legal_snoc g.first g.turns t g.legal
          (edit_follows g.first g.turns t e g.legal is ok.2 old ok.0 ok.3 at (subst (λ (y : State). ShowsNext old y (change y.registry e.edit) t.view) g.state shows) (shown_is log old g.first g.turns view g.is));
      state = made ∙ (ap (λ (y : State). step y e) g.state ∙ sym (edit_state g.first g.turns t e is));
      reaches = (e, is, ok.0, ok.2, reach ∙ ap (λ (y : State). reached_in y.registry e) g.state);
      pends = g.pends;
    }

-- a turn that changes neither the state nor what is pending
pub record Still (f : First) (ts : List Turn) (v : Event) : Type 0 where
  pub comes : MayCome f ts v
  pub state : run (state_of f ts) (entry_in v) ≡ state_of f ts
  pub built : (n : ℕ) → built_in n v ≡ n
  pub last : (p : Touch → Bool) (n : ℕ) → last_from p (state_of f ts) n (entry_in v) ≡ n
  pub texts : ShowsTexts f ts v (shown_after f ts).bundle

still_text : (f : First) (ts : List Turn) (t : Turn) → Still f ts t.event → (p : Touch → Bool)
    → later_count (built_after f ts) (last_touch f ts p) ≡ later_count (built_after f (ts ++ t ∷ [])) (last_touch f (ts ++ t ∷ []) p)
still_text f ts t still p = sym (
    ap (λ (b : ℕ). later_count b (last_touch f (ts ++ t ∷ []) p)) (built_snoc f.state.accepted ts t ∙ still.built (built_after f ts))
    ∙ ap (later_count (built_after f ts))
    (ap (λ es. last_from p f.state 0 es) (entries_snoc ts t) ∙ (last_both p f.state 0 (entries_of ts) (entry_in t.event) ∙ still.last p (last_touch f ts p))))

pub folds_still : (log : Log) (s : State) (p : Pending) (t : Turn) (old : Shown) (g : Folds log None None s p) → IsViewOf Legal shown_after log old → t.number ≡ turns_by t.seat (turns_of log)
    → t.view ≡ old → Still g.first g.turns t.event → Folds log (Some t) None s p
folds_still log s p t old g view number same still =
    let shown : t.view ≡ shown_after g.first g.turns = same ∙ shown_is log old g.first g.turns view g.is in
    let right = shown_right g.first g.turns g.legal in
    let stays : state_of g.first (g.turns ++ t ∷ []) ≡ state_of g.first g.turns = state_snoc g.first g.turns t ∙ still.state in
    record {
      first = g.first;
      turns = g.turns;
      is = g.is;
      legal = legal_snoc g.first g.turns t g.legal (record {
        number = number ∙ (ap (λ (l : Log). turns_by t.seat (turns_of l)) g.is ∙ ap (turns_by t.seat) (turns_of-entries g.first g.turns));
        event = still.comes;
        accepted = ap (λ (w : Shown). w.accepted) shown ∙ (right.accepted ∙ ap (λ (y : State). y.accepted) (sym stays));
        keys = ap (λ (w : Shown). w.keys) shown ∙ (right.keys ∙ ap (λ (y : State). y.registry.keys) (sym stays));
        texts = subst (λ (w : Shown). ShowsTexts g.first g.turns t.event w.bundle) (sym shown) still.texts;
      });
      state = g.state ∙ sym stays;
      reaches = tt;
      pends = record {
        headers = λ h. g.pends.headers h ∙ still_text g.first g.turns t still (header h);
        sessions = λ h n. g.pends.sessions h n ∙ still_text g.first g.turns t still (part h n);
        roas_are = g.pends.roas_are ∙ still_text g.first g.turns t still roas;
      };
    }

pub still_fault : (f : First) (ts : List Turn) (count : ℕ) → Rose (faults_of f ts) count → Still f ts (Fault count)
still_fault f ts count rose = record { comes = rose; state = refl; built = λ n. refl; last = λ p n. refl; texts = refl }

pub still_question : (f : First) (ts : List Turn) (v : Event) (q : Asked) (a : Answered) → IsQuestion q a v → IsAnswered (state_of f ts) q a → Still f ts v
still_question f ts (Question x y) q a is answers = record {
  comes = subst (λ w. IsAnswered (state_of f ts) w y.value) (sym is.0) (subst (IsAnswered (state_of f ts) q) (sym is.1) answers);
  state = refl;
  built = λ n. refl;
  last = λ p n. refl;
  texts = refl;
}
still_question f ts (Edit e d) q a is answers = absurd is
still_question f ts (Install upto) q a is answers = absurd is
still_question f ts (Fault count) q a is answers = absurd is

not_accepted : (n : ℕ) (v : Verdict) (e : edits.Edit) (d : Decision) → Says n v d → ((owner : Owner) → d ≡ decision.Accepted owner → ⊥) → if_accepted v e ≡ e ∷ [] → ⊥
not_accepted n Accepted e d says other is = other says.0 says.1
not_accepted n Repeated e d says other is = let bad : ⊥ = cc in bad
not_accepted n (Reused kind subject) e d says other is = let bad : ⊥ = cc in bad
not_accepted n (Refused x) e d says other is = let bad : ⊥ = cc in bad

-- an edit that isn't accepted leaves the state
rests : (s : State) (e : Entry) (d : Decision) → Says e.number (verdict s e) d → ((owner : Owner) → d ≡ decision.Accepted owner → ⊥) → Leaves s e
rests s e d says other = by_case (makes_or_leaves s e) (either s e) where
  by_case : Makes s e ⊎ Leaves s e → Acts s e ⊎ Rests s e → Leaves s e
  by_case (inr l) x = l
  by_case (inl m) (inr r) = absurd (let a = m.count in let b = ap (λ (y : State). y.accepted) r.0 in omega (arith, a, b))
  by_case (inl m) (inl a) = absurd (not_accepted e.number (verdict s e) e.edit d says other a.5)

pub still_edit : (f : First) (ts : List Turn) (v : Event) (e : Entry) (d : Decision) → IsEdit v e d → IsLawful e.edit → (state_of f ts).accepted < 2 ^ 64 - 1
    → Says e.number (verdict (state_of f ts) e) d → ((owner : Owner) → d ≡ decision.Accepted owner → ⊥) → Still f ts v
still_edit f ts (Edit x y) e d is lawful room says other =
    let leaves : Leaves (state_of f ts) x.value = subst (λ (z : Entry). Leaves (state_of f ts) z) (sym is.0) (rests (state_of f ts) e d says other) in
    record {
      comes = (
        subst (λ (z : Entry). IsLawful z.edit) (sym is.0) lawful,
        room,
        subst (λ (z : Entry). Says z.number (verdict (state_of f ts) z) y.value) (sym is.0) (subst (Says e.number (verdict (state_of f ts) e)) (sym is.1) says),
      );
      state = leaves.state;
      built = λ n. refl;
      last = λ p n. leaves.touched p n;
      texts = refl;
    }
still_edit f ts (Question q a) e d is lawful room says other = absurd is
still_edit f ts (Install upto) e d is lawful room says other = absurd is
still_edit f ts (Fault count) e d is lawful room says other = absurd is

-- The lock's facts once a turn is owed, by what its calls ensure.

at_log : (v : Log × Option Turn) (log : Log) (owed : Option Turn) (t : Turn) (seat number : ℕ) → ◌≡◌ {A = Log × Option Turn} (log, owed) v → number ≡ turns_by seat (turns_of v.0)
    → t.seat ≡ seat → t.number ≡ number → t.number ≡ turns_by t.seat (turns_of log)
at_log v log owed t seat number view at seat_is number_is =
    number_is ∙ (at ∙ (ap (λ (l : Log). turns_by seat (turns_of l)) (log_is v log owed view) ∙ ap (λ (n : ℕ). turns_by n (turns_of log)) (sym seat_is)))

pub edit_owed : (v : Log × Option Turn) (log : Log) (owed owed' : Option Owed) (s s' : State) (p : Pending) (t : Turn) (owner : Owner) (e : Entry) (c : RegistryChange) (x : Reached) (old : Shown) (seat number : ℕ)
    → ◌≡◌ {A = Log × Option Turn} (log, turn_in owed) v → v.1 ≡ None → number ≡ turns_by seat (turns_of v.0) → MayAccept v.0 owner e → Folds log (turn_in owed) (reach_in owed) s p
    → IsViewOf Legal shown_after log old → t.seat ≡ seat → t.number ≡ number → Accepts t.event e → c ≡ change s.registry e.edit → ShowsNext old s c t.view
    → x ≡ reached s.registry c → s' ≡ step s e → owed' ≡ Some (record { turn = t; reached = Some x }) → Folds log (turn_in owed') (reach_in owed') s' p
edit_owed v log owed owed' s s' p t owner e c x old seat number view none at may folds shown seat_is number_is is makes shows reach made owes =
    subst (λ o. Folds log (turn_in o) (reach_in o) s' p) (sym owes)
    (folds_edit log s s' p t owner e x old (unowed v log owed s p view none folds) shown is (subst (λ (l : Log). MayAccept l owner e) (log_is v log (turn_in owed) view) may)
    (at_log v log (turn_in owed) t seat number view at seat_is number_is) (subst (λ (d : RegistryChange). ShowsNext old s d t.view) makes shows) made
    (reach ∙ ap (reached s.registry) makes))

pub still_owed : (v : Log × Option Turn) (log : Log) (owed owed' : Option Owed) (s s' : State) (p : Pending) (t : Turn) (old : Shown) (seat number : ℕ)
    → ◌≡◌ {A = Log × Option Turn} (log, turn_in owed) v → v.1 ≡ None → number ≡ turns_by seat (turns_of v.0) → Folds log (turn_in owed) (reach_in owed) s p
    → IsViewOf Legal shown_after log old → t.seat ≡ seat → t.number ≡ number → t.view ≡ old → s' ≡ s → ((f : First) (ts : List Turn) → log ≡ entries f ts → Still f ts t.event)
    → owed' ≡ Some (record { turn = t; reached = None }) → Folds log (turn_in owed') (reach_in owed') s' p
still_owed v log owed owed' s s' p t old seat number view none at folds shown seat_is number_is same made still owes =
    let g = unowed v log owed s p view none folds in
    subst (λ o. Folds log (turn_in o) (reach_in o) s' p) (sym owes)
    (subst (λ (y : State). Folds log (Some t) None y p) (sym made)
    (folds_still log s p t old g shown (at_log v log (turn_in owed) t seat number view at seat_is number_is) same (still g.first g.turns g.is)))

pub faults_now : (log : Log) (faults : ℕ) (counts : List ℕ) (f : First) (ts : List Turn) → Counts log None faults counts → log ≡ entries f ts → faults ≡ faults_of f ts
faults_now log faults counts f ts c is =
    let same : entries c.first c.turns ≡ entries f ts = sym c.is ∙ is in
    c.faults_are ∙ (ap (λ (g : First). faults_of g c.turns) (same_first c.first f c.turns ts same) ∙ ap (faults_of f) (same_turns c.first f c.turns ts same))

pub kept_is : (log : Log) (faults : ℕ) (counts : List ℕ) (seat : ℕ) → Counts log None faults counts → get_or counts seat 0 ≡ turns_by seat (turns_of log)
kept_is log faults counts seat c = c.turns_are seat ∙ sym (ap (λ (l : Log). turns_by seat (turns_of l)) c.is ∙ ap (turns_by seat) (turns_of-entries c.first c.turns))

pub counts_more : (v : Log × Option Turn) (log : Log) (owed : Option Owed) (faults faults' : ℕ) (counts counts' : List ℕ) (t : Turn) (seat number : ℕ)
    → ◌≡◌ {A = Log × Option Turn} (log, turn_in owed) v → v.1 ≡ None → number ≡ turns_by seat (turns_of v.0) → Counts log (turn_in owed) faults counts → t.seat ≡ seat
    → seat < length counts → faults' ≡ fault_in faults t.event → counts' ≡ set counts seat (number + 1) → Counts log (Some t) faults' counts'
counts_more v log owed faults faults' counts counts' t seat number view none at counted seat_is there rose raised =
    let c = uncounted v log owed faults counts view none counted in
    let number_now : number ≡ turns_by seat c.turns
    = at ∙ (ap (λ (l : Log). turns_by seat (turns_of l)) (log_is v log (turn_in owed) view) ∙ (sym (kept_is log faults counts seat c) ∙ c.turns_are seat)) in
    record {
      first = c.first;
      turns = c.turns;
      is = c.is;
      faults_are = rose ∙ (ap (λ n. fault_in n t.event) c.faults_are ∙ sym (faults_snoc c.first.faults c.turns t));
      turns_are = λ k. ap (λ cs. get_or cs k 0) raised ∙ (by_seat c.turns number_now c.turns_are k (seat == k) refl ∙ sym (turns_snoc k c.turns t ∙ ap (λ (n : ℕ). turns_by k c.turns + (if n == k then 1 else 0)) seat_is));
    } where
      by_seat : (ts : List Turn) → number ≡ turns_by seat ts → ((k : ℕ) → get_or counts k 0 ≡ turns_by k ts) → (k : ℕ) (b : Bool) → (seat == k) ≡ b
          → get_or (set counts seat (number + 1)) k 0 ≡ turns_by k ts + (if b then 1 else 0)
      by_seat ts now are k true e =
          let k_is = eqb-true seat k e in
          ap (λ j. get_or (set counts seat (number + 1)) j 0) (sym k_is) ∙ (get_or-set_same counts seat (number + 1) 0 there ∙ (ap (λ n. n + 1) now ∙ ap (λ j. turns_by j ts + 1) k_is))
      by_seat ts now are k false e =
          let more : turns_by k ts ≡ turns_by k ts + 0 = omega arith in
          get_or-set_other counts seat k (number + 1) 0 (λ z. eqb-false seat k e (sym z)) ∙ (are k ∙ more)

-- what the history and the owed turn are then
pub owes_now : (v : Log × Option Turn) (log : Log) (owed owed' : Option Owed) (t : Turn) (x : Option Reached) (seat number : ℕ) (Does : Event → Type 0)
    → ◌≡◌ {A = Log × Option Turn} (log, turn_in owed) v → owed' ≡ Some (record { turn = t; reached = x }) → t.seat ≡ seat → t.number ≡ number → Does t.event
    → Owes v.0 (log, turn_in owed') seat number Does
owes_now v log owed owed' t x seat number Does view owes seat_is number_is does =
    (t, ap (λ (o : Option Owed). (log, turn_in o)) owes ∙ ap (λ (l : Log). (l, Some t)) (sym (log_is v log (turn_in owed) view)), seat_is, number_is, does)

-- a question that is answered of the state is answered of the history
pub replies_at : (log : Log) (s : State) (q q' : Asked) (a : Answered) → IsStateAt log s → q' ≡ q → IsAnswered s q a → Replies log q' a
replies_at log s q q' a state same answers f ts is = subst (λ x. IsAnswered x q' a) (state f ts is) (subst (λ x. IsAnswered s x a) (sym same) answers)

-- the count of the turn, where the seat is level
pub number_at : (v : Log × Option Turn) (log : Log) (owed : Option Turn) (s : Sight) (t : Turn) → ◌≡◌ {A = Log × Option Turn} (log, owed) v → Level v s → t.seat ≡ s.0 → t.number ≡ s.1 → t.number ≡ turns_by t.seat (turns_of log)
number_at v log owed s t view level seat_is number_is =
    number_is ∙ (level.count ∙ (ap (λ (l : Log). turns_by s.0 (turns_of l)) (log_is v log owed view) ∙ ap (λ (n : ℕ). turns_by n (turns_of log)) (sym seat_is)))

-- a question that is answered of the state is answered of it as the one after the history
pub answered_if : (v : Log × Option Turn) (log : Log) (owed : Option Owed) (s : State) (p : Pending) (q : Asked) (r : Result Answered AllocError) → ◌≡◌ {A = Log × Option Turn} (log, turn_in owed) v
    → v.1 ≡ None → Folds log (turn_in owed) (reach_in owed) s p → IfOk r (IsAnswered s q) → IfOk r (IsAnsweredAt v.0 q)
answered_if v log owed s p q (Ok a) view none g is = (s, state_at v log owed s p view none g, is)
answered_if v log owed s p q (Err fault) view none g is = tt
