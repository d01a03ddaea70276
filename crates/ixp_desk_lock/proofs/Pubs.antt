-- Turns in one hold of the lock.
use Rattle.std.proofs.Common.{◌≡◌, ◌<◌, ◌+◌, ◌⊎◌, inl, inr, ℕ, List, [], ◌∷◌, ◌++◌, length, set, map, Option, Some, None, refl, ap, sym, ◌∙◌, subst, arith, append_assoc}
use mathlib.Core.List.{IsPrefix}
use Rattle.std.proofs.lemmas.List.{length-append}
use Rattle.ixp_board.specs.Histories.{turns_of, with_turn, IsLegal, IsViewOf}
use Rattle.ixp_board.proofs.Entries.{entries-with_turn}
use Rattle.ixp_machine_steps.specs.declared.state.State.{State}
use Rattle.ixp_build_pending.specs.declared.pending.Pending.{Pending}
use Rattle.ixp_desk_history.specs.declared.turn.Answered.{Answered}
use Rattle.ixp_desk_history.specs.declared.turn.Asked.{Asked}
use Rattle.ixp_desk_history.specs.declared.turn.Event.{Event}
use Rattle.ixp_desk_history.specs.declared.turn.Event.TheVariants.{Edit, Question, Install, Fault}
use Rattle.ixp_desk_history.specs.declared.turn.Shown.{Shown}
use Rattle.ixp_desk_history.specs.declared.turn.Turn.{Turn}
use Rattle.ixp_desk_history.specs.Legal.{Legal}
use Rattle.ixp_desk_history.specs.Turns.{shown_after, turns_by, fault_in}
use Rattle.ixp_desk_lock.specs.declared.owed.Owed.{Owed}
use Rattle.ixp_desk_lock.specs.Calls.{Mine, One, turned}
use Rattle.ixp_desk_lock.specs.Facts.{Log, Counts, Folds, HasAccepted, IsQuestion, Replies, turn_in, reach_in}
use Rattle.ixp_desk_lock.specs.Publishing.{Adds, Both, Level}
use Rattle.ixp_desk_lock.specs.Sights.{IsAfter, Sight}
use Rattle.ixp_desk_lock.proofs.OwnTurns.{one_more}
use Rattle.ixp_desk_lock.proofs.Owing.{counts_more, folds_still, log_is, no_reach, none_turn, number_at, state_is, still_question, unowed}

longer : (old : Log) (new : Log) → IsAfter old new → IsPrefix new old → ⊥
longer old new a p =
    let one = ap length a.1 ∙ length-append old _ in
    let two = ap length (sym p.1) ∙ length-append new p.0 in
    omega (arith, one, two)

-- what a note of one turn more tells is learnt
pub note_learnt : (old new note : Log) → IsAfter old note → (new ≡ old) ⊎ (new ≡ note) → IsPrefix note new → new ≡ note
note_learnt old new note a (inl e) p = absurd (longer old note a (subst (λ (l : Log). IsPrefix note l) e p))
note_learnt old new note a (inr e) p = e

pub question_folds : (v : Log × Option Turn) (log : Log) (owed : Option Owed) (s : Sight) (st : State) (p : Pending) (t : Turn) (old : Shown) (q : Asked) (a : Answered)
    → ◌≡◌ {A = Log × Option Turn} (log, turn_in owed) v → Level v s → Folds log (turn_in owed) (reach_in owed) st p → IsViewOf Legal shown_after log old
    → t.seat ≡ s.0 → t.number ≡ s.1 → t.view ≡ old → IsQuestion q a t.event → Replies v.0 q a → Folds log (Some t) None st p
question_folds v log owed s st p t old q a view level folds shown seat_is number_is same is replies =
    let g = unowed v log owed st p view level.none folds in
    folds_still log st p t old g shown (number_at v log (turn_in owed) s t view level seat_is number_is) same
    (still_question g.first g.turns t.event q a is (replies g.first g.turns (log_is v log (turn_in owed) view ∙ g.is)))

pub may_put : (log : Log) (t : Turn) (s : State) (p : Pending) → Folds log (Some t) None s p → IsLegal Legal (with_turn log t)
may_put log t s p f = record {
  first = f.first;
  turns = f.turns ++ t ∷ [];
  entries_are = ap (λ l. with_turn l t) f.is ∙ entries-with_turn f.first f.turns t;
  legal_turns = f.legal;
}

-- a turn that is put at once is one that was owed and made
pub put_now : (log now : Log) (s : State) (p : Pending) (t : Turn) → now ≡ with_turn log t → Folds log (Some t) None s p → Folds now None None s p
put_now log now s p t put g = subst (λ l. Folds l None None s p) (sym put) (record {
  first = g.first;
  turns = g.turns ++ t ∷ [];
  is = ap (λ l. with_turn l t) g.is ∙ entries-with_turn g.first g.turns t;
  legal = g.legal;
  state = g.state;
  reaches = tt;
  pends = g.pends;
})

pub at_once : (v : Log × Option Turn) (log now : Log) (owed : Option Owed) (s : State) (p : Pending) → ◌≡◌ {A = Log × Option Turn} (log, turn_in owed) v → v.1 ≡ None
    → Folds now None None s p → Folds now (turn_in owed) (reach_in owed) s p
at_once v log now owed s p view none g =
    let e = none_turn v log (turn_in owed) view none in
    subst (λ o. Folds now o (reach_in owed) s p) (sym e) (subst (λ x. Folds now None x s p) (sym (no_reach owed e)) g)

pub put_counts : (v : Log × Option Turn) (log now : Log) (owed : Option Owed) (s : Sight) (faults : ℕ) (counts counts' : List ℕ) (t : Turn) (seat number : ℕ)
    → ◌≡◌ {A = Log × Option Turn} (log, turn_in owed) v → Level v s → Counts log (turn_in owed) faults counts → seat ≡ s.0 → number ≡ s.1 → t.seat ≡ seat
    → seat < length counts → faults ≡ fault_in faults t.event → counts' ≡ set counts seat (number + 1) → now ≡ with_turn log t → Counts now (turn_in owed) faults counts'
put_counts v log now owed s faults counts counts' t seat number view level counted seat_is number_is its there same raised put =
    let at : number ≡ turns_by seat (turns_of v.0) = number_is ∙ (level.count ∙ ap (λ (n : ℕ). turns_by n (turns_of v.0)) (sym seat_is)) in
    let g = counts_more v log owed faults faults counts counts' t seat number view level.none at counted its there same raised in
    subst (λ o. Counts now o faults counts') (sym (none_turn v log (turn_in owed) view level.none)) (subst (λ l. Counts l None faults counts') (sym put) (record {
      first = g.first;
      turns = g.turns ++ t ∷ [];
      is = ap (λ l. with_turn l t) g.is ∙ entries-with_turn g.first g.turns t;
      faults_are = g.faults_are;
      turns_are = g.turns_are;
    }))

pub question_faults : (n : ℕ) (v : Event) (q : Asked) (a : Answered) → IsQuestion q a v → n ≡ fault_in n v
question_faults n (Question x y) q a is = refl
question_faults n (Edit e d) q a is = absurd is
question_faults n (Install upto) q a is = absurd is
question_faults n (Fault count) q a is = absurd is

-- the turn that was put is what was added
pub adds_one : (v : Log × Option Turn) (log now note : Log) (owed : Option Turn) (s u : Sight) (t : Turn) (Does : Event → Type 0) → ◌≡◌ {A = Log × Option Turn} (log, owed) v → Level v s
    → t.seat ≡ s.0 → t.number ≡ s.1 → Does t.event → now ≡ with_turn log t → note ≡ now → ◌≡◌ {A = Sight} u (s.0, s.1 + 1, note) → Adds (One Does) s u
adds_one v log now note owed s u t Does view level seat_is number_is does put told is = record {
  turns = t ∷ [];
  now = ap (λ (w : Sight). w.2) is ∙ (told ∙ (put ∙ ap (λ l. with_turn l t) (sym (level.whole ∙ log_is v log owed view))));
  mine = (seat_is, number_is, tt);
  number = ap (λ (w : Sight). w.0) is;
  count = ap (λ (w : Sight). w.1) is;
  does = does;
}

pub level_one : (v : Log × Option Turn) (log now note : Log) (owed : Option Turn) (s u : Sight) (t : Turn) → ◌≡◌ {A = Log × Option Turn} (log, owed) v → Level v s
    → t.seat ≡ s.0 → now ≡ with_turn log t → note ≡ now → ◌≡◌ {A = Sight} u (s.0, s.1 + 1, note) → Level (now, owed) u
level_one v log now note owed s u t view level seat_is put told is =
    let more = one_more s.0 log t seat_is in
    let at = level.count in
    let first : turns_by s.0 (turns_of v.0) ≡ turns_by s.0 (turns_of log) = ap (λ (l : Log). turns_by s.0 (turns_of l)) (log_is v log owed view) in
    let whole : turns_by u.0 (turns_of now) ≡ turns_by s.0 (turns_of (with_turn log t))
    = ap (λ (w : Sight). turns_by w.0 (turns_of now)) is ∙ ap (λ (l : Log). turns_by s.0 (turns_of l)) put in
    let count : u.1 ≡ s.1 + 1 = ap (λ (w : Sight). w.1) is in
    record {
      none = none_turn v log owed view level.none;
      whole = ap (λ (w : Sight). w.2) is ∙ told;
      count = omega (arith, more, at, first, whole, count);
    }

mine_both : (seat n : ℕ) (xs ys : List Turn) → Mine seat n xs → Mine seat (n + length xs) ys → Mine seat n (xs ++ ys)
mine_both seat n [] ys a b = subst (λ k. Mine seat k ys) (omega arith) b
mine_both seat n (x ∷ xs) ys a b = (a.0, a.1, mine_both seat (n + 1) xs ys a.2 (subst (λ k. Mine seat k ys) (omega arith) b))

turned_both : (xs ys : List Turn) → turned (xs ++ ys) ≡ turned xs ++ turned ys
turned_both [] ys = refl
turned_both (x ∷ xs) ys = ap (λ l. turned (x ∷ []) ++ l) (turned_both xs ys)

events_both : (xs ys : List Turn) → map (λ (x : Turn). x.event) (xs ++ ys) ≡ map (λ (x : Turn). x.event) xs ++ map (λ (x : Turn). x.event) ys
events_both [] ys = refl
events_both (x ∷ xs) ys = ap (λ l. x.event ∷ l) (events_both xs ys)

-- what was added, and then more
pub both_added : (One' Two' : List Event → Type 0) (s u t : Sight) → Adds One' s u → Adds Two' u t → Adds (Both One' Two') s t
both_added One' Two' s u t a b =
    let mine : Mine s.0 (s.1 + length a.turns) b.turns = subst (λ k. Mine s.0 k b.turns) a.count (subst (λ k. Mine k u.1 b.turns) a.number b.mine) in
    let one = a.count in
    let two = b.count in
    let long = length-append a.turns b.turns in
    record {
      turns = a.turns ++ b.turns;
      now = b.now ∙ (ap (λ (l : Log). l ++ turned b.turns) a.now ∙ (append_assoc s.2 (turned a.turns) (turned b.turns) ∙ ap (λ (l : Log). s.2 ++ l) (sym (turned_both a.turns b.turns))));
      mine = mine_both s.0 s.1 a.turns b.turns a.mine mine;
      number = b.number ∙ a.number;
      count = omega (arith, one, two, long);
      does = (map (λ (x : Turn). x.event) a.turns, map (λ (x : Turn). x.event) b.turns, events_both a.turns b.turns, a.does, b.does);
    }

-- the count of accepted edits, of the history that the facts are of
accepted_now : (log : Log) (s : State) (p : Pending) (n : ℕ) → Folds log None None s p → n ≡ s.accepted → HasAccepted log n
accepted_now log s p n g is f ts at = sym (is ∙ ap (λ (x : State). x.accepted) (state_is log s p f ts g at))

-- it is the same after an installation
pub accepted_still : (v : Log × Option Turn) (log now : Log) (owed : Option Owed) (s : State) (p q : Pending) → ◌≡◌ {A = Log × Option Turn} (log, turn_in owed) v → v.1 ≡ None
    → Folds log (turn_in owed) (reach_in owed) s p → Folds now None None s q → (n : ℕ) → HasAccepted v.0 n → HasAccepted now n
accepted_still v log now owed s p q view none folds after n has =
    let g = unowed v log owed s p view none folds in
    accepted_now now s q n after (sym (has g.first g.turns (log_is v log (turn_in owed) view ∙ g.is)) ∙ ap (λ (x : State). x.accepted) (sym g.state))
