-- A call's own turns.
use Rattle.std.proofs.Common.{◌≡◌, ◌≤◌, ◌<◌, ◌+◌, ◌-◌, ◌^◌, ◌==◌, ℕ, List, [], ◌∷◌, ◌++◌, Option, Some, None, Result, Ok, Err, inl, inr, length, refl, ap, sym, ◌∙◌, subst, arith, if◌then◌else◌}
use Rattle.std.proofs.lemmas.List.{append-nil}
use mathlib.Core.List.{IsPrefix}
use Rattle.ixp_board.specs.Histories.{turns_of, with_turn, IsLegal, IsViewOf}
use Rattle.ixp_board.proofs.Beginnings as beginnings
use Rattle.ixp_board.proofs.Entries.{turns_of-with_turn}
use Rattle.ixp_desk_history.specs.declared.turn.Event.{Event}
use Rattle.ixp_desk_history.specs.declared.turn.Event.TheVariants.{Install}
use Rattle.ixp_desk_history.specs.declared.turn.Shown.{Shown}
use Rattle.ixp_desk_history.specs.declared.turn.Turn.{Turn}
use Rattle.ixp_desk_history.specs.Legal.{Legal}
use Rattle.ixp_desk_history.specs.Turns.{shown_after, turns_by}
use Rattle.ixp_desk_history.proofs.Snocs.{turns_snoc}
use Rattle.ixp_machine_steps.specs.declared.state.Entry.{Entry}
use Rattle.ixp_machine.specs.declared.decision.Reply.{Reply}
use Rattle.ixp_machine.specs.declared.question.Query as machine
use Rattle.ixp_desk_history.specs.declared.turn.Answered.{Answered}
use Rattle.ixp_desk_history.specs.declared.turn.Answered.TheVariants as answered
use Rattle.ixp_desk_history.specs.declared.turn.Asked.TheVariants.{Query, OwnText}
use Rattle.ixp_desk_history.specs.Answers.{IsAnswered}
use Rattle.ixp_machine_steps.specs.declared.state.State.{State}
use Rattle.ixp_desk_lock.specs.declared.fault.AskFault.{AskFault}
use Rattle.ixp_desk_lock.specs.declared.fault.SubmitFault.{SubmitFault}
use Rattle.ixp_desk_lock.specs.declared.fault.SubmitFault.TheVariants as submit
use Rattle.ixp_desk_lock.specs.declared.fault.TurnFault.{TurnFault}
use Rattle.ixp_desk_lock.specs.declared.fault.TurnFault.TheVariants as turn
use Rattle.ixp_desk_lock.specs.declared.editing.Ending.{Ending}
use Rattle.ixp_desk_lock.specs.declared.editing.Ending.TheVariants as ending
use Rattle.ixp_desk_lock.specs.Calls.{Asks, Came, FaultSays, Fits, InstallsOver, MakesNone, Mine, One, OtherCount, Own, OwnEdit, OwnTexts, SeatEnded, Submits, reply_of, turned}
use Rattle.ixp_desk_lock.specs.Given.{answer_given, text_given}
use Rattle.ixp_desk_lock.specs.Publishing.{Adds, Level}
use Rattle.ixp_desk_lock.specs.Facts.{HasRoom, Log, IsQuestion, all_of, Owes}
use Rattle.ixp_desk_lock.specs.Sights.{Looks, Sight, counted, shown}

pub begins_self : (xs : Log) → IsPrefix xs xs
begins_self xs = beginnings.begins_self xs

begins_all : (log : Log) (owed : Option Turn) → IsPrefix log (all_of (log, owed))
begins_all log None = beginnings.begins_self log
begins_all log (Some t) = beginnings.begins_more log _

pub begins_owed : (seen : Log) (v : Log × Option Turn) → IsPrefix seen v.0 → IsPrefix seen (all_of v)
begins_owed seen v p = beginnings.begins_through seen v.0 (all_of v) p (begins_all v.0 v.1)

pub view_legal : (log : Log) (v : Shown) → IsViewOf Legal shown_after log v → IsLegal Legal log
view_legal log v is = record { first = is.first; turns = is.turns; entries_are = is.entries_are; legal_turns = is.legal_turns }

itself : (n : ℕ) → ◌≡◌ {A = ℕ} (if n == n then 1 else 0) 1
itself n = grind (arith)

pub one_more : (seat : ℕ) (log : Log) (t : Turn) → t.seat ≡ seat → turns_by seat (turns_of (with_turn log t)) ≡ turns_by seat (turns_of log) + 1
one_more seat log t is =
    let more = ap (turns_by seat) (turns_of-with_turn log t) ∙ turns_snoc seat (turns_of log) t in
    let one : ◌≡◌ {A = ℕ} (if t.seat == seat then 1 else 0) 1 = subst (λ n. ◌≡◌ {A = ℕ} (if n == seat then 1 else 0) 1) (sym is) (itself seat) in
    omega (arith, more, one)

-- the turn that was owed is the call's own
pub own_one : (s t : Sight) (log : Log) (v : Log × Option Turn) (Does : Event → Type 0) → IsPrefix s.2 log → s.1 ≡ turns_by s.0 (turns_of log) → Owes log v s.0 s.1 Does
    → t.0 ≡ s.0 → t.1 ≡ s.1 + 1 → t.2 ≡ all_of v → Own (One Does) s t
own_one s t log v Does p at owes number count is =
    let now : t.2 ≡ with_turn log owes.0 = is ∙ ap all_of owes.1 in
    let more = one_more s.0 log owes.0 owes.2 in
    let whole : turns_by t.0 (turns_of t.2) ≡ turns_by s.0 (turns_of (with_turn log owes.0))
    = ap (λ (n : ℕ). turns_by n (turns_of t.2)) number ∙ ap (λ (l : Log). turns_by s.0 (turns_of l)) now in
    record {
      before = log;
      turns = owes.0 ∷ [];
      after = [];
      seen = p;
      now = now;
      others = refl;
      mine = (owes.2, owes.3, tt);
      count = count;
      all = omega (arith, count, at, more, whole);
      does = owes.4;
    }

-- the same of an edit's turn, where there is room
own_edit : (s t : Sight) (log : Log) (v : Log × Option Turn) (Does : Event → Type 0) → IsPrefix s.2 log → s.1 ≡ turns_by s.0 (turns_of log) → Owes log v s.0 s.1 Does
    → t.0 ≡ s.0 → t.1 ≡ s.1 + 1 → t.2 ≡ all_of v → s.1 < 2 ^ 64 - 2 → HasRoom log → OwnEdit Does s t
unfolding own_one
own_edit s t log v Does p at owes number count is seat edits = record { own = own_one s t log v Does p at owes number count is; seat = seat; edits = edits }

pub other_count : (s t : Sight) (log : Log) (a kept : ℕ) → a ≡ s.1 → kept ≡ turns_by s.0 (turns_of log) → (a ≡ kept → ⊥) → t ≡ shown s log → OtherCount a kept s t
other_count s t log a kept its at differ is = record {
  stays = ap (λ (w : Sight). w.1) is;
  its = its;
  turns = at ∙ sym (ap (λ (w : Sight). turns_by w.0 (turns_of w.2)) is);
  differ = differ;
}

pub seat_ended : (s t : Sight) (log : Log) (n kept : ℕ) → n ≡ s.1 → kept ≡ turns_by s.0 (turns_of log) → n ≡ kept → 2 ^ 64 - 2 ≤ n → t ≡ shown s log → SeatEnded n s t
seat_ended s t log n kept its at same last is = record {
  stays = ap (λ (w : Sight). w.1) is;
  all = ap (λ (w : Sight). w.1) is ∙ (sym its ∙ (same ∙ (at ∙ sym (ap (λ (w : Sight). turns_by w.0 (turns_of w.2)) is))));
  its = its;
  last = last;
}

pub finish_seen : (s u : Sight) (v w : Log × Option Turn) → IsPrefix s.2 v.0 → u ≡ counted s → ◌≡◌ {A = Log × Option Turn} w (all_of v, None) → IsPrefix u.2 w.0
finish_seen s u v w p one two =
    subst (λ (x : Sight). IsPrefix x.2 w.0) (sym one) (subst (λ (x : Log × Option Turn). IsPrefix s.2 x.0) (sym two) (begins_owed s.2 v p))

-- what an edit came to is what is replied
submits_as : (e : Entry) (o : Ending) (s t : Sight) → OwnEdit (Came o e) s t → Submits e (reply_of o e.number) s t
submits_as e ending.Done s t own = (refl, own)
submits_as e (ending.Refused x) s t own = own
submits_as e ending.Fault s t own = own

pub edit_submits : (e : Entry) (o : Ending) (r : Result Reply SubmitFault) (s t : Sight) (log : Log) (v : Log × Option Turn) (seat count : ℕ) → r ≡ reply_of o e.number → seat ≡ s.0 → count ≡ s.1
    → IsPrefix s.2 log → s.1 ≡ turns_by s.0 (turns_of log) → Owes log v seat count (Came o e) → t.0 ≡ s.0 → t.1 ≡ s.1 + 1 → t.2 ≡ all_of v
    → s.1 < 2 ^ 64 - 2 → HasRoom log → Submits e r s t
edit_submits e o r s t log v seat count is seat_is count_is p at owes number raised shows room edits =
    subst (λ x. Submits e x s t) (sym is)
    (submits_as e o s t (own_edit s t log v (Came o e) p at
    (subst (λ n. Owes log v s.0 n (Came o e)) count_is (subst (λ n. Owes log v n count (Came o e)) seat_is owes)) number raised shows room edits))

-- what a call did after the seat saw more is what it did
pub own_from : (Does : List Event → Type 0) (s u t : Sight) → Looks s u → Own Does u t → Own Does s t
own_from Does s u t l own = record {
  before = own.before;
  turns = own.turns;
  after = own.after;
  seen = beginnings.begins_through s.2 u.2 own.before l.2 own.seen;
  now = own.now;
  others = subst (λ n. turns_by n own.after ≡ 0) l.0 own.others;
  mine = subst (λ n. Mine s.0 n own.turns) l.1 (subst (λ n. Mine n u.1 own.turns) l.0 own.mine);
  count = own.count ∙ ap (λ n. n + length own.turns) l.1;
  all = own.all;
  does = own.does;
}

edit_from : (Does : Event → Type 0) (s u t : Sight) → Looks s u → OwnEdit Does u t → OwnEdit Does s t
unfolding own_from
edit_from Does s u t l x = record { own = own_from (One Does) s u t l x.own; seat = subst (λ n. n < 2 ^ 64 - 2) l.1 x.seat; edits = x.edits }

-- what a call did after it was compared
pub submits_from : (e : Entry) (r : Result Reply SubmitFault) (s u t : Sight) → Looks s u → Submits e r u t → Submits e r s t
submits_from e (Ok n) s u t l own = (own.0, edit_from _ s u t l own.1)
submits_from e (Err (submit.Refused x)) s u t l own = edit_from _ s u t l own
submits_from e (Err submit.KeeperFault) s u t l own = edit_from _ s u t l own
submits_from e (Err (submit.SeatCount a b)) s u t l x = record { stays = x.stays ∙ l.1; its = x.its ∙ l.1; turns = x.turns; differ = x.differ }
submits_from e (Err (submit.Ended n)) s u t l (inl x) = inl (record { stays = x.stays ∙ l.1; all = x.all; its = x.its ∙ l.1; last = x.last })
submits_from e (Err (submit.Ended n)) s u t l (inr x) = inr (record { stays = x.stays ∙ l.1; all = x.all; room = subst (λ n. n < 2 ^ 64 - 2) l.1 x.room; its = x.its; last = x.last })
submits_from e (Err submit.NoMemory) s u t l x = let one = l.1 in let a = x.0 in let b = x.1 in (omega (arith, one, a), omega (arith, one, b))

pub fits_now : (s : Sight) (log now : Log) (a kept : ℕ) → now ≡ log → a ≡ s.1 → kept ≡ turns_by s.0 (turns_of log) → a ≡ kept → a < 2 ^ 64 - 2 → IsPrefix s.2 log → Fits now s
fits_now s log now a kept same its at one room p = record {
  seen = subst (λ (l : Log). IsPrefix s.2 l) (sym same) p;
  count = sym its ∙ (one ∙ (at ∙ ap (λ (l : Log). turns_by s.0 (turns_of l)) (sym same)));
  room = subst (λ n. n < 2 ^ 64 - 2) its room;
}

-- the fault of a call before its first turn
pub fault_from : (x : TurnFault) (s u t : Sight) → Looks s u → FaultSays x u t → FaultSays x s t
fault_from (turn.SeatCount a b) s u t l x = record { stays = x.stays ∙ l.1; its = x.its ∙ l.1; turns = x.turns; differ = x.differ }
fault_from (turn.Ended n) s u t l x = record { stays = x.stays ∙ l.1; all = x.all; its = x.its ∙ l.1; last = x.last }
fault_from turn.NoMemory s u t l x = x ∙ l.1

-- what was added to what a level seat had seen, once it is level again, is the call's own
pub own_added : (Does : List Event → Type 0) (s u t : Sight) (w : Log × Option Turn) → Looks s u → Adds Does u t → Level w t → Own Does s t
own_added Does s u t w l a level = own_from Does s u t l (record {
  before = u.2;
  turns = a.turns;
  after = [];
  seen = beginnings.begins_self u.2;
  now = a.now ∙ ap (λ ts. u.2 ++ turned ts) (sym (append-nil a.turns));
  others = refl;
  mine = a.mine;
  count = a.count;
  all = level.count ∙ ap (λ (x : Log). turns_by t.0 (turns_of x)) (sym level.whole);
  does = a.does;
})

-- the same, and which history stood before it
pub own_at : (Does : List Event → Type 0) (s u t : Sight) (w : Log × Option Turn) → Looks s u → Adds Does u t → Level w t → (own : Own Does s t) × (own.before ≡ u.2)
unfolding own_added own_from
own_at Does s u t w l a level = (own_added Does s u t w l a level, refl)

pub over_from : (from n : ℕ) (s u t : Sight) → Looks s u → InstallsOver from n u t → InstallsOver from n s t
unfolding own_from
over_from from n s u t l over = (own_from (One (λ (x : Event). x ≡ Install n)) s u t l over.0, over.1)

-- no turn was made
pub makes_none : (s t : Sight) (w : Log × Option Turn) → Looks s t → Level w t → MakesNone s t
makes_none s t w l level = (l.1, level.count ∙ ap (λ (x : Log). turns_by t.0 (turns_of x)) (sym level.whole))

asked_so : (st : State) (secret : List ℕ) (q : machine.Query) (a : Answered) (s t : Sight) → IsAnswered st (Query secret q) a → Own (One (IsQuestion (Query secret q) a)) s t
    → Asks secret q (answer_given a) s t
asked_so st secret q (answered.Answer x) s t is own = own
asked_so st secret q (answered.Refused x) s t is own = own
asked_so st secret q answered.NoSession s t is own = absurd is
asked_so st secret q (answered.Text x) s t is own = absurd is
asked_so st secret q (answered.Place p) s t is own = absurd is

-- what a question does whose turn was made
pub asks_so : (st : State) (secret : List ℕ) (q : machine.Query) (a : Answered) (r : Result _ AskFault) (s u t : Sight) (w : Log × Option Turn) → r ≡ answer_given a → IsAnswered st (Query secret q) a
    → Looks s u → Adds (One (IsQuestion (Query secret q) a)) u t → Level w t → Asks secret q r s t
asks_so st secret q a r s u t w given is l adds level =
    subst (λ x. Asks secret q x s t) (sym given) (asked_so st secret q a s t is (own_added (One (IsQuestion (Query secret q) a)) s u t w l adds level))

own_so : (st : State) (secret router : List ℕ) (n : ℕ) (a : Answered) (s t : Sight) → IsAnswered st (OwnText secret router n) a → Own (One (IsQuestion (OwnText secret router n) a)) s t
    → OwnTexts secret router n (text_given a) s t
own_so st secret router n (answered.Text x) s t is own = own
own_so st secret router n (answered.Refused x) s t is own = own
own_so st secret router n answered.NoSession s t is own = own
own_so st secret router n (answered.Answer x) s t is own = absurd is
own_so st secret router n (answered.Place p) s t is own = absurd is

pub own_texts_so : (st : State) (secret router : List ℕ) (n : ℕ) (a : Answered) (r : Result _ AskFault) (s u t : Sight) (w : Log × Option Turn) → r ≡ text_given a → IsAnswered st (OwnText secret router n) a
    → Looks s u → Adds (One (IsQuestion (OwnText secret router n) a)) u t → Level w t → OwnTexts secret router n r s t
own_texts_so st secret router n a r s u t w given is l adds level =
    subst (λ x. OwnTexts secret router n x s t) (sym given) (own_so st secret router n a s t is (own_added (One (IsQuestion (OwnText secret router n) a)) s u t w l adds level))

-- a seat that fits and has seen all is level
pub level_now : (v : Log × Option Turn) (s t : Sight) → v.1 ≡ None → Fits v.0 s → Looks s t → t.2 ≡ v.0 → Level v t
level_now v s t none fits l whole = record {
  none = none;
  whole = whole;
  count = l.1 ∙ (fits.count ∙ ap (λ n. turns_by n (turns_of v.0)) (sym l.0));
}

pub looks_through : (s u t : Sight) → Looks s u → Looks u t → Looks s t
looks_through s u t a b = (b.0 ∙ a.0, b.1 ∙ a.1, beginnings.begins_through s.2 u.2 t.2 a.2 b.2)
