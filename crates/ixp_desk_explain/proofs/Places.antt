-- Where a question of a call stands in the history, and what was seen more.
use Rattle.std.proofs.Common.{◌≡◌, ℕ, List, [], ◌∷◌, ◌++◌, map, refl, ap, sym, ◌∙◌, subst}
use Rattle.ixp_board.specs.Histories.{entries, turns_of, IsLegal}
use Rattle.ixp_board.specs.declared.entry.Entry.TheVariants as entry
use Rattle.ixp_board.proofs.Beginnings.{begins_self, begins_through}
use Rattle.ixp_board.proofs.Entries.{same_first, same_turns, turns_of-entries, turns_of-map}
use Rattle.ixp_registry.specs.Valid.{Valid}
use Rattle.ixp_desk_history.specs.declared.turn.Answered.{Answered}
use Rattle.ixp_desk_history.specs.declared.turn.Answered.TheVariants as answered
use Rattle.ixp_desk_history.specs.declared.turn.Asked.{Asked}
use Rattle.ixp_desk_history.specs.declared.turn.Asked.TheVariants.{OwnText}
use Rattle.ixp_desk_history.specs.declared.turn.Event.{Event}
use Rattle.ixp_desk_history.specs.declared.turn.Event.TheVariants.{Edit, Question, Install, Fault}
use Rattle.ixp_desk_history.specs.declared.turn.First.{First}
use Rattle.ixp_desk_history.specs.declared.turn.Text.{Text}
use Rattle.ixp_desk_history.specs.declared.turn.Turn.{Turn}
use Rattle.ixp_desk_history.specs.Answers.{IsAnswered}
use Rattle.ixp_desk_history.specs.Legal.{Legal, MayCome, MayFollow}
use Rattle.ixp_desk_history.specs.Turns.{state_of}
use Rattle.ixp_desk_history.proofs.Versions.{goes_parts, legal_before, state_valid}
use Rattle.ixp_desk_lock.specs.Calls.{Grows, One, Own, turned}
use Rattle.ixp_desk_lock.specs.Facts.{IsQuestion, Log}
use Rattle.ixp_desk_lock.specs.Sights.{Sight}
use Rattle.ixp_desk_explain.specs.Explanations.{OwnTextIn}

-- A turn of a legal history may come at its place.
pub came : (f : First) (xs ys : List Turn) (t : Turn) → Legal f (xs ++ t ∷ ys) → MayFollow f xs t
came f xs ys t legal = (goes_parts f [] xs (t ∷ ys) legal.goes).1.0

one_turn : (P : Event → Type 0) (ts : List Turn) → One P (map (λ (x : Turn). x.event) ts) → (t : Turn) × (ts ≡ t ∷ []) × P t.event
one_turn P [] is = absurd is
one_turn P (t ∷ []) is = (t, refl, is)
one_turn P (t ∷ u ∷ ts) is = absurd is

turns_both : (xs ys : Log) → turns_of (xs ++ ys) ≡ turns_of xs ++ turns_of ys
turns_both [] ys = refl
turns_both (entry.First f ∷ xs) ys = turns_both xs ys
turns_both (entry.Turn t ∷ xs) ys = ap (λ ts. t ∷ ts) (turns_both xs ys)
turns_both (entry.Nothing ∷ xs) ys = turns_both xs ys

-- what a question is answered that may come after the turns
answered_of : (f : First) (ts : List Turn) (q : Asked) (a : Answered) (v : Event) → IsQuestion q a v → MayCome f ts v → IsAnswered (state_of f ts) q a
answered_of f ts q a (Question x y) is may = subst (λ b. IsAnswered (state_of f ts) q b) is.1 (subst (λ p. IsAnswered (state_of f ts) p y.value) is.0 may)
answered_of f ts q a (Edit e d) is may = absurd is
answered_of f ts q a (Install upto) is may = absurd is
answered_of f ts q a (Fault count) is may = absurd is

-- a question of a call is answered by the state at its place in the history
pub record AnsweredIn (log : Log) (q : Asked) (a : Answered) : Type 0 where
  pub first : First
  pub before : List Turn
  pub after : List Turn
  pub is : log ≡ entries first (before ++ after)
  pub answered : IsAnswered (state_of first before) q a

pub answered_in : (q : Asked) (a : Answered) (s t : Sight) → IsLegal Legal t.2 → Own (One (IsQuestion q a)) s t → AnsweredIn t.2 q a
answered_in q a s t legal own =
    let one = one_turn (IsQuestion q a) own.turns own.does in
    let before = turns_of own.before in
    let whole : legal.turns ≡ before ++ (one.0 ∷ own.after) =
    sym (turns_of-entries legal.first legal.turns)
    ∙ (ap turns_of (sym legal.entries_are ∙ own.now)
    ∙ (turns_both own.before (turned (own.turns ++ own.after))
    ∙ ap (λ ts. before ++ ts) (turns_of-map First (own.turns ++ own.after) ∙ ap (λ ts. ts ++ own.after) one.1))) in
    record {
      first = legal.first;
      before = before;
      after = one.0 ∷ own.after;
      is = legal.entries_are ∙ ap (entries legal.first) whole;
      answered = answered_of legal.first before q a one.0.event one.2 (came legal.first before own.after one.0 (subst (Legal legal.first) whole legal.legal_turns)).event;
    }

-- the session's own text is that of the state at the question's place
pub own_in : (secret h : List ℕ) (n : ℕ) (text : Text) (s t : Sight) → IsLegal Legal t.2 → Own (One (IsQuestion (OwnText secret h n) (answered.Text text))) s t → OwnTextIn t.2 h n text
own_in secret h n text s t legal own =
    let at = answered_in (OwnText secret h n) (answered.Text text) s t legal own in
    record { first = at.first; before = at.before; after = at.after; is = at.is; own = at.answered.1 }

-- its registry is valid
pub own_valid : (log : Log) (h : List ℕ) (n : ℕ) (text : Text) → IsLegal Legal log → (x : OwnTextIn log h n text) → Valid (state_of x.first x.before).registry
own_valid log h n text legal x =
    let same : entries legal.first legal.turns ≡ entries x.first (x.before ++ x.after) = sym legal.entries_are ∙ x.is in
    let whole : Legal x.first (x.before ++ x.after) =
    subst (λ (f : First). Legal f (x.before ++ x.after)) (same_first legal.first x.first legal.turns (x.before ++ x.after) same)
    (subst (Legal legal.first) (same_turns legal.first x.first legal.turns (x.before ++ x.after) same) legal.legal_turns) in
    (state_valid x.first x.before (legal_before x.first x.before x.after whole)).registry

-- what was seen more, and then more
pub grows_both : (s u t : Sight) → Grows s u → Grows u t → Grows s t
grows_both s u t a b = record { number = b.number ∙ a.number; begins = begins_through s.2 u.2 t.2 a.begins b.begins; legal = b.legal }

-- nothing more was seen
pub grows_self : (s u : Sight) → Grows s u → Grows u u
grows_self s u a = record { number = refl; begins = begins_self u.2; legal = a.legal }
