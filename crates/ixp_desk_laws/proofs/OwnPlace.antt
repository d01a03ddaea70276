-- A seat has one turn with a number.
use Rattle.std.proofs.Common.{◌≡◌, ℕ, ◌+◌, ◌==◌, ◌⊎◌, inl, inr, Bool, true, false, List, [], ◌∷◌, ◌++◌, map, refl, sym, ap, ◌∙◌, subst, arith, append_assoc, if◌then◌else◌}
use Rattle.std.proofs.lemmas.Bool.{eqb-false}
use Rattle.std.proofs.lemmas.List.{append-nil}
use mathlib.Core.List.{IsPrefix}
use Rattle.ixp_board.specs.declared.entry.Entry.TheVariants as entry
use Rattle.ixp_board.specs.Histories.{entries, turns_of}
use Rattle.ixp_board.proofs.Entries.{same_first, same_turns, turns_of-entries, turns_of-map}
use Rattle.ixp_desk_history.specs.declared.turn.Event.{Event}
use Rattle.ixp_desk_history.specs.declared.turn.First.{First}
use Rattle.ixp_desk_history.specs.declared.turn.Turn.{Turn}
use Rattle.ixp_desk_history.specs.Legal.{Legal}
use Rattle.ixp_desk_history.specs.Turns.{turns_by}
use Rattle.ixp_desk_history.proofs.Versions.{either_begins}
use Rattle.ixp_desk_lock.specs.Calls.{Grows, Mine, One, Own, turned}
use Rattle.ixp_desk_lock.specs.Facts.{Log}
use Rattle.ixp_desk_lock.specs.Sights.{Sight}
use Rattle.ixp_desk_laws.specs.Desks.{HasPlace, IsAfter}
use Rattle.ixp_desk_laws.proofs.Places.{comes}

turns_by_both : (seat : ℕ) (xs ys : List Turn) → turns_by seat (xs ++ ys) ≡ turns_by seat xs + turns_by seat ys
turns_by_both seat [] ys = omega arith
turns_by_both seat (x ∷ xs) ys = let rest = turns_by_both seat xs ys in omega (arith, rest)

behind : (us xs ys : List Turn) → us ++ xs ≡ us ++ ys → xs ≡ ys
behind [] xs ys is = is
behind (u ∷ us) xs ys is = behind us xs ys (let rest : us ++ xs ≡ us ++ ys = cc (is) in rest)

first_one : (x y : Turn) (xs ys : List Turn) → x ∷ xs ≡ y ∷ ys → x ≡ y
first_one x y xs ys is = let one : x ≡ y = cc (is) in one

counted : (z : Turn) (seat : ℕ) → z.seat ≡ seat → ◌≡◌ {A = ℕ} (if z.seat == seat then 1 else 0) 1
counted z seat is = by_test (z.seat == seat) refl where
  by_test : (b : Bool) → (z.seat == seat) ≡ b → ◌≡◌ {A = ℕ} (if b then 1 else 0) 1
  by_test true e = refl
  by_test false e = absurd (eqb-false z.seat seat e is)

-- a turn in one place and one that comes no earlier
later_one : (f : First) (us : List Turn) (x y : Turn) (rest more ws : List Turn) → Legal f (us ++ x ∷ rest) → us ++ x ∷ rest ≡ (us ++ ws) ++ y ∷ more → x.seat ≡ y.seat → x.number ≡ y.number → x ≡ y
later_one f us x y rest more [] legal is seat number = first_one x y rest more (behind us (x ∷ rest) (y ∷ more) (is ∙ ap (λ l. l ++ y ∷ more) (append-nil us)))
later_one f us x y rest more (z ∷ zs) legal is seat number =
    let same : x ≡ z = first_one x z rest (zs ++ y ∷ more) (behind us (x ∷ rest) (z ∷ (zs ++ y ∷ more)) (is ∙ append_assoc us (z ∷ zs) (y ∷ more))) in
    let one : x.number ≡ turns_by x.seat us = (comes f us rest x legal).number in
    let two : y.number ≡ turns_by y.seat (us ++ z ∷ zs) = (comes f (us ++ z ∷ zs) more y (subst (Legal f) is legal)).number in
    let both : turns_by y.seat (us ++ z ∷ zs) ≡ turns_by y.seat us + turns_by y.seat (z ∷ zs) = turns_by_both y.seat us (z ∷ zs) in
    let here : ◌≡◌ {A = ℕ} (if z.seat == y.seat then 1 else 0) 1 = counted z y.seat (ap (λ (q : Turn). q.seat) (sym same) ∙ seat) in
    let moved : turns_by x.seat us ≡ turns_by y.seat us = ap (λ k. turns_by k us) seat in
    absurd (omega (arith, one, two, both, here, moved, number))

one_turn : (f : First) (us vs : List Turn) (x y : Turn) (rest more : List Turn) → Legal f (us ++ x ∷ rest) → us ++ x ∷ rest ≡ vs ++ y ∷ more → x.seat ≡ y.seat → x.number ≡ y.number → x ≡ y
one_turn f us vs x y rest more legal is seat number = by_case (either_begins us vs (x ∷ rest) (y ∷ more) is) where
  by_case : IsPrefix us vs ⊎ IsPrefix vs us → x ≡ y
  by_case (inl p) = later_one f us x y rest more p.0 legal (is ∙ ap (λ l. l ++ y ∷ more) (sym p.1)) seat number
  by_case (inr p) = sym (later_one f vs y x more rest p.0 (subst (Legal f) is legal) (sym is ∙ ap (λ l. l ++ x ∷ rest) (sym p.1)) (sym seat) (sym number))

-- Calls.

turns_of_both : (log rest : Log) → turns_of (log ++ rest) ≡ turns_of log ++ turns_of rest
turns_of_both [] rest = refl
turns_of_both (entry.First first ∷ log) rest = turns_of_both log rest
turns_of_both (entry.Turn turn ∷ log) rest = ap (λ ts. turn ∷ ts) (turns_of_both log rest)
turns_of_both (entry.Nothing ∷ log) rest = turns_of_both log rest

-- the history up to the call's own turn is legal
pub legal_at : (f : First) (before : List Turn) (s t : Sight) (p : IsAfter f before s t) → Legal f (before ++ p.turn ∷ p.after)
legal_at f before s t p =
    let known = p.grows.legal in
    let same : entries known.first known.turns ≡ entries f (before ++ p.turn ∷ p.after) = sym known.entries_are ∙ p.is in
    subst (λ (g : First). Legal g (before ++ p.turn ∷ p.after)) (same_first known.first f known.turns (before ++ p.turn ∷ p.after) same)
    (subst (Legal known.first) (same_turns known.first f known.turns (before ++ p.turn ∷ p.after) same) known.legal_turns)

own_of : (Does : Event → Type 0) (f : First) (before : List Turn) (s t : Sight) (p : IsAfter f before s t) (log : Log) (turns after : List Turn) → t.2 ≡ log ++ turned (turns ++ after) → Mine s.0 s.1 turns
    → One Does (map (λ x. x.event) turns) → Does p.turn.event
own_of Does f before s t p log [] after now mine does = absurd does
own_of Does f before s t p log (x ∷ y ∷ zs) after now mine does = absurd does
own_of Does f before s t p log (x ∷ []) after now mine does =
    let seen : before ++ p.turn ∷ p.after ≡ turns_of log ++ x ∷ after
    = sym (turns_of-entries f (before ++ p.turn ∷ p.after)) ∙ (ap turns_of (sym p.is ∙ now) ∙ (turns_of_both log (turned (x ∷ after)) ∙ ap (λ ts. turns_of log ++ ts) (turns_of-map First (x ∷ after)))) in
    let same : p.turn ≡ x = one_turn f before (turns_of log) p.turn x p.after after (legal_at f before s t p) seen (p.seat ∙ sym mine.0) (p.number ∙ sym mine.1) in
    subst (λ (q : Turn). Does q.event) (sym same) does

-- what a call's own turn does is done at its place
pub own_event : (Does : Event → Type 0) (f : First) (before : List Turn) (s t : Sight) (p : IsAfter f before s t) → Own (One Does) s t → Does p.turn.event
own_event Does f before s t p own = own_of Does f before s t p own.before own.turns own.after own.now own.mine own.does

-- and such a turn has a place
place_of : (Does : Event → Type 0) (s t : Sight) → Grows s t → (log : Log) (turns after : List Turn) → t.2 ≡ log ++ turned (turns ++ after) → Mine s.0 s.1 turns → One Does (map (λ x. x.event) turns)
    → HasPlace s t
place_of Does s t grows log [] after now mine does = absurd does
place_of Does s t grows log (x ∷ y ∷ zs) after now mine does = absurd does
place_of Does s t grows log (x ∷ []) after now mine does =
    let known = grows.legal in
    let turns : known.turns ≡ turns_of log ++ x ∷ after
    = sym (turns_of-entries known.first known.turns) ∙ (ap turns_of (sym known.entries_are ∙ now) ∙ (turns_of_both log (turned (x ∷ after)) ∙ ap (λ ts. turns_of log ++ ts) (turns_of-map First (x ∷ after)))) in
    (known.first, (turns_of log, record { grows = grows; turn = x; after = after; is = known.entries_are ∙ ap (entries known.first) turns; seat = mine.0; number = mine.1 }))

pub own_place : (Does : Event → Type 0) (s t : Sight) → Grows s t → Own (One Does) s t → HasPlace s t
own_place Does s t grows own = place_of Does s t grows own.before own.turns own.after own.now own.mine own.does
