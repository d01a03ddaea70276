-- The steps on the word of a book keep its rule.
use Rattle.std.proofs.Common.{◌≡◌, ℕ, ◌+◌, ◌<◌, ◌==◌, Bool, true, false, MatchBool, List, [], ◌∷◌, ◌++◌, length, refl, ap, sym, subst, arith, inl, length-append, None}
use Rattle.std.proofs.lemmas.List.{append-nil}
use Rattle.std.proofs.lemmas.Bool.Decides.{nat_tests}
use mathlib.Core.List.{IsPrefix}
use prog.Atomic.{either}
use Rattle.logbook.specs.Pages.{Cell, cell, keeps, no_nib, step, Moves, Goes}
use Rattle.ixp_board.specs.declared.entry.Entry.{Entry}
use Rattle.ixp_board.specs.declared.entry.Entry.TheVariants.{Turn}
use Rattle.ixp_board.specs.Histories.{IsLegal, turns_of, with_turn}
use Rattle.ixp_board.specs.Books.{IsKept, Adds}
use Rattle.ixp_board.proofs.Entries.{turns_of-with_turn, all_are_whole}

-- clients see nothing of the log, and no update moves it
abbrev pub shown : {E : Type 0} → List E → List E
shown log = []

abbrev pub moved : {E : Type 0} → List E → List E → ℕ → Type 0
moved xs ys n = Unit {0}

module _ {F O : Type 0} (legal : F → List O → Type 0) (seen : List (Entry F O)) (turn : O) (old new : ℕ) where
  -- the step can go on from these cells and this history
  abbrev AddGoes : List Cell → List (Entry F O) → Type 0
  AddGoes cells log =
      Goes (IsKept legal) shown moved 0 (seen, (no_nib, None)) (λ n. either (n == old) new n) (Adds (step 0 old new (Turn turn)) (seen, (no_nib, None))) cells log

  add_goes : (log : List (Entry F O)) → length (turns_of seen) ≡ old → new ≡ old + 1 → IsLegal legal (with_turn seen turn) → IsLegal legal seen → IsLegal legal log
      → IsPrefix seen log → (is_whole : Bool) → (length (turns_of log) == old) ≡ is_whole → AddGoes ((length (turns_of log), true) ∷ []) log
  add_goes log counted next stays was is begins true test =
      let all : length (turns_of log) ≡ old = grind (arith, nat_tests) in
      let same : seen ≡ log = all_are_whole legal seen log was is begins (omega arith) in
      let count : either (length (turns_of log) == old) new (length (turns_of log)) ≡ length (turns_of (with_turn log turn)) =
      rw test (omega (arith, ap length (turns_of-with_turn log turn), length-append (turns_of log) (turn ∷ []))) in (
        keeps,
        Turn turn ∷ [],
        None,
        tt,
        record { is_legal = subst (λ (l : List (Entry F O)). IsLegal legal (with_turn l turn)) same stays; word_is = ap (λ (k : ℕ). (k, true) ∷ []) count },
        inl (refl, refl),
        rw test (ap (λ (l : List (Entry F O)). with_turn l turn) (sym same)),
      )
  add_goes log counted next stays was is begins false test =
      let all : log ++ [] ≡ log = append-nil log in
      let count : either (length (turns_of log) == old) new (length (turns_of log)) ≡ length (turns_of (log ++ [])) =
      rw test (ap (λ (l : List (Entry F O)). length (turns_of l)) (sym all)) in (
        keeps,
        [],
        None,
        tt,
        record { is_legal = subst (IsLegal legal) (sym all) is; word_is = ap (λ (k : ℕ). (k, true) ∷ []) count },
        inl (refl, refl),
        rw test tt,
      )

  -- whatever the book holds, the step adds the turn to all that was seen, or finds another count and adds nothing
  pub add_moves : length (turns_of seen) ≡ old → new ≡ old + 1 → IsLegal legal (with_turn seen turn) → IsLegal legal seen
      → Moves (IsKept legal) shown moved 0 (seen, (no_nib, None)) (λ n. either (n == old) new n) (Adds (step 0 old new (Turn turn)) (seen, (no_nib, None)))
  add_moves counted next stays was cells log kept begins away =
      let P : List Cell → Type 0 = λ c. (0 < length c) × ((cell c 0).1 ≡ true) × AddGoes c log in
      subst P (sym kept.word_is) (omega arith, refl, add_goes log counted next stays was kept.is_legal begins (length (turns_of log) == old) refl)

told_at : (P : Type 0) (told : Bool) → told ≡ true → MatchBool told P (Unit {0}) → P
told_at P true is holds = holds
told_at P false is holds = absurd cc

-- what a step tells where the number was the one expected
pub told : (P : Type 0) (found old : ℕ) → found ≡ old → MatchBool (found == old) P (Unit {0}) → P
told P found old same holds = told_at P (found == old) (grind (arith, nat_tests)) holds

-- what was seen, with the turn that was added
pub added : {F O : Type 0} (legal : F → List O → Type 0) (seen log : List (Entry F O)) (turn : O) (old new : ℕ) → log ≡ with_turn seen turn → length (turns_of seen) ≡ old → new ≡ old + 1
    → IsLegal legal (with_turn seen turn) → (new ≡ length (turns_of log)) × IsLegal legal log
added legal seen log turn old new is counted next stays =
    let more = ap (λ l. length (turns_of l)) is in
    let one = ap length (turns_of-with_turn seen turn) in (
      omega (arith, more, one, length-append (turns_of seen) (turn ∷ [])),
      rw is stays,
    )
