-- The book that keeps a history, which exists in proofs alone: its rule, and what a step on its one word
-- tells.
use Rattle.std.specs.Prelude.{◌≡◌, ℕ, ◌==◌, true, List, [], ◌∷◌, ◌++◌, length, MatchBool}
use Rattle.logbook.specs.Pages.{Cell, Step, View, Book, Named}
use Rattle.ixp_board.specs.declared.entry.Entry.{Entry}
use Rattle.ixp_board.specs.Histories.{IsLegal, turns_of}

-- the history is legal, and the word counts its turns
pub record IsKept {F O : Type 0} (legal : F → List O → Type 0) (cells : List Cell) (log : List (Entry F O)) : Type 0 where
  pub is_legal : IsLegal legal log
  pub word_is : cells ≡ (length (turns_of log), true) ∷ []

-- the one word of a book
abbrev pub head_of : Book → Named
head_of book = record { tracked = true; key = 0; book = book }

-- a step that adds an entry where the word has the number that was expected
abbrev pub Adds : {E : Type 0} → Step E → View E ℕ → ℕ → View E ℕ → Type 0
Adds asked before found after = MatchBool (found == asked.old) (after.0 ≡ before.0 ++ asked.ask ∷ []) (Unit {0})

-- a step that sees the whole history, and finds how many turns it has
abbrev pub Looks : {F O : Type 0} → (F → List O → Type 0) → Step (Entry F O) → View (Entry F O) ℕ → ℕ → View (Entry F O) ℕ → Type 0
Looks legal asked before found after = IsLegal legal after.0 × (length (turns_of after.0) ≡ found)
