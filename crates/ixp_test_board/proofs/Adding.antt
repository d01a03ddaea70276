-- A turn may follow where the sum stays small.
use Rattle.std.proofs.Common.{◌≡◌, ℕ, ◌+◌, ◌<◌, ◌^◌, List, [], ◌∷◌, ◌++◌, ap, ◌∙◌, arith}
use Rattle.std.proofs.lemmas.List.Sums.{sum_by_push}
use Rattle.ixp_board.specs.declared.entry.Entry.{Entry}
use Rattle.ixp_board.specs.Histories.{entries, with_turn, IsLegal, IsViewOf}
use Rattle.ixp_board.proofs.Entries.{entries-with_turn}
use Rattle.ixp_test_board.specs.Sums.{sum_from, IsSmall}

pub may_add : {T : Type 0} (number_of : T → ℕ) (log : List (Entry ℕ T)) (view : ℕ) (turn : T) → IsViewOf (IsSmall number_of) (sum_from number_of) log view
    → view + number_of turn < 2 ^ 64 → IsLegal (IsSmall number_of) (with_turn log turn)
may_add number_of log view turn is fits = record {
  first = is.first;
  turns = is.turns ++ turn ∷ [];
  entries_are = ap (λ l. with_turn l turn) is.entries_are ∙ entries-with_turn is.first is.turns turn;
  legal_turns = omega (arith, sum_by_push number_of is.turns turn, is.view_is);
}

pub sum_with : {T : Type 0} (number_of : T → ℕ) (first : ℕ) (turns : List T) (turn : T)
    → sum_from number_of first (turns ++ turn ∷ []) ≡ sum_from number_of first turns + number_of turn
sum_with number_of first turns turn = omega (arith, sum_by_push number_of turns turn)
