-- Any turn may follow.
use Rattle.std.proofs.Common.{◌≡◌, List, [], ◌∷◌, ◌++◌, ap, ◌∙◌}
use Rattle.ixp_board.specs.declared.entry.Entry.{Entry}
use Rattle.ixp_board.specs.Histories.{entries, with_turn, IsLegal, IsViewOf}
use Rattle.ixp_board.proofs.Entries.{entries-with_turn}

pub may_follow : {F O V : Type 0} (fold : F → List O → V) (log : List (Entry F O)) (view : V) (turn : O) → IsViewOf (λ first turns. Unit {0}) fold log view
    → IsLegal (λ (first : F) (turns : List O). Unit {0}) (with_turn log turn)
may_follow fold log view turn is = record {
  first = is.first;
  turns = is.turns ++ turn ∷ [];
  entries_are = ap (λ l. with_turn l turn) is.entries_are ∙ entries-with_turn is.first is.turns turn;
  legal_turns = tt;
}
