-- What is known of a seat.
use Rattle.std.specs.Prelude.{◌≡◌, ℕ, ◌+◌, List}
use mathlib.Core.List.{IsPrefix}
use Rattle.ixp_board.specs.declared.entry.Entry.{Entry}
use Rattle.ixp_board.specs.Histories.{with_turn}
use Rattle.ixp_desk_history.specs.declared.turn.First.{First}
use Rattle.ixp_desk_history.specs.declared.turn.Turn.{Turn}

-- its number, how many turns it has made, and what it has seen of the history
abbrev pub Sight : Type 0
Sight = ℕ × ℕ × List (Entry First Turn)

-- it has seen more, perhaps, and made no turn
abbrev pub Looks : Sight → Sight → Type 0
Looks s t = (t.0 ≡ s.0) × (t.1 ≡ s.1) × IsPrefix s.2 t.2

abbrev pub counted : Sight → Sight
counted s = (s.0, s.1 + 1, s.2)

abbrev pub shown : Sight → List (Entry First Turn) → Sight
shown s log = (s.0, s.1, log)

-- the history has one turn more
abbrev pub IsAfter : List (Entry First Turn) → List (Entry First Turn) → Type 0
IsAfter log now = (t : Turn) × (now ≡ with_turn log t)
