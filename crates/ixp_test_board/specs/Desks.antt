-- A desk with a turn that may be owed.
use Rattle.std.specs.Prelude.{◌≡◌, ℕ, List, Option, None, Some}
use mathlib.Core.List.{IsPrefix}
use Rattle.ixp_board.specs.declared.entry.Entry.{Entry}
use Rattle.ixp_board.specs.Histories.{with_turn, IsLegal}
use Rattle.ixp_test_board.specs.Sums.{IsSmall}

-- the turn that is owed may be made at any time
abbrev pub MayMake : List (Entry ℕ ℕ) → Option ℕ → Type 0
MayMake log None = Unit {0}
MayMake log (Some turn) = IsLegal (IsSmall (λ n. n)) (with_turn log turn)

-- the history with the turn that is owed
abbrev pub all_of : List (Entry ℕ ℕ) × Option ℕ → List (Entry ℕ ℕ)
all_of (log, None) = log
all_of (log, Some turn) = with_turn log turn

-- what was seen before begins the history, whose last turn this is
abbrev pub EndsWith : List (Entry ℕ ℕ) → ℕ → List (Entry ℕ ℕ) → Type 0
EndsWith seen turn log = (before : List (Entry ℕ ℕ)) × IsPrefix seen before × (log ≡ with_turn before turn)
