-- Counts of faults.
use Rattle.std.specs.Prelude.{◌≡◌, ◌+◌, ◌<◌, ◌⊎◌, ℕ, min}

-- the last value of a count, at which it stands still
abbrev pub last_count : ℕ
last_count = 18446744073709551615

-- a count after one more
abbrev pub counted : ℕ → ℕ
counted n = min (n + 1) last_count

-- The count rose in a call: it is greater at the call's end, or it stands there at its last value, where it
-- can't show a rise any more.
abbrev pub Rose : ℕ → ℕ → Type 0
Rose before now = (before < now) ⊎ (now ≡ last_count)
