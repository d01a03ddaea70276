-- What a door gave.
use Rattle.std.specs.Prelude.{◌≡◌, ◌≤◌, ◌<◌, ◌+◌, ◌⊎◌, Option, ℕ}
use Rattle.ixp_io.specs.Told.{Told}

-- where its number of links is told, the door gave this many more
abbrev pub Gave : Option ℕ → Option ℕ → ℕ → Type 0
Gave before now links = Told before now (λ m n. n ≡ m + links)

-- a door of which links are taken: what it tells of their number, its count of faults, and how many were
-- taken
pub record Taken : Type 0 where
  pub links : Option ℕ
  pub faults : ℕ
  pub given : ℕ

-- so many were taken, or the door failed
abbrev pub HasEnded : ℕ → Taken → Type 0
HasEnded most t = (most ≤ t.given) ⊎ (0 < t.faults)
