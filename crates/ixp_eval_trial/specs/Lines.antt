-- The lines of a text, and the line that divides an input.
use Rattle.std.specs.Prelude.{◌≡◌, ◌≢◌, ◌==◌, ◌⊎◌, ℕ, List, [], ◌∷◌, ◌++◌, codes, if◌then◌else◌}
use Rattle.std.specs.List.{AllByRecursion}

-- a byte more at the front of the first line
abbrev pub onto : ℕ → List (List ℕ) → List (List ℕ)
onto c [] = (c ∷ []) ∷ []
onto c (l ∷ ls) = (c ∷ l) ∷ ls

-- The lines, without their ends. Each ends at a line feed, the last one perhaps where the text ends.
abbrev pub lines : List ℕ → List (List ℕ)
lines [] = []
lines (c ∷ cs) = if c == 10 then [] ∷ lines cs else onto c (lines cs)

-- the text of these lines, each with its line feed
abbrev pub ended : List (List ℕ) → List ℕ
ended [] = []
ended (l ∷ ls) = l ++ 10 ∷ ended ls

-- the line between a filter text and what it is tried with
abbrev pub divider : List ℕ
divider = codes "%%"

abbrev pub HasNoDivider : List (List ℕ) → Type 0
HasNoDivider ls = AllByRecursion (λ l. l ≢ divider) ls

-- the lines above the first divider, and those behind it
pub record Divided (input : List ℕ) (above behind : List (List ℕ)) : Type 0 where
  pub whole : lines input ≡ above ++ divider ∷ behind
  pub first : HasNoDivider above

-- The filter text is what stands above the first divider; where there is none, it is the whole input.
abbrev pub IsFilterText : List ℕ → List ℕ → Type 0
IsFilterText input text =
    ((above behind : List (List ℕ)) × Divided input above behind × (text ≡ ended above))
    ⊎ (HasNoDivider (lines input) × (text ≡ input))
