-- What an object of the outside tells of its content, before a call and after it.
use Rattle.std.specs.Prelude.{◌≡◌, ◌≤◌, Option, None, Some, List, [], ℕ, ◌++◌, length, take, ⊤}

-- Where the content is told, P holds of it before and after. What is told before is told after, and the other
-- way round.
abbrev pub Told : {A : Type 0} → Option A → Option A → (A → A → Type 0) → Type 0
Told None None P = ⊤
Told None (Some now) P = ⊥
Told (Some before) None P = ⊥
Told (Some before) (Some now) P = P before now

-- where the content is told, P holds of it
abbrev pub WhereTold : {A : Type 0} → Option A → (A → Type 0) → Type 0
WhereTold None P = ⊤
WhereTold (Some content) P = P content

-- these were the first of the bytes that were left, and the others are left now
abbrev pub Moves : Option (List ℕ) → Option (List ℕ) → List ℕ → Type 0
Moves before now bytes = Told before now (λ left rest. left ≡ bytes ++ rest)

-- of the bytes that were left some first ones are gone, at most this many
abbrev pub MovesUpTo : ℕ → Option (List ℕ) → Option (List ℕ) → Type 0
MovesUpTo most before now = (bytes : List ℕ) × (length bytes ≤ most) × Moves before now bytes

-- nothing is left
abbrev pub IsDone : Option (List ℕ) → Type 0
IsDone left = WhereTold left (λ bytes. bytes ≡ [])

-- what was written has these bytes more at its end
abbrev pub Takes : Option (List ℕ) → Option (List ℕ) → List ℕ → Type 0
Takes before now bytes = Told before now (λ written all. all ≡ written ++ bytes)

-- what was written has a first part of these bytes more at its end
abbrev pub TakesPart : Option (List ℕ) → Option (List ℕ) → List ℕ → Type 0
TakesPart before now bytes = (count : ℕ) × Takes before now (take count bytes)
