-- Decimal numbers.
use Rattle.std.specs.Prelude.{ℕ, ◌+◌, ◌-◌, ◌*◌, List, [], ◌∷◌, Option, Some, None, option_and_then, ◌==◌, ◌&&◌, nat_le, if◌then◌else◌}
use Rattle.std.specs.Char.{is_ascii_digit}

-- the number with one more digit, where that is at most `most`
abbrev pub next_digit : ℕ → ℕ → ℕ → Option ℕ
next_digit most n b = if is_ascii_digit b && nat_le (n * 10 + (b - 48)) most then Some (n * 10 + (b - 48)) else None

-- the number with these digits behind the digits of another one
abbrev pub number_from : ℕ → ℕ → List ℕ → Option ℕ
number_from most n [] = Some n
number_from most n (b ∷ rest) = option_and_then (λ m. number_from most m rest) (next_digit most n b)

-- a decimal number of at most `most`, without a sign and without leading zeros
abbrev pub number_upto : ℕ → List ℕ → Option ℕ
number_upto most [] = None
number_upto most (b ∷ []) = number_from most 0 (b ∷ [])
number_upto most (b ∷ c ∷ rest) = if b == 48 then None else number_from most 0 (b ∷ c ∷ rest)
