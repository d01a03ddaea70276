-- Forms of text: what a text of a form says, and where a text stops being of it.
use Rattle.std.specs.Prelude.{◌≡◌, ℕ, ◌+◌, ◌-◌, ◌*◌, ◌<◌, ◌≤◌, ◌⊎◌, List, [], ◌∷◌, ◌++◌, length, take, min, nat_le, Result, Ok, Err, if◌then◌else◌}
use Rattle.std.specs.List.{AllByRecursion}
use Rattle.std.specs.Net.Grammar.{IsGroup}

-- How the rest of a text goes on.
pub data Form : Type 0 where
  -- it ends here, and these are its numbers
  End : List ℕ → Form
  -- this byte
  Mark : ℕ → Form → Form
  -- a decimal number, which is to be at most the bound; what follows is told the number
  Decimal : ℕ → (ℕ → Form) → Form
  -- one to four hexadecimal digits, in either case (RFC 4291 section 2.2); what follows is told their value
  Hex : (ℕ → Form) → Form
  -- the one or the other
  Either : Form → Form → Form

-- `0` to `9`
abbrev pub IsDigit : ℕ → Type 0
IsDigit c = (48 ≤ c) × (c ≤ 57)

-- the value of digits behind those of n
abbrev pub value_after : ℕ → List ℕ → ℕ
value_after n [] = n
value_after n (d ∷ ds) = value_after (n * 10 + (d - 48)) ds

-- 0, or digits of which the first isn't 0; however many
abbrev pub IsDecimal : List ℕ → ℕ → Type 0
IsDecimal [] n = ⊥
IsDecimal (d ∷ ds) n = IsDigit d × (d ≡ 48 → ds ≡ []) × AllByRecursion IsDigit ds × (n ≡ value_after 0 (d ∷ ds))

-- what a text says: its numbers, or how many bytes are left at its first number above its bound
abbrev pub Said : Type 0
Said = Result (List ℕ) ℕ

-- what a text says that begins with the number n, where `left` bytes are left, and goes on to say this
abbrev pub bounded : ℕ → ℕ → ℕ → Said → Said
bounded bound n left said = if nat_le n bound then said else Err left

-- The text is of the form, and says this. A number above its bound is handed on as the bound.
abbrev pub Spelt : Form → Said → List ℕ → Type 0
Spelt (End ns) said t = (t ≡ []) × (said ≡ Ok ns)
Spelt (Mark b form) said t = (rest : List ℕ) × (t ≡ b ∷ rest) × Spelt form said rest
Spelt (Decimal bound form) said t = (front rest : List ℕ) × (n : ℕ) × (after : Said) × (t ≡ front ++ rest) × IsDecimal front n × Spelt (form (min n bound)) after rest × (said ≡ bounded bound n (length t) after)
Spelt (Hex form) said t = (front rest : List ℕ) × (n : ℕ) × (t ≡ front ++ rest) × IsGroup front n × Spelt (form n) said rest
Spelt (Either one other) said t = Spelt one said t ⊎ Spelt other said t

-- the text is of the form
abbrev pub IsOf : Form → List ℕ → Type 0
IsOf form t = (said : Said) × Spelt form said t

-- some text of L begins so
abbrev pub Begins : (List ℕ → Type 0) → List ℕ → Type 0
Begins L front = (more : List ℕ) × L (front ++ more)

-- the place of the first byte with which no text of L goes on, or the end of a text that is too short
pub record StopsAt (L : List ℕ → Type 0) (t : List ℕ) (place : ℕ) : Type 0 where
  pub within : place ≤ length t
  pub begins : Begins L (take place t)
  pub no_more : place < length t → ¬ (Begins L (take (place + 1) t))
  pub not_in : ¬ (L t)
