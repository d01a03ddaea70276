-- Classes of bytes, and the longest runs of them.
use Rattle.std.specs.Prelude.{◌≡◌, ℕ, Bool, true, false, ◌&&◌, ◌||◌, ◌==◌, not, List, [], ◌∷◌, ◌++◌}
use Rattle.std.specs.List.{list_all}
use Rattle.ixp_num.specs.Names.{is_within}
use Rattle.ixp_lang_tokens.specs.declared.runs.Class.{Class}
use Rattle.ixp_lang_tokens.specs.declared.runs.Class.TheVariants.{Digit, Word, Address, Text, Line}

abbrev pub is_digit : ℕ → Bool
is_digit b = is_within 48 57 b

-- a letter or `_`
abbrev pub is_letter : ℕ → Bool
is_letter b = is_within 97 122 b || is_within 65 90 b || b == 95

abbrev pub is_hexadecimal : ℕ → Bool
is_hexadecimal b = is_digit b || is_within 97 102 b || is_within 65 70 b

-- a letter, `_` or a digit
abbrev pub is_word_byte : ℕ → Bool
is_word_byte b = is_letter b || is_digit b

-- a hexadecimal digit, `:` or `.`
abbrev pub is_address_byte : ℕ → Bool
is_address_byte b = is_hexadecimal b || b == 58 || b == 46

-- printable ASCII but `"`
abbrev pub is_text_byte : ℕ → Bool
is_text_byte b = is_within 32 126 b && not (b == 34)

-- the bytes of a class
abbrev pub is_in : Class → ℕ → Bool
is_in Digit b = is_digit b
is_in Word b = is_word_byte b
is_in Address b = is_address_byte b
is_in Text b = is_text_byte b
-- all but the line feed
is_in Line b = not (b == 10)

-- such a byte stands at the front
abbrev pub begins_with : (ℕ → Bool) → List ℕ → Bool
begins_with test [] = false
begins_with test (b ∷ bs) = test b

-- The longest run of bytes of the class at the front of the text is this, and the rest is behind it.
abbrev pub Run : Class → List ℕ → List ℕ → List ℕ → Type 0
Run class text run rest = (text ≡ run ++ rest) × (list_all (is_in class) run ≡ true)
    × (begins_with (is_in class) rest ≡ false)
