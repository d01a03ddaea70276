-- The attributes of an object (RFC 2622 section 2).
use Rattle.std.specs.Prelude.{ℕ, ◌+◌, ◌++◌, ◌==◌, ◌&&◌, ◌||◌, nat_le, Bool, true, false, not, List, [], ◌∷◌, Option, Some, None, map, take, drop, slice_index, if◌then◌else◌}
use Rattle.std.specs.List.{position, before_first}
use Rattle.std.specs.Char.{to_ascii_lowercase}
use Rattle.std.specs.Str.{bytes_eq}
use Rattle.ixp_num.specs.Names.{is_within}
use Rattle.ixp_rpsl.specs.Lines.{Line}
use Rattle.ixp_rpsl.specs.declared.attributes.Attribute.{Attribute}

-- a letter or a digit
abbrev pub is_letter_or_digit : ℕ → Bool
is_letter_or_digit b = is_within 97 122 b || is_within 65 90 b || is_within 48 57 b

-- a space or a tab
abbrev pub is_blank : ℕ → Bool
is_blank b = b == 32 || b == 9

-- a line that begins with a blank or `+` goes on with the value before it
abbrev pub goes_on : List ℕ → Bool
goes_on [] = false
goes_on (c ∷ cs) = is_blank c || c == 43

abbrev pub is_empty : List ℕ → Bool
is_empty [] = true
is_empty (c ∷ cs) = false

-- what is before the first byte that stands in no name, and what is behind it, where it is a colon
abbrev pub named_at : List ℕ → Option ℕ → Option (List ℕ × List ℕ)
named_at line None = None
named_at line (Some at) = if nat_le 1 at && slice_index line at == 58
    then Some (take at line, drop (at + 1) line) else None

-- the name and the value of a line: one or more letters, digits and `-`, a colon, and the rest
abbrev pub named : List ℕ → Option (List ℕ × List ℕ)
named line = named_at line (position (λ b. not (is_letter_or_digit b || b == 45)) line)

-- names are the same in any case
abbrev pub is_word : List ℕ → List ℕ → Bool
is_word word name = bytes_eq (map to_ascii_lowercase name) word

-- `#` and what is behind it in a line is no part of a value
abbrev pub uncommented : List ℕ → List ℕ
uncommented line = before_first (λ b. b == 35) line

-- what the next lines add to a value, each joined by a blank
abbrev pub going : List Line → List ℕ
going [] = []
going (l ∷ ls) = if goes_on l.bytes then 32 ∷ uncommented (drop 1 l.bytes) ++ going ls else []

abbrev pub whole_value : List ℕ → List Line → List ℕ
whole_value first ls = uncommented first ++ going ls

abbrev pub with_named : List ℕ → Line → List Line → Option (List ℕ × List ℕ) → List Attribute → List Attribute
with_named word l ls None others = others
with_named word l ls (Some p) others =
    if is_word word p.0 then record { line = l.number; value = whole_value p.1 ls } ∷ others else others

-- the attributes of this name, up to the next empty line
abbrev pub attributes : List ℕ → List Line → List Attribute
attributes word [] = []
attributes word (l ∷ ls) = if is_empty l.bytes then []
    else with_named word l ls (named l.bytes) (attributes word ls)

-- the lesser of two lines, if there are any
abbrev pub earlier : Option ℕ → Option ℕ → Option ℕ
earlier None n = n
earlier (Some m) None = Some m
earlier (Some m) (Some n) = if nat_le m n then Some m else Some n

abbrev pub is_pair : Option (List ℕ × List ℕ) → Bool
is_pair None = false
is_pair (Some p) = true

-- the least line, up to the next empty line, that neither has a name nor goes on with a value
abbrev pub bad_line : List Line → Option ℕ
bad_line [] = None
bad_line (l ∷ ls) = if is_empty l.bytes then None else if is_pair (named l.bytes) || goes_on l.bytes
    then bad_line ls else earlier (Some l.number) (bad_line ls)

-- the next empty line, and what is behind it
abbrev pub past_object : List Line → List Line
past_object [] = []
past_object (l ∷ ls) = if is_empty l.bytes then l ∷ ls else past_object ls

-- what is behind the lines that go on with a value
abbrev pub past_value : List Line → List Line
past_value [] = []
past_value (l ∷ ls) = if goes_on l.bytes then past_value ls else l ∷ ls
