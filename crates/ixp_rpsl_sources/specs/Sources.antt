-- The sources of objects (RFC 2622 section 3.1).
use Rattle.std.specs.Prelude.{ℕ, ◌==◌, ◌&&◌, ◌||◌, nat_le, Bool, true, not, List, [], ◌∷◌, Option, Some, None, length, map, if◌then◌else◌}
use Rattle.std.specs.List.{before_first, list_all, list_any, position, slice_split}
use Rattle.std.specs.Char.{to_ascii_uppercase}
use Rattle.std.specs.Str.{bytes_eq}
use Rattle.ixp_rpsl.specs.Attributes.{is_blank, is_letter_or_digit}
use Rattle.ixp_rpsl.specs.Values.{trimmed_start}
use Rattle.ixp_rpsl.specs.declared.attributes.Attribute.{Attribute}
use Rattle.ixp_rpsl_sources.specs.declared.standing.Standing.{Standing}
use Rattle.ixp_rpsl_sources.specs.declared.standing.Standing.TheVariants.{Nowhere, Elsewhere, At}

-- 1 to 32 letters, digits, `_` and `-`
abbrev pub is_source_name : List ℕ → Bool
is_source_name s = nat_le 1 (length s) && nat_le (length s) 32
    && list_all (λ b. is_letter_or_digit b || b == 95 || b == 45) s

-- what stands in a value up to a blank, without the blanks before it
abbrev pub first_word : List ℕ → List ℕ
first_word value = before_first is_blank (trimmed_start value)

-- the place of a source in a list of sources, which are in upper case
abbrev pub place_of : List (List ℕ) → List ℕ → Option ℕ
place_of sources name = position (λ s. bytes_eq s (map to_ascii_uppercase name)) sources

abbrev pub standing_at : Option ℕ → Standing
standing_at None = Elsewhere
standing_at (Some place) = At place

-- Where an object stands by the values of `source`: without one it is of no source; else it is of the source
-- that the first word names, which is in the list at a place, or isn't.
abbrev pub standing_of : List (List ℕ) → List Attribute → Standing
standing_of sources [] = Nowhere
standing_of sources (a ∷ others) = standing_at (place_of sources (first_word a.value))

-- no name stands twice
abbrev pub are_apart : List (List ℕ) → Bool
are_apart [] = true
are_apart (s ∷ others) = not (list_any (λ o. bytes_eq o s) others) && are_apart others

-- a list of sources, in upper case: names with commas between
abbrev pub sources_in : List ℕ → List (List ℕ)
sources_in t = map (map to_ascii_uppercase) (slice_split (λ b. b == 44) t)

abbrev pub if_names : List (List ℕ) → Option (List (List ℕ))
if_names names = if list_all is_source_name names then Some names else None

abbrev pub if_few : Option (List (List ℕ)) → Option (List (List ℕ))
if_few None = None
if_few (Some names) = if nat_le (length names) 16 && are_apart names then Some names else None

-- one to sixteen sources' names, each once in any case
abbrev pub sources_of : List ℕ → Option (List (List ℕ))
sources_of t = if_few (if_names (sources_in t))

-- one of them
abbrev pub source_of : List ℕ → Option (List ℕ)
source_of t = if is_source_name (map to_ascii_uppercase t) then Some (map to_ascii_uppercase t) else None
