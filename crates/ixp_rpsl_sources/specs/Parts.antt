-- What the values of attributes list, with commas between (RFC 2622 section 2).
use Rattle.std.specs.Prelude.{ℕ, ◌==◌, ◌||◌, ◌++◌, List, [], ◌∷◌, Option, Some, None, map, if◌then◌else◌}
use Rattle.std.specs.List.{slice_split}
use Rattle.std.specs.Char.{to_ascii_uppercase}
use Rattle.ixp_rpsl.specs.Attributes.{is_empty}
use Rattle.ixp_rpsl.specs.Values.{set_name, trimmed}
use Rattle.ixp_rpsl.specs.declared.attributes.Attribute.{Attribute}
use Rattle.ixp_rpsl.specs.declared.objects.Item.{Item}
use Rattle.ixp_rpsl_sources.specs.Names.{is_member, member_of}

-- what the parts of a value say, each without the blanks around it, where `says` tells what one says
abbrev pub in_parts : {A : Type 0} → (ℕ → List ℕ → List A) → ℕ → List (List ℕ) → List A
in_parts says line [] = []
in_parts says line (p ∷ ps) = says line (trimmed p) ++ in_parts says line ps

-- what values say, each of which begins in its line
abbrev pub in_values : {A : Type 0} → (ℕ → List ℕ → List A) → List Attribute → List A
in_values says [] = []
in_values says (a ∷ others) =
    in_parts says a.line (slice_split (λ b. b == 44) a.value) ++ in_values says others

abbrev pub one_or_none : {A : Type 0} → Option A → List A
one_or_none None = []
one_or_none (Some x) = x ∷ []

-- the member that a part is, if it is one
abbrev pub says_member : ℕ → List ℕ → List Item
says_member line t = one_or_none (member_of t)

-- the line of a part that is something, but no member
abbrev pub says_stranger : ℕ → List ℕ → List ℕ
says_stranger line t = if is_empty t || is_member t then [] else line ∷ []

-- the name of a set that a part is, if it is one
abbrev pub says_name : ℕ → List ℕ → List (List ℕ)
says_name line t = one_or_none (set_name t)

-- the name of a maintainer, in upper case
abbrev pub says_word : ℕ → List ℕ → List (List ℕ)
says_word line t = if is_empty t then [] else map to_ascii_uppercase t ∷ []

abbrev pub members_in : List Attribute → List Item
members_in values = in_values says_member values

abbrev pub strangers_in : List Attribute → List ℕ
strangers_in values = in_values says_stranger values

abbrev pub names_in : List Attribute → List (List ℕ)
names_in values = in_values says_name values

abbrev pub words_in : List Attribute → List (List ℕ)
words_in values = in_values says_word values
