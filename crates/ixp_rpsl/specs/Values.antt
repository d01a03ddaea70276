-- The values of attributes.
use Rattle.std.specs.Prelude.{◌≡◌, ◌≢◌, ℕ, ◌==◌, ◌&&◌, ◌||◌, Bool, false, not, List, [], ◌∷◌, Option, Some, None, Ok, map, reverse, if◌then◌else◌}
use Rattle.std.specs.List.{list_all, list_any, slice_split}
use Rattle.std.specs.Char.{to_ascii_uppercase}
use Rattle.std.specs.Option.{is_some}
use Rattle.ixp_num.specs.Answers.{PrefixAnswer}
use Rattle.ixp_num.specs.Names.{is_name}
use Rattle.ixp_num.specs.declared.asn.Asn.{Asn}
use Rattle.ixp_num.specs.declared.family.Family.{Family}
use Rattle.ixp_num.specs.declared.prefix.Prefix.{Prefix}
use Rattle.ixp_num_tables.specs.Decimals.{number_upto}
use Rattle.ixp_rpsl.specs.Attributes.{is_blank, is_empty, is_letter_or_digit}
use Rattle.ixp_rpsl.specs.declared.objects.Item.{Item}
use Rattle.ixp_rpsl.specs.declared.objects.Item.TheVariants as item

-- without the blanks before it
abbrev pub trimmed_start : List ℕ → List ℕ
trimmed_start [] = []
trimmed_start (c ∷ cs) = if is_blank c then trimmed_start cs else c ∷ cs

-- without the blanks before and behind it
abbrev pub trimmed : List ℕ → List ℕ
trimmed t = reverse (trimmed_start (reverse (trimmed_start t)))

-- the prefix of this family that a text is, if it is one
abbrev pub SaysPrefix : Family → List ℕ → Option Prefix → Type 0
SaysPrefix family t (Some p) = PrefixAnswer t (Ok p) × (p.family ≡ family)
SaysPrefix family t None = (p : Prefix) → PrefixAnswer t (Ok p) → p.family ≢ family

-- a number as an AS number
abbrev pub asn_of : Option ℕ → Option Asn
asn_of None = None
asn_of (Some n) = Some (record { 0 = n })

-- `AS`, in any case, and a decimal number of at most 4294967295 (RFC 2622 section 2, RFC 6793)
abbrev pub as_number : List ℕ → Option Asn
as_number [] = None
as_number (a ∷ []) = None
as_number (a ∷ s ∷ digits) = if to_ascii_uppercase a == 65 && to_ascii_uppercase s == 83
    then asn_of (number_upto 4294967295 digits) else None

-- `AS-`, and one or more letters, digits, `-` or `_`
abbrev pub is_set_part : List ℕ → Bool
is_set_part [] = false
is_set_part (a ∷ []) = false
is_set_part (a ∷ s ∷ []) = false
is_set_part (a ∷ s ∷ d ∷ rest) = a == 65 && s == 83 && d == 45
    && (not (is_empty rest) && list_all (λ b. is_letter_or_digit b || b == 45 || b == 95) rest)

abbrev pub is_name_part : List ℕ → Bool
is_name_part part = is_set_part part || is_some (as_number part)

-- A set name in upper case: names of sets and AS numbers with colons between them, at least one of them a
-- set's (RFC 2622 section 5); at most 64 bytes.
abbrev pub is_set_name : List ℕ → Bool
is_set_name t = is_name t && list_all is_name_part (slice_split (λ b. b == 58) t)
    && list_any is_set_part (slice_split (λ b. b == 58) t)

-- the set name that a text is in any case, if it is one
abbrev pub set_name : List ℕ → Option (List ℕ)
set_name t = if is_set_name (map to_ascii_uppercase t) then Some (map to_ascii_uppercase t) else None

abbrev pub set_item : Option (List ℕ) → Option Item
set_item None = None
set_item (Some name) = Some (item.Set name)

abbrev pub as_or_set : Option Asn → Option Item → Option Item
as_or_set None other = other
as_or_set (Some a) other = Some (item.As a)

-- a member: an AS number or a set name
abbrev pub item_of : List ℕ → Option Item
item_of t = as_or_set (as_number t) (set_item (set_name t))

abbrev pub and_items : Option Item → Option (List Item) → Option (List Item)
and_items None others = None
and_items (Some i) None = None
and_items (Some i) (Some others) = Some (i ∷ others)

-- the members that parts are, but for empty ones
abbrev pub items_in : List (List ℕ) → Option (List Item)
items_in [] = Some []
items_in (p ∷ ps) = if is_empty (trimmed p) then items_in ps
    else and_items (item_of (trimmed p)) (items_in ps)

-- the members that a value lists, with commas between them
abbrev pub items_of : List ℕ → Option (List Item)
items_of value = items_in (slice_split (λ b. b == 44) value)
