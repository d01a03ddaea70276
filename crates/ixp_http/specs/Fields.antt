-- The fields of a request (RFC 9110 section 5, RFC 9112 section 6).
use Rattle.std.specs.Prelude.{ℕ, Bool, true, false, ◌&&◌, ◌||◌, ◌==◌, not, if◌then◌else◌, Option, None, Some, List, [], ◌∷◌, reverse, codes}
use Rattle.std.specs.List.{list_any}
use Rattle.std.specs.Char.{to_ascii_lowercase, is_ascii_digit}
use Rattle.ixp_num_tables.specs.Decimals.{number_upto}
use Rattle.ixp_http.specs.declared.fields.Field.{Field}
use Rattle.ixp_http.specs.declared.fields.Need.{Need}
use Rattle.ixp_http.specs.declared.fields.Need.TheVariants.{Refused, Body}

-- the same text, case aside
abbrev pub alike : List ℕ → List ℕ → Bool
alike [] [] = true
alike [] (b ∷ other) = false
alike (a ∷ text) [] = false
alike (a ∷ text) (b ∷ other) = (to_ascii_lowercase a == to_ascii_lowercase b) && alike text other

-- the values of the fields with this name, in their order
abbrev pub values : List ℕ → List Field → List (List ℕ)
values name [] = []
values name (f ∷ fields) = if alike f.name name then f.value ∷ values name fields else values name fields

-- a space or a tab
abbrev pub is_blank : ℕ → Bool
is_blank b = b == 32 || b == 9

-- without the blanks at the front
abbrev pub skip_blanks : List ℕ → List ℕ
skip_blanks [] = []
skip_blanks (b ∷ bytes) = if is_blank b then skip_blanks bytes else b ∷ bytes

-- without the blanks at the end
abbrev pub skip_last_blanks : List ℕ → List ℕ
skip_last_blanks bytes = reverse (skip_blanks (reverse bytes))

-- without the blanks around it
abbrev pub trimmed : List ℕ → List ℕ
trimmed bytes = skip_last_blanks (skip_blanks bytes)

-- up to the first of these bytes
abbrev pub before : ℕ → List ℕ → List ℕ
before mark [] = []
before mark (b ∷ bytes) = if b == mark then [] else b ∷ before mark bytes

-- what follows the first of these bytes, if there is one
abbrev pub after : ℕ → List ℕ → Option (List ℕ)
after mark [] = None
after mark (b ∷ bytes) = if b == mark then Some bytes else after mark bytes

-- a byte more at the front of the first item
abbrev pub longer_first : ℕ → List (List ℕ) → List (List ℕ)
longer_first b [] = (b ∷ []) ∷ []
longer_first b (item ∷ items) = (b ∷ item) ∷ items

-- what stands between the commas
abbrev pub items : List ℕ → List (List ℕ)
items [] = [] ∷ []
items (b ∷ bytes) = if b == 44 then [] ∷ items bytes else longer_first b (items bytes)

-- the items of the bytes, where there are bytes
abbrev pub items_of : Option (List ℕ) → List (List ℕ)
items_of None = []
items_of (Some bytes) = items bytes

-- A list of items with commas between them has this one, case and the blanks around it aside (RFC 9110
-- section 5.6.1).
abbrev pub has_item : List ℕ → List ℕ → Bool
has_item word value = list_any (λ item. alike (trimmed item) word) (items value)

-- one of the values has the item
abbrev pub any_has_item : List ℕ → List (List ℕ) → Bool
any_has_item word texts = list_any (has_item word) texts

-- the same bytes
abbrev pub same_bytes : List ℕ → List ℕ → Bool
same_bytes [] [] = true
same_bytes [] (b ∷ other) = false
same_bytes (a ∷ text) [] = false
same_bytes (a ∷ text) (b ∷ other) = (a == b) && same_bytes text other

-- every value is this one
abbrev pub all_are : List ℕ → List (List ℕ) → Bool
all_are value [] = true
all_are value (v ∷ vs) = same_bytes v value && all_are value vs

-- every byte is a digit
abbrev pub all_digits : List ℕ → Bool
all_digits [] = true
all_digits (b ∷ bytes) = is_ascii_digit b && all_digits bytes

-- a decimal number, without a sign and without leading zeros
abbrev pub is_decimal : List ℕ → Bool
is_decimal [] = false
is_decimal (b ∷ []) = is_ascii_digit b
is_decimal (b ∷ c ∷ bytes) = is_ascii_digit b && not (b == 48) && all_digits (c ∷ bytes)

-- the greatest length of a body: 64 MiB
abbrev pub body_limit : ℕ
body_limit = 67108864

-- a length is within the limit, or the content is too large (RFC 9110 section 15.5.14)
abbrev pub need_within : Option ℕ → Need
need_within None = Refused 413
need_within (Some n) = Body n

-- The lengths that a head gives: none (RFC 9112 section 6.3), or one, which may come more than once.
abbrev pub need_by : List (List ℕ) → Need
need_by [] = Body 0
need_by (v ∷ vs) = if all_are v (v ∷ vs) && is_decimal v then need_within (number_upto body_limit v)
    else Refused 400

-- a head with a transfer coding is refused (RFC 9112 section 6.1)
abbrev pub need_coded : List (List ℕ) → Need → Need
need_coded [] need = need
need_coded (v ∷ vs) need = Refused 501

-- What a head's fields say of the body: its length, or the status with which the request is refused.
abbrev pub need_of : List Field → Need
need_of fields = need_coded (values (codes "transfer-encoding") fields)
    (need_by (values (codes "content-length") fields))
