-- The alphabets and lengths of texts.
use Rattle.std.specs.Prelude.{ℕ, Bool, List, [], ◌∷◌, length, ◌&&◌, ◌||◌, ◌==◌, false, nat_le}
use Rattle.std.specs.List.{list_all}
use Rattle.std.specs.Str.{is_utf8}
use Rattle.ixp_num.specs.Names.{is_within}

abbrev pub has_length : ℕ → ℕ → List ℕ → Bool
has_length least most t = nat_le least (length t) && nat_le (length t) most

abbrev pub is_small_letter : ℕ → Bool
is_small_letter = is_within 97 122

abbrev pub is_digit : ℕ → Bool
is_digit = is_within 48 57

abbrev pub is_letter_or_digit : ℕ → Bool
is_letter_or_digit c = is_small_letter c || is_within 65 90 c || is_digit c

-- `:`, `_` or `-`
abbrev pub is_macro_byte : ℕ → Bool
is_macro_byte c = is_letter_or_digit c || c == 58 || c == 95 || c == 45

-- `.`, `_`, `:` or `/`
abbrev pub is_secret_byte : ℕ → Bool
is_secret_byte c = is_letter_or_digit c || c == 46 || c == 95 || c == 58 || c == 47

-- `_` or `-`
abbrev pub is_handle_byte : ℕ → Bool
is_handle_byte c = is_small_letter c || is_digit c || c == 95 || c == 45

-- a name of a member, a contact, a switch, a port or a VLAN
abbrev pub is_label : List ℕ → Bool
is_label t = has_length 1 128 t && is_utf8 t

-- a short name, a mail address or a role
abbrev pub is_note : List ℕ → Bool
is_note t = has_length 0 128 t && is_utf8 t

-- an AS-SET or an AS, as members write it (RFC 2622 section 5)
abbrev pub is_macro : List ℕ → Bool
is_macro t = has_length 0 64 t && list_all is_macro_byte t

-- the secret of a BGP session
abbrev pub is_session_secret : List ℕ → Bool
is_session_secret t = has_length 0 64 t && list_all is_secret_byte t

-- the secret of an API key
abbrev pub is_key_secret : List ℕ → Bool
is_key_secret t = has_length 16 64 t && list_all is_letter_or_digit t

-- the name of a route server
abbrev pub begins_small : List ℕ → Bool
begins_small [] = false
begins_small (c ∷ cs) = is_small_letter c

abbrev pub is_handle : List ℕ → Bool
is_handle t = has_length 1 32 t && begins_small t && list_all is_handle_byte t
