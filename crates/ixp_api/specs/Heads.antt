-- What stands beside a body: the secret, the number of the request, what its reader has seen.
use Rattle.std.specs.Prelude.{ℕ, List, [], ◌∷◌, Option, Some, None, codes, nat_eq, nat_lt, option_and_then, slice_get, if◌then◌else◌}
use Rattle.std.specs.Cmp.Lexicographic.{pointwise}
use Rattle.std.specs.Str.Lossy.{utf8_lossy}
use Rattle.form_urlencoded.specs.Form.{decode, raw_pairs}
use Rattle.ixp_http.specs.Fields.{values}
use Rattle.ixp_http.specs.declared.fields.Field.{Field}
use Rattle.ixp_num_tables.specs.Decimals.{number_upto}

-- the value of the first field with the name, case aside
abbrev pub field_of : List ℕ → List Field → Option (List ℕ)
field_of name fields = slice_get (values name fields) 0

abbrev pub or_empty : Option (List ℕ) → List ℕ
or_empty None = []
or_empty (Some v) = v

-- the secret of an API key; that of a request without one is empty, which no key has
abbrev pub secret_of : List Field → List ℕ
secret_of fields = or_empty (field_of (codes "x-ixp-manager-api-key") fields)

abbrev pub unless_zero : ℕ → Option ℕ
unless_zero n = if nat_lt 0 n then Some n else None

-- the number of a request: 1 to 9,999,999,999,999,999
abbrev pub request_number : List ℕ → Option ℕ
request_number text = option_and_then unless_zero (number_upto 9999999999999999 text)

abbrev pub number_of : List Field → Option ℕ
number_of fields = option_and_then request_number (field_of (codes "x-request-number") fields)

-- what a name or a value of a form stands for (WHATWG URL Standard section 5.1)
abbrev pub form_text : List ℕ → List ℕ
form_text bytes = utf8_lossy (decode bytes)

-- the value of the first pair with the name `seen`
abbrev pub seen_in : List (List ℕ × List ℕ) → Option (List ℕ)
seen_in [] = None
seen_in (p ∷ ps) = if pointwise nat_eq (form_text p.0) (codes "seen") then Some (form_text p.1)
    else seen_in ps

-- What the reader has seen: nothing is said, or a number of a request, or something else.
abbrev pub seen_by : Option (List ℕ) → Option (Option ℕ)
seen_by None = Some None
seen_by (Some text) = some_number (request_number text)
  where
    some_number : Option ℕ → Option (Option ℕ)
    some_number None = None
    some_number (Some n) = Some (Some n)

abbrev pub seen_of : List ℕ → Option (Option ℕ)
seen_of query = seen_by (seen_in (raw_pairs query))
