-- What the reader computes: on lists, with the number of bytes that are left where it stops.
use Rattle.std.specs.Char.{digit_value}
use Rattle.std.specs.Prelude.{ℕ, zero, suc, nat_lt, ◌+◌, ◌-◌, ◌*◌, ◌^◌, Bool, ◌&&◌, ◌==◌, nat_le, List, [], ◌∷◌, length, min, Option, Some, None, Result, Ok, Err, if◌then◌else◌, ◌≡◌, ◌≢◌, ◌%◌, ◌<◌, ◌≤◌}
use Rattle.ixp_num.specs.declared.addr.Addr.{Addr}
use Rattle.ixp_num.specs.declared.asn.Asn.{Asn}
use Rattle.ixp_num.specs.declared.prefix.Prefix.{Prefix}
use Rattle.ixp_num.specs.declared.pattern.Pattern.{Pattern}
use Rattle.ixp_num.specs.declared.fault.NumFault.{NumFault}
use Rattle.ixp_num.specs.declared.fault.NumFault.TheVariants.{Text, Range, HostBits}
use Rattle.ixp_num.specs.declared.reading.Tail.{Tail}
use Rattle.ixp_num.specs.declared.reading.Tail.TheVariants.{Nothing, Length, Bounds}
use Rattle.ixp_num.specs.declared.reading.Reading.{Reading}
use Rattle.ixp_num.specs.Families.{bits_of}
use Rattle.ixp_num.specs.AddressForms.{numbers}
use Rattle.ixp_num.specs.Forms.{Form, End, Mark, Decimal, Hex, Either, Said, bounded}

-- what is done with what was read; a fault is passed on
infixl 10 ◌>>=◌
abbrev pub ◌>>=◌ : {A B E : Type 0} → Result A E → (A → Result B E) → Result B E
Ok a >>= f = f a
Err fault >>= f = Err fault

abbrev pub is_digit : ℕ → Bool
is_digit c = nat_le 48 c && nat_le c 57

-- no number is told from a greater one above this
abbrev pub cap : ℕ
cap = 4294967296

-- the number n with the digits that follow, and what is behind them
abbrev pub digits_after : ℕ → List ℕ → ℕ × List ℕ
digits_after n [] = (n, [])
digits_after n (c ∷ cs) = if is_digit c then digits_after (min cap (n * 10 + (c - 48))) cs else (n, c ∷ cs)

-- the decimal number at the front
unfoldable pub number_at : List ℕ → Result (ℕ × List ℕ) ℕ
number_at [] = Err 0
number_at (c ∷ cs) = if c == 48 then Ok (0, cs) else (if is_digit c then Ok (digits_after (c - 48) cs) else Err (suc (length cs)))

-- the value of the hexadecimal digit at the front, and what is behind it
unfoldable pub hex_at : List ℕ → Option (ℕ × List ℕ)
hex_at [] = None
hex_at (c ∷ cs) = if nat_lt (digit_value c) 16 then Some (digit_value c, cs) else None

-- the value n, or with one more digit what `on` says of it
abbrev pub hex_on : (ℕ → List ℕ → ℕ × List ℕ) → ℕ → List ℕ → Option (ℕ × List ℕ) → ℕ × List ℕ
hex_on on n t None = (n, t)
hex_on on n t (Some p) = on (n * 16 + p.0) p.1

-- the value n with up to `room` digits that follow, and what is behind them
abbrev pub hex_after : ℕ → ℕ → List ℕ → ℕ × List ℕ
hex_after zero n t = (n, t)
hex_after (suc room) n t = hex_on (hex_after room) n t (hex_at t)

-- the one to four hexadecimal digits at the front
abbrev pub group_with : List ℕ → Option (ℕ × List ℕ) → Result (ℕ × List ℕ) ℕ
group_with t None = Err (length t)
group_with t (Some p) = Ok (hex_after 3 p.0 p.1)

unfoldable pub group_at : List ℕ → Result (ℕ × List ℕ) ℕ
group_at t = group_with t (hex_at t)

-- what follows the byte at the front
unfoldable pub mark_at : ℕ → List ℕ → Result (List ℕ) ℕ
mark_at b [] = Err 0
mark_at b (c ∷ cs) = if c == b then Ok cs else Err (suc (length cs))

-- the numbers, where the text ends
abbrev pub end_at : List ℕ → List ℕ → Result Said ℕ
end_at ns [] = Ok (Ok ns)
end_at ns (c ∷ cs) = Err (suc (length cs))

-- the one that read a text, else the one that came farther
abbrev pub farther : {A : Type 0} → Result A ℕ → Result A ℕ → Result A ℕ
farther (Ok a) other = Ok a
farther (Err left) (Ok a) = Ok a
farther (Err left) (Err less) = Err (min left less)

-- what a text of the form says
abbrev pub read : Form → List ℕ → Result Said ℕ
read (End ns) t = end_at ns t
read (Mark b form) t = mark_at b t >>= λ rest. read form rest
read (Decimal bound form) t = number_at t >>= λ p. read (form (min p.0 bound)) p.1 >>= λ said. Ok (bounded bound p.0 (length t) said)
read (Hex form) t = group_at t >>= λ p. read (form p.0) p.1
read (Either one other) t = farther (read one t) (read other t)

-- what was read, seen through `view`
abbrev pub Gives : {A B E : Type 0} → (A → B) → Result A E → Result B E → Type 0
Gives view (Ok a) reads = reads ≡ Ok (view a)
Gives view (Err e) reads = reads ≡ Err e

-- what a reading says
abbrev pub said_with : List ℕ → Option ℕ → Said
said_with ns None = Ok ns
said_with ns (Some left) = Err left

abbrev pub said_of : Reading → Said
said_of r = said_with (numbers r.family r.value r.len r.low r.high) r.over

-- both have the same numbers
abbrev pub SameNumbers : Reading → Reading → Type 0
SameNumbers r s = (s.family ≡ r.family) × (s.value ≡ r.value) × (s.len ≡ r.len) × (s.low ≡ r.low) × (s.high ≡ r.high)

-- the numbers that no text of the kind writes are those that go without saying
abbrev pub IsWhole : Tail → Reading → Type 0
IsWhole Nothing r = (r.len ≡ bits_of r.family) × (r.low ≡ bits_of r.family) × (r.high ≡ bits_of r.family)
IsWhole Length r = (r.low ≡ r.len) × (r.high ≡ r.len)
IsWhole Bounds r = Unit {0}

abbrev pub placed_reading : ℕ → Reading → Option ℕ → Result Reading NumFault
placed_reading size r None = Ok r
placed_reading size r (Some left) = Err (Range (size - left))

-- a reading of a whole text of so many bytes
abbrev pub placed : ℕ → Result Reading ℕ → Result Reading NumFault
placed size (Ok r) = placed_reading size r r.over
placed size (Err left) = Err (Text (size - left))

-- the address, prefix or pattern of a reading
abbrev pub IsAddrOf : Result Reading NumFault → Result Addr NumFault → Type 0
IsAddrOf (Ok r) (Ok a) = (a.family ≡ r.family) × (a.value ≡ r.value)
IsAddrOf (Ok r) (Err e) = ⊥
IsAddrOf (Err f) result = result ≡ Err f

abbrev pub IsPrefixOf : Result Reading NumFault → Result Prefix NumFault → Type 0
IsPrefixOf (Ok r) (Ok p) = (p.family ≡ r.family) × (p.value ≡ r.value) × (p.len ≡ r.len)
IsPrefixOf (Ok r) (Err e) = (e ≡ HostBits) × (r.value % 2 ^ (bits_of r.family - r.len) ≢ 0)
IsPrefixOf (Err f) result = result ≡ Err f

abbrev pub IsPatternOf : Result Reading NumFault → Result Pattern NumFault → Type 0
IsPatternOf (Ok r) (Ok p) = IsPrefixOf (Ok r) (Ok p.prefix) × (p.low ≡ r.low) × (p.high ≡ r.high)
IsPatternOf (Ok r) (Err e) = IsPrefixOf (Ok r) (Err e)
IsPatternOf (Err f) result = result ≡ Err f

-- the AS number in a text of so many bytes, where this number was read
abbrev pub IsAsnOf : ℕ → Result ℕ ℕ → Result Asn NumFault → Type 0
IsAsnOf size (Ok n) (Ok a) = (n ≤ 4294967295) × (a.0 ≡ n)
IsAsnOf size (Ok n) (Err e) = (4294967295 < n) × (e ≡ Range 0)
IsAsnOf size (Err left) result = result ≡ Err (Text (size - left))
