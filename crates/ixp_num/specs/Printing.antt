-- The one printed text of each value.
use Rattle.std.specs.Prelude.{◌≡◌, ℕ, ◌+◌, ◌*◌, ◌/◌, ◌%◌, ◌^◌, ◌&&◌, ◌==◌, List, [], ◌∷◌, ◌++◌, decimal, if◌then◌else◌}
use Rattle.std.specs.Net.Text.{hex_groups_text}
use Rattle.ixp_num.specs.declared.family.Family.{Family}
use Rattle.ixp_num.specs.declared.family.Family.TheVariants.{V4, V6}
use Rattle.ixp_num.specs.declared.addr.Addr.{Addr}
use Rattle.ixp_num.specs.declared.prefix.Prefix.{Prefix}
use Rattle.ixp_num.specs.declared.pattern.Pattern.{Pattern}

-- an IPv4 address: its four octets in decimal, with dots between them
abbrev pub text4 : ℕ → List ℕ
text4 value =
    decimal (value / 2 ^ 24) ++ 46 ∷ (decimal (value / 2 ^ 16 % 256) ++ 46 ∷ (decimal (value / 2 ^ 8 % 256) ++ 46 ∷ decimal (value % 256)))

-- the eight groups of 16 bits of an IPv6 address
abbrev pub groups_of : ℕ → List ℕ
groups_of value =
    (value / 2 ^ 112) ∷ (value / 2 ^ 96 % 65536) ∷ (value / 2 ^ 80 % 65536) ∷ (value / 2 ^ 64 % 65536)
    ∷ (value / 2 ^ 48 % 65536) ∷ (value / 2 ^ 32 % 65536) ∷ (value / 2 ^ 16 % 65536) ∷ (value % 65536) ∷ []

-- the value of groups of 16 bits behind those of n
abbrev pub groups_value : ℕ → List ℕ → ℕ
groups_value n [] = n
groups_value n (g ∷ gs) = groups_value (n * 65536 + g) gs

-- An IPv4 address as above. An IPv6 address by RFC 5952 section 4: groups in lower-case hexadecimal without
-- leading zeros, and `::` for the longest run of at least two zero groups, the first one of equal runs; no
-- part is written as an IPv4 address.
abbrev pub value_text : Family → ℕ → List ℕ
value_text V4 value = text4 value
value_text V6 value = hex_groups_text (groups_of value)

abbrev pub addr_text : Addr → List ℕ
addr_text a = value_text a.family a.value

-- `address/len`
abbrev pub prefix_text : Prefix → List ℕ
prefix_text p = value_text p.family p.value ++ 47 ∷ decimal p.len

-- `address/len{low,high}`
abbrev pub bounds_text : Pattern → List ℕ
bounds_text p = prefix_text p.prefix ++ 123 ∷ (decimal p.low ++ 44 ∷ (decimal p.high ++ 125 ∷ []))

-- the same without the bounds, where they are the prefix's length
abbrev pub pattern_text : Pattern → List ℕ
pattern_text p = if p.low == p.prefix.len && p.high == p.prefix.len then prefix_text p.prefix else bounds_text p

-- the list with more behind it
abbrev pub Grown : List ℕ → List ℕ → Type 0
Grown old new = (more : List ℕ) × (new ≡ old ++ more)
