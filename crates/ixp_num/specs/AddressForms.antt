-- The forms of addresses, prefixes and patterns.
use Rattle.std.specs.Prelude.{ℕ, zero, suc, ◌+◌, ◌-◌, ◌*◌, ◌^◌, List, [], ◌∷◌}
use Rattle.ixp_num.specs.declared.family.Family.{Family}
use Rattle.ixp_num.specs.declared.family.Family.TheVariants.{V4, V6}
use Rattle.ixp_num.specs.declared.reading.Tail.{Tail}
use Rattle.ixp_num.specs.declared.reading.Tail.TheVariants.{Nothing, Length, Bounds}
use Rattle.ixp_num.specs.Families.{bits_of}
use Rattle.ixp_num.specs.Forms.{Form, End, Mark, Decimal, Hex, Either}

-- the version of the Internet Protocol
abbrev pub version_of : Family → ℕ
version_of V4 = 4
version_of V6 = 6

-- the numbers that a text says: the version, an address, a length, and the bounds of a pattern
abbrev pub numbers : Family → ℕ → ℕ → ℕ → ℕ → List ℕ
numbers family value len low high = version_of family ∷ value ∷ len ∷ low ∷ high ∷ []

-- `{low,high}`
abbrev pub bounds_form : (ℕ → ℕ → Form) → Form
bounds_form form = Mark 123 (Decimal 255 (λ low. Mark 44 (Decimal 255 (λ high. Mark 125 (form low high)))))

-- What follows an address: nothing, which is as its whole length; `/len`, which is as the bounds `{len,len}`;
-- or `/len`, and then the bounds or nothing
abbrev pub tail_form : Tail → Family → ℕ → Form
tail_form Nothing family value = End (numbers family value (bits_of family) (bits_of family) (bits_of family))
tail_form Length family value = Mark 47 (Decimal (bits_of family) (λ len. End (numbers family value len len len)))
tail_form Bounds family value =
    Mark 47 (Decimal (bits_of family) (λ len. Either (End (numbers family value len len len)) (bounds_form (λ low high. End (numbers family value len low high)))))

-- four decimal numbers with dots, their value added to `base`
abbrev pub dotted_form : ℕ → (ℕ → Form) → Form
dotted_form base form =
    Decimal 255 (λ a. Mark 46 (Decimal 255 (λ b. Mark 46 (Decimal 255 (λ c. Mark 46 (Decimal 255 (λ d.
    form (base + (((a * 256 + b) * 256 + c) * 256 + d)))))))))

-- an IPv4 address, and what follows it
abbrev pub form4 : Tail → Form
form4 tail = dotted_form 0 (tail_form tail V4)

-- One group behind `::`, and then the end of the address or a colon and what is behind it. `base` is the
-- value of the groups before `::`, and `value` that of those behind it so far.
abbrev pub more_form : (ℕ → Form) → (ℕ → Form) → ℕ → ℕ → Form
more_form form next base value =
    Hex (λ group. Either (form (base + (value * 65536 + group))) (Mark 58 (next (value * 65536 + group))))

-- One group behind `::`, and up to `room` more. The last two may be written as an IPv4 address.
abbrev pub behind_form : ℕ → (ℕ → Form) → ℕ → ℕ → Form
behind_form zero form base value = Hex (λ group. form (base + (value * 65536 + group)))
behind_form (suc room) form base value =
    Either (dotted_form (base + value * 2 ^ 32) form) (more_form form (behind_form room form base) base value)

-- up to `room` groups behind `::`
abbrev pub gap_form : ℕ → (ℕ → Form) → ℕ → Form
gap_form zero form base = form base
gap_form (suc room) form base = Either (form base) (behind_form room form base 0)

-- A group and a colon, and then the `room` groups behind it; or a second colon, in place of at least one of
-- them. `value` is that of the groups so far, in their places.
abbrev pub colon_form : ℕ → (ℕ → Form) → (ℕ → Form) → ℕ → Form
colon_form room form next value =
    Hex (λ group. Mark 58 (Either
    (Mark 58 (gap_form (room - 1) form (value + group * 2 ^ (16 * room))))
    (next (value + group * 2 ^ (16 * room)))))

-- A group and `room` more. The last two may be written as an IPv4 address.
abbrev pub groups_form : ℕ → (ℕ → Form) → ℕ → Form
groups_form zero form value = Hex (λ group. form (value + group))
groups_form (suc zero) form value = Either (dotted_form value form) (colon_form 1 form (groups_form zero form) value)
groups_form (suc (suc room)) form value = colon_form (suc (suc room)) form (groups_form (suc room) form) value

-- an IPv6 address, and what follows it: eight groups, or `::` in place of some (RFC 4291 section 2.2)
abbrev pub form6 : Tail → Form
form6 tail = Either (Mark 58 (Mark 58 (gap_form 7 (tail_form tail V6) 0))) (groups_form 7 (tail_form tail V6) 0)

-- an address of either family, and what follows it
abbrev pub address_form : Tail → Form
address_form tail = Either (form4 tail) (form6 tail)

-- an AS number (RFC 5396, asplain)
abbrev pub asn_form : Form
asn_form = Decimal 4294967295 (λ n. End (n ∷ []))
