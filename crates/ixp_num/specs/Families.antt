-- Address families.
use Rattle.std.specs.Prelude.{◌≡◌, ℕ, ◌-◌, ◌<◌, ◌≤◌, ◌%◌, ◌^◌, Bool, true, false}
use Rattle.ixp_num.specs.declared.family.Family.{Family}
use Rattle.ixp_num.specs.declared.family.Family.TheVariants.{V4, V6}

-- the bits of an address of the family (RFC 791 section 3.1, RFC 4291 section 2)
abbrev pub bits_of : Family → ℕ
bits_of V4 = 32
bits_of V6 = 128

abbrev pub same_family : Family → Family → Bool
same_family V4 V4 = true
same_family V6 V6 = true
same_family V4 V6 = false
same_family V6 V4 = false

-- a prefix of the family: no longer than an address, and its number fits and has no host bits
abbrev pub IsPrefix : Family → ℕ → ℕ → Type 0
IsPrefix family value len = (len ≤ bits_of family) × (value < 2 ^ bits_of family) × (value % 2 ^ (bits_of family - len) ≡ 0)
