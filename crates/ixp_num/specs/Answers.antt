-- What a reader answers.
use Rattle.std.specs.Prelude.{◌≡◌, ◌≢◌, ℕ, ◌-◌, ◌%◌, ◌^◌, List, [], ◌∷◌, length, Result, Ok, Err}
use Rattle.ixp_num.specs.declared.family.Family.{Family}
use Rattle.ixp_num.specs.declared.fault.NumFault.{NumFault}
use Rattle.ixp_num.specs.declared.fault.NumFault.TheVariants.{Text, Range, HostBits}
use Rattle.ixp_num.specs.declared.addr.Addr.{Addr}
use Rattle.ixp_num.specs.declared.asn.Asn.{Asn}
use Rattle.ixp_num.specs.declared.prefix.Prefix.{Prefix}
use Rattle.ixp_num.specs.declared.pattern.Pattern.{Pattern}
use Rattle.ixp_num.specs.declared.reading.Tail.TheVariants.{Nothing, Length, Bounds}
use Rattle.ixp_num.specs.Families.{bits_of}
use Rattle.ixp_num.specs.Forms.{Form, Spelt, IsOf, StopsAt}
use Rattle.ixp_num.specs.AddressForms.{numbers, address_form, asn_form}

-- the bytes are no text of the form, or the first number above its bound is there
abbrev pub FaultAnswer : Form → List ℕ → NumFault → Type 0
FaultAnswer form t (Text place) = StopsAt (IsOf form) t place
FaultAnswer form t (Range place) = (left : ℕ) × Spelt form (Err left) t × (place ≡ length t - left)
FaultAnswer form t HostBits = ⊥

-- the text says an address and a length, and bits behind it aren't 0
abbrev pub HasHostBits : Form → List ℕ → Type 0
HasHostBits form t =
    (family : Family) × (value len low high : ℕ) × Spelt form (Ok (numbers family value len low high)) t
    × (value % 2 ^ (bits_of family - len) ≢ 0)

-- an address of either family
abbrev pub AddrAnswer : List ℕ → Result Addr NumFault → Type 0
AddrAnswer t (Ok a) = Spelt (address_form Nothing) (Ok (numbers a.family a.value (bits_of a.family) (bits_of a.family) (bits_of a.family))) t
AddrAnswer t (Err fault) = FaultAnswer (address_form Nothing) t fault

-- an address and a length
abbrev pub PrefixAnswer : List ℕ → Result Prefix NumFault → Type 0
PrefixAnswer t (Ok p) = Spelt (address_form Length) (Ok (numbers p.family p.value p.len p.len p.len)) t
PrefixAnswer t (Err HostBits) = HasHostBits (address_form Length) t
PrefixAnswer t (Err fault) = FaultAnswer (address_form Length) t fault

-- a prefix, and bounds where it has some
abbrev pub PatternAnswer : List ℕ → Result Pattern NumFault → Type 0
PatternAnswer t (Ok p) = Spelt (address_form Bounds) (Ok (numbers p.prefix.family p.prefix.value p.prefix.len p.low p.high)) t
PatternAnswer t (Err HostBits) = HasHostBits (address_form Bounds) t
PatternAnswer t (Err fault) = FaultAnswer (address_form Bounds) t fault

-- an AS number
abbrev pub AsnAnswer : List ℕ → Result Asn NumFault → Type 0
AsnAnswer t (Ok a) = Spelt asn_form (Ok (a.0 ∷ [])) t
AsnAnswer t (Err fault) = FaultAnswer asn_form t fault
