-- What the answers of the readers of numbers say of fields.
use Rattle.std.proofs.Common.{◌≡◌, ◌≢◌, ℕ, ◌-◌, ◌<◌, ◌≤◌, ◌%◌, ◌^◌, Bool, true, false, ◌&&◌, nat_lt, nat_le, List, [], ◌∷◌, Some, None, Result, Ok, Err, refl, ap, ◌∙◌, if◌then◌else◌}
use Rattle.std.proofs.lemmas.Bool.{lt-ltb, le-leb, ne_eqb}
use Rattle.ixp_num.specs.declared.family.Family.{Family}
use Rattle.ixp_num.specs.declared.family.Family.TheVariants.{V4, V6}
use Rattle.ixp_num.specs.declared.addr.Addr.{Addr}
use Rattle.ixp_num.specs.declared.asn.Asn.{Asn}
use Rattle.ixp_num.specs.declared.prefix.Prefix.{Prefix}
use Rattle.ixp_num.specs.declared.pattern.Pattern.{Pattern}
use Rattle.ixp_num.specs.declared.fault.NumFault.{NumFault}
use Rattle.ixp_num.specs.declared.fault.NumFault.TheVariants.{Text, Range, HostBits}
use Rattle.ixp_num.specs.Families.{bits_of}
use Rattle.ixp_num.specs.Forms.{Form, Said, Spelt}
use Rattle.ixp_num.specs.AddressForms.{version_of, numbers, asn_form}
use Rattle.ixp_num.specs.TextForms.{addr_form, net_form, pattern_form}
use Rattle.ixp_num.specs.Answers.{FaultAnswer, AddrAnswer, PrefixAnswer, PatternAnswer, AsnAnswer}
use Rattle.ixp_num.specs.Printing.{value_text, addr_text, prefix_text, bounds_text}
use Rattle.ixp_num.specs.Reading.{read}
use Rattle.ixp_num.proofs.FormLaws.{Parted, read_sound, read_again}
use Rattle.ixp_num.proofs.PartedForms.{asn_parted}
use Rattle.ixp_num.proofs.PartedTexts.{addr_parted, net_parted, pattern_parted}
use Rattle.ixp_num_tables.specs.Tables.{same}
use Rattle.ixp_rows_lines.specs.Fields.{Number, Address, Net, Bounds, ANumber, AnOctet, AnAddress, ANet, ABounds, Or, Piece, Word}
use Rattle.ixp_rows_lines.specs.Lines.{address_field, net_field, bounds_field}
use Rattle.ixp_rows_lines.specs.Reading.{◌>>=◌, numbers_with, numbers_in, kept, family_of, number_with, octet_with, address_with, is_prefix, net_with, bounds_with, value_of}

-- a text that says numbers
pub says : (form : Form) → Parted form → (t ns : List ℕ) → Spelt form (Ok ns) t → numbers_in form t ≡ ns
unfolding numbers_in
says form parted t ns spelt = ap numbers_with (read_again form parted (Ok ns) t spelt)

not_said : (form : Form) → Parted form → (t : List ℕ) → ((said : Said) → ¬ (Spelt form said t)) → (r : Result Said ℕ) → read form t ≡ r → numbers_with r ≡ []
not_said form parted t not_in (Ok said) e = absurd (not_in said (read_sound form parted said t e))
not_said form parted t not_in (Err left) e = refl

-- a text that isn't of the form, or has a number above its bound, says none
pub says_none : (form : Form) → Parted form → (t : List ℕ) (f : NumFault) → FaultAnswer form t f → numbers_in form t ≡ []
unfolding numbers_in
says_none form parted t (Text place) answer = not_said form parted t (λ said spelt. answer.not_in (said, spelt)) (read form t) refl
says_none form parted t (Range place) (left, over, e) = ap numbers_with (read_again form parted (Err left) t over)
says_none form parted t HostBits answer = absurd answer

pub number_said : (t : List ℕ) (a : Asn) → AsnAnswer t (Ok a) → value_of ANumber t ≡ Some (Number a.0)
unfolding value_of
number_said t a answer = ap number_with (says asn_form asn_parted t (a.0 ∷ []) answer)

pub number_unsaid : (t : List ℕ) (f : NumFault) → AsnAnswer t (Err f) → value_of ANumber t ≡ None
unfolding value_of
number_unsaid t f answer = ap number_with (says_none asn_form asn_parted t f answer)

-- an octet is a number below 256
pub octet_value : (t : List ℕ) → value_of AnOctet t ≡ (value_of ANumber t >>= octet_with)
unfolding value_of
octet_value t = refl

family_again : (f : Family) → family_of (version_of f) ≡ f
family_again V4 = refl
family_again V6 = refl

-- an address and its text
address_made : (f : Family) (value len low high : ℕ) (t : List ℕ) → value < 2 ^ bits_of f → address_with (version_of f ∷ value ∷ len ∷ low ∷ high ∷ []) t ≡ (if same (value_text f value) t then Some (Address f value) else None)
address_made V4 value len low high t fits = rw (lt-ltb value (2 ^ 32) fits) refl
address_made V6 value len low high t fits = rw (lt-ltb value (2 ^ 128) fits) refl

pub address_said : (t : List ℕ) (a : Addr) → AddrAnswer t (Ok a) → value_of AnAddress t ≡ (if same (addr_text a) t then Some (address_field a) else None)
unfolding value_of
address_said t a answer =
    ap (λ ns. address_with ns t) (says addr_form addr_parted t (numbers a.family a.value (bits_of a.family) (bits_of a.family) (bits_of a.family)) answer)
    ∙ address_made a.family a.value (bits_of a.family) (bits_of a.family) (bits_of a.family) t a.fits

pub address_unsaid : (t : List ℕ) (f : NumFault) → AddrAnswer t (Err f) → value_of AnAddress t ≡ None
unfolding value_of
address_unsaid t f answer = ap (λ ns. address_with ns t) (says_none addr_form addr_parted t f answer)

is_prefix_true : (f : Family) (value len : ℕ) → len ≤ bits_of f → value < 2 ^ bits_of f → value % 2 ^ (bits_of f - len) ≡ 0 → is_prefix f value len ≡ true
is_prefix_true f value len short fits none = rw (le-leb len (bits_of f) short, lt-ltb value (2 ^ bits_of f) fits, none) refl

and_false : (a b : Bool) → (a && b && false) ≡ false
and_false true true = refl
and_false true false = refl
and_false false b = refl

is_prefix_false : (f : Family) (value len : ℕ) → value % 2 ^ (bits_of f - len) ≢ 0 → is_prefix f value len ≡ false
is_prefix_false f value len some = rw (ne_eqb _ _ some) (and_false (nat_le len (bits_of f)) (nat_lt value (2 ^ bits_of f)))

-- a prefix and its text
net_made : (f : Family) (value len low high : ℕ) (t : List ℕ) → (b : Bool) → is_prefix f value len ≡ b → net_with (version_of f ∷ value ∷ len ∷ low ∷ high ∷ []) t ≡ kept b (Net f value len) t
net_made V4 value len low high t b e = ap (λ b. kept b (Net V4 value len) t) e
net_made V6 value len low high t b e = ap (λ b. kept b (Net V6 value len) t) e

pub net_said : (t : List ℕ) (p : Prefix) → PrefixAnswer t (Ok p) → value_of ANet t ≡ (if same (prefix_text p) t then Some (net_field p) else None)
unfolding value_of
net_said t p answer =
    ap (λ ns. net_with ns t) (says net_form net_parted t (numbers p.family p.value p.len p.len p.len) answer)
    ∙ net_made p.family p.value p.len p.len p.len t true (is_prefix_true p.family p.value p.len p.short p.fits p.no_host_bits)

pub net_unsaid : (t : List ℕ) (f : NumFault) → PrefixAnswer t (Err f) → value_of ANet t ≡ None
unfolding value_of
net_unsaid t (Text place) answer = ap (λ ns. net_with ns t) (says_none net_form net_parted t (Text place) answer)
net_unsaid t (Range place) answer = ap (λ ns. net_with ns t) (says_none net_form net_parted t (Range place) answer)
net_unsaid t HostBits (f, value, len, low, high, spelt, some) =
    ap (λ ns. net_with ns t) (says net_form net_parted t (numbers f value len low high) spelt)
    ∙ net_made f value len low high t false (is_prefix_false f value len some)

-- a pattern and its text with bounds
bounds_made : (f : Family) (value len low high : ℕ) (t : List ℕ) → (b : Bool) → (is_prefix f value len && nat_lt low 256 && nat_lt high 256) ≡ b → bounds_with (version_of f ∷ value ∷ len ∷ low ∷ high ∷ []) t ≡ kept b (Bounds f value len low high) t
bounds_made V4 value len low high t b e = ap (λ b. kept b (Bounds V4 value len low high) t) e
bounds_made V6 value len low high t b e = ap (λ b. kept b (Bounds V6 value len low high) t) e

pub bounds_said : (t : List ℕ) (p : Pattern) → p.low < 2 ^ 8 → p.high < 2 ^ 8 → PatternAnswer t (Ok p) → value_of ABounds t ≡ (if same (bounds_text p) t then Some (bounds_field p) else None)
unfolding value_of
bounds_said t p low high answer =
    ap (λ ns. bounds_with ns t) (says pattern_form pattern_parted t (numbers p.prefix.family p.prefix.value p.prefix.len p.low p.high) answer)
    ∙ bounds_made p.prefix.family p.prefix.value p.prefix.len p.low p.high t true
    (rw (is_prefix_true p.prefix.family p.prefix.value p.prefix.len p.prefix.short p.prefix.fits p.prefix.no_host_bits, lt-ltb p.low 256 low, lt-ltb p.high 256 high) refl)

pub bounds_unsaid : (t : List ℕ) (f : NumFault) → PatternAnswer t (Err f) → value_of ABounds t ≡ None
unfolding value_of
bounds_unsaid t (Text place) answer = ap (λ ns. bounds_with ns t) (says_none pattern_form pattern_parted t (Text place) answer)
bounds_unsaid t (Range place) answer = ap (λ ns. bounds_with ns t) (says_none pattern_form pattern_parted t (Range place) answer)
bounds_unsaid t HostBits (f, value, len, low, high, spelt, some) =
    ap (λ ns. bounds_with ns t) (says pattern_form pattern_parted t (numbers f value len low high) spelt)
    ∙ bounds_made f value len low high t false (rw (is_prefix_false f value len some) refl)

-- `word` or the other
pub or_word : (word : List ℕ) (p : Piece) (t : List ℕ) → same t word ≡ true → value_of (Or word p) t ≡ Some (Word word)
unfolding value_of
or_word word p t e = rw e refl

pub or_other : (word : List ℕ) (p : Piece) (t : List ℕ) → same t word ≡ false → value_of (Or word p) t ≡ value_of p t
unfolding value_of
or_other word p t e = rw e refl

pub ruleset or_laws = (or_word, or_other)

pub address_same : (t : List ℕ) (a : Addr) → AddrAnswer t (Ok a) → same (addr_text a) t ≡ true → value_of AnAddress t ≡ Some (address_field a)
address_same t a answer e = address_said t a answer ∙ rw e refl

pub address_other : (t : List ℕ) (a : Addr) → AddrAnswer t (Ok a) → same (addr_text a) t ≡ false → value_of AnAddress t ≡ None
address_other t a answer e = address_said t a answer ∙ rw e refl

pub ruleset address_laws = (address_same, address_other, address_unsaid)

pub net_same : (t : List ℕ) (a : Prefix) → PrefixAnswer t (Ok a) → same (prefix_text a) t ≡ true → value_of ANet t ≡ Some (net_field a)
net_same t a answer e = net_said t a answer ∙ rw e refl

pub net_other : (t : List ℕ) (a : Prefix) → PrefixAnswer t (Ok a) → same (prefix_text a) t ≡ false → value_of ANet t ≡ None
net_other t a answer e = net_said t a answer ∙ rw e refl

pub ruleset net_laws = (net_same, net_other, net_unsaid)

pub bounds_same : (t : List ℕ) (a : Pattern) → a.low < 2 ^ 8 → a.high < 2 ^ 8 → PatternAnswer t (Ok a) → same (bounds_text a) t ≡ true → value_of ABounds t ≡ Some (bounds_field a)
bounds_same t a low high answer e = bounds_said t a low high answer ∙ rw e refl

pub bounds_other : (t : List ℕ) (a : Pattern) → a.low < 2 ^ 8 → a.high < 2 ^ 8 → PatternAnswer t (Ok a) → same (bounds_text a) t ≡ false → value_of ABounds t ≡ None
bounds_other t a low high answer e = bounds_said t a low high answer ∙ rw e refl

pub ruleset bounds_laws = (bounds_same, bounds_other, bounds_unsaid)
