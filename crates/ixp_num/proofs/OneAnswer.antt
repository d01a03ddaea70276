-- No text has two answers.
use Rattle.std.proofs.Common.{◌≡◌, ℕ, ◌-◌, ◌<◌, ◌≤◌, ◌%◌, ◌^◌, List, [], ◌∷◌, length, Result, Ok, Err, refl, sym, ap, ◌∙◌, subst, arith}
use Rattle.std.proofs.Math.Bridge.{le_prop}
use Rattle.std.proofs.Math.Nat.{ℕ_set}
use Rattle.ixp_num.specs.declared.family.Family.{Family}
use Rattle.ixp_num.specs.declared.family.Family.TheVariants.{V4, V6}
use Rattle.ixp_num.specs.declared.addr.Addr.{Addr}
use Rattle.ixp_num.specs.declared.asn.Asn.{Asn}
use Rattle.ixp_num.specs.declared.prefix.Prefix.{Prefix}
use Rattle.ixp_num.specs.declared.pattern.Pattern.{Pattern}
use Rattle.ixp_num.specs.declared.fault.NumFault.{NumFault}
use Rattle.ixp_num.specs.declared.fault.NumFault.TheVariants.{Text, Range, HostBits}
use Rattle.ixp_num.specs.declared.reading.Tail.TheVariants.{Nothing, Length, Bounds}
use Rattle.ixp_num.specs.Families.{bits_of}
use Rattle.ixp_num.specs.Forms.{Form, Said, Spelt, IsOf}
use Rattle.ixp_num.specs.AddressForms.{version_of, numbers, address_form, asn_form}
use Rattle.ixp_num.specs.Answers.{FaultAnswer, HasHostBits, AddrAnswer, PrefixAnswer, PatternAnswer, AsnAnswer}
use Rattle.ixp_num.proofs.FormLaws.{Parted, read_again}
use Rattle.ixp_num.proofs.PartedForms.{address_parted, asn_parted}
use Rattle.ixp_num.proofs.Stops.{one_place}

-- a text of a form says one thing
same_said : (form : Form) → Parted form → (t : List ℕ) (x y : Said) → Spelt form x t → Spelt form y t → x ≡ y
same_said form parted t x y here there =
    let same : ◌≡◌ {A = Result Said ℕ} (Ok x) (Ok y) = sym (read_again form parted x t here) ∙ read_again form parted y t there in
    cc

-- a text with a fault says no numbers
no_fault : (form : Form) → Parted form → (t : List ℕ) (ns : List ℕ) (fault : NumFault) → Spelt form (Ok ns) t → ¬ (FaultAnswer form t fault)
no_fault form parted t ns (Text place) spelt answer = answer.not_in (Ok ns, spelt)
no_fault form parted t ns (Range place) spelt (left, over, e) =
    let same : ◌≡◌ {A = Said} (Ok ns) (Err left) = same_said form parted t (Ok ns) (Err left) spelt over in
    absurd cc
no_fault form parted t ns HostBits spelt answer = answer

same_fault : (form : Form) → Parted form → (t : List ℕ) (f g : NumFault) → FaultAnswer form t f → FaultAnswer form t g → f ≡ g
same_fault form parted t (Text p) (Text q) x y = ap (λ n. Text n) (one_place (IsOf form) t p q x y)
same_fault form parted t (Text p) (Range q) x (left, over, e) = absurd (x.not_in (Err left, over))
same_fault form parted t (Range p) (Text q) (left, over, e) y = absurd (y.not_in (Err left, over))
same_fault form parted t (Range p) (Range q) (l, here, e) (m, there, g) =
    let same : ◌≡◌ {A = Said} (Err l) (Err m) = same_said form parted t (Err l) (Err m) here there in
    let left : l ≡ m = cc in
    ap (λ n. Range n) (e ∙ (ap (λ k. length t - k) left ∙ sym g))
same_fault form parted t HostBits g x y = absurd x
same_fault form parted t (Text p) HostBits x y = absurd y
same_fault form parted t (Range p) HostBits x y = absurd y

same_family : (f g : Family) → version_of f ≡ version_of g → f ≡ g
same_family V4 V4 e = refl
same_family V4 V6 e = absurd (omega arith)
same_family V6 V4 e = absurd (omega arith)
same_family V6 V6 e = refl

abbrev addr_with : (f : Family) (v : ℕ) → v < 2 ^ bits_of f → Addr
addr_with f v fits = record { family = f; value = v; fits = fits }

-- an address is its family and its number
addr_same : (f : Family) (v : ℕ) (x : v < 2 ^ bits_of f) (g : Family) → f ≡ g → (w : ℕ) → v ≡ w → (y : w < 2 ^ bits_of g) → addr_with f v x ≡ addr_with g w y
addr_same f v x g e =
    subst (λ g. (w : ℕ) → v ≡ w → (y : w < 2 ^ bits_of g) → addr_with f v x ≡ addr_with g w y) e
    (λ w q. subst (λ w. (y : w < 2 ^ bits_of f) → addr_with f v x ≡ addr_with f w y) q (λ y. ap (addr_with f v) (le_prop x y)))

pub one_addr : (t : List ℕ) (x y : Result Addr NumFault) → AddrAnswer t x → AddrAnswer t y → x ≡ y
one_addr t (Ok a) (Ok b) x y =
    let same : ◌≡◌ {A = Said} (Ok (numbers a.family a.value (bits_of a.family) (bits_of a.family) (bits_of a.family))) (Ok (numbers b.family b.value (bits_of b.family) (bits_of b.family) (bits_of b.family))) = same_said (address_form Nothing) (address_parted Nothing) t _ _ x y in
    let version : version_of a.family ≡ version_of b.family = cc in
    let value : a.value ≡ b.value = cc in
    ap Ok (addr_same a.family a.value a.fits b.family (same_family a.family b.family version) b.value value b.fits)
one_addr t (Ok a) (Err f) x y = absurd (no_fault (address_form Nothing) (address_parted Nothing) t (numbers a.family a.value (bits_of a.family) (bits_of a.family) (bits_of a.family)) f x y)
one_addr t (Err f) (Ok b) x y = absurd (no_fault (address_form Nothing) (address_parted Nothing) t (numbers b.family b.value (bits_of b.family) (bits_of b.family) (bits_of b.family)) f y x)
one_addr t (Err f) (Err g) x y = ap Err (same_fault (address_form Nothing) (address_parted Nothing) t f g x y)

asn_same : (a b : Asn) → a.0 ≡ b.0 → a ≡ b
asn_same a b e = ap (λ (n : ℕ). record { 0 = n }) e

pub one_asn : (t : List ℕ) (x y : Result Asn NumFault) → AsnAnswer t x → AsnAnswer t y → x ≡ y
one_asn t (Ok a) (Ok b) x y =
    let same : ◌≡◌ {A = Said} (Ok (a.0 ∷ [])) (Ok (b.0 ∷ [])) = same_said asn_form asn_parted t _ _ x y in
    ap Ok (asn_same a b cc)
one_asn t (Ok a) (Err f) x y = absurd (no_fault asn_form asn_parted t (a.0 ∷ []) f x y)
one_asn t (Err f) (Ok b) x y = absurd (no_fault asn_form asn_parted t (b.0 ∷ []) f y x)
one_asn t (Err f) (Err g) x y = ap Err (same_fault asn_form asn_parted t f g x y)

-- the fault of a reader that tells host bits, too
abbrev BitsFault : Form → List ℕ → NumFault → Type 0
BitsFault form t HostBits = HasHostBits form t
BitsFault form t fault = FaultAnswer form t fault

same_bits_fault : (form : Form) → Parted form → (t : List ℕ) (f g : NumFault) → BitsFault form t f → BitsFault form t g → f ≡ g
same_bits_fault form parted t (Text p) (Text q) x y = same_fault form parted t (Text p) (Text q) x y
same_bits_fault form parted t (Text p) (Range q) x y = same_fault form parted t (Text p) (Range q) x y
same_bits_fault form parted t (Range p) (Text q) x y = same_fault form parted t (Range p) (Text q) x y
same_bits_fault form parted t (Range p) (Range q) x y = same_fault form parted t (Range p) (Range q) x y
same_bits_fault form parted t HostBits HostBits x y = refl
same_bits_fault form parted t HostBits (Text q) (family, value, len, low, high, spelt, ne) y = absurd (no_fault form parted t (numbers family value len low high) (Text q) spelt y)
same_bits_fault form parted t HostBits (Range q) (family, value, len, low, high, spelt, ne) y = absurd (no_fault form parted t (numbers family value len low high) (Range q) spelt y)
same_bits_fault form parted t (Text p) HostBits x (family, value, len, low, high, spelt, ne) = absurd (no_fault form parted t (numbers family value len low high) (Text p) spelt x)
same_bits_fault form parted t (Range p) HostBits x (family, value, len, low, high, spelt, ne) = absurd (no_fault form parted t (numbers family value len low high) (Range p) spelt x)

no_bits_fault : (form : Form) → Parted form → (t : List ℕ) (p : Prefix) (low high : ℕ) (fault : NumFault) → Spelt form (Ok (numbers p.family p.value p.len low high)) t → ¬ (BitsFault form t fault)
no_bits_fault form parted t p low high (Text q) spelt y = no_fault form parted t (numbers p.family p.value p.len low high) (Text q) spelt y
no_bits_fault form parted t p low high (Range q) spelt y = no_fault form parted t (numbers p.family p.value p.len low high) (Range q) spelt y
no_bits_fault form parted t p low high HostBits spelt (family, value, len, low', high', there, ne) =
    let same : ◌≡◌ {A = Said} (Ok (numbers p.family p.value p.len low high)) (Ok (numbers family value len low' high')) = same_said form parted t _ _ spelt there in
    let version : version_of p.family ≡ version_of family = cc in
    let fam : p.family ≡ family = same_family p.family family version in
    let val : p.value ≡ value = cc in
    let length : p.len ≡ len = cc in
    let bits : value % 2 ^ (bits_of family - len) ≡ p.value % 2 ^ (bits_of p.family - p.len) = cc in
    ne (bits ∙ p.no_host_bits)

abbrev prefix_with : (f : Family) (v l : ℕ) → l ≤ bits_of f → v < 2 ^ bits_of f → v % 2 ^ (bits_of f - l) ≡ 0 → Prefix
prefix_with f v l short fits none = record { family = f; value = v; len = l; short = short; fits = fits; no_host_bits = none }

prefix_at : (f : Family) (v l : ℕ) (s s' : l ≤ bits_of f) (x x' : v < 2 ^ bits_of f) (n n' : v % 2 ^ (bits_of f - l) ≡ 0) → prefix_with f v l s x n ≡ prefix_with f v l s' x' n'
prefix_at f v l s s' x x' n n' =
    ap (λ s. prefix_with f v l s x n) (le_prop s s')
    ∙ (ap (λ x. prefix_with f v l s' x n) (le_prop x x')
    ∙ ap (λ n. prefix_with f v l s' x' n) (ℕ_set (v % 2 ^ (bits_of f - l)) 0 n n'))

-- a prefix is its family, its number and its length
prefix_along : (f : Family) (v l : ℕ) (s : l ≤ bits_of f) (x : v < 2 ^ bits_of f) (n : v % 2 ^ (bits_of f - l) ≡ 0) (g : Family) → f ≡ g → (w : ℕ) → v ≡ w → (m : ℕ) → l ≡ m → (s' : m ≤ bits_of g) (x' : w < 2 ^ bits_of g) (n' : w % 2 ^ (bits_of g - m) ≡ 0) → prefix_with f v l s x n ≡ prefix_with g w m s' x' n'
prefix_along f v l s x n g e =
    subst (λ g. (w : ℕ) → v ≡ w → (m : ℕ) → l ≡ m → (s' : m ≤ bits_of g) (x' : w < 2 ^ bits_of g) (n' : w % 2 ^ (bits_of g - m) ≡ 0) → prefix_with f v l s x n ≡ prefix_with g w m s' x' n') e
    (λ w q. subst (λ w. (m : ℕ) → l ≡ m → (s' : m ≤ bits_of f) (x' : w < 2 ^ bits_of f) (n' : w % 2 ^ (bits_of f - m) ≡ 0) → prefix_with f v l s x n ≡ prefix_with f w m s' x' n') q
    (λ m r. subst (λ m. (s' : m ≤ bits_of f) (x' : v < 2 ^ bits_of f) (n' : v % 2 ^ (bits_of f - m) ≡ 0) → prefix_with f v l s x n ≡ prefix_with f v m s' x' n') r
    (λ s' x' n'. prefix_at f v l s s' x x' n n')))

pub prefix_same : (p q : Prefix) (low low' high high' : ℕ) → ◌≡◌ {A = Said} (Ok (numbers p.family p.value p.len low high)) (Ok (numbers q.family q.value q.len low' high')) → p ≡ q
prefix_same p q low low' high high' same =
    let version : version_of p.family ≡ version_of q.family = cc in
    let value : p.value ≡ q.value = cc in
    let len : p.len ≡ q.len = cc in
    prefix_along p.family p.value p.len p.short p.fits p.no_host_bits q.family (same_family p.family q.family version) q.value value q.len len q.short q.fits q.no_host_bits

prefix_fault : (t : List ℕ) (f : NumFault) → PrefixAnswer t (Err f) → BitsFault (address_form Length) t f
prefix_fault t (Text p) h = h
prefix_fault t (Range p) h = h
prefix_fault t HostBits h = h

pattern_fault : (t : List ℕ) (f : NumFault) → PatternAnswer t (Err f) → BitsFault (address_form Bounds) t f
pattern_fault t (Text p) h = h
pattern_fault t (Range p) h = h
pattern_fault t HostBits h = h

pub one_prefix : (t : List ℕ) (x y : Result Prefix NumFault) → PrefixAnswer t x → PrefixAnswer t y → x ≡ y
one_prefix t (Ok p) (Ok q) x y =
    ap Ok (prefix_same p q p.len q.len p.len q.len (same_said (address_form Length) (address_parted Length) t _ _ x y))
one_prefix t (Ok p) (Err f) x y = absurd (no_bits_fault (address_form Length) (address_parted Length) t p p.len p.len f x (prefix_fault t f y))
one_prefix t (Err f) (Ok q) x y = absurd (no_bits_fault (address_form Length) (address_parted Length) t q q.len q.len f y (prefix_fault t f x))
one_prefix t (Err f) (Err g) x y = ap Err (same_bits_fault (address_form Length) (address_parted Length) t f g (prefix_fault t f x) (prefix_fault t g y))

abbrev pattern_with : Prefix → ℕ → ℕ → Pattern
pattern_with prefix low high = record { prefix = prefix; low = low; high = high }

pattern_same : (p q : Pattern) → ◌≡◌ {A = Said} (Ok (numbers p.prefix.family p.prefix.value p.prefix.len p.low p.high)) (Ok (numbers q.prefix.family q.prefix.value q.prefix.len q.low q.high)) → p ≡ q
pattern_same p q same =
    let low : p.low ≡ q.low = cc in
    let high : p.high ≡ q.high = cc in
    ap (λ x. pattern_with x p.low p.high) (prefix_same p.prefix q.prefix p.low q.low p.high q.high same)
    ∙ (ap (λ x. pattern_with q.prefix x p.high) low ∙ ap (λ x. pattern_with q.prefix q.low x) high)

pub one_pattern : (t : List ℕ) (x y : Result Pattern NumFault) → PatternAnswer t x → PatternAnswer t y → x ≡ y
one_pattern t (Ok p) (Ok q) x y = ap Ok (pattern_same p q (same_said (address_form Bounds) (address_parted Bounds) t _ _ x y))
one_pattern t (Ok p) (Err f) x y = absurd (no_bits_fault (address_form Bounds) (address_parted Bounds) t p.prefix p.low p.high f x (pattern_fault t f y))
one_pattern t (Err f) (Ok q) x y = absurd (no_bits_fault (address_form Bounds) (address_parted Bounds) t q.prefix q.low q.high f y (pattern_fault t f x))
one_pattern t (Err f) (Err g) x y = ap Err (same_bits_fault (address_form Bounds) (address_parted Bounds) t f g (pattern_fault t f x) (pattern_fault t g y))
