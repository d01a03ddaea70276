-- A reading, placed in its text, is an answer.
use Rattle.std.proofs.Common.{◌≡◌, ℕ, ◌-◌, List, [], ◌∷◌, length, Option, Some, None, Result, Ok, Err, IfOk, refl, sym, ap, ◌∙◌, subst, arith, min, nat_le, le-leb}
use Rattle.std.proofs.lemmas.Bool.{cond-true, cond-false, lt-leb}
use Rattle.ixp_num.specs.declared.addr.Addr.{Addr}
use Rattle.ixp_num.specs.declared.asn.Asn.{Asn}
use Rattle.ixp_num.specs.declared.prefix.Prefix.{Prefix}
use Rattle.ixp_num.specs.declared.pattern.Pattern.{Pattern}
use Rattle.ixp_num.specs.declared.fault.NumFault.{NumFault}
use Rattle.ixp_num.specs.declared.fault.NumFault.TheVariants.{Text, Range, HostBits}
use Rattle.ixp_num.specs.declared.reading.Reading.{Reading}
use Rattle.ixp_num.specs.declared.reading.Tail.TheVariants.{Nothing, Length, Bounds}
use Rattle.ixp_num.specs.Families.{bits_of}
use Rattle.ixp_num.specs.Forms.{Form, Said, bounded, Spelt}
use Rattle.ixp_num.specs.AddressForms.{numbers, address_form, asn_form}
use Rattle.ixp_num.specs.Answers.{FaultAnswer, AddrAnswer, PrefixAnswer, PatternAnswer, AsnAnswer}
use Rattle.ixp_num.specs.Reading.{read, Gives, said_with, said_of, IsWhole, placed, placed_reading, IsAddrOf, IsPrefixOf, IsPatternOf, IsAsnOf}
use Rattle.ixp_num.proofs.FormLaws.{Parted, read_sound}
use Rattle.ixp_num.proofs.PartedForms.{asn_parted}
use Rattle.ixp_num.proofs.Stops.{read_stops}

-- what is said by a placed reading
abbrev pub Placed : Form → List ℕ → Result Reading NumFault → Type 0
Placed form t (Ok r) = Spelt form (Ok (numbers r.family r.value r.len r.low r.high)) t
Placed form t (Err fault) = FaultAnswer form t fault

placed_at : (form : Form) (t : List ℕ) (r : Reading) (over : Option ℕ) → Spelt form (said_with (numbers r.family r.value r.len r.low r.high) over) t → Placed form t (placed_reading (length t) r over)
placed_at form t r None spelt = spelt
placed_at form t r (Some left) spelt = (left, spelt, refl)

pub placed_says : (form : Form) → Parted form → (t : List ℕ) (r : Result Reading ℕ) → Gives said_of r (read form t) → Placed form t (placed (length t) r)
placed_says form parted t (Ok r) gives = placed_at form t r r.over (read_sound form parted (said_of r) t gives)
placed_says form parted t (Err left) gives = read_stops form parted left t gives

-- a reading keeps its numbers when it is placed
placed_whole : (P : Reading → Type 0) (size : ℕ) (r : Reading) (over : Option ℕ) → P r → IfOk (placed_reading size r over) P
placed_whole P size r None p = p
placed_whole P size r (Some left) p = tt

pub whole_placed : (P : Reading → Type 0) (size : ℕ) (r : Result Reading ℕ) → IfOk r P → IfOk (placed size r) P
whole_placed P size (Ok r) p = placed_whole P size r r.over p
whole_placed P size (Err left) p = tt

fault_prefix : (t : List ℕ) (fault : NumFault) → FaultAnswer (address_form Length) t fault → PrefixAnswer t (Err fault)
fault_prefix t (Text place) h = h
fault_prefix t (Range place) h = h
fault_prefix t HostBits h = absurd h

fault_pattern : (t : List ℕ) (fault : NumFault) → FaultAnswer (address_form Bounds) t fault → PatternAnswer t (Err fault)
fault_pattern t (Text place) h = h
fault_pattern t (Range place) h = h
fault_pattern t HostBits h = absurd h

pub addr_answer : (t : List ℕ) (r : Result Reading NumFault) (result : Result Addr NumFault) → Placed (address_form Nothing) t r → IfOk r (IsWhole Nothing) → IsAddrOf r result → AddrAnswer t result
addr_answer t (Ok r) (Ok a) spelt whole is =
    let same : numbers r.family r.value r.len r.low r.high ≡ numbers a.family a.value (bits_of a.family) (bits_of a.family) (bits_of a.family) = cc (is.0, is.1, whole.0, whole.1, whole.2) in
    subst (λ ns. Spelt (address_form Nothing) (Ok ns) t) same spelt
addr_answer t (Ok r) (Err e) spelt whole is = absurd is
addr_answer t (Err f) result says whole is = subst (AddrAnswer t) (sym is) says

pub prefix_answer : (t : List ℕ) (r : Result Reading NumFault) (result : Result Prefix NumFault) → Placed (address_form Length) t r → IfOk r (IsWhole Length) → IsPrefixOf r result → PrefixAnswer t result
prefix_answer t (Ok r) (Ok p) spelt whole is =
    let same : numbers r.family r.value r.len r.low r.high ≡ numbers p.family p.value p.len p.len p.len = cc (is.0, is.1, is.2, whole.0, whole.1) in
    subst (λ ns. Spelt (address_form Length) (Ok ns) t) same spelt
prefix_answer t (Ok r) (Err e) spelt whole is = subst (λ f. PrefixAnswer t (Err f)) (sym is.0) (r.family, r.value, r.len, r.low, r.high, spelt, is.1)
prefix_answer t (Err f) result says whole is = subst (PrefixAnswer t) (sym is) (fault_prefix t f says)

pub pattern_answer : (t : List ℕ) (r : Result Reading NumFault) (result : Result Pattern NumFault) → Placed (address_form Bounds) t r → IsPatternOf r result → PatternAnswer t result
pattern_answer t (Ok r) (Ok p) spelt is =
    let same : numbers r.family r.value r.len r.low r.high ≡ numbers p.prefix.family p.prefix.value p.prefix.len p.low p.high = cc (is.0.0, is.0.1, is.0.2, is.1, is.2) in
    subst (λ ns. Spelt (address_form Bounds) (Ok ns) t) same spelt
pattern_answer t (Ok r) (Err e) spelt is = subst (λ f. PatternAnswer t (Err f)) (sym is.0) (r.family, r.value, r.len, r.low, r.high, spelt, is.1)
pattern_answer t (Err f) result says is = subst (PatternAnswer t) (sym is) (fault_pattern t f says)

-- what the number of an AS says
abbrev pub asn_said : ℕ → ℕ → Said
asn_said size n = bounded 4294967295 n size (Ok (min n 4294967295 ∷ []))

pub asn_answer : (t : List ℕ) (r : Result ℕ ℕ) (result : Result Asn NumFault) → Gives (asn_said (length t)) r (read asn_form t) → IsAsnOf (length t) r result → AsnAnswer t result
asn_answer t (Ok n) (Ok a) gives is =
    let low : min n 4294967295 ≡ n = (let le = is.0 in omega arith) in
    let same : asn_said (length t) n ≡ Ok (a.0 ∷ []) = cond-true (nat_le n 4294967295) _ _ (le-leb n 4294967295 is.0) ∙ (ap (λ m. Ok (m ∷ [])) low ∙ ap (λ m. Ok (m ∷ [])) (sym is.1)) in
    subst (λ s. Spelt asn_form s t) same (read_sound asn_form asn_parted (asn_said (length t) n) t gives)
asn_answer t (Ok n) (Err e) gives is =
    let same : asn_said (length t) n ≡ Err (length t) = cond-false (nat_le n 4294967295) _ _ (lt-leb n 4294967295 is.0) in
    let spelt = subst (λ s. Spelt asn_form s t) same (read_sound asn_form asn_parted (asn_said (length t) n) t gives) in
    let place : 0 ≡ length t - length t = omega arith in
    subst (λ f. AsnAnswer t (Err f)) (sym is.1) (length t, spelt, place)
asn_answer t (Err left) result gives is = subst (AsnAnswer t) (sym is) (read_stops asn_form asn_parted left t gives)
