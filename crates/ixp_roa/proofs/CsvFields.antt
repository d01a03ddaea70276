-- Fields of ROAs in CSV.
use Rattle.std.proofs.Common.{◌≡◌, ℕ, ◌≤◌, ◌⊎◌, inl, inr, min, List, [], ◌∷◌, ◌++◌, length, Result, Ok, Err, refl, sym, ap, ◌∙◌, subst, arith, append-nil, nat_le, ◌&&◌, true, false, leb-true, le-leb}
use Rattle.std.proofs.lemmas.Bool.{and_parts, and_from, both_ways}
use Rattle.ixp_num.specs.declared.asn.Asn.{Asn}
use Rattle.ixp_num.specs.declared.family.Family.{Family}
use Rattle.ixp_num.specs.declared.family.Family.TheVariants.{V4, V6}
use Rattle.ixp_num.specs.declared.prefix.Prefix.{Prefix}
use Rattle.ixp_num.specs.declared.fault.NumFault.{NumFault}
use Rattle.ixp_num.specs.Families.{bits_of}
use Rattle.ixp_num.specs.Forms.{IsDigit, IsDecimal}
use Rattle.ixp_num.specs.Reading.{cap, number_at}
use Rattle.ixp_num.specs.Answers.{AsnAnswer, PrefixAnswer}
use Rattle.ixp_num.proofs.Digits.{Ends, Numbered, number_again, number_split, number_missing}
use Rattle.ixp_num.proofs.OneAnswer.{one_asn, one_prefix}
use Rattle.ixp_roa.specs.CsvRoas.{without_as, IsMaxField, SayRoa, IsLength}

pub no_asn : (t : List ℕ) (e : NumFault) → AsnAnswer t (Err e) → ¬ ((a : Asn) × AsnAnswer t (Ok a))
no_asn t e is (a, is_a) = let same : ◌≡◌ {A = Result Asn NumFault} (Err e) (Ok a) = one_asn t (Err e) (Ok a) is is_a in cc

pub no_prefix : (t : List ℕ) (e : NumFault) → PrefixAnswer t (Err e) → ¬ ((p : Prefix) × PrefixAnswer t (Ok p))
no_prefix t e is (p, is_p) = let same : ◌≡◌ {A = Result Prefix NumFault} (Err e) (Ok p) = one_prefix t (Err e) (Ok p) is is_p in cc

pub few_bits : (f : Family) → bits_of f ≤ 128
few_bits V4 = omega arith
few_bits V6 = omega arith

-- a max length's field

pub max_empty : (field : List ℕ) (net : Prefix) → field ≡ [] → (n : ℕ) × IsMaxField field net n × (net.len ≡ min 4294967296 n)
max_empty field net e =
    let few = few_bits net.family in
    let short = net.short in
    (net.len, subst (λ f. IsMaxField f net net.len) (sym e) refl, omega arith)

numbered_same : (m n : ℕ) (xs ys : List ℕ) → ◌≡◌ {A = Result (ℕ × List ℕ) ℕ} (Ok (m, xs)) (Ok (n, ys)) → (m ≡ n) × (xs ≡ ys)
numbered_same m n xs ys e =
    let same : ◌≡◌ {A = ℕ × List ℕ} (m, xs) (n, ys) = cc in
    (ap (λ (p : ℕ × List ℕ). p.0) same, ap (λ (p : ℕ × List ℕ). p.1) same)

max_numbered : (t : List ℕ) (m : ℕ) → Numbered t ⊎ Ends IsDigit t → number_at t ≡ Ok (m, []) → (n : ℕ) × IsDecimal t n × (m ≡ min 4294967296 n)
max_numbered t m (inl x) e =
    let there : ◌≡◌ {A = Result (ℕ × List ℕ) ℕ} (Ok (min cap x.n, x.rest)) (Ok (m, [])) = sym (ap number_at x.parts ∙ number_again x.front x.rest x.n x.spelt x.closed) ∙ e in
    let value : min cap x.n ≡ m = (numbered_same (min cap x.n) m x.rest [] there).0 in
    let none : x.rest ≡ [] = (numbered_same (min cap x.n) m x.rest [] there).1 in
    let whole : x.front ≡ t = sym (append-nil x.front) ∙ (ap (λ r. x.front ++ r) (sym none) ∙ sym x.parts) in
    (x.n, subst (λ f. IsDecimal f x.n) whole x.spelt, sym value)
max_numbered t m (inr ends) e = absurd (let there : ◌≡◌ {A = Result (ℕ × List ℕ) ℕ} (Err (length t)) (Ok (m, [])) = sym (number_missing t ends) ∙ e in let h : ⊥ = cc in h)

pub max_some : (field : List ℕ) (net : Prefix) (m : ℕ) → ¬ (field ≡ []) → number_at field ≡ Ok (m, []) → (n : ℕ) × IsMaxField field net n × (m ≡ min 4294967296 n)
max_some [] net m some e = absurd (some refl)
max_some (c ∷ cs) net m some e = max_numbered (c ∷ cs) m (number_split (c ∷ cs)) e

pub max_none : (field : List ℕ) (net : Prefix) → ¬ (field ≡ []) → ((m : ℕ) → ¬ (number_at field ≡ Ok (m, []))) → ¬ ((n : ℕ) × IsMaxField field net n)
max_none [] net some other (n, is) = some refl
max_none (c ∷ cs) net some other (n, is) = other (min cap n) (ap number_at (sym (append-nil (c ∷ cs))) ∙ number_again (c ∷ cs) [] n is (inr tt))

-- three fields

pub no_roa_asn : (asn net max : List ℕ) → ¬ ((a : Asn) × AsnAnswer (without_as asn) (Ok a)) → ¬ ((a : Asn) × (p : Prefix) × (n : ℕ) × SayRoa asn net max a p n)
no_roa_asn asn net max none (a, p, n, say) = none (a, say.0)

pub no_roa_net : (asn net max : List ℕ) → ¬ ((p : Prefix) × PrefixAnswer net (Ok p)) → ¬ ((a : Asn) × (p : Prefix) × (n : ℕ) × SayRoa asn net max a p n)
no_roa_net asn net max none (a, p, n, say) = none (p, say.1)

pub no_roa_max : (asn net max : List ℕ) (q : Prefix) → PrefixAnswer net (Ok q) → ¬ ((n : ℕ) × IsMaxField max q n) → ¬ ((a : Asn) × (p : Prefix) × (n : ℕ) × SayRoa asn net max a p n)
no_roa_max asn net max q is_q none (a, p, n, say) =
    let same : ◌≡◌ {A = Result Prefix NumFault} (Ok p) (Ok q) = one_prefix net (Ok p) (Ok q) say.1 is_q in
    let one : p ≡ q = cc in
    none (n, subst (λ p. IsMaxField max p n) one say.2)

pub length_capped : (p : Prefix) (m n : ℕ) → m ≡ min 4294967296 n → IsLength p m → n ≡ m
length_capped p m n e is = let few = few_bits p.family in let high = is.1 in omega arith

pub max_none_behind : (field : List ℕ) (net : Prefix) (m : ℕ) (rest : List ℕ) → ¬ (field ≡ []) → number_at field ≡ Ok (m, rest) → ¬ (rest ≡ []) → ¬ ((n : ℕ) × IsMaxField field net n)
max_none_behind field net m rest some e behind = max_none field net some (λ n other. behind (numbered_same m n rest [] (sym e ∙ other)).1)

pub max_none_there : (field : List ℕ) (net : Prefix) (left : ℕ) → ¬ (field ≡ []) → number_at field ≡ Err left → ¬ ((n : ℕ) × IsMaxField field net n)
max_none_there field net left some e = max_none field net some (λ n other. let there : ◌≡◌ {A = Result (ℕ × List ℕ) ℕ} (Err left) (Ok (n, [])) = sym e ∙ other in cc)

pub length_told : (p : Prefix) (m : ℕ) → (nat_le p.len m && nat_le m (bits_of p.family)) ≡ true → IsLength p m
length_told p m e = let both = and_parts (nat_le p.len m) (nat_le m (bits_of p.family)) e in (leb-true p.len m both.0, leb-true m (bits_of p.family) both.1)

pub length_denied : (p : Prefix) (m : ℕ) → (nat_le p.len m && nat_le m (bits_of p.family)) ≡ false → ¬ (IsLength p m)
length_denied p m e is = both_ways (nat_le p.len m && nat_le m (bits_of p.family)) e (and_from (nat_le p.len m) (nat_le m (bits_of p.family)) (le-leb p.len m is.0) (le-leb m (bits_of p.family) is.1))

pub not_length : (p : Prefix) (m n : ℕ) → m ≡ min 4294967296 n → ¬ (IsLength p m) → ¬ (IsLength p n)
not_length p m n e not is = let few = few_bits p.family in let high = is.1 in let same : n ≡ m = omega arith in not (subst (IsLength p) same is)
