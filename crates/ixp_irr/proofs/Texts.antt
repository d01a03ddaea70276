-- What lines say, and what they don't.
use Rattle.std.proofs.Common.{◌≡◌, ℕ, inl, inr, List, [], ◌∷◌, ◌++◌, Result, Ok, Err, refl, sym, ap, ◌∙◌, subst, arith}
use Rattle.ixp_num.specs.declared.asn.Asn.{Asn}
use Rattle.ixp_num.specs.declared.pattern.Pattern.{Pattern}
use Rattle.ixp_num.specs.declared.prefix.Prefix.{Prefix}
use Rattle.ixp_num.specs.declared.fault.NumFault.{NumFault}
use Rattle.ixp_num.specs.Answers.{AsnAnswer, PatternAnswer, PrefixAnswer}
use Rattle.ixp_num.specs.AddressForms.{asn_form}
use Rattle.ixp_num.proofs.NoBlanks.{no_blank}
use Rattle.ixp_num.proofs.OneAnswer.{one_pattern, one_prefix}
use Rattle.ixp_irr.specs.Items.{IsAsnText, IsPatternText, IsPrefixText, IsRangeText}
use Rattle.ixp_irr.proofs.Parts.{HasNone}

pub no_prefix : (t : List ℕ) (e : NumFault) → PrefixAnswer t (Err e) → ¬ ((p : Prefix) × IsPrefixText t p)
no_prefix t e is (p, is_p) = let same : ◌≡◌ {A = Result Prefix NumFault} (Err e) (Ok p) = one_prefix t (Err e) (Ok p) is is_p in cc

pub no_pattern : (t : List ℕ) (e : NumFault) → PatternAnswer t (Err e) → ¬ ((p : Pattern) × IsPatternText t p)
no_pattern t e is (p, is_p) = let same : ◌≡◌ {A = Result Pattern NumFault} (Err e) (Ok p) = one_pattern t (Err e) (Ok p) is is_p in cc

plain_free : (t : List ℕ) (a : Asn) → AsnAnswer t (Ok a) → HasNone 32 t
plain_free t a is = no_blank asn_form (λ n. tt) (Ok (a.0 ∷ [])) t is

-- no text of an AS number has a blank
pub asn_free : (t : List ℕ) (a : Asn) → IsAsnText t a → HasNone 32 t
asn_free t a (inl is) = plain_free t a is
asn_free t a (inr (number, e, is)) = subst (HasNone 32) (sym e) ((λ x. omega arith), ((λ x. omega arith), plain_free number a is))

-- a text has one part before its first blank
one_front : (x y a b : List ℕ) → HasNone 32 x → HasNone 32 a → x ++ 32 ∷ y ≡ a ++ 32 ∷ b → (x ≡ a) × (y ≡ b)
one_front [] y [] b free other e = (refl, cc)
one_front [] y (c ∷ cs) b free other e = absurd (let same : 32 ≡ c = cc in other.0 (sym same))
one_front (c ∷ cs) y [] b free other e = absurd (let same : c ≡ 32 = cc in free.0 same)
one_front (c ∷ cs) y (d ∷ ds) b free other e =
    let same : c ≡ d = cc in
    let rest : cs ++ 32 ∷ y ≡ ds ++ 32 ∷ b = cc in
    let both = one_front cs y ds b free.1 other.1 rest in
    (ap (λ z. z ∷ cs) same ∙ ap (λ zs. d ∷ zs) both.0, both.1)

blank_there : (x y : List ℕ) → HasNone 32 (x ++ 32 ∷ y) → ⊥
blank_there [] y free = free.0 refl
blank_there (c ∷ cs) y free = blank_there cs y free.1

-- a text without a blank is no range
pub no_range : (t : List ℕ) → HasNone 32 t → ¬ ((r : Asn × Asn) × IsRangeText t r)
no_range t free (r, (first, last, e, one, other)) = blank_there first last (subst (HasNone 32) e free)

-- nor is one whose parts before and behind the first blank aren't AS numbers
pub parts_of_range : (t x y : List ℕ) → t ≡ x ++ 32 ∷ y → HasNone 32 x → (r : Asn × Asn) → IsRangeText t r → IsAsnText x r.0 × IsAsnText y r.1
parts_of_range t x y e free r (first, last, is, one, other) =
    let both = one_front first last x y (asn_free first r.0 one) free (sym is ∙ e) in
    (subst (λ s. IsAsnText s r.0) both.0 one, subst (λ s. IsAsnText s r.1) both.1 other)
