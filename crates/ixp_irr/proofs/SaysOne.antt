-- A line says one thing.
use Rattle.std.proofs.Common.{◌≡◌, ◌≢◌, ℕ, List, [], ◌∷◌, ◌++◌, inl, inr, Result, Ok, Err, codes, refl, sym, ap, ◌∙◌, subst, arith}
use Rattle.ixp_num.specs.declared.asn.Asn.{Asn}
use Rattle.ixp_num.specs.declared.family.Family.{Family}
use Rattle.ixp_num.specs.declared.fault.NumFault.{NumFault}
use Rattle.ixp_num.specs.declared.pattern.Pattern.{Pattern}
use Rattle.ixp_num.specs.declared.prefix.Prefix.{Prefix}
use Rattle.ixp_num.specs.Answers.{AsnAnswer}
use Rattle.ixp_num.proofs.OneAnswer as num
use Rattle.ixp_irr.specs.declared.fault.Misfit.{Misfit}
use Rattle.ixp_irr.specs.declared.fault.Misfit.TheVariants as misfit
use Rattle.ixp_irr.specs.Items.{IsAsnText, IsPatternText, IsPrefixText, IsRangeText, Says, SaysPrefixOf}
use Rattle.ixp_irr.proofs.Texts.{asn_free, parts_of_range}

prefix_text_one : (t : List ℕ) (p q : Prefix) → IsPrefixText t p → IsPrefixText t q → p ≡ q
prefix_text_one t p q a b = let same : ◌≡◌ {A = Result Prefix NumFault} (Ok p) (Ok q) = num.one_prefix t (Ok p) (Ok q) a b in cc

pub pattern_text_one : (t : List ℕ) (p q : Pattern) → IsPatternText t p → IsPatternText t q → p ≡ q
pattern_text_one t p q a b = let same : ◌≡◌ {A = Result Pattern NumFault} (Ok p) (Ok q) = num.one_pattern t (Ok p) (Ok q) a b in cc

plain_one : (t : List ℕ) (a b : Asn) → AsnAnswer t (Ok a) → AsnAnswer t (Ok b) → a ≡ b
plain_one t a b x y = let same : ◌≡◌ {A = Result Asn NumFault} (Ok a) (Ok b) = num.one_asn t (Ok a) (Ok b) x y in cc

-- no number begins with a letter
no_letter : (rest : List ℕ) (a : Asn) → AsnAnswer (65 ∷ rest) (Ok a) → ⊥
no_letter rest a ([], others, n, after, e, number, spelt, says) = number
no_letter rest a (d ∷ ds, others, n, after, e, number, spelt, says) = let same : 65 ≡ d = cc in let low = number.0 in omega arith

with_letters : (t number : List ℕ) (a : Asn) → t ≡ codes "AS" ++ number → AsnAnswer t (Ok a) → ⊥
with_letters t number a e is = no_letter (83 ∷ number) a (subst (λ x. AsnAnswer x (Ok a)) e is)

pub asn_text_one : (t : List ℕ) (a b : Asn) → IsAsnText t a → IsAsnText t b → a ≡ b
asn_text_one t a b (inl x) (inl y) = plain_one t a b x y
asn_text_one t a b (inl x) (inr (number, e, y)) = absurd (with_letters t number a e x)
asn_text_one t a b (inr (number, e, x)) (inl y) = absurd (with_letters t number b e y)
asn_text_one t a b (inr (m, e, x)) (inr (n, f, y)) =
    let both : codes "AS" ++ m ≡ codes "AS" ++ n = sym e ∙ f in
    let same : m ≡ n = cc in
    plain_one n a b (subst (λ z. AsnAnswer z (Ok a)) same x) y

pub range_text_one : (t : List ℕ) (r s : Asn × Asn) → IsRangeText t r → IsRangeText t s → r ≡ s
range_text_one t r s (first, last, e, one, other) is =
    let two = parts_of_range t first last e (asn_free first r.0 one) s is in
    let a : r.0 ≡ s.0 = asn_text_one first r.0 s.0 one two.0 in
    let b : r.1 ≡ s.1 = asn_text_one last r.1 s.1 other two.1 in
    ap (λ (x : Asn). let p : Asn × Asn = (x, r.1) in p) a ∙ ap (λ (x : Asn). let p : Asn × Asn = (s.0, x) in p) b

pub says_one : {A : Type 0} (IsText : List ℕ → A → Type 0) → ((t : List ℕ) (a b : A) → IsText t a → IsText t b → a ≡ b) → (line : List ℕ) (x y : Result A Misfit) → Says IsText line x → Says IsText line y → x ≡ y
says_one IsText text_one line (Ok a) (Ok b) x y = ap (λ z. Ok z) (text_one line a b x y)
says_one IsText text_one line (Ok a) (Err misfit.Form) x y = absurd (y (a, x))
says_one IsText text_one line (Ok a) (Err misfit.Family) x y = absurd y
says_one IsText text_one line (Err misfit.Form) (Ok b) x y = absurd (x (b, y))
says_one IsText text_one line (Err misfit.Form) (Err misfit.Form) x y = refl
says_one IsText text_one line (Err misfit.Form) (Err misfit.Family) x y = absurd y
says_one IsText text_one line (Err misfit.Family) y a b = absurd a

other_family : (family : Family) (t : List ℕ) (p : Prefix) → IsPrefixText t p → p.family ≡ family → (q : Prefix) × IsPrefixText t q × (q.family ≢ family) → ⊥
other_family family t p is same (q, there, apart) = apart (ap (λ (x : Prefix). x.family) (prefix_text_one t q p there is) ∙ same)

pub says_prefix_one : (family : Family) (line : List ℕ) (x y : Result Prefix Misfit) → SaysPrefixOf family line x → SaysPrefixOf family line y → x ≡ y
says_prefix_one family line (Ok p) (Ok q) x y = ap (λ z. Ok z) (prefix_text_one line p q x.0 y.0)
says_prefix_one family line (Ok p) (Err misfit.Form) x y = absurd (y (p, x.0))
says_prefix_one family line (Ok p) (Err misfit.Family) x y = absurd (other_family family line p x.0 x.1 y)
says_prefix_one family line (Err misfit.Form) (Ok q) x y = absurd (x (q, y.0))
says_prefix_one family line (Err misfit.Form) (Err misfit.Form) x y = refl
says_prefix_one family line (Err misfit.Form) (Err misfit.Family) x y = absurd (x (y.0, y.1))
says_prefix_one family line (Err misfit.Family) (Ok q) x y = absurd (other_family family line q y.0 y.1 x)
says_prefix_one family line (Err misfit.Family) (Err misfit.Form) x y = absurd (y (x.0, x.1))
says_prefix_one family line (Err misfit.Family) (Err misfit.Family) x y = refl
