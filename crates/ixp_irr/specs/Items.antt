-- What a line of a list may say.
use Rattle.std.specs.Prelude.{◌≡◌, ◌≢◌, ◌⊎◌, ℕ, List, ◌∷◌, ◌++◌, Result, Ok, Err, codes}
use Rattle.ixp_num.specs.declared.asn.Asn.{Asn}
use Rattle.ixp_num.specs.declared.family.Family.{Family}
use Rattle.ixp_num.specs.declared.pattern.Pattern.{Pattern}
use Rattle.ixp_num.specs.declared.prefix.Prefix.{Prefix}
use Rattle.ixp_num.specs.Answers.{AsnAnswer, PatternAnswer, PrefixAnswer}
use Rattle.ixp_irr.specs.declared.fault.Misfit.{Misfit}
use Rattle.ixp_irr.specs.declared.fault.Misfit.TheVariants as misfit

-- a prefix
abbrev pub IsPrefixText : List ℕ → Prefix → Type 0
IsPrefixText t p = PrefixAnswer t (Ok p)

-- a pattern: a prefix, and bounds where it has some
abbrev pub IsPatternText : List ℕ → Pattern → Type 0
IsPatternText t p = PatternAnswer t (Ok p)

-- an AS number, before which `AS` may stand
abbrev pub IsAsnText : List ℕ → Asn → Type 0
IsAsnText t a = AsnAnswer t (Ok a)
    ⊎ ((number : List ℕ) × (t ≡ codes "AS" ++ number) × AsnAnswer number (Ok a))

-- the first and the last AS number of a range, with one blank between them
abbrev pub IsRangeText : List ℕ → Asn × Asn → Type 0
IsRangeText t r = (first last : List ℕ) × (t ≡ first ++ 32 ∷ last) × IsAsnText first r.0 × IsAsnText last r.1

-- a line is an item, or it isn't
abbrev pub Says : {A : Type 0} → (List ℕ → A → Type 0) → List ℕ → Result A Misfit → Type 0
Says {A} IsText line (Ok x) = IsText line x
Says {A} IsText line (Err misfit.Form) = ¬ ((x : A) × IsText line x)
Says {A} IsText line (Err misfit.Family) = ⊥

-- a line is a prefix of the family, or one of the other family, or no prefix
abbrev pub SaysPrefixOf : Family → List ℕ → Result Prefix Misfit → Type 0
SaysPrefixOf family line (Ok p) = IsPrefixText line p × (p.family ≡ family)
SaysPrefixOf family line (Err misfit.Form) = ¬ ((p : Prefix) × IsPrefixText line p)
SaysPrefixOf family line (Err misfit.Family) = (p : Prefix) × IsPrefixText line p × (p.family ≢ family)
