use Rattle.std.proofs.Common.{rules, ◌≡◌, ℕ, List, [], ◌∷◌, decimal, Some, ap, sym, ◌∙◌, refl, arith}
use Rattle.std.proofs.lemmas.Fmt.{decimal_digit}
use Rattle.ixp_num.specs.AddressForms.{version_of}
use Rattle.ixp_num.specs.declared.family.Family.{Family}
use Rattle.ixp_num.specs.declared.family.Family.TheVariants.{V4, V6}
use Rattle.ixp_store_damage.proofs.lines.family_of.Goals as goal

abbrev first_of : List ℕ → ℕ
first_of [] = 0
first_of (c ∷ cs) = c

four : (text : List ℕ) (family : Family) → text ≡ 52 ∷ [] → text ≡ decimal (version_of family) → V4 ≡ family
four text V4 is e = refl
four text V6 is e = absurd (let bad : 52 ≡ 54 = ap first_of (sym is ∙ (e ∙ decimal_digit 6 (omega arith))) in omega (arith, bad))

six : (text : List ℕ) (family : Family) → text ≡ 54 ∷ [] → text ≡ decimal (version_of family) → V6 ≡ family
six text V6 is e = refl
six text V4 is e = absurd (let bad : 54 ≡ 52 = ap first_of (sym is ∙ (e ∙ decimal_digit 4 (omega arith))) in omega (arith, bad))

neither : {X : Type 0} (text : List ℕ) (family : Family) → (text ≡ 52 ∷ [] → ⊥) → (text ≡ 54 ∷ [] → ⊥) → text ≡ decimal (version_of family) → X
neither text V4 not_four not_six e = absurd (not_four (e ∙ decimal_digit 4 (omega arith)))
neither text V6 not_four not_six e = absurd (not_six (e ∙ decimal_digit 6 (omega arith)))

pub returns-then-eq : goal.returns-then-eq
returns-then-eq c = λ family e. let is : c.args.text.now ≡ 52 ∷ [] = search rules in ap Some (four c.args.text.now family is e)

pub returns-then-eq-2 : goal.returns-then-eq-2
returns-then-eq-2 c = λ family e. let is : c.args.text.now ≡ 54 ∷ [] = search rules in ap Some (six c.args.text.now family is e)

pub returns-else-eq-2 : goal.returns-else-eq-2
returns-else-eq-2 c = λ family e.
    let not_four : (c.args.text.now ≡ 52 ∷ [] → ⊥) = λ is. search rules in
    let not_six : (c.args.text.now ≡ 54 ∷ [] → ⊥) = λ is. search rules in
    neither c.args.text.now family not_four not_six e
