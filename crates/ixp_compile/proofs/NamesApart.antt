-- Names of different interfaces are different.
use Rattle.std.proofs.Common.{◌≡◌, ℕ, ◌<◌, ◌^◌, Bool, true, false, ◌==◌, List, [], ◌∷◌, decimal, refl, sym, ap, ◌∙◌, true≢false, if◌then◌else◌}
use Rattle.std.proofs.lemmas.Bool.{eqb-true, eqb-false}
use Rattle.std.proofs.lemmas.Fmt.{decimal_injective}
use Rattle.ixp_lang.specs.Meaning.{same_name}
use Rattle.ixp_compile.specs.Pieces.{numbered}
use Rattle.ixp_compile.proofs.Communities.{eq_refl}
use Rattle.ixp_compile.proofs.Laying.{same_refl}

same_name_equal : (m n : List ℕ) → same_name m n ≡ true → m ≡ n
same_name_equal [] [] e = refl
same_name_equal [] (b ∷ n) e = absurd (true≢false (sym e))
same_name_equal (a ∷ m) [] e = absurd (true≢false (sym e))
same_name_equal (a ∷ m) (b ∷ n) e = go (a == b) refl (same_name_equal m n) where
  go : (c : Bool) → (a == b) ≡ c → (same_name m n ≡ true → m ≡ n) → a ∷ m ≡ b ∷ n
  go false f rest = absurd (true≢false (sym e ∙ ap (λ c. if c then same_name m n else false) f))
  go true f rest = λ i. eqb-true a b f i ∷ rest (ap (λ c. if c then same_name m n else false) (sym f) ∙ e) i

-- names of one kind go by their numbers
pub same_numbered : (word : List ℕ) (m n : ℕ) → m < 2 ^ 64 → n < 2 ^ 64 → same_name (numbered word m) (numbered word n) ≡ (m == n)
same_numbered [] m n p q = go (m == n) refl where
  other : (b : Bool) → same_name (decimal m) (decimal n) ≡ b → (m == n) ≡ false → b ≡ false
  other false e f = refl
  other true e f = absurd (eqb-false m n f (decimal_injective m n p q (same_name_equal (decimal m) (decimal n) e)))

  go : (b : Bool) → (m == n) ≡ b → same_name (decimal m) (decimal n) ≡ (m == n)
  go true e = ap (λ k. same_name (decimal m) (decimal k)) (sym (eqb-true m n e)) ∙ same_refl (decimal m) ∙ sym e
  go false e = other (same_name (decimal m) (decimal n)) refl e ∙ sym e
same_numbered (a ∷ word) m n p q = rw (eq_refl a) (same_numbered word m n p q)
