-- Names compared byte by byte.
use Rattle.std.specs.Prelude.{◌≡◌, ℕ, Bool, true, false, ◌&&◌, ◌==◌, List, [], ◌∷◌, if◌then◌else◌, refl}
use Rattle.std.proofs.Common.{◌∙◌, ap}
use lib.Pointwise.{pointwise}
use Rattle.ixp_lang.specs.Meaning.{same_name}

and_if : (a b : Bool) → (a && b) ≡ (if a then b else false)
and_if true b = refl
and_if false b = refl

-- `==` of two lists of bytes is equality of names
pub same_bytes : (m n : List ℕ) → pointwise (λ a b. a == b) m n ≡ same_name m n
same_bytes [] [] = refl
same_bytes [] (b ∷ n) = refl
same_bytes (a ∷ m) [] = refl
same_bytes (a ∷ m) (b ∷ n) = and_if (a == b) (pointwise (λ a b. a == b) m n) ∙ ap (λ x. if a == b then x else false) (same_bytes m n)
