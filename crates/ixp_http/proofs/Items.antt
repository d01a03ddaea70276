-- Items between commas.
use Rattle.std.proofs.Common.{◌≡◌, ℕ, ◌==◌, Bool, true, false, if◌then◌else◌, List, [], ◌∷◌, ◌++◌, refl, append_assoc}
use Rattle.ixp_http.specs.Fields.{longer_first, items}

-- bytes before the first item
abbrev pub after_first : List ℕ → List (List ℕ) → List (List ℕ)
after_first front [] = front ∷ []
after_first front (item ∷ rest) = (front ++ item) ∷ rest

-- a byte goes from the items to those bytes
pub after_first-longer : (front : List ℕ) (b : ℕ) (rest : List (List ℕ)) → after_first front (longer_first b rest) ≡ after_first (front ++ b ∷ []) rest
after_first-longer front b [] = refl
after_first-longer front b (item ∷ rest) = simp append_assoc

longer_nil : (b : ℕ) (rest : List (List ℕ)) → after_first [] (longer_first b rest) ≡ longer_first b rest
longer_nil b [] = refl
longer_nil b (item ∷ rest) = refl

-- no bytes
pub after_first-nil : (bytes : List ℕ) → after_first [] (items bytes) ≡ items bytes
after_first-nil [] = refl
after_first-nil (b ∷ bytes) = by_comma (b == 44) b (items bytes)
  where
    by_comma : (is : Bool) (b : ℕ) (rest : List (List ℕ)) → after_first [] (if is then [] ∷ rest else longer_first b rest) ≡ (if is then [] ∷ rest else longer_first b rest)
    by_comma true b rest = refl
    by_comma false b rest = longer_nil b rest
