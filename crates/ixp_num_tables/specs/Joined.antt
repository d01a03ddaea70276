-- Lists in texts.
use Rattle.std.specs.Prelude.{ℕ, List, [], ◌∷◌, ◌++◌}

-- the items' texts, each after the text `between`
abbrev pub more_joined : {A : Type 0} → List ℕ → (A → List ℕ) → List A → List ℕ
more_joined between text [] = []
more_joined between text (x ∷ xs) = between ++ text x ++ more_joined between text xs

-- the items' texts in order, with the text `between` any two
abbrev pub joined : {A : Type 0} → List ℕ → (A → List ℕ) → List A → List ℕ
joined between text [] = []
joined between text (x ∷ xs) = text x ++ more_joined between text xs
