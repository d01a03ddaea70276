-- What parts tokens: blanks and comments (BIRD 2 User's Guide, "Configuration").
use Rattle.std.specs.Prelude.{◌≡◌, ◌⊎◌, ℕ, zero, suc, Bool, ◌||◌, ◌==◌, true, List, [], ◌∷◌, ◌++◌}
use Rattle.ixp_lang_tokens.specs.declared.runs.Class.TheVariants.{Line}
use Rattle.ixp_lang_tokens.specs.Bytes.{Run}

-- a blank, a tab, CR or LF
abbrev pub is_blank : ℕ → Bool
is_blank b = b == 32 || b == 9 || b == 13 || b == 10

-- the text has `*/` in it
abbrev pub HasEnd : List ℕ → Type 0
HasEnd text = (before behind : List ℕ) × (text ≡ before ++ (42 ∷ 47 ∷ behind))

-- One blank or one comment stands at the front of the text, and the rest is behind it. A comment goes from
-- `#` to the end of the line or of the text, or from `/*` to the first `*/` behind it; without that, `/*`
-- begins none.
abbrev pub Blank : List ℕ → List ℕ → Type 0
Blank text rest =
    ((b : ℕ) × (is_blank b ≡ true) × (text ≡ b ∷ rest))
    ⊎ ((behind line : List ℕ) × (text ≡ 35 ∷ behind) × Run Line behind line rest)
    ⊎ ((comment : List ℕ) × (text ≡ 47 ∷ 42 ∷ (comment ++ (42 ∷ 47 ∷ rest)))
    × ¬ (HasEnd (comment ++ (42 ∷ []))))

-- so many of them
abbrev pub Blanks : ℕ → List ℕ → List ℕ → Type 0
Blanks zero text rest = text ≡ rest
Blanks (suc n) text rest = (mid : List ℕ) × Blank text mid × Blanks n mid rest

-- blanks and comments, as many as there are
abbrev pub Gap : List ℕ → List ℕ → Type 0
Gap text rest = (n : ℕ) × Blanks n text rest × ((more : List ℕ) → ¬ (Blank rest more))
