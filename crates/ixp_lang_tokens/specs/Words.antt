-- Which words are keywords.
use Rattle.std.specs.Prelude.{◌≡◌, ℕ, Bool, true, false, ◌||◌, List, Option, Some, None}
use Rattle.std.specs.List.{list_any}
use Rattle.ixp_lang_tokens.specs.Pieces.{same_word}
use Rattle.ixp_lang_tokens.specs.Vocabulary.{profile_words, foreign_words}

-- marked `unfoldable`, so that no caller's goal has all the words
unfoldable pub is_profile_word : List ℕ → Bool
is_profile_word word = list_any (same_word word) profile_words

unfoldable pub is_foreign_word : List ℕ → Bool
is_foreign_word word = list_any (same_word word) foreign_words

abbrev pub is_keyword : List ℕ → Bool
is_keyword word = is_profile_word word || is_foreign_word word

-- the keyword that the word is, if it is one
abbrev pub IsKeyword : List ℕ → Option (List ℕ) → Type 0
IsKeyword word (Some keyword) = (is_keyword word ≡ true) × (keyword ≡ word)
IsKeyword word None = is_keyword word ≡ false
