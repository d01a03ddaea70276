-- What has to stand behind a token that is written, so that it is read again.
use Rattle.std.specs.Prelude.{◌≡◌, ℕ, Bool, false, List, [], ◌∷◌, None}
use Rattle.std.specs.Option.{is_some}
use Rattle.ixp_lang_tokens.specs.declared.runs.Class.TheVariants as class
use Rattle.ixp_lang_tokens.specs.declared.token.Mark.{Mark}
use Rattle.ixp_lang_tokens.specs.Tokens.{mark_text}
use Rattle.ixp_lang_tokens.specs.Cutting.{run_of, has_two_colons, behind_number, double_mark}

-- the hexadecimal digits, colons and dots at the front have fewer than two colons
abbrev pub FewColons : List ℕ → Type 0
FewColons rest = has_two_colons (run_of class.Address rest) ≡ false

-- no dot and digit are at the front
abbrev pub NoOctet : List ℕ → Type 0
NoOctet rest = behind_number 46 rest ≡ None

-- no slash and digit are at the front
abbrev pub NoLength : List ℕ → Type 0
NoLength rest = behind_number 47 rest ≡ None

-- the text of one byte is another mark with the byte at the front of the rest
abbrev pub joins_with : List ℕ → List ℕ → Bool
joins_with (b ∷ []) (c ∷ cs) = is_some (double_mark b c)
joins_with _ _ = false

abbrev pub joins : Mark → List ℕ → Bool
joins m rest = joins_with (mark_text m) rest
