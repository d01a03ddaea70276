-- What a token that some text has says.
use Rattle.std.specs.Prelude.{◌≡◌, ℕ, ◌≤◌, ◌<◌, ◌^◌, true, List, [], ◌∷◌, length}
use Rattle.std.specs.List.{list_all}
use Rattle.ixp_lang_tokens.specs.declared.token.Kind.{Kind}
use Rattle.ixp_lang_tokens.specs.declared.token.Kind.TheVariants as kind
use Rattle.ixp_lang_tokens.specs.Bytes.{begins_with, is_letter, is_word_byte, is_text_byte}
use Rattle.ixp_lang_tokens.specs.Tokens.{word_kind}

-- A name has 1 to 64 letters, digits and `_`, begins with no digit and is no keyword; a number has 32 bits; a
-- string is printable, without quotes, and has 64 bytes at most.
abbrev pub IsWritten : Kind → Type 0
IsWritten (kind.Name n) = (begins_with is_letter n ≡ true) × (list_all is_word_byte n ≡ true)
    × (word_kind n ≡ kind.Name n)
IsWritten (kind.Number n) = n < 2 ^ 32
IsWritten (kind.Text said) = (list_all is_text_byte said ≡ true) × (length said ≤ 64)
IsWritten _ = Unit {0}

abbrev pub AreWritten : List Kind → Type 0
AreWritten [] = Unit {0}
AreWritten (token ∷ tokens) = IsWritten token × AreWritten tokens
