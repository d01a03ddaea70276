-- UTF-8 as a test.
use Rattle.std.proofs.Common.{◌≡◌, ℕ, List, Bool, true, false, refl}
use Rattle.std.specs.Str.{IsUtf8, is_utf8}
use Rattle.std.proofs.lemmas.Str.{IsUtf8-from_is_utf8, is_utf8-from_IsUtf8}

pub is_utf8_so : (bs : List ℕ) → IsUtf8 bs → is_utf8 bs ≡ true
is_utf8_so = is_utf8-from_IsUtf8

not_so : (bs : List ℕ) (b : Bool) → is_utf8 bs ≡ b → ¬ (IsUtf8 bs) → b ≡ false
not_so bs true e h = absurd (h (IsUtf8-from_is_utf8 bs e))
not_so bs false e h = refl

pub is_utf8_not : (bs : List ℕ) → ¬ (IsUtf8 bs) → is_utf8 bs ≡ false
is_utf8_not bs h = not_so bs (is_utf8 bs) refl h
