-- The names of members and ports.
use Rattle.std.proofs.Common.{◌≡◌, ℕ, zero, suc, ◌<◌, ◌≤◌, true, nat_le, nat_lt, List, [], ◌∷◌, length, decimal, arith, le-leb, lit<}
use Rattle.std.specs.List.{list_all}
use Rattle.std.specs.Str.{IsAscii, is_utf8}
use Rattle.std.proofs.lemmas.Bool.{and_from, and_parts, ltb-true}
use Rattle.std.proofs.lemmas.Fmt.{IsAscii-decimal, length-decimal-le}
use Rattle.std.proofs.lemmas.Str.{IsUtf8-from_ascii, is_utf8-from_IsUtf8}
use Rattle.std.proofs.lemmas.Str.Ascii.{IsAscii-nil}
use Rattle.ixp_registry.specs.Alphabets.{is_label, is_note, has_length}
use Rattle.ixp_registry.specs.Widths.{AreBytes}
use Rattle.ixp_registry_demo.specs.Demo.{name}

ascii_more : (c : ℕ) (t : List ℕ) → c < 128 → IsAscii t → IsAscii (c ∷ t)
ascii_more c t small ascii zero = small
ascii_more c t small ascii (suc i) = ascii i

ascii_bytes : (t : List ℕ) → IsAscii t → AreBytes t
ascii_bytes [] ascii = tt
ascii_bytes (c ∷ t) ascii = let h : c < 128 = ascii 0 in (omega (arith, h), ascii_bytes t (λ i. ascii (suc i)))

name_ascii : (letter k : ℕ) → letter < 128 → k ≤ 4000 → IsAscii (name letter k)
name_ascii letter k small few = ascii_more letter (decimal k) small (IsAscii-decimal k (omega arith))

pub name_bytes : (letter k : ℕ) → letter < 128 → k ≤ 4000 → AreBytes (name letter k)
name_bytes letter k small few = ascii_bytes (name letter k) (name_ascii letter k small few)

pub name_label : (letter k : ℕ) → letter < 128 → k ≤ 4000 → is_label (name letter k) ≡ true
name_label letter k small few =
    let count : length (decimal k) ≤ 4 = length-decimal-le 4 k (lit< tt) (omega arith) (omega arith) in
    let t = name letter k in
    and_from (has_length 1 128 t) (is_utf8 t)
    (and_from (nat_le 1 (length t)) (nat_le (length t) 128) (le-leb 1 (length t) (omega arith)) (le-leb (length t) 128 (omega (arith, count))))
    (is_utf8-from_IsUtf8 t (IsUtf8-from_ascii t (name_ascii letter k small few)))

-- texts that stand in the definitions
ascii_text : (t : List ℕ) → list_all (λ c. nat_lt c 128) t ≡ true → IsAscii t
ascii_text [] small = IsAscii-nil
ascii_text (c ∷ t) small =
    let parts = and_parts (nat_lt c 128) (list_all (λ d. nat_lt d 128) t) small in
    ascii_more c t (ltb-true c 128 parts.0) (ascii_text t parts.1)

pub text_bytes : (t : List ℕ) → list_all (λ c. nat_lt c 128) t ≡ true → AreBytes t
text_bytes t small = ascii_bytes t (ascii_text t small)

pub text_utf8 : (t : List ℕ) → list_all (λ c. nat_lt c 128) t ≡ true → is_utf8 t ≡ true
text_utf8 t small = is_utf8-from_IsUtf8 t (IsUtf8-from_ascii t (ascii_text t small))

pub text_label : (t : List ℕ) → list_all (λ c. nat_lt c 128) t ≡ true → has_length 1 128 t ≡ true → is_label t ≡ true
text_label t small short = and_from (has_length 1 128 t) (is_utf8 t) short (text_utf8 t small)

pub text_note : (t : List ℕ) → list_all (λ c. nat_lt c 128) t ≡ true → has_length 0 128 t ≡ true → is_note t ≡ true
text_note t small short = and_from (has_length 0 128 t) (is_utf8 t) short (text_utf8 t small)
