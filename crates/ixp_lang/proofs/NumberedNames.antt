-- A word and a number make a name.
use Rattle.std.proofs.Common.{◌≡◌, ℕ, ◌<◌, ◌≤◌, ◌^◌, ◌&&◌, ◌||◌, ◌==◌, Bool, true, false, nat_le, List, [], ◌∷◌, ◌++◌, length, length-append, decimal, refl, ◌∙◌, arith, rules, IsTrue, leb-true, le-leb, lit<}
use Rattle.std.specs.List.{list_all, AllByRecursion}
use Rattle.std.proofs.lemmas.List.Folds.{list_all-append}
use Rattle.std.proofs.lemmas.Bool.{and_parts, and_from}
use Rattle.std.proofs.lemmas.Fmt.{digits_decimal, length-decimal-le}
use Rattle.std.proofs.lemmas.Str.Parse.{IsNumeralModel, numerals_by_fold}
use Rattle.ixp_num.specs.Names.{is_name, is_name_byte, is_within}
use Rattle.ixp_num.specs.Forms.{IsDigit, value_after}

own : IsNumeralModel (AllByRecursion IsDigit) (value_after 0)
own = numerals_by_fold _ (search rules) value_after (search rules)

third : (a b c d e f : Bool) → c ≡ true → (a || b || c || d || e || f) ≡ true
third true b c d e f h = refl
third false true c d e f h = refl
third false false true d e f h = refl
third false false false d e f h = cc

digit_byte : (d : ℕ) → IsDigit d → is_name_byte d ≡ true
digit_byte d h =
    third (is_within 97 122 d) (is_within 65 90 d) (is_within 48 57 d) (d == 95) (d == 45) (d == 58)
    (and_from (nat_le 48 d) (nat_le d 57) (le-leb 48 d h.0) (le-leb d 57 h.1))

digit_bytes : (ds : List ℕ) → AllByRecursion IsDigit ds → list_all is_name_byte ds ≡ true
digit_bytes [] h = refl
digit_bytes (d ∷ ds) h = and_from (is_name_byte d) (list_all is_name_byte ds) (digit_byte d h.0) (digit_bytes ds h.1)

pub numbered_is_name : (word : List ℕ) (n : ℕ) → IsTrue (is_name word) → length word ≤ 54 → n < 2 ^ 32 → IsTrue (is_name (word ++ decimal n))
numbered_is_name word n lawful short fits =
    let wide : n < 2 ^ 64 = omega arith in
    let parts = and_parts (nat_le 1 (length word) && nat_le (length word) 64) (list_all is_name_byte word) lawful in
    let lengths = and_parts (nat_le 1 (length word)) (nat_le (length word) 64) parts.0 in
    let digits = digit_bytes (decimal n) (digits_decimal own n wide) in
    let count : length (decimal n) ≤ 10 = length-decimal-le 10 n (lit< tt) (omega arith) wide in
    let some : 1 ≤ length (word ++ decimal n) = omega (arith, length-append word (decimal n), leb-true 1 (length word) lengths.0) in
    let few : length (word ++ decimal n) ≤ 64 = omega (arith, length-append word (decimal n)) in
    and_from (nat_le 1 (length (word ++ decimal n)) && nat_le (length (word ++ decimal n)) 64) (list_all is_name_byte (word ++ decimal n))
    (and_from (nat_le 1 (length (word ++ decimal n))) (nat_le (length (word ++ decimal n)) 64)
    (le-leb 1 (length (word ++ decimal n)) some) (le-leb (length (word ++ decimal n)) 64 few))
    (list_all-append is_name_byte word (decimal n) ∙ and_from (list_all is_name_byte word) (list_all is_name_byte (decimal n)) parts.1 digits)
