-- The bytes of what is written as AS numbers and prefixes: none ends a line or begins a comment.
use Rattle.std.proofs.Common.{◌≡◌, ◌≢◌, ◌⊎◌, inl, inr, ℕ, zero, suc, ◌+◌, ◌<◌, ◌≤◌, ◌/◌, ◌%◌, ◌^◌, List, [], ◌∷◌, ◌++◌, get_or, decimal, arith, lit<}
use Rattle.std.specs.Net.Text.{hex_groups_text}
use Rattle.std.specs.Int.{IsInRange}
use Rattle.std.specs.List.{AllByRecursion}
use Rattle.std.proofs.lemmas.List.Elements.{recursion_from_All}
use Rattle.std.proofs.NetLemmas.Alphabet.{IsHexOrColon, All-hex_groups_text}
use Rattle.std.proofs.NetLemmas.Texts.{AllSegments}
use Rattle.ixp_num.specs.declared.asn.Asn.{Asn}
use Rattle.ixp_num.specs.declared.family.Family.{Family}
use Rattle.ixp_num.specs.declared.family.Family.TheVariants.{V4, V6}
use Rattle.ixp_num.specs.declared.prefix.Prefix.{Prefix}
use Rattle.ixp_num.specs.Families.{bits_of}
use Rattle.ixp_num.specs.Forms.{IsDigit, IsDecimal}
use Rattle.ixp_num.specs.Printing.{text4, groups_of, value_text, prefix_text}
use Rattle.ixp_num.proofs.NoBlanks.{all_join}
use Rattle.ixp_num.proofs.PrintedTexts.{decimal_spelt}
use Rattle.ixp_rpsl_text.specs.Texts.{asn_line}

abbrev pub IsHigh : ℕ → Type 0
IsHigh c = 43 < c

all_as : (P Q : ℕ → Type 0) (t : List ℕ) → ((c : ℕ) → P c → Q c) → AllByRecursion P t → AllByRecursion Q t
all_as P Q [] f all = tt
all_as P Q (c ∷ cs) f all = (f c all.0, all_as P Q cs f all.1)

digit_high : (c : ℕ) → IsDigit c → IsHigh c
digit_high c digit = let low = digit.0 in omega arith

decimal_high : (ds : List ℕ) (n : ℕ) → IsDecimal ds n → AllByRecursion IsHigh ds
decimal_high [] n is = absurd is
decimal_high (d ∷ ds) n (digit, alone, digits, value) = (digit_high d digit, all_as IsDigit IsHigh ds digit_high digits)

number_high : (n : ℕ) → n < 2 ^ 64 → AllByRecursion IsHigh (decimal n)
number_high n fits = decimal_high (decimal n) n (decimal_spelt n fits)

pub asn_high : (a : Asn) → a.0 < 2 ^ 32 → AllByRecursion IsHigh (asn_line a)
asn_high a fits = (omega arith, (omega arith, number_high a.0 (omega arith)))

-- a text, a byte and a text behind it
mark_high : (xs : List ℕ) (c : ℕ) (ys : List ℕ) → AllByRecursion IsHigh xs → IsHigh c → AllByRecursion IsHigh ys → AllByRecursion IsHigh (xs ++ c ∷ ys)
mark_high xs c ys here is there = all_join IsHigh xs (c ∷ ys) here (is, there)

colon_high : (c : ℕ) → IsHexOrColon c → IsHigh c
colon_high c (inl is) = let low = is.0 in omega arith
colon_high c (inr is) = let low = is.0 in omega arith

segments_cons : (x : ℕ) (xs : List ℕ) → x < 2 ^ 16 → AllSegments xs → AllSegments (x ∷ xs)
segments_cons x xs low all k = elim k as (λ j. get_or (x ∷ xs) j 0 < 2 ^ 16) [ zero ↦ low | suc j ↦ all j ]

segments_none : AllSegments []
segments_none k = lit< tt

segments : (xs : List ℕ) → AllByRecursion (λ x. x < 2 ^ 16) xs → AllSegments xs
segments [] all = segments_none
segments (x ∷ xs) all = segments_cons x xs all.0 (segments xs all.1)

groups_fit : (v : ℕ) → v < 2 ^ 128 → AllByRecursion (λ x. x < 2 ^ 16) (groups_of v)
groups_fit v fits = (omega arith, (omega arith, (omega arith, (omega arith, (omega arith, (omega arith, (omega arith, (omega arith, tt))))))))

value_high : (family : Family) (v : ℕ) → v < 2 ^ bits_of family → AllByRecursion IsHigh (value_text family v)
value_high V4 v fits =
    mark_high (decimal (v / 2 ^ 24)) 46 _ (number_high (v / 2 ^ 24) (omega arith)) (omega arith)
    (mark_high (decimal (v / 2 ^ 16 % 256)) 46 _ (number_high (v / 2 ^ 16 % 256) (omega arith)) (omega arith)
    (mark_high (decimal (v / 2 ^ 8 % 256)) 46 _ (number_high (v / 2 ^ 8 % 256) (omega arith)) (omega arith) (number_high (v % 256) (omega arith))))
value_high V6 v fits =
    all_as IsHexOrColon IsHigh (hex_groups_text (groups_of v)) colon_high (recursion_from_All IsHexOrColon (hex_groups_text (groups_of v)) (All-hex_groups_text (groups_of v) (segments (groups_of v) (groups_fit v fits))))

bits_small : (family : Family) → bits_of family < 256
bits_small V4 = lit< tt
bits_small V6 = lit< tt

pub prefix_high : (p : Prefix) → AllByRecursion IsHigh (prefix_text p)
prefix_high p =
    let short : p.len ≤ bits_of p.family = p.short in
    let small = bits_small p.family in
    mark_high (value_text p.family p.value) 47 (decimal p.len) (value_high p.family p.value p.fits) (omega arith) (number_high p.len (omega arith))
