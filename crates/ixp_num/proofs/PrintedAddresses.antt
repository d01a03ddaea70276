-- A printed address is of the form of addresses, and says its number.
use Rattle.std.proofs.Common.{◌≡◌, ℕ, zero, suc, ◌+◌, ◌*◌, ◌<◌, ◌≤◌, ◌/◌, ◌%◌, ◌^◌, inl, inr, List, [], ◌∷◌, ◌++◌, get_or, decimal, Ok, refl, sym, ap, ◌∙◌, subst, arith, append_assoc, append-nil, lit<, ◌&&◌, ◌==◌}
use Rattle.std.proofs.lemmas.Bool.{cases_Bool, cond-true, cond-false, and_parts, eqb-true}
use Rattle.std.specs.Net.Text.{hex_groups_text}
use Rattle.std.specs.Net.Grammar.{IsColonHex}
use Rattle.std.proofs.NetLemmas.Texts.{AllSegments, IsColonHex-hex_groups_text}
use Rattle.ixp_num.specs.declared.family.Family.{Family}
use Rattle.ixp_num.specs.declared.family.Family.TheVariants.{V4, V6}
use Rattle.ixp_num.specs.declared.addr.Addr.{Addr}
use Rattle.ixp_num.specs.declared.prefix.Prefix.{Prefix}
use Rattle.ixp_num.specs.declared.pattern.Pattern.{Pattern}
use Rattle.ixp_num.specs.declared.reading.Tail.{Tail}
use Rattle.ixp_num.specs.declared.reading.Tail.TheVariants.{Nothing, Length, Bounds}
use Rattle.ixp_num.specs.Families.{bits_of}
use Rattle.ixp_num.specs.Forms.{Form, End, Mark, Decimal, Either, Said, Spelt}
use Rattle.ixp_num.specs.AddressForms.{numbers, bounds_form, tail_form, form4, address_form, asn_form}
use Rattle.ixp_num.specs.Answers.{AddrAnswer, PrefixAnswer, PatternAnswer, AsnAnswer}
use Rattle.ixp_num.specs.Printing.{text4, groups_of, groups_value, value_text, addr_text, prefix_text, bounds_text, pattern_text}
use Rattle.ixp_num.proofs.PrintedTexts.{number_spelt, dotted_spelt}
use Rattle.ixp_num.proofs.ColonTexts.{colon_hex_spelt}

-- an address in print

octets_back : (v : ℕ) → v < 2 ^ 32 → 0 + (((v / 2 ^ 24 * 256 + v / 2 ^ 16 % 256) * 256 + v / 2 ^ 8 % 256) * 256 + v % 256) ≡ v
octets_back v fits = omega arith

groups_back : (v : ℕ) → v < 2 ^ 128 → groups_value 0 (groups_of v) ≡ v
groups_back v fits = omega arith

segments_cons : (x : ℕ) (xs : List ℕ) → x < 2 ^ 16 → AllSegments xs → AllSegments (x ∷ xs)
segments_cons x xs low all k = elim k as (λ j. get_or (x ∷ xs) j 0 < 2 ^ 16) [ zero ↦ low | suc j ↦ all j ]

segments_none : AllSegments []
segments_none k = lit< tt

groups_small : (v : ℕ) → v < 2 ^ 128 → AllSegments (groups_of v)
groups_small v fits =
    segments_cons (v / 2 ^ 112) ((v / 2 ^ 96 % 65536) ∷ (v / 2 ^ 80 % 65536) ∷ (v / 2 ^ 64 % 65536) ∷ (v / 2 ^ 48 % 65536) ∷ (v / 2 ^ 32 % 65536) ∷ (v / 2 ^ 16 % 65536) ∷ (v % 65536) ∷ []) (omega arith)
    (segments_cons (v / 2 ^ 96 % 65536) ((v / 2 ^ 80 % 65536) ∷ (v / 2 ^ 64 % 65536) ∷ (v / 2 ^ 48 % 65536) ∷ (v / 2 ^ 32 % 65536) ∷ (v / 2 ^ 16 % 65536) ∷ (v % 65536) ∷ []) (omega arith)
    (segments_cons (v / 2 ^ 80 % 65536) ((v / 2 ^ 64 % 65536) ∷ (v / 2 ^ 48 % 65536) ∷ (v / 2 ^ 32 % 65536) ∷ (v / 2 ^ 16 % 65536) ∷ (v % 65536) ∷ []) (omega arith)
    (segments_cons (v / 2 ^ 64 % 65536) ((v / 2 ^ 48 % 65536) ∷ (v / 2 ^ 32 % 65536) ∷ (v / 2 ^ 16 % 65536) ∷ (v % 65536) ∷ []) (omega arith)
    (segments_cons (v / 2 ^ 48 % 65536) ((v / 2 ^ 32 % 65536) ∷ (v / 2 ^ 16 % 65536) ∷ (v % 65536) ∷ []) (omega arith)
    (segments_cons (v / 2 ^ 32 % 65536) ((v / 2 ^ 16 % 65536) ∷ (v % 65536) ∷ []) (omega arith)
    (segments_cons (v / 2 ^ 16 % 65536) ((v % 65536) ∷ []) (omega arith)
    (segments_cons (v % 65536) ([]) (omega arith)
    segments_none)))))))

text4_right : (v : ℕ) (rest : List ℕ) → decimal (v / 2 ^ 24) ++ 46 ∷ (decimal (v / 2 ^ 16 % 256) ++ 46 ∷ (decimal (v / 2 ^ 8 % 256) ++ 46 ∷ (decimal (v % 256) ++ rest))) ≡ text4 v ++ rest
text4_right v rest = simp append_assoc

pub address_spelt : (family : Family) (v : ℕ) → v < 2 ^ bits_of family → (tail : Tail) (said : Said) (rest : List ℕ) → Spelt (tail_form tail family v) said rest → Spelt (address_form tail) said (value_text family v ++ rest)
address_spelt V4 v fits tail said rest spelt =
    inl (subst (Spelt (form4 tail) said) (text4_right v rest)
    (dotted_spelt 0 (v / 2 ^ 24) (v / 2 ^ 16 % 256) (v / 2 ^ 8 % 256) (v % 256) (tail_form tail V4) said rest (omega arith) (omega arith) (omega arith) (omega arith)
    (subst (λ n. Spelt (tail_form tail V4 n) said rest) (sym (octets_back v fits)) spelt)))
address_spelt V6 v fits tail said rest spelt =
    inr (colon_hex_spelt tail said rest (hex_groups_text (groups_of v)) (groups_of v) (IsColonHex-hex_groups_text (groups_of v) refl (groups_small v fits))
    (subst (λ n. Spelt (tail_form tail V6 n) said rest) (sym (groups_back v fits)) spelt))

pub addr_printed : (a : Addr) → AddrAnswer (addr_text a) (Ok a)
addr_printed a =
    let said : Said = Ok (numbers a.family a.value (bits_of a.family) (bits_of a.family) (bits_of a.family)) in
    subst (Spelt (address_form Nothing) said) (append-nil (addr_text a))
    (address_spelt a.family a.value a.fits Nothing said [] (refl, refl))

pub any_spelling : (t segments : List ℕ) (a : Addr) → IsColonHex t segments → a.family ≡ V6 → a.value ≡ groups_value 0 segments → AddrAnswer t (Ok a)
any_spelling t segments a text six value =
    let said : Said = Ok (numbers V6 (groups_value 0 segments) 128 128 128) in
    let spelt = colon_hex_spelt Nothing said [] t segments text (refl, refl) in
    let same : numbers V6 (groups_value 0 segments) 128 128 128 ≡ numbers a.family a.value (bits_of a.family) (bits_of a.family) (bits_of a.family) =
    ap (λ f. numbers f (groups_value 0 segments) (bits_of f) (bits_of f) (bits_of f)) (sym six) ∙ ap (λ v. numbers a.family v (bits_of a.family) (bits_of a.family) (bits_of a.family)) (sym value) in
    subst (λ ns. Spelt (address_form Nothing) (Ok ns) t) same (subst (Spelt (address_form Nothing) said) (append-nil t) (inr spelt))

bits_small : (family : Family) → bits_of family < 256
bits_small V4 = lit< tt
bits_small V6 = lit< tt

-- a length behind an address, and a text of what follows
len_spelt : (family : Family) (len : ℕ) → len ≤ bits_of family → (form : ℕ → Form) (said : Said) (rest : List ℕ) → Spelt (form len) said rest → Spelt (Mark 47 (Decimal (bits_of family) form)) said (47 ∷ (decimal len ++ rest))
len_spelt family len low form said rest spelt =
    let small = bits_small family in
    (decimal len ++ rest, refl, number_spelt (bits_of family) len form said rest low (omega arith) spelt)

pub prefix_printed : (p : Prefix) → PrefixAnswer (prefix_text p) (Ok p)
prefix_printed p =
    let said : Said = Ok (numbers p.family p.value p.len p.len p.len) in
    let short : p.len ≤ bits_of p.family = p.short in
    let tail = len_spelt p.family p.len short (λ len. End (numbers p.family p.value len len len)) said [] (refl, refl) in
    address_spelt p.family p.value p.fits Length said (47 ∷ decimal p.len)
    (subst (λ x. Spelt (tail_form Length p.family p.value) said (47 ∷ x)) (append-nil (decimal p.len)) tail)

-- `{low,high}`
braces_spelt : (form : ℕ → ℕ → Form) (low high : ℕ) (said : Said) → low < 256 → high < 256 → Spelt (form low high) said [] → Spelt (bounds_form form) said (123 ∷ (decimal low ++ 44 ∷ (decimal high ++ 125 ∷ [])))
braces_spelt form low high said small big spelt = (
  decimal low ++ 44 ∷ (decimal high ++ 125 ∷ []),
  refl,
  number_spelt 255 low (λ low. Mark 44 (Decimal 255 (λ high. Mark 125 (form low high)))) said (44 ∷ (decimal high ++ 125 ∷ [])) (omega arith) (omega arith) (
    decimal high ++ 125 ∷ [],
    refl,
    number_spelt 255 high (λ high. Mark 125 (form low high)) said (125 ∷ []) (omega arith) (omega arith)
        ([], refl, spelt),
  ),
)

pub bounds_printed : (p : Pattern) → p.low < 2 ^ 8 → p.high < 2 ^ 8 → PatternAnswer (bounds_text p) (Ok p)
bounds_printed p low high =
    let q = p.prefix in
    let short : p.prefix.len ≤ bits_of p.prefix.family = p.prefix.short in
    let said : Said = Ok (numbers p.prefix.family p.prefix.value p.prefix.len p.low p.high) in
    let behind : List ℕ = 123 ∷ (decimal p.low ++ 44 ∷ (decimal p.high ++ 125 ∷ [])) in
    let braces = braces_spelt (λ low high. End (numbers p.prefix.family p.prefix.value p.prefix.len low high)) p.low p.high said low high (refl, refl) in
    let tail = len_spelt p.prefix.family p.prefix.len short (λ len. Either (End (numbers p.prefix.family p.prefix.value len len len)) (bounds_form (λ low high. End (numbers p.prefix.family p.prefix.value len low high)))) said behind (inr braces) in
    let text : value_text p.prefix.family p.prefix.value ++ (47 ∷ (decimal p.prefix.len ++ behind)) ≡ bounds_text p = sym (append_assoc (value_text p.prefix.family p.prefix.value) (47 ∷ decimal p.prefix.len) behind) in
    subst (Spelt (address_form Bounds) said) text (address_spelt p.prefix.family p.prefix.value p.prefix.fits Bounds said (47 ∷ (decimal p.prefix.len ++ behind)) tail)

plain_printed : (p : Pattern) → p.low ≡ p.prefix.len → p.high ≡ p.prefix.len → PatternAnswer (prefix_text p.prefix) (Ok p)
plain_printed p low high =
    let short : p.prefix.len ≤ bits_of p.prefix.family = p.prefix.short in
    let said : Said = Ok (numbers p.prefix.family p.prefix.value p.prefix.len p.low p.high) in
    let same : said ≡ Ok (numbers p.prefix.family p.prefix.value p.prefix.len p.prefix.len p.prefix.len) = cc in
    let tail = len_spelt p.prefix.family p.prefix.len short (λ len. Either (End (numbers p.prefix.family p.prefix.value len len len)) (bounds_form (λ low high. End (numbers p.prefix.family p.prefix.value len low high)))) said [] (inl (refl, same)) in
    address_spelt p.prefix.family p.prefix.value p.prefix.fits Bounds said (47 ∷ decimal p.prefix.len)
    (subst (λ x. Spelt (tail_form Bounds p.prefix.family p.prefix.value) said (47 ∷ x)) (append-nil (decimal p.prefix.len)) tail)

pub pattern_printed : (p : Pattern) → p.low < 2 ^ 8 → p.high < 2 ^ 8 → PatternAnswer (pattern_text p) (Ok p)
pattern_printed p low high =
    elim (cases_Bool (p.low == p.prefix.len && p.high == p.prefix.len)) [
      | inl yes' ↦ (let parts = and_parts (p.low == p.prefix.len) (p.high == p.prefix.len) yes' in
          subst (λ t. PatternAnswer t (Ok p)) (sym (cond-true (p.low == p.prefix.len && p.high == p.prefix.len) (prefix_text p.prefix) (bounds_text p) yes'))
          (plain_printed p (eqb-true p.low p.prefix.len parts.0) (eqb-true p.high p.prefix.len parts.1)))
      | inr no' ↦ subst (λ t. PatternAnswer t (Ok p)) (sym (cond-false (p.low == p.prefix.len && p.high == p.prefix.len) (prefix_text p.prefix) (bounds_text p) no')) (bounds_printed p low high)
    ]

pub asn_printed : (n : ℕ) → n < 2 ^ 32 → AsnAnswer (decimal n) (Ok (record { 0 = n }))
asn_printed n fits =
    subst (Spelt asn_form (Ok (n ∷ []))) (append-nil (decimal n))
    (number_spelt 4294967295 n (λ n. End (n ∷ [])) (Ok (n ∷ [])) [] (omega arith) (omega arith) (refl, refl))
