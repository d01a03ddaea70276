-- No text of a field has a blank or a line's end.
use Rattle.std.proofs.Common.{◌≡◌, ◌≢◌, ℕ, zero, suc, ◌+◌, ◌-◌, ◌*◌, ◌<◌, ◌≤◌, ◌^◌, ◌⊎◌, Bool, true, false, cond, not, ◌&&◌, ◌||◌, nat_lt, nat_le, List, [], ◌∷◌, length, min, decimal, Ok, inl, inr, refl, sym, ap, ◌∙◌, subst, arith, lit<}
use Rattle.std.specs.Char.{digit_value}
use Rattle.std.specs.Str.Parse.{AllDigits}
use Rattle.std.specs.List.{AllByRecursion, list_any, list_all}
use Rattle.std.proofs.lemmas.Bool.{ltb-false, ne_eqb, or_parts, and_parts}
use Rattle.std.proofs.lemmas.List.Elements.{recursion_from_All}
use Rattle.ixp_num.specs.declared.family.Family.{Family}
use Rattle.ixp_num.specs.declared.family.Family.TheVariants.{V4, V6}
use Rattle.ixp_num.specs.declared.addr.Addr.{Addr}
use Rattle.ixp_num.specs.declared.prefix.Prefix.{Prefix}
use Rattle.ixp_num.specs.declared.pattern.Pattern.{Pattern}
use Rattle.ixp_num.specs.Families.{bits_of, IsPrefix}
use Rattle.ixp_num.specs.Names.{is_name_byte, is_name}
use Rattle.ixp_num.specs.Forms.{Form, End, Mark, Decimal, Hex, Either, IsDigit, IsDecimal, Said, Spelt}
use Rattle.ixp_num.specs.AddressForms.{numbers, bounds_form, dotted_form, behind_form, gap_form, colon_form, groups_form}
use Rattle.ixp_num.specs.TextForms.{addr_form, net_form, pattern_form}
use Rattle.ixp_num.specs.Printing.{value_text}
use Rattle.ixp_num.proofs.NoBlanks.{all_join}
use Rattle.ixp_num.proofs.PrintedTexts.{decimal_spelt}
use Rattle.ixp_num.proofs.PrintedAddresses.{addr_printed, prefix_printed, bounds_printed}
use Rattle.percent_encoding.specs.AsciiSet.{should_percent_encode}
use Rattle.percent_encoding.specs.Percent.{percent_encode}
use Rattle.percent_encoding.proofs.PercentLemmas.{IsEscapeByte, All-percent_encode}
use Rattle.ixp_num_tables.specs.Tables.{same}
use Rattle.ixp_rows_lines.specs.declared.free.TheConstants.{ESCAPED}
use Rattle.ixp_rows_lines.specs.Fields.{Field, Number, Octet, Word, Free, Secret, Handle, Address, Net, Bounds, field_text, or_dash, is_break, Piece, ANumber, AnOctet, OneOf, AFree, ASecret, AHandle, AnAddress, AnIdentifier, ANet, ABounds, Or, Fits}
use Rattle.ixp_rows_lines.proofs.Spelling.{same_is}

abbrev pub NoBreak : ℕ → Type 0
NoBreak c = is_break c ≡ false

abbrev pub Unbroken : List ℕ → Type 0
Unbroken t = AllByRecursion NoBreak t

no_break : (c : ℕ) → c ≢ 32 → c ≢ 10 → NoBreak c
no_break c blank end = rw (ne_eqb c 32 blank, ne_eqb c 10 end) refl

-- a byte of the text of a number, an address or a prefix: no break, dash or star
abbrev pub IsSolid : ℕ → Type 0
IsSolid c = (43 < c) × (c ≢ 45)

pub solid_unbroken : (t : List ℕ) → AllByRecursion IsSolid t → Unbroken t
solid_unbroken [] all = tt
solid_unbroken (c ∷ cs) all = (no_break c (λ e. let high = all.0.0 in omega arith) (λ e. let high = all.0.0 in omega arith), solid_unbroken cs all.1)

-- such a text is no dash and no star
pub solid_apart : (t : List ℕ) (c : ℕ) → AllByRecursion IsSolid t → ¬ (IsSolid c) → same t (c ∷ []) ≡ false
solid_apart t c all never = by_test (same t (c ∷ [])) refl
  where
    by_test : (b : Bool) → same t (c ∷ []) ≡ b → b ≡ false
    by_test true e = absurd (never (subst (AllByRecursion IsSolid) (same_is t (c ∷ []) e) all).0)
    by_test false e = refl

-- the marks of the form are such bytes
abbrev pub IsSolidForm : Form → Type 0
IsSolidForm (End ns) = Unit {0}
IsSolidForm (Mark b form) = IsSolid b × IsSolidForm form
IsSolidForm (Decimal bound form) = (n : ℕ) → IsSolidForm (form n)
IsSolidForm (Hex form) = (n : ℕ) → IsSolidForm (form n)
IsSolidForm (Either one other) = IsSolidForm one × IsSolidForm other

digits_solid : (ds : List ℕ) → AllByRecursion IsDigit ds → AllByRecursion IsSolid ds
digits_solid [] all = tt
digits_solid (d ∷ ds) all = ((omega (arith, all.0.0), (λ e. let digit = all.0 in omega arith)), digits_solid ds all.1)

decimal_solid : (ds : List ℕ) (n : ℕ) → IsDecimal ds n → AllByRecursion IsSolid ds
decimal_solid [] n spelt = absurd spelt
decimal_solid (d ∷ ds) n spelt = ((omega (arith, spelt.0.0), (λ e. let digit = spelt.0 in omega arith)), digits_solid ds spelt.2)

hex_high : (c : ℕ) → digit_value c < 16 → 48 ≤ c
hex_high c low = by_test (nat_lt c 48) _ refl low
  where
    by_test : (b : Bool) (x : ℕ) → nat_lt c 48 ≡ b → cond b 36 x < 16 → 48 ≤ c
    by_test true x e low = absurd (let h : 36 < 16 = low in omega arith)
    by_test false x e low = ltb-false c 48 e

group_solid : (ds : List ℕ) → AllDigits 16 ds → AllByRecursion IsSolid ds
group_solid [] all = tt
group_solid (d ∷ ds) all = let high = hex_high d all.0 in ((omega arith, (λ e. omega arith)), group_solid ds all.1)

pub spelt_solid : (form : Form) → IsSolidForm form → (said : Said) (t : List ℕ) → Spelt form said t → AllByRecursion IsSolid t
spelt_solid (End ns) marks said t (e, says) = subst (AllByRecursion IsSolid) (sym e) tt
spelt_solid (Mark b form) marks said t (rest, e, spelt) = subst (AllByRecursion IsSolid) (sym e) (marks.0, spelt_solid form marks.1 said rest spelt)
spelt_solid (Decimal bound form) marks said t (front, rest, n, after, e, number, spelt, says) =
    subst (AllByRecursion IsSolid) (sym e) (all_join IsSolid front rest (decimal_solid front n number) (spelt_solid (form (min n bound)) (marks (min n bound)) after rest spelt))
spelt_solid (Hex form) marks said t (front, rest, n, e, group, spelt) =
    subst (AllByRecursion IsSolid) (sym e) (all_join IsSolid front rest (group_solid front group.0.0.1) (spelt_solid (form n) (marks n) said rest spelt))
spelt_solid (Either one other) marks said t (inl spelt) = spelt_solid one marks.0 said t spelt
spelt_solid (Either one other) marks said t (inr spelt) = spelt_solid other marks.1 said t spelt

solid : (c : ℕ) → 45 < c → IsSolid c
solid c high = (omega arith, (λ e. omega arith))

dot : IsSolid 46
dot = solid 46 (lit< tt)

slash : IsSolid 47
slash = solid 47 (lit< tt)

colon : IsSolid 58
colon = solid 58 (lit< tt)

comma : IsSolid 44
comma = (lit< tt, (λ e. omega arith))

module _ (form : ℕ → Form) (marks : (n : ℕ) → IsSolidForm (form n)) where
  dotted_solid : (base : ℕ) → IsSolidForm (dotted_form base form)
  dotted_solid base = λ a. (dot, (λ b. (dot, (λ c. (dot, (λ d. marks (base + (((a * 256 + b) * 256 + c) * 256 + d))))))))

  behind_solid : (room base value : ℕ) → IsSolidForm (behind_form room form base value)
  behind_solid zero base value = λ group. marks (base + (value * 65536 + group))
  behind_solid (suc room) base value =
      (dotted_solid (base + value * 2 ^ 32), (λ group. (marks (base + (value * 65536 + group)), (colon, behind_solid room base (value * 65536 + group)))))

  gap_solid : (room base : ℕ) → IsSolidForm (gap_form room form base)
  gap_solid zero base = marks base
  gap_solid (suc room) base = (marks base, behind_solid room base 0)

  colon_solid : (room : ℕ) (next : ℕ → Form) (value : ℕ) → ((v : ℕ) → IsSolidForm (next v)) → IsSolidForm (colon_form room form next value)
  colon_solid room next value below =
      λ group. (colon, ((colon, gap_solid (room - 1) (value + group * 2 ^ (16 * room))), below (value + group * 2 ^ (16 * room))))

  groups_solid : (room value : ℕ) → IsSolidForm (groups_form room form value)
  groups_solid zero value = λ group. marks (value + group)
  groups_solid (suc zero) value = (dotted_solid value, colon_solid 1 (groups_form zero form) value (groups_solid zero))
  groups_solid (suc (suc room)) value = colon_solid (suc (suc room)) (groups_form (suc room) form) value (groups_solid (suc room))

-- what may follow the numbers of either family
module _ (form : Family → ℕ → Form) (marks : (family : Family) (n : ℕ) → IsSolidForm (form family n)) where
  abbrev both_forms : Form
  both_forms = Either (dotted_form 0 (form V4)) (Either (Mark 58 (Mark 58 (gap_form 7 (form V6) 0))) (groups_form 7 (form V6) 0))

  both_solid : IsSolidForm both_forms
  both_solid = (
    dotted_solid (form V4) (marks V4) 0,
    ((colon, (colon, gap_solid (form V6) (marks V6) 7 0)), groups_solid (form V6) (marks V6) 7 0),
  )

abbrev end_form : Family → ℕ → Form
end_form family value = End (numbers family value (bits_of family) (bits_of family) (bits_of family))

abbrev len_form : Family → ℕ → Form
len_form family value = Mark 47 (Decimal (bits_of family) (λ len. End (numbers family value len len len)))

abbrev braces_form : Family → ℕ → Form
braces_form family value =
    Mark 47 (Decimal (bits_of family) (λ len. Either (End (numbers family value len len len)) (bounds_form (λ low high. End (numbers family value len low high)))))

addr_solid : IsSolidForm addr_form
addr_solid = both_solid end_form (λ family n. tt)

net_solid : IsSolidForm net_form
net_solid = both_solid len_form (λ family n. (slash, (λ len. tt)))

pattern_solid : IsSolidForm pattern_form
pattern_solid =
    both_solid braces_form
    (λ family n. (slash, (λ len. (tt, (solid 123 (lit< tt), (λ low. (comma, (λ high. (solid 125 (lit< tt), tt)))))))))

pub number_text : (n : ℕ) → n < 2 ^ 32 → AllByRecursion IsSolid (decimal n)
number_text n fits = decimal_solid (decimal n) n (decimal_spelt n (omega arith))

pub address_text : (family : Family) (value : ℕ) → value < 2 ^ bits_of family → AllByRecursion IsSolid (field_text (Address family value))
address_text family value fits =
    let a : Addr = record { family = family; value = value; fits = fits } in
    spelt_solid addr_form addr_solid (Ok (numbers family value (bits_of family) (bits_of family) (bits_of family))) (value_text family value) (addr_printed a)

pub net_text : (family : Family) (value len : ℕ) → IsPrefix family value len → AllByRecursion IsSolid (field_text (Net family value len))
net_text family value len is =
    let p : Prefix = record { family = family; value = value; len = len; short = is.0; fits = is.1; no_host_bits = is.2 } in
    spelt_solid net_form net_solid (Ok (numbers family value len len len)) (field_text (Net family value len)) (prefix_printed p)

pub bounds_solid : (family : Family) (value len low high : ℕ) → Fits ABounds (Bounds family value len low high) → AllByRecursion IsSolid (field_text (Bounds family value len low high))
bounds_solid family value len low high (is, small, big) =
    let p : Prefix = record { family = family; value = value; len = len; short = is.0; fits = is.1; no_host_bits = is.2 } in
    let q : Pattern = record { prefix = p; low = low; high = high } in
    spelt_solid pattern_form pattern_solid (Ok (numbers family value len low high)) (field_text (Bounds family value len low high)) (bounds_printed q small big)

-- a free text's bytes are escaped where they part fields, or are a dash
abbrev pub IsLetter : ℕ → Type 0
IsLetter c = (c ≢ 32) × (c ≢ 10) × (c ≢ 45)

kept_apart : (b c : ℕ) → should_percent_encode ESCAPED c ≡ true → should_percent_encode ESCAPED b ≡ false → b ≢ c
kept_apart b c escaped kept e = absurd (let h : true ≡ false = sym escaped ∙ (ap (should_percent_encode ESCAPED) (sym e) ∙ kept) in cc)

kept_letter : (b : ℕ) → should_percent_encode ESCAPED b ≡ false → IsLetter b
unfolding should_percent_encode
kept_letter b kept = (kept_apart b 32 refl kept, kept_apart b 10 refl kept, kept_apart b 45 refl kept)

escape_letter : (b : ℕ) → IsEscapeByte b → IsLetter b
escape_letter b (inl e) = ((λ f. omega arith), (λ f. omega arith), (λ f. omega arith))
escape_letter b (inr (inl e)) = ((λ f. let h = e in omega arith), (λ f. let h = e in omega arith), (λ f. let h = e in omega arith))
escape_letter b (inr (inr e)) = ((λ f. let h = e in omega arith), (λ f. let h = e in omega arith), (λ f. let h = e in omega arith))

pub letters : (t : List ℕ) → AllByRecursion IsLetter (percent_encode ESCAPED t)
letters t = recursion_from_All IsLetter (percent_encode ESCAPED t) (All-percent_encode IsLetter ESCAPED t kept_letter escape_letter)

letters_unbroken : (t : List ℕ) → AllByRecursion IsLetter t → Unbroken t
letters_unbroken [] all = tt
letters_unbroken (c ∷ cs) all = (no_break c all.0.0 all.0.1, letters_unbroken cs all.1)

pub dashed_unbroken : (t : List ℕ) → Unbroken t → Unbroken (or_dash t)
dashed_unbroken [] all = (refl, tt)
dashed_unbroken (c ∷ cs) all = all

-- a text of a list of texts without breaks
abbrev pub is_unbroken : List ℕ → Bool
is_unbroken t = not (list_any is_break t)

pub unbroken_by_test : (t : List ℕ) (b : Bool) → list_any is_break t ≡ b → b ≢ true → Unbroken t
unbroken_by_test [] b e never = tt
unbroken_by_test (c ∷ cs) true e never = absurd (never refl)
unbroken_by_test (c ∷ cs) false e never = let parts = or_parts (is_break c) (list_any is_break cs) e in (parts.0, unbroken_by_test cs false parts.1 never)

unbroken_word : (t : List ℕ) (b : Bool) → list_any is_break t ≡ b → not b ≡ true → Unbroken t
unbroken_word t true e is = absurd cc
unbroken_word t false e is = unbroken_by_test t false e (λ f. absurd cc)

pub word_unbroken : (t : List ℕ) → is_unbroken t ≡ true → Unbroken t
word_unbroken t e = unbroken_word t (list_any is_break t) refl e

one_unbroken : (word : List ℕ) (words : List (List ℕ)) → list_any (same word) words ≡ true → list_all is_unbroken words ≡ true → Unbroken word
one_unbroken word [] is all = absurd cc
one_unbroken word (w ∷ ws) is all =
    by_test (same word w) refl is (λ more. one_unbroken word ws more (and_parts (is_unbroken w) (list_all is_unbroken ws) all).1)
  where
    by_test : (b : Bool) → same word w ≡ b → (b || list_any (same word) ws) ≡ true → (list_any (same word) ws ≡ true → Unbroken word) → Unbroken word
    by_test true e more again = subst Unbroken (sym (same_is word w e)) (word_unbroken w (and_parts (is_unbroken w) (list_all is_unbroken ws) all).0)
    by_test false e more again = again more

name_byte : (c : ℕ) → is_name_byte c ≡ true → NoBreak c
name_byte c e = no_break c (λ is. absurd (let h = subst (λ c. is_name_byte c ≡ true) is e in cc)) (λ is. absurd (let h = subst (λ c. is_name_byte c ≡ true) is e in cc))

name_bytes : (t : List ℕ) → list_all is_name_byte t ≡ true → Unbroken t
name_bytes [] e = tt
name_bytes (c ∷ cs) e = let parts = and_parts (is_name_byte c) (list_all is_name_byte cs) e in (name_byte c parts.0, name_bytes cs parts.1)

last_of_three : (a b c : Bool) → (a && b && c) ≡ true → c ≡ true
last_of_three true true c e = e
last_of_three true false c e = absurd cc
last_of_three false b c e = absurd cc

name_unbroken : (t : List ℕ) → is_name t ≡ true → Unbroken t
name_unbroken t e = name_bytes t (last_of_three (nat_le 1 (length t)) (nat_le (length t) 64) (list_all is_name_byte t) e)

-- the kind's words have no break, and its other fields aren't the word for none
abbrev pub IsClear : Piece → Type 0
IsClear (OneOf words) = list_all is_unbroken words ≡ true
IsClear (Or word piece) = (is_unbroken word ≡ true) × ((d : Field) → Fits piece d → same (field_text d) word ≡ false) × IsClear piece
IsClear piece = Unit {0}

-- a field of a kind with a word for none is the word, or of the kind
pub or_fits : (word : List ℕ) (piece : Piece) (d : Field) → Fits (Or word piece) d → (d ≡ Word word) ⊎ Fits piece d
or_fits word piece (Word w) (inl e) = inl (ap Word e)
or_fits word piece (Word w) (inr fits) = inr fits
or_fits word piece (Number n) fits = inr fits
or_fits word piece (Octet n) fits = inr fits
or_fits word piece (Free t) fits = inr fits
or_fits word piece (Secret t) fits = inr fits
or_fits word piece (Handle t) fits = inr fits
or_fits word piece (Address f v) fits = inr fits
or_fits word piece (Net f v l) fits = inr fits
or_fits word piece (Bounds f v l lo hi) fits = inr fits

-- the text of a field of a kind has no break
pub field_unbroken : (p : Piece) (d : Field) → IsClear p → Fits p d → Unbroken (field_text d)
field_unbroken ANumber (Number n) clear fits = solid_unbroken (decimal n) (number_text n fits)
field_unbroken ANumber d clear fits = absurd fits
field_unbroken AnOctet (Octet n) clear fits = solid_unbroken (decimal n) (number_text n (omega arith))
field_unbroken AnOctet d clear fits = absurd fits
field_unbroken (OneOf words) (Word w) clear fits = one_unbroken w words fits clear
field_unbroken (OneOf words) d clear fits = absurd fits
field_unbroken AFree (Free t) clear fits = dashed_unbroken (percent_encode ESCAPED t) (letters_unbroken (percent_encode ESCAPED t) (letters t))
field_unbroken AFree d clear fits = absurd fits
field_unbroken ASecret (Secret t) clear fits = dashed_unbroken t (unbroken_by_test t (list_any is_break t) refl fits.0)
field_unbroken ASecret d clear fits = absurd fits
field_unbroken AHandle (Handle t) clear fits = name_unbroken t fits
field_unbroken AHandle d clear fits = absurd fits
field_unbroken AnAddress (Address f v) clear fits = solid_unbroken (field_text (Address f v)) (address_text f v fits)
field_unbroken AnAddress d clear fits = absurd fits
field_unbroken AnIdentifier (Address V4 v) clear fits = solid_unbroken (field_text (Address V4 v)) (address_text V4 v fits)
field_unbroken AnIdentifier d clear fits = absurd fits
field_unbroken ANet (Net f v l) clear fits = solid_unbroken (field_text (Net f v l)) (net_text f v l fits)
field_unbroken ANet d clear fits = absurd fits
field_unbroken ABounds (Bounds f v l lo hi) clear fits = solid_unbroken (field_text (Bounds f v l lo hi)) (bounds_solid f v l lo hi fits)
field_unbroken ABounds d clear fits = absurd fits
field_unbroken (Or word piece) d clear fits = by_kind (or_fits word piece d fits) (field_unbroken piece d clear.2)
  where
    by_kind : (d ≡ Word word) ⊎ Fits piece d → (Fits piece d → Unbroken (field_text d)) → Unbroken (field_text d)
    by_kind (inl e) again = subst (λ x. Unbroken (field_text x)) (sym e) (word_unbroken word clear.0)
    by_kind (inr f) again = again f
