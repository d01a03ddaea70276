-- A key's text tells its fields, and what a store names by it.
use Rattle.std.proofs.Common.{◌≡◌, ℕ, ◌<◌, ◌≤◌, ◌^◌, Bool, true, false, ◌&&◌, ◌||◌, ◌==◌, not, List, [], ◌∷◌, ◌++◌, append-nil, append_assoc, flat_map, codes, decimal, Option, None, Some, refl, sym, ap, ◌∙◌, subst, arith}
use Rattle.std.specs.List.{AllByRecursion, list_any, list_all}
use Rattle.std.proofs.lemmas.Bool.{eqb-true, and_from}
use Rattle.std.proofs.lemmas.Fmt.{decimal_injective}
use Rattle.ixp_num.specs.Forms.{IsDigit, IsDecimal}
use Rattle.ixp_num.proofs.PrintedTexts.{decimal_spelt}
use Rattle.ixp_num_tables.specs.Tables.{same}
use Rattle.ixp_num_tables.proofs.AllItems.{any_none}
use Rattle.ixp_registry.specs.declared.members.Owner.{Owner}
use Rattle.ixp_registry.specs.declared.members.Owner.TheVariants.{Staff, Member as Of}
use Rattle.ixp_registry.specs.Widths.{owner_number}
use Rattle.ixp_registry.specs.Words.{owner_numbers}
use Rattle.ixp_rows_lines.specs.Fields.{Field, Number, Word, field_text, is_break, Piece, ANumber, OneOf, AllFit}
use Rattle.ixp_rows_lines.specs.Lines.{owner_kinds, owner_word, spelled}
use Rattle.ixp_rows_lines.specs.Reading.{fields_at}
use Rattle.ixp_rows_lines.proofs.Again.{fields_again, same_refl}
use Rattle.ixp_rows_lines.proofs.Unbroken.{IsClear, NoBreak, Unbroken}
use Rattle.ixp_store_rows.specs.Names.{key_text, owner_fields}

-- the fields of a line are a blank, their text as a key, and the line's end
spelled_key : (d : Field) (ds : List Field) → spelled (d ∷ ds) ≡ 32 ∷ (key_text (d ∷ ds) ++ 10 ∷ [])
spelled_key d [] = ap (λ x. 32 ∷ (x ++ 10 ∷ [])) (append-nil (field_text d))
spelled_key d (e ∷ es) =
    ap (λ x. 32 ∷ x)
    (append_assoc (field_text d) (flat_map (λ field. 32 ∷ field_text field) (e ∷ es)) (10 ∷ [])
    ∙ (ap (λ x. field_text d ++ x) (spelled_key e es) ∙ sym (append_assoc (field_text d) (32 ∷ key_text (e ∷ es)) (10 ∷ []))))

abbrev fields_in : Option (List Field × List ℕ) → List Field
fields_in None = []
fields_in (Some x) = x.0

-- of fields of the same kinds, those with the same text are the same
pub key_told : (form : List Piece) (ds es : List Field) → AllByRecursion IsClear form → AllFit form ds → AllFit form es → key_text ds ≡ key_text es → ds ≡ es
key_told [] [] [] clear a b e = refl
key_told [] [] (x ∷ xs) clear a b e = absurd b
key_told [] (d ∷ ds) es clear a b e = absurd a
key_told (p ∷ form) [] es clear a b e = absurd a
key_told (p ∷ form) (d ∷ ds) [] clear a b e = absurd b
key_told (p ∷ form) (d ∷ ds) (x ∷ xs) clear a b e =
    let text : spelled (d ∷ ds) ≡ spelled (x ∷ xs) = spelled_key d ds ∙ (ap (λ t. 32 ∷ (t ++ 10 ∷ [])) e ∙ sym (spelled_key x xs)) in
    sym (ap fields_in (fields_again (p ∷ form) (d ∷ ds) [] clear a))
    ∙ (ap (λ t. fields_in (fields_at (p ∷ form) (t ++ []))) text ∙ ap fields_in (fields_again (p ∷ form) (x ∷ xs) [] clear b))

-- Owners
abbrev owner_form : List Piece
owner_form = owner_kinds ∷ ANumber ∷ []

owner_fits : (o : Owner) → owner_number o < 2 ^ 32 → AllFit owner_form (owner_fields o)
owner_fits (Staff n) small = (refl, (small, tt))
owner_fits (Of n) small = (refl, (small, tt))

owner_told : (a b : Owner) → owner_fields a ≡ owner_fields b → owner_numbers a ≡ owner_numbers b
owner_told (Staff m) (Staff n) e = let is : m ≡ n = cc in ap (λ x. 0 ∷ x ∷ []) is
owner_told (Staff m) (Of n) e = absurd (let bad : ◌≡◌ {A = ℕ} 115 109 = cc in omega (arith, bad))
owner_told (Of m) (Staff n) e = absurd (let bad : ◌≡◌ {A = ℕ} 109 115 = cc in omega (arith, bad))
owner_told (Of m) (Of n) e = let is : m ≡ n = cc in ap (λ x. 1 ∷ x ∷ []) is

-- the text of an owner tells the owner
pub owner_text_told : (a b : Owner) → owner_number a < 2 ^ 32 → owner_number b < 2 ^ 32 → key_text (owner_fields a) ≡ key_text (owner_fields b) → owner_numbers a ≡ owner_numbers b
owner_text_told a b small fits e = owner_told a b (key_told owner_form (owner_fields a) (owner_fields b) (refl, (tt, tt)) (owner_fits a small) (owner_fits b fits) e)

-- Kept numbers
digit_unbroken : (c : ℕ) → IsDigit c → NoBreak c
digit_unbroken c digit = by_blank (c == 32) refl
  where
    by_end : (b : Bool) → (c == 10) ≡ b → b ≡ false
    by_end true e = absurd (let h = eqb-true c 10 e in let low = digit.0 in omega arith)
    by_end false e = refl

    by_blank : (b : Bool) → (c == 32) ≡ b → (b || c == 10) ≡ false
    by_blank true e = absurd (let h = eqb-true c 32 e in let low = digit.0 in omega arith)
    by_blank false e = by_end (c == 10) refl

digits_unbroken : (ds : List ℕ) → AllByRecursion IsDigit ds → Unbroken ds
digits_unbroken [] all = tt
digits_unbroken (d ∷ ds) all = (digit_unbroken d all.0, digits_unbroken ds all.1)

spelt_unbroken : (t : List ℕ) (n : ℕ) → IsDecimal t n → Unbroken t
spelt_unbroken [] n spelt = absurd spelt
spelt_unbroken (d ∷ ds) n spelt = (digit_unbroken d spelt.0, digits_unbroken ds spelt.2)

-- no blank stands in a decimal text
pub decimal_unbroken : (n : ℕ) → n < 2 ^ 64 → Unbroken (decimal n)
decimal_unbroken n fits = spelt_unbroken (decimal n) n (decimal_spelt n fits)

abbrev kept_fields : Owner → ℕ → List Field
kept_fields o n = Word (owner_word o) ∷ Number (owner_number o) ∷ Word (decimal n) ∷ []

kept_text : (o : Owner) (n : ℕ) → key_text (owner_fields o) ++ 32 ∷ decimal n ≡ key_text (kept_fields o n)
kept_text o n = append_assoc (owner_word o) (32 ∷ decimal (owner_number o)) (32 ∷ decimal n)

is_unbroken : (n : ℕ) → n < 2 ^ 64 → not (list_any is_break (decimal n)) ≡ true
is_unbroken n fits = ap not (any_none is_break (decimal n) (decimal_unbroken n fits))

either : (a b : Bool) → b ≡ true → (a || b) ≡ true
either true b e = refl
either false b e = e

abbrev kept_form : ℕ → ℕ → List Piece
kept_form m n = owner_kinds ∷ ANumber ∷ OneOf (decimal m ∷ decimal n ∷ []) ∷ []

kept_clear : (m n : ℕ) → m < 2 ^ 64 → n < 2 ^ 64 → AllByRecursion IsClear (kept_form m n)
kept_clear m n small fits = (refl, (tt, (rw (is_unbroken m small, is_unbroken n fits) refl, tt)))

kept_fits : (o : Owner) (k m n : ℕ) → owner_number o < 2 ^ 32 → list_any (same (decimal k)) (decimal m ∷ decimal n ∷ []) ≡ true → AllFit (kept_form m n) (kept_fields o k)
kept_fits (Staff x) k m n small is = (refl, (small, (is, tt)))
kept_fits (Of x) k m n small is = (refl, (small, (is, tt)))

-- the key of a kept number tells the owner and the number
pub kept_told : (a b : Owner) (m n : ℕ) → owner_number a < 2 ^ 32 → owner_number b < 2 ^ 32 → m < 2 ^ 64 → n < 2 ^ 64 → key_text (owner_fields a) ++ 32 ∷ decimal m ≡ key_text (owner_fields b) ++ 32 ∷ decimal n
    → (owner_numbers a ≡ owner_numbers b) × (m ≡ n)
kept_told a b m n small fits low high e =
    let first : list_any (same (decimal m)) (decimal m ∷ decimal n ∷ []) ≡ true = rw (same_refl (decimal m)) refl in
    let second : list_any (same (decimal n)) (decimal m ∷ decimal n ∷ []) ≡ true = either (same (decimal n) (decimal m)) _ (rw (same_refl (decimal n)) refl) in
    let told : kept_fields a m ≡ kept_fields b n =
    key_told (kept_form m n) (kept_fields a m) (kept_fields b n) (kept_clear m n low high) (kept_fits a m m n small first) (kept_fits b n m n fits second)
    (sym (kept_text a m) ∙ (e ∙ kept_text b n)) in
    let texts : decimal m ≡ decimal n = cc in
    let words : owner_word a ≡ owner_word b = cc in
    let numbers : owner_number a ≡ owner_number b = cc in
    (owner_told a b (λ i. Word (words i) ∷ Number (numbers i) ∷ []), decimal_injective m n low high texts)
