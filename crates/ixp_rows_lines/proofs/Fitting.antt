-- What is read is of its kind.
use Rattle.std.proofs.Common.{◌≡◌, ℕ, suc, ◌+◌, ◌-◌, ◌<◌, ◌%◌, ◌^◌, Bool, true, false, cond, not, ◌&&◌, ◌==◌, nat_lt, nat_le, List, [], ◌∷◌, length, take, take_all, min, codes, Option, Some, None, Result, Ok, Err, inl, inr, refl, sym, ap, ◌∙◌, subst, arith, if◌then◌else◌}
use Rattle.std.specs.List.{AllByRecursion, position, position_or_len, list_any}
use Rattle.std.proofs.lemmas.Bool.{ltb-true, ltb-false, leb-true, eqb-true}
use Rattle.std.proofs.lemmas.List.Elements.{All-from_recursion, recursion_from_All}
use Rattle.ixp_num.specs.declared.family.Family.TheVariants.{V4, V6}
use Rattle.ixp_num.specs.Families.{bits_of, IsPrefix}
use Rattle.ixp_num.specs.Names.{is_name}
use Rattle.ixp_num.specs.Forms.{Said, Spelt}
use Rattle.ixp_num.specs.AddressForms.{asn_form}
use Rattle.ixp_num.specs.TextForms.{addr_form, net_form, pattern_form}
use Rattle.ixp_num.specs.Reading.{read}
use Rattle.ixp_num.proofs.FormLaws.{read_sound}
use Rattle.ixp_num.proofs.PartedForms.{asn_parted}
use Rattle.percent_encoding.specs.Percent.{percent_encode, percent_decode}
use Rattle.percent_encoding.specs.AsciiSet.{should_percent_encode}
use Rattle.percent_encoding.proofs.AsciiSetLemmas.{ascii_from_kept}
use Rattle.percent_encoding.proofs.PercentLemmas.{IsEscapeByte, All-percent_encode, All-percent_decode}
use Rattle.ixp_num_tables.specs.Tables.{same}
use Rattle.ixp_rows_lines.specs.declared.free.TheConstants.{ESCAPED}
use Rattle.ixp_rows_lines.specs.Fields.{Field, Number, Octet, Word, Free, Secret, Handle, Address, Net, Bounds, field_text, free_text, or_dash, is_break, Piece, ANumber, AnOctet, OneOf, AFree, ASecret, AHandle, AnAddress, AnIdentifier, ANet, ABounds, Or, Fits, AllFit}
use Rattle.ixp_registry.specs.Widths.{IsByte}
use Rattle.ixp_rows_lines.specs.Reading.{◌>>=◌, numbers_with, numbers_in, kept, number_with, octet_with, family_of, is_prefix, address_with, net_with, bounds_with, without_dash, secret_in, identifier_with, value_of, parted_at, field_at, end_at, piece_at, fields_at}
use Rattle.ixp_rows_lines.proofs.Spelling.{some_is, none_some, same_is, valued, added, ended}
use Rattle.ixp_rows_lines.proofs.Unbroken.{Unbroken}

number_bounded : (m n left : ℕ) (after : Said) (b : Bool) → nat_le m 4294967295 ≡ b → after ≡ Ok (min m 4294967295 ∷ [])
    → ◌≡◌ {A = Said} (Ok (n ∷ [])) (if b then after else Err left) → n < 2 ^ 32
number_bounded m n left after true low says e =
    let ns : ◌≡◌ {A = Said} (Ok (n ∷ [])) (Ok (min m 4294967295 ∷ [])) = e ∙ says in
    let same_number : n ≡ min m 4294967295 = cc in
    omega (arith, same_number)
number_bounded m n left after false high says e = absurd cc

number_small : (t : List ℕ) (n : ℕ) (r : Result Said ℕ) → read asn_form t ≡ r → numbers_with r ≡ n ∷ [] → n < 2 ^ 32
number_small t n (Ok (Ok ns)) e is = by_spelt (subst (λ ms. Spelt asn_form (Ok ms) t) is (read_sound asn_form asn_parted (Ok ns) t e))
  where
    by_spelt : Spelt asn_form (Ok (n ∷ [])) t → n < 2 ^ 32
    by_spelt (front, rest, m, after, parts, number, ends, said) = number_bounded m n (length t) after (nat_le m 4294967295) refl ends.1 said
number_small t n (Ok (Err left)) e is = absurd cc
number_small t n (Err left) e is = absurd cc

number_in : (t : List ℕ) (n : ℕ) → numbers_in asn_form t ≡ n ∷ [] → n < 2 ^ 32
unfolding numbers_in
number_in t n e = number_small t n (read asn_form t) refl e

number_fits : (t ns : List ℕ) → numbers_in asn_form t ≡ ns → (d : Field) → number_with ns ≡ Some d → Fits ANumber d
number_fits t [] e d is = absurd (none_some d is)
number_fits t (n ∷ []) e d is = subst (Fits ANumber) (some_is (Number n) d is) (number_in t n e)
number_fits t (n ∷ m ∷ ns) e d is = absurd (none_some d is)

octet_of : (x d : Field) → octet_with x ≡ Some d → Fits AnOctet d
octet_of (Number n) d e = by_test (nat_lt n 256) refl e
  where
    by_test : (b : Bool) → nat_lt n 256 ≡ b → (if b then Some (Octet n) else None) ≡ Some d → Fits AnOctet d
    by_test true low e = subst (Fits AnOctet) (some_is (Octet n) d e) (ltb-true n 256 low)
    by_test false high e = absurd (none_some d e)
octet_of (Octet n) d e = absurd (none_some d e)
octet_of (Word w) d e = absurd (none_some d e)
octet_of (Free w) d e = absurd (none_some d e)
octet_of (Secret w) d e = absurd (none_some d e)
octet_of (Handle w) d e = absurd (none_some d e)
octet_of (Address f v) d e = absurd (none_some d e)
octet_of (Net f v l) d e = absurd (none_some d e)
octet_of (Bounds f v l lo hi) d e = absurd (none_some d e)

octet_fits : (x : Option Field) (d : Field) → (x >>= octet_with) ≡ Some d → Fits AnOctet d
octet_fits None d e = absurd (none_some d e)
octet_fits (Some x) d e = octet_of x d e

chosen : (b : Bool) (x d : Field) → (if b then Some x else None) ≡ Some d → (b ≡ true) × (x ≡ d)
chosen true x d e = (refl, some_is x d e)
chosen false x d e = absurd (none_some d e)

-- a value that is kept is lawful, and the text is its own
kept_is : (ok : Bool) (x : Field) (t : List ℕ) (d : Field) → kept ok x t ≡ Some d → (ok ≡ true) × (field_text x ≡ t) × (x ≡ d)
kept_is false x t d e = absurd (none_some d e)
kept_is true x t d e = let parts = chosen (same (field_text x) t) x d e in (refl, same_is (field_text x) t parts.0, parts.1)

address_fits : (t ns : List ℕ) (d : Field) → address_with ns t ≡ Some d → Fits AnAddress d
address_fits t (v ∷ value ∷ len ∷ low ∷ high ∷ []) d e =
    let is = kept_is (nat_lt value (2 ^ bits_of (family_of v))) (Address (family_of v) value) t d e in
    subst (Fits AnAddress) is.2 (ltb-true value (2 ^ bits_of (family_of v)) is.0)
address_fits t [] d e = absurd (none_some d e)
address_fits t (v ∷ []) d e = absurd (none_some d e)
address_fits t (v ∷ value ∷ []) d e = absurd (none_some d e)
address_fits t (v ∷ value ∷ len ∷ []) d e = absurd (none_some d e)
address_fits t (v ∷ value ∷ len ∷ low ∷ []) d e = absurd (none_some d e)
address_fits t (v ∷ value ∷ len ∷ low ∷ high ∷ n ∷ ns) d e = absurd (none_some d e)

identifier_of : (x d : Field) → Fits AnAddress x → identifier_with x ≡ Some d → Fits AnIdentifier d
identifier_of (Address V4 v) d fits e = subst (Fits AnIdentifier) (some_is (Address V4 v) d e) fits
identifier_of (Address V6 v) d fits e = absurd (none_some d e)
identifier_of (Number n) d fits e = absurd fits
identifier_of (Octet n) d fits e = absurd fits
identifier_of (Word w) d fits e = absurd fits
identifier_of (Free w) d fits e = absurd fits
identifier_of (Secret w) d fits e = absurd fits
identifier_of (Handle w) d fits e = absurd fits
identifier_of (Net f v l) d fits e = absurd fits
identifier_of (Bounds f v l lo hi) d fits e = absurd fits

identifier_fits : (t ns : List ℕ) (x : Option Field) → address_with ns t ≡ x → (d : Field) → (x >>= identifier_with) ≡ Some d → Fits AnIdentifier d
identifier_fits t ns None is d e = absurd (none_some d e)
identifier_fits t ns (Some x) is d e = identifier_of x d (address_fits t ns x is) e

three : (a b c : Bool) → (a && b && c) ≡ true → (a ≡ true) × (b ≡ true) × (c ≡ true)
three true true c e = (refl, refl, e)
three true false c e = absurd cc
three false b c e = absurd cc

prefix_is : (v value len : ℕ) → is_prefix (family_of v) value len ≡ true → IsPrefix (family_of v) value len
prefix_is v value len e =
    let is = three (nat_le len (bits_of (family_of v))) (nat_lt value (2 ^ bits_of (family_of v))) (value % 2 ^ (bits_of (family_of v) - len) == 0) e in
    (leb-true len (bits_of (family_of v)) is.0, ltb-true value (2 ^ bits_of (family_of v)) is.1, eqb-true (value % 2 ^ (bits_of (family_of v) - len)) 0 is.2)

net_fits : (t ns : List ℕ) (d : Field) → net_with ns t ≡ Some d → Fits ANet d
net_fits t (v ∷ value ∷ len ∷ low ∷ high ∷ []) d e =
    let is = kept_is (is_prefix (family_of v) value len) (Net (family_of v) value len) t d e in
    subst (Fits ANet) is.2 (prefix_is v value len is.0)
net_fits t [] d e = absurd (none_some d e)
net_fits t (v ∷ []) d e = absurd (none_some d e)
net_fits t (v ∷ value ∷ []) d e = absurd (none_some d e)
net_fits t (v ∷ value ∷ len ∷ []) d e = absurd (none_some d e)
net_fits t (v ∷ value ∷ len ∷ low ∷ []) d e = absurd (none_some d e)
net_fits t (v ∷ value ∷ len ∷ low ∷ high ∷ n ∷ ns) d e = absurd (none_some d e)

bounds_fits : (t ns : List ℕ) (d : Field) → bounds_with ns t ≡ Some d → Fits ABounds d
bounds_fits t (v ∷ value ∷ len ∷ low ∷ high ∷ []) d e =
    let is = kept_is (is_prefix (family_of v) value len && nat_lt low 256 && nat_lt high 256) (Bounds (family_of v) value len low high) t d e in
    let parts = three (is_prefix (family_of v) value len) (nat_lt low 256) (nat_lt high 256) is.0 in
    subst (Fits ABounds) is.2 (prefix_is v value len parts.0, ltb-true low 256 parts.1, ltb-true high 256 parts.2)
bounds_fits t [] d e = absurd (none_some d e)
bounds_fits t (v ∷ []) d e = absurd (none_some d e)
bounds_fits t (v ∷ value ∷ []) d e = absurd (none_some d e)
bounds_fits t (v ∷ value ∷ len ∷ []) d e = absurd (none_some d e)
bounds_fits t (v ∷ value ∷ len ∷ low ∷ []) d e = absurd (none_some d e)
bounds_fits t (v ∷ value ∷ len ∷ low ∷ high ∷ n ∷ ns) d e = absurd (none_some d e)

-- an encoded text has bytes alone
kept_byte : (b : ℕ) → should_percent_encode ESCAPED b ≡ false → IsByte b
kept_byte b kept = let low = ascii_from_kept ESCAPED b kept in omega arith

escape_byte : (b : ℕ) → IsEscapeByte b → IsByte b
escape_byte b (inl e) = omega arith
escape_byte b (inr (inl e)) = let h = e in omega arith
escape_byte b (inr (inr e)) = let h = e in omega arith

dashed_bytes : (t : List ℕ) → AllByRecursion IsByte t → AllByRecursion IsByte (or_dash t)
dashed_bytes [] all = (omega arith, tt)
dashed_bytes (c ∷ cs) all = all

free_bytes : (s : List ℕ) → AllByRecursion IsByte (free_text s)
free_bytes s = dashed_bytes (percent_encode ESCAPED s) (recursion_from_All IsByte (percent_encode ESCAPED s) (All-percent_encode IsByte ESCAPED s kept_byte escape_byte))

undashed : (t : List ℕ) (b : Bool) → AllByRecursion IsByte t → AllByRecursion IsByte (if b then [] else t)
undashed t true all = tt
undashed t false all = all

free_fits : (t : List ℕ) (d : Field) → kept true (Free (percent_decode (without_dash t))) t ≡ Some d → Fits AFree d
free_fits t d e =
    let is = kept_is true (Free (percent_decode (without_dash t))) t d e in
    let bytes : AllByRecursion IsByte t = subst (AllByRecursion IsByte) is.1 (free_bytes (percent_decode (without_dash t))) in
    let decoded = All-percent_decode (without_dash t) (All-from_recursion IsByte (without_dash t) (undashed t (same t (codes "-")) bytes)) in
    subst (Fits AFree) is.2 (recursion_from_All IsByte (percent_decode (without_dash t)) decoded)

none_breaks : (t : List ℕ) → Unbroken t → list_any is_break t ≡ false
none_breaks [] all = refl
none_breaks (c ∷ cs) all = rw (all.0, none_breaks cs all.1) refl

secret_kept : (t : List ℕ) (b : Bool) → same t (codes "-") ≡ b → Unbroken t → Fits ASecret (Secret (if b then [] else t))
secret_kept t true e all = ((λ f. absurd cc), (λ f. absurd cc))
secret_kept t false e all =
    let none = none_breaks t all in
    ((λ f. absurd (let h : false ≡ true = sym none ∙ f in cc)), (λ f. absurd (let h : false ≡ true = sym e ∙ ap (λ x. same x (codes "-")) f in cc)))

secret_fits : (t : List ℕ) (d : Field) → Unbroken t → secret_in t ≡ Some d → Fits ASecret d
secret_fits [] d all e = absurd (none_some d e)
secret_fits (c ∷ cs) d all e =
    subst (Fits ASecret) (some_is (Secret (without_dash (c ∷ cs))) d e) (secret_kept (c ∷ cs) (same (c ∷ cs) (codes "-")) refl all)

fits_or : (word : List ℕ) (piece : Piece) (d : Field) → Fits piece d → Fits (Or word piece) d
fits_or word piece (Word w) fits = inr fits
fits_or word piece (Number n) fits = fits
fits_or word piece (Octet n) fits = fits
fits_or word piece (Free t) fits = fits
fits_or word piece (Secret t) fits = fits
fits_or word piece (Handle t) fits = fits
fits_or word piece (Address f v) fits = fits
fits_or word piece (Net f v l) fits = fits
fits_or word piece (Bounds f v l lo hi) fits = fits

word_or : (b : Bool) (word : List ℕ) (piece : Piece) (more : Option Field) (d : Field) → (more ≡ Some d → Fits piece d) → (if b then Some (Word word) else more) ≡ Some d → Fits (Or word piece) d
word_or true word piece more d there e = subst (Fits (Or word piece)) (some_is (Word word) d e) (inl refl)
word_or false word piece more d there e = fits_or word piece d (there e)

-- a value that is read of a text without breaks is of its kind
pub value_fits : (p : Piece) (t : List ℕ) (d : Field) → Unbroken t → value_of p t ≡ Some d → Fits p d
unfolding value_of
value_fits ANumber t d all e = number_fits t (numbers_in asn_form t) refl d e
value_fits AnOctet t d all e = octet_fits (number_with (numbers_in asn_form t)) d e
value_fits (OneOf words) t d all e = let is = chosen (list_any (same t) words) (Word t) d e in subst (Fits (OneOf words)) is.1 is.0
value_fits AFree t d all e = free_fits t d e
value_fits ASecret t d all e = secret_fits t d all e
value_fits AHandle t d all e = let is = chosen (is_name t) (Handle t) d e in subst (Fits AHandle) is.1 is.0
value_fits AnAddress t d all e = address_fits t (numbers_in addr_form t) d e
value_fits AnIdentifier t d all e = identifier_fits t (numbers_in addr_form t) (address_with (numbers_in addr_form t) t) refl d e
value_fits ANet t d all e = net_fits t (numbers_in net_form t) d e
value_fits ABounds t d all e = bounds_fits t (numbers_in pattern_form t) d e
value_fits (Or word piece) t d all e = word_or (same t word) word piece (value_of piece t) d (value_fits piece t d all) e

-- what stands before the first break has none
before_break : (t : List ℕ) → Unbroken (take (position_or_len is_break t) t)
before_break [] = tt
before_break (c ∷ t) = by_test (is_break c) refl (before_break t)
  where
    by_test : (b : Bool) → is_break c ≡ b → Unbroken (take (position_or_len is_break t) t) → Unbroken (take (cond (not b) (1 + position_or_len is_break t) 0) (c ∷ t))
    by_test true e all = tt
    by_test false e all =
        let one : suc (position_or_len is_break t) ≡ 1 + position_or_len is_break t = omega arith in
        subst (λ k. Unbroken (take k (c ∷ t))) one (e, all)

front_unbroken : (t : List ℕ) → Unbroken (parted_at (position is_break t) t).0
front_unbroken t = by_test (nat_lt (position_or_len is_break t) (length t)) refl
  where
    by_test : (b : Bool) → nat_lt (position_or_len is_break t) (length t) ≡ b → Unbroken (parted_at (cond b (Some (position_or_len is_break t)) None) t).0
    by_test true e = before_break t
    by_test false e = subst Unbroken (take_all (position_or_len is_break t) t (ltb-false (position_or_len is_break t) (length t) e)) (before_break t)

field_fits : (t front rest : List ℕ) → field_at t ≡ Some (front, rest) → Unbroken front
unfolding field_at
field_fits [] front rest e = absurd cc
field_fits (c ∷ t) front rest e = by_test (c == 32) e
  where
    by_test : (b : Bool) → (if b then Some (parted_at (position is_break t) t) else None) ≡ Some (front, rest) → Unbroken front
    by_test true e = subst Unbroken (ap (λ x. x.0) (some_is (parted_at (position is_break t) t) (front, rest) e)) (front_unbroken t)
    by_test false e = absurd cc

piece_fits : (p : Piece) (t : List ℕ) (d : Field) (rest : List ℕ) → piece_at p t ≡ Some (d, rest) → Fits p d
piece_fits p t d rest e = by_field (field_at t) refl e
  where
    by_value : (front more : List ℕ) → field_at t ≡ Some (front, more) → (v : Option Field) → value_of p front ≡ v → valued more v ≡ Some (d, rest) → Fits p d
    by_value front more at None is e = absurd cc
    by_value front more at (Some x) is e =
        subst (Fits p) (ap (λ y. y.0) (some_is (x, more) (d, rest) e)) (value_fits p front x (field_fits t front more at) is)

    by_field : (f : Option (List ℕ × List ℕ)) → field_at t ≡ f → (f >>= λ f. valued f.1 (value_of p f.0)) ≡ Some (d, rest) → Fits p d
    by_field None at e = absurd cc
    by_field (Some (front, more)) at e = by_value front more at (value_of p front) refl e

-- fields that are read are of their form
pub fields_fit : (form : List Piece) (t : List ℕ) (fs : List Field) (rest : List ℕ) → fields_at form t ≡ Some (fs, rest) → AllFit form fs
fields_fit [] t fs rest e = by_end (end_at t) e
  where
    by_end : (o : Option (List ℕ)) → ended o ≡ Some (fs, rest) → AllFit [] fs
    by_end None e = absurd cc
    by_end (Some more) e = subst (AllFit []) (ap (λ y. y.0) (some_is ([], more) (fs, rest) e)) tt
fields_fit (p ∷ form) t fs rest e = by_piece (fields_fit form) (piece_at p t) refl e
  where
    by_more : ((m : List ℕ) (ds : List Field) (r : List ℕ) → fields_at form m ≡ Some (ds, r) → AllFit form ds) → (d : Field) (more : List ℕ) → piece_at p t ≡ Some (d, more) → (o : Option (List Field × List ℕ)) → fields_at form more ≡ o → added d o ≡ Some (fs, rest) → AllFit (p ∷ form) fs
    by_more again d more at None is e = absurd cc
    by_more again d more at (Some (ds, behind)) is e =
        subst (AllFit (p ∷ form)) (ap (λ y. y.0) (some_is (d ∷ ds, behind) (fs, rest) e)) (piece_fits p t d more at, again more ds behind is)

    by_piece : ((m : List ℕ) (ds : List Field) (r : List ℕ) → fields_at form m ≡ Some (ds, r) → AllFit form ds) → (o : Option (Field × List ℕ)) → piece_at p t ≡ o → (o >>= λ f. added f.0 (fields_at form f.1)) ≡ Some (fs, rest) → AllFit (p ∷ form) fs
    by_piece again None at e = absurd cc
    by_piece again (Some (d, more)) at e = by_more again d more at (fields_at form more) refl e
