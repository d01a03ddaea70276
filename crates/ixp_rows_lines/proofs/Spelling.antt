-- What is read is spelt so.
use Rattle.std.proofs.Common.{◌≡◌, ℕ, suc, ◌<◌, ◌^◌, Bool, true, false, ◌&&◌, ◌==◌, nat_lt, nat_le, List, [], ◌∷◌, ◌++◌, length, take-append-drop, append_assoc, append-nil, flat_map, decimal, codes, Option, Some, None, Result, Ok, Err, refl, sym, ap, ◌∙◌, subst, arith, rules, if◌then◌else◌, min}
use Rattle.std.specs.List.{AllByRecursion, position, list_any}
use Rattle.std.specs.Cmp.Lexicographic.{told_text}
use Rattle.std.proofs.lemmas.Fmt.{decimal-digits_value}
use Rattle.std.proofs.lemmas.Str.Parse.{IsNumeralModel, numerals_by_fold}
use Rattle.std.proofs.lemmas.Bool.{leb-true, eqb-true}
use Rattle.ixp_num.specs.declared.family.Family.TheVariants.{V4, V6}
use Rattle.percent_encoding.specs.Percent.{percent_decode}
use Rattle.ixp_num.specs.Families.{bits_of}
use Rattle.ixp_num.specs.Names.{is_name}
use Rattle.ixp_num.specs.Forms.{Said, Spelt, IsDigit, IsDecimal, value_after}
use Rattle.ixp_num.specs.AddressForms.{asn_form}
use Rattle.ixp_num.specs.TextForms.{addr_form, net_form, pattern_form}
use Rattle.ixp_num.specs.Reading.{read}
use Rattle.ixp_num.proofs.FormLaws.{read_sound}
use Rattle.ixp_num.proofs.PartedForms.{asn_parted}
use Rattle.ixp_num_tables.specs.Tables.{same}
use Rattle.ixp_rows_lines.specs.Fields.{Field, Number, Octet, Word, Free, Secret, Handle, Address, Net, Bounds, field_text, or_dash, is_break, Piece, ANumber, AnOctet, OneOf, AFree, ASecret, AHandle, AnAddress, AnIdentifier, ANet, ABounds, Or}
use Rattle.ixp_rows_lines.specs.Lines.{spelled}
use Rattle.ixp_rows_lines.specs.Reading.{◌>>=◌, numbers_with, numbers_in, kept, number_with, octet_with, family_of, is_prefix, address_with, net_with, bounds_with, without_dash, secret_in, identifier_with, value_of, parted_at, field_at, end_at, piece_at, fields_at}

pub some_is : {A : Type 0} (a b : A) → ◌≡◌ {A = Option A} (Some a) (Some b) → a ≡ b
some_is a b e = cc

pub none_some : {A : Type 0} (a : A) → ◌≡◌ {A = Option A} None (Some a) → ⊥
none_some a e = absurd cc

pub same_is : (xs ys : List ℕ) → same xs ys ≡ true → xs ≡ ys
same_is xs ys e = told_text xs ys true (sym e)

own : IsNumeralModel (AllByRecursion IsDigit) (value_after 0)
own = numerals_by_fold _ (search rules) value_after (search rules)

-- a decimal number is the one text of its value
pub decimal_is : (t : List ℕ) (n : ℕ) → n < 2 ^ 64 → IsDecimal t n → decimal n ≡ t
decimal_is [] n fits d = absurd d
decimal_is (c ∷ cs) n fits (digit, alone, digits, value) =
    ap decimal value ∙ decimal-digits_value own (c ∷ cs) (digit, digits) (omega arith) (λ zero. ap (λ ds. suc (length ds)) (alone zero)) (subst (λ m. m < 2 ^ 64) value fits)

number_bounded : (t front rest : List ℕ) (m n left : ℕ) (after : Said) (b : Bool) → nat_le m 4294967295 ≡ b → t ≡ front ++ rest → IsDecimal front m → rest ≡ [] → after ≡ Ok (min m 4294967295 ∷ [])
    → ◌≡◌ {A = Said} (Ok (n ∷ [])) (if b then after else Err left) → decimal n ≡ t
number_bounded t front rest m n left after true low parts number none says e =
    let low = leb-true m 4294967295 low in
    let ns : ◌≡◌ {A = Said} (Ok (n ∷ [])) (Ok (min m 4294967295 ∷ [])) = e ∙ says in
    let same_number : n ≡ min m 4294967295 = cc in
    let is : n ≡ m = omega arith in
    ap decimal is ∙ (decimal_is front m (omega arith) number ∙ (sym (append-nil front) ∙ (ap (λ r. front ++ r) (sym none) ∙ sym parts)))
number_bounded t front rest m n left after false high parts number none says e = absurd cc

number_spelt : (t : List ℕ) (n : ℕ) (r : Result Said ℕ) → read asn_form t ≡ r → numbers_with r ≡ n ∷ [] → decimal n ≡ t
number_spelt t n (Ok (Ok ns)) e is = by_spelt (subst (λ ms. Spelt asn_form (Ok ms) t) is (read_sound asn_form asn_parted (Ok ns) t e))
  where
    by_spelt : Spelt asn_form (Ok (n ∷ [])) t → decimal n ≡ t
    by_spelt (front, rest, m, after, parts, number, ends, said) =
        number_bounded t front rest m n (length t) after (nat_le m 4294967295) refl parts number ends.0 ends.1 said
number_spelt t n (Ok (Err left)) e is = absurd cc
number_spelt t n (Err left) e is = absurd cc

number_in : (t : List ℕ) (n : ℕ) → numbers_in asn_form t ≡ n ∷ [] → decimal n ≡ t
unfolding numbers_in
number_in t n e = number_spelt t n (read asn_form t) refl e

number_found : (t ns : List ℕ) → numbers_in asn_form t ≡ ns → (d : Field) → number_with ns ≡ Some d → field_text d ≡ t
number_found t [] e d is = absurd (none_some d is)
number_found t (n ∷ []) e d is = ap field_text (sym (some_is (Number n) d is)) ∙ number_in t n e
number_found t (n ∷ m ∷ ns) e d is = absurd (none_some d is)

kept_found : (ok : Bool) (d : Field) (t : List ℕ) (x : Field) → kept ok d t ≡ Some x → field_text x ≡ t
kept_found false d t x e = absurd (none_some x e)
kept_found true d t x e = by_test (same (field_text d) t) refl e
  where
    by_test : (b : Bool) → same (field_text d) t ≡ b → (if b then Some d else None) ≡ Some x → field_text x ≡ t
    by_test true is e = ap field_text (sym (some_is d x e)) ∙ same_is (field_text d) t is
    by_test false is e = absurd (none_some x e)

address_found : (t ns : List ℕ) (d : Field) → address_with ns t ≡ Some d → field_text d ≡ t
address_found t (v ∷ value ∷ len ∷ low ∷ high ∷ []) d e = kept_found (nat_lt value (2 ^ bits_of (family_of v))) (Address (family_of v) value) t d e
address_found t [] d e = absurd (none_some d e)
address_found t (v ∷ []) d e = absurd (none_some d e)
address_found t (v ∷ value ∷ []) d e = absurd (none_some d e)
address_found t (v ∷ value ∷ len ∷ []) d e = absurd (none_some d e)
address_found t (v ∷ value ∷ len ∷ low ∷ []) d e = absurd (none_some d e)
address_found t (v ∷ value ∷ len ∷ low ∷ high ∷ n ∷ ns) d e = absurd (none_some d e)

net_found : (t ns : List ℕ) (d : Field) → net_with ns t ≡ Some d → field_text d ≡ t
net_found t (v ∷ value ∷ len ∷ low ∷ high ∷ []) d e = kept_found (is_prefix (family_of v) value len) (Net (family_of v) value len) t d e
net_found t [] d e = absurd (none_some d e)
net_found t (v ∷ []) d e = absurd (none_some d e)
net_found t (v ∷ value ∷ []) d e = absurd (none_some d e)
net_found t (v ∷ value ∷ len ∷ []) d e = absurd (none_some d e)
net_found t (v ∷ value ∷ len ∷ low ∷ []) d e = absurd (none_some d e)
net_found t (v ∷ value ∷ len ∷ low ∷ high ∷ n ∷ ns) d e = absurd (none_some d e)

bounds_found : (t ns : List ℕ) (d : Field) → bounds_with ns t ≡ Some d → field_text d ≡ t
bounds_found t (v ∷ value ∷ len ∷ low ∷ high ∷ []) d e = kept_found (is_prefix (family_of v) value len && nat_lt low 256 && nat_lt high 256) (Bounds (family_of v) value len low high) t d e
bounds_found t [] d e = absurd (none_some d e)
bounds_found t (v ∷ []) d e = absurd (none_some d e)
bounds_found t (v ∷ value ∷ []) d e = absurd (none_some d e)
bounds_found t (v ∷ value ∷ len ∷ []) d e = absurd (none_some d e)
bounds_found t (v ∷ value ∷ len ∷ low ∷ []) d e = absurd (none_some d e)
bounds_found t (v ∷ value ∷ len ∷ low ∷ high ∷ n ∷ ns) d e = absurd (none_some d e)

octet_of : (t : List ℕ) (x d : Field) → field_text x ≡ t → octet_with x ≡ Some d → field_text d ≡ t
octet_of t (Number n) d text e = by_test (nat_lt n 256) e
  where
    by_test : (b : Bool) → (if b then Some (Octet n) else None) ≡ Some d → field_text d ≡ t
    by_test true e = ap field_text (sym (some_is (Octet n) d e)) ∙ text
    by_test false e = absurd (none_some d e)
octet_of t (Octet n) d text e = absurd (none_some d e)
octet_of t (Word w) d text e = absurd (none_some d e)
octet_of t (Free w) d text e = absurd (none_some d e)
octet_of t (Secret w) d text e = absurd (none_some d e)
octet_of t (Handle w) d text e = absurd (none_some d e)
octet_of t (Address f v) d text e = absurd (none_some d e)
octet_of t (Net f v l) d text e = absurd (none_some d e)
octet_of t (Bounds f v l lo hi) d text e = absurd (none_some d e)

octet_found : (t ns : List ℕ) → numbers_in asn_form t ≡ ns → (x : Option Field) → number_with ns ≡ x → (d : Field) → (x >>= octet_with) ≡ Some d → field_text d ≡ t
octet_found t ns e None is d f = absurd (none_some d f)
octet_found t ns e (Some x) is d f = octet_of t x d (number_found t ns e x is) f

identifier_of : (t : List ℕ) (x d : Field) → field_text x ≡ t → identifier_with x ≡ Some d → field_text d ≡ t
identifier_of t (Address V4 v) d text e = ap field_text (sym (some_is (Address V4 v) d e)) ∙ text
identifier_of t (Address V6 v) d text e = absurd (none_some d e)
identifier_of t (Number n) d text e = absurd (none_some d e)
identifier_of t (Octet n) d text e = absurd (none_some d e)
identifier_of t (Word w) d text e = absurd (none_some d e)
identifier_of t (Free w) d text e = absurd (none_some d e)
identifier_of t (Secret w) d text e = absurd (none_some d e)
identifier_of t (Handle w) d text e = absurd (none_some d e)
identifier_of t (Net f v l) d text e = absurd (none_some d e)
identifier_of t (Bounds f v l lo hi) d text e = absurd (none_some d e)

identifier_found : (t ns : List ℕ) (x : Option Field) → address_with ns t ≡ x → (d : Field) → (x >>= identifier_with) ≡ Some d → field_text d ≡ t
identifier_found t ns None is d f = absurd (none_some d f)
identifier_found t ns (Some x) is d f = identifier_of t x d (address_found t ns x is) f

chosen_found : (b : Bool) (w t : List ℕ) (more : Option Field) (d : Field) → (b ≡ true → w ≡ t) → (more ≡ Some d → field_text d ≡ t) → (if b then Some (Word w) else more) ≡ Some d → field_text d ≡ t
chosen_found true w t more d here there e = ap field_text (sym (some_is (Word w) d e)) ∙ here refl
chosen_found false w t more d here there e = there e

handle_found : (b : Bool) (t : List ℕ) (d : Field) → (if b then Some (Handle t) else None) ≡ Some d → field_text d ≡ t
handle_found true t d e = ap field_text (sym (some_is (Handle t) d e))
handle_found false t d e = absurd (none_some d e)

dashed : (c : ℕ) (cs : List ℕ) (b : Bool) → same (c ∷ cs) (codes "-") ≡ b → or_dash (if b then [] else c ∷ cs) ≡ c ∷ cs
dashed c cs true e = sym (same_is (c ∷ cs) (codes "-") e)
dashed c cs false e = refl

secret_found : (t : List ℕ) (d : Field) → secret_in t ≡ Some d → field_text d ≡ t
secret_found [] d e = absurd (none_some d e)
secret_found (c ∷ cs) d e = ap field_text (sym (some_is (Secret (without_dash (c ∷ cs))) d e)) ∙ dashed c cs (same (c ∷ cs) (codes "-")) refl

-- a field of a kind is read where its text stands
pub value_found : (p : Piece) (t : List ℕ) (d : Field) → value_of p t ≡ Some d → field_text d ≡ t
unfolding value_of
value_found ANumber t d e = number_found t (numbers_in asn_form t) refl d e
value_found AnOctet t d e = octet_found t (numbers_in asn_form t) refl (number_with (numbers_in asn_form t)) refl d e
value_found (OneOf words) t d e = chosen_found (list_any (same t) words) t t None d (λ b. refl) (λ f. absurd (none_some d f)) e
value_found AFree t d e = kept_found true (Free (percent_decode (without_dash t))) t d e
value_found ASecret t d e = secret_found t d e
value_found AHandle t d e = handle_found (is_name t) t d e
value_found AnAddress t d e = address_found t (numbers_in addr_form t) d e
value_found AnIdentifier t d e = identifier_found t (numbers_in addr_form t) (address_with (numbers_in addr_form t) t) refl d e
value_found ANet t d e = net_found t (numbers_in net_form t) d e
value_found ABounds t d e = bounds_found t (numbers_in pattern_form t) d e
value_found (Or word piece) t d e = chosen_found (same t word) word t (value_of piece t) d (λ b. sym (same_is t word b)) (value_found piece t d) e

parted_is : (t : List ℕ) (o : Option ℕ) → (parted_at o t).0 ++ (parted_at o t).1 ≡ t
parted_is t None = append-nil t
parted_is t (Some n) = take-append-drop n t

-- a field behind a blank
field_found : (t front rest : List ℕ) → field_at t ≡ Some (front, rest) → t ≡ 32 ∷ (front ++ rest)
unfolding field_at
field_found [] front rest e = absurd cc
field_found (c ∷ t) front rest e = by_test (c == 32) refl e
  where
    by_test : (b : Bool) → (c == 32) ≡ b → (if b then Some (parted_at (position is_break t) t) else None) ≡ Some (front, rest) → c ∷ t ≡ 32 ∷ (front ++ rest)
    by_test true is e =
        let parts = some_is (parted_at (position is_break t) t) (front, rest) e in
        let whole : front ++ rest ≡ t = ap (λ x. x.0 ++ x.1) (sym parts) ∙ parted_is t (position is_break t) in
        ap (λ b. b ∷ t) (eqb-true c 32 is) ∙ ap (λ x. 32 ∷ x) (sym whole)
    by_test false is e = absurd cc

end_found : (t rest : List ℕ) → end_at t ≡ Some rest → t ≡ 10 ∷ rest
unfolding end_at
end_found [] rest e = absurd (none_some rest e)
end_found (c ∷ t) rest e = by_test (c == 10) refl e
  where
    by_test : (b : Bool) → (c == 10) ≡ b → (if b then Some t else None) ≡ Some rest → c ∷ t ≡ 10 ∷ rest
    by_test true is e = ap (λ b. b ∷ t) (eqb-true c 10 is) ∙ ap (λ x. 10 ∷ x) (some_is t rest e)
    by_test false is e = absurd (none_some rest e)

abbrev pub valued : List ℕ → Option Field → Option (Field × List ℕ)
valued rest v = v >>= λ field. Some (field, rest)

abbrev pub added : Field → Option (List Field × List ℕ) → Option (List Field × List ℕ)
added d o = o >>= λ x. Some (d ∷ x.0, x.1)

piece_found : (p : Piece) (t : List ℕ) (d : Field) (rest : List ℕ) → piece_at p t ≡ Some (d, rest) → t ≡ 32 ∷ (field_text d ++ rest)
piece_found p t d rest e = by_field (field_at t) refl e
  where
    by_value : (front more : List ℕ) → field_at t ≡ Some (front, more) → (v : Option Field) → value_of p front ≡ v → valued more v ≡ Some (d, rest) → t ≡ 32 ∷ (field_text d ++ rest)
    by_value front more at None is e = absurd cc
    by_value front more at (Some x) is e =
        let text : field_text x ≡ front = value_found p front x is in
        let field : x ≡ d = ap (λ y. y.0) (some_is (x, more) (d, rest) e) in
        let behind : more ≡ rest = ap (λ y. y.1) (some_is (x, more) (d, rest) e) in
        field_found t front more at ∙ (ap (λ f. 32 ∷ (f ++ more)) (sym text ∙ ap field_text field) ∙ ap (λ r. 32 ∷ (field_text d ++ r)) behind)

    by_field : (f : Option (List ℕ × List ℕ)) → field_at t ≡ f → (f >>= λ f. valued f.1 (value_of p f.0)) ≡ Some (d, rest) → t ≡ 32 ∷ (field_text d ++ rest)
    by_field None at e = absurd cc
    by_field (Some (front, more)) at e = by_value front more at (value_of p front) refl e

pub joined : (d : Field) (ds : List Field) (rest : List ℕ) → 32 ∷ (field_text d ++ (spelled ds ++ rest)) ≡ spelled (d ∷ ds) ++ rest
joined d ds rest =
    let texts = flat_map (λ (field : Field). 32 ∷ field_text field) ds in
    sym (ap (λ x. x ++ rest) (append_assoc (32 ∷ field_text d) texts (10 ∷ [])) ∙ append_assoc (32 ∷ field_text d) (texts ++ 10 ∷ []) rest)

abbrev pub ended : Option (List ℕ) → Option (List Field × List ℕ)
ended o = o >>= λ more. Some ([], more)

-- fields are read where their line's text stands
pub fields_found : (form : List Piece) (t : List ℕ) (fs : List Field) (rest : List ℕ) → fields_at form t ≡ Some (fs, rest) → t ≡ spelled fs ++ rest
fields_found [] t fs rest e = by_end (end_at t) refl e
  where
    by_end : (o : Option (List ℕ)) → end_at t ≡ o → ended o ≡ Some (fs, rest) → t ≡ spelled fs ++ rest
    by_end None at e = absurd cc
    by_end (Some more) at e =
        let none : [] ≡ fs = ap (λ y. y.0) (some_is ([], more) (fs, rest) e) in
        let behind : more ≡ rest = ap (λ y. y.1) (some_is ([], more) (fs, rest) e) in
        end_found t more at ∙ (ap (λ r. 10 ∷ r) behind ∙ ap (λ x. spelled x ++ rest) none)
fields_found (p ∷ form) t fs rest e = by_piece (fields_found form) (piece_at p t) refl e
  where
    by_more : ((m : List ℕ) (ds : List Field) (r : List ℕ) → fields_at form m ≡ Some (ds, r) → m ≡ spelled ds ++ r) → (d : Field) (more : List ℕ) → piece_at p t ≡ Some (d, more) → (o : Option (List Field × List ℕ)) → fields_at form more ≡ o → added d o ≡ Some (fs, rest) → t ≡ spelled fs ++ rest
    by_more again d more at None is e = absurd cc
    by_more again d more at (Some (ds, behind)) is e =
        let all : d ∷ ds ≡ fs = ap (λ y. y.0) (some_is (d ∷ ds, behind) (fs, rest) e) in
        let last : behind ≡ rest = ap (λ y. y.1) (some_is (d ∷ ds, behind) (fs, rest) e) in
        piece_found p t d more at
        ∙ (ap (λ m. 32 ∷ (field_text d ++ m)) (again more ds behind is)
        ∙ (joined d ds behind ∙ (ap (λ x. spelled x ++ behind) all ∙ ap (λ r. spelled fs ++ r) last)))

    by_piece : ((m : List ℕ) (ds : List Field) (r : List ℕ) → fields_at form m ≡ Some (ds, r) → m ≡ spelled ds ++ r) → (o : Option (Field × List ℕ)) → piece_at p t ≡ o → (o >>= λ f. added f.0 (fields_at form f.1)) ≡ Some (fs, rest) → t ≡ spelled fs ++ rest
    by_piece again None at e = absurd cc
    by_piece again (Some (d, more)) at e = by_more again d more at (fields_at form more) refl e
