-- What is read where a line of the format stands, and how many line ends it has.
use Rattle.std.proofs.Common.{◌≡◌, ◌≢◌, ℕ, zero, suc, ◌+◌, ◌/◌, ◌%◌, ◌<◌, ◌≤◌, ◌⊎◌, Bool, true, false, ◌||◌, ◌==◌, nat_lt, List, [], ◌∷◌, ◌++◌, length, take, drop, append_assoc, flat_map, decimal, Option, Some, None, option_map, inl, inr, refl, sym, ap, ◌∙◌, subst, arith, if◌then◌else◌}
use Rattle.std.specs.Fmt.{digit_glyph, digits_onto, digits}
use Rattle.std.specs.List.{AllByRecursion}
use Rattle.std.proofs.Math.Seq.{take-append_seam, drop-append_seam}
use Rattle.std.proofs.lemmas.Bool.{eq-eqb, eqb-true, or_parts}
use Rattle.ixp_num_tables.specs.Tables.{same}
use Rattle.ixp_registry.specs.declared.kind.Kind.{Kind}
use Rattle.ixp_registry.specs.declared.kind.Kind.TheVariants.{Sites, Members, Contacts, Keys, Switches, Ports, Vlans, Interfaces, Addresses, Routers, Prefixes, Origins, Rules, Bogons, BogonAs, Transit, Roas}
use Rattle.ixp_rows_lines.specs.declared.version.Version.{Version}
use Rattle.ixp_rows_lines.specs.declared.version.Version.TheVariants.{One, Two}
use Rattle.ixp_rows_lines.specs.Fields.{Field, field_text, Piece, AllFit}
use Rattle.ixp_registry.specs.Kinds.{word_of}
use Rattle.ixp_rows_lines.specs.Lines.{Line, place_of, form_of, spelled, line_text, IsLine}
use Rattle.ixp_rows_lines.specs.Reading.{fields_at}
use Rattle.ixp_rows_lines.proofs.Spelling.{some_is, none_some, joined}
use Rattle.ixp_rows_lines.proofs.Unbroken.{NoBreak, Unbroken, IsClear, field_unbroken}
use Rattle.ixp_rows_lines.proofs.Again.{same_refl, fields_again, form_clear}
use Rattle.ixp_rows_lines.proofs.Fitting.{fields_fit}
use Rattle.ixp_rows.specs.Reading.{behind, line_with, line_at, after_text, end_text, breaks}
use Rattle.ixp_rows.proofs.Spelt.{front_found}

-- the kind at a place
abbrev kind_at : ℕ → Kind
kind_at n =
    if n == 1 then Sites else if n == 2 then Members else if n == 3 then Contacts else if n == 4 then Keys else if n == 5 then Switches
    else if n == 6 then Ports else if n == 7 then Vlans else if n == 8 then Interfaces else if n == 9 then Addresses else if n == 10 then Routers
    else if n == 11 then Prefixes else if n == 12 then Origins else if n == 13 then Rules else if n == 14 then Bogons else if n == 15 then BogonAs
    else if n == 16 then Transit else Roas

kind_again : (kind : Kind) → kind_at (place_of kind) ≡ kind
kind_again Sites = refl
kind_again Members = refl
kind_again Contacts = refl
kind_again Keys = refl
kind_again Switches = refl
kind_again Ports = refl
kind_again Vlans = refl
kind_again Interfaces = refl
kind_again Addresses = refl
kind_again Routers = refl
kind_again Prefixes = refl
kind_again Origins = refl
kind_again Rules = refl
kind_again Bogons = refl
kind_again BogonAs = refl
kind_again Transit = refl
kind_again Roas = refl

-- kinds at one place are one kind
pub one_kind : (kind other : Kind) → place_of kind ≡ place_of other → kind ≡ other
one_kind kind other e = sym (kind_again kind) ∙ (ap kind_at e ∙ kind_again other)

pub place_some : (kind : Kind) → 0 < place_of kind
place_some Sites = omega arith
place_some kind = omega arith

pub place_most : (kind : Kind) → place_of kind ≤ 17
place_most Sites = omega arith
place_most kind = omega arith

pub same_kind : (kind other : Kind) → (kind ≡ other) ⊎ (place_of kind ≢ place_of other)
same_kind kind other = by_test (place_of kind == place_of other) refl
  where
    by_test : (b : Bool) → (place_of kind == place_of other) ≡ b → (kind ≡ other) ⊎ (place_of kind ≢ place_of other)
    by_test true e = inl (one_kind kind other (eqb-true (place_of kind) (place_of other) e))
    by_test false e = inr (λ is. absurd (let h : false ≡ true = sym e ∙ eq-eqb (place_of kind) (place_of other) is in cc))

-- a text that stands first
pub after_again : (front rest : List ℕ) → after_text front (front ++ rest) ≡ Some rest
after_again front rest = rw (take-append_seam front rest, same_refl front, drop-append_seam front rest) refl

pub after_found : (front t rest : List ℕ) → after_text front t ≡ Some rest → t ≡ front ++ rest
after_found front t rest e = by_test (same (take (length front) t) front) refl e
  where
    by_test : (b : Bool) → same (take (length front) t) front ≡ b → (if b then Some (drop (length front) t) else None) ≡ Some rest → t ≡ front ++ rest
    by_test true is e = front_found front t rest is (some_is (drop (length front) t) rest e)
    by_test false is e = absurd (none_some rest e)

-- behind a kind's word, and behind another's
behind_again : (kind : Kind) (x : List ℕ) → behind kind (word_of kind ++ 32 ∷ x) ≡ Some (32 ∷ x)
unfolding behind
behind_again kind x = rw (take-append_seam (word_of kind) (32 ∷ x), same_refl (word_of kind), drop-append_seam (word_of kind) (32 ∷ x)) refl

behind_other : (kind other : Kind) (x : List ℕ) → place_of kind ≢ place_of other → behind other (word_of kind ++ 32 ∷ x) ≡ None
unfolding behind
behind_other Sites Sites x apart = absurd (apart refl)
behind_other Members Members x apart = absurd (apart refl)
behind_other Contacts Contacts x apart = absurd (apart refl)
behind_other Keys Keys x apart = absurd (apart refl)
behind_other Switches Switches x apart = absurd (apart refl)
behind_other Ports Ports x apart = absurd (apart refl)
behind_other Vlans Vlans x apart = absurd (apart refl)
behind_other Interfaces Interfaces x apart = absurd (apart refl)
behind_other Addresses Addresses x apart = absurd (apart refl)
behind_other Routers Routers x apart = absurd (apart refl)
behind_other Prefixes Prefixes x apart = absurd (apart refl)
behind_other Origins Origins x apart = absurd (apart refl)
behind_other Rules Rules x apart = absurd (apart refl)
behind_other Bogons Bogons x apart = absurd (apart refl)
behind_other BogonAs BogonAs x apart = absurd (apart refl)
behind_other Transit Transit x apart = absurd (apart refl)
behind_other Roas Roas x apart = absurd (apart refl)
behind_other kind other x apart = refl

behind_end : (kind : Kind) (x : List ℕ) → behind kind (101 ∷ 110 ∷ 100 ∷ 32 ∷ x) ≡ None
unfolding behind
behind_end Sites x = refl
behind_end kind x = refl

-- a line has fields
no_fields : (version : Version) (kind : Kind) → ¬ (AllFit (form_of version kind) [])
no_fields One Sites fits = fits
no_fields One kind fits = fits
no_fields Two Sites fits = fits
no_fields Two kind fits = fits

blank_first : (ds : List Field) (rest : List ℕ) → ds ≢ [] → (x : List ℕ) × (spelled ds ++ rest ≡ 32 ∷ x)
blank_first [] rest some = absurd (some refl)
blank_first (d ∷ ds) rest some = (field_text d ++ (spelled ds ++ rest), sym (joined d ds rest))

module _ (version : Version) (line : Line) (is : IsLine version line) (more : List ℕ) where
  fields_first : (x : List ℕ) × (spelled line.fields ++ more ≡ 32 ∷ x)
  fields_first = blank_first line.fields more (λ none. no_fields version line.kind (subst (AllFit (form_of version line.kind)) none is))

  abbrev line_first : line_text line ++ more ≡ word_of line.kind ++ 32 ∷ fields_first.0
  line_first = append_assoc (word_of line.kind) (spelled line.fields) more ∙ ap (λ x. word_of line.kind ++ x) fields_first.1

  -- a line of a kind is read as one of its kind
  pub line_again : line_at version line.kind (line_text line ++ more) ≡ Some (Some (line.fields, more))
  unfolding line_at
  line_again =
      let word : behind line.kind (line_text line ++ more) ≡ Some (spelled line.fields ++ more) =
      ap (behind line.kind) line_first ∙ (behind_again line.kind fields_first.0 ∙ ap (λ x. Some x) (sym fields_first.1)) in
      ap (line_with version line.kind) word
      ∙ ap (option_map (λ x. Some x)) (fields_again (form_of version line.kind) line.fields more (form_clear version line.kind) is)

  -- and as none of another
  pub line_other : (other : Kind) → place_of line.kind ≢ place_of other → line_at version other (line_text line ++ more) ≡ Some None
  unfolding line_at
  line_other other apart =
      ap (line_with version other) (ap (behind other) line_first ∙ behind_other line.kind other fields_first.0 apart)

-- no line of a kind begins as the end does
pub end_again : (version : Version) (kind : Kind) (n : ℕ) (more : List ℕ) → line_at version kind (end_text n ++ more) ≡ Some None
unfolding line_at
end_again version kind n more = ap (line_with version kind) (behind_end kind ((decimal n ++ 10 ∷ []) ++ more))

-- where a line of the kind is read, one stands
pub read_line : (version : Version) (kind : Kind) (t : List ℕ) (fs : List Field) (rest : List ℕ) → line_at version kind t ≡ Some (Some (fs, rest)) → IsLine version (record { kind = kind; fields = fs })
unfolding line_at
read_line version kind t fs rest e = by_word (behind kind t) e
  where
    by_fields : (more : List ℕ) (o : Option (List Field × List ℕ)) → fields_at (form_of version kind) more ≡ o → option_map (λ x. Some x) o ≡ Some (Some (fs, rest)) → AllFit (form_of version kind) fs
    by_fields more None is e = absurd cc
    by_fields more (Some x) is e =
        let read : x ≡ (fs, rest) = some_is x (fs, rest) (some_is (Some x) (Some (fs, rest)) e) in
        subst (AllFit (form_of version kind)) (ap (λ y. y.0) read) (fields_fit (form_of version kind) more x.0 x.1 is)

    by_word : (o : Option (List ℕ)) → line_with version kind o ≡ Some (Some (fs, rest)) → AllFit (form_of version kind) fs
    by_word None e = absurd cc
    by_word (Some more) e = by_fields more (fields_at (form_of version kind) more) refl e

-- how many line ends there are
pub breaks_append : (xs ys : List ℕ) → breaks (xs ++ ys) ≡ breaks xs + breaks ys
breaks_append [] ys = omega arith
breaks_append (c ∷ xs) ys = by_test (c == 10) (breaks_append xs ys)
  where
    by_test : (b : Bool) → breaks (xs ++ ys) ≡ breaks xs + breaks ys → (if b then suc (breaks (xs ++ ys)) else breaks (xs ++ ys)) ≡ (if b then suc (breaks xs) else breaks xs) + breaks ys
    by_test true e = omega arith
    by_test false e = e

unbroken_breaks : (t : List ℕ) → Unbroken t → breaks t ≡ 0
unbroken_breaks [] all = refl
unbroken_breaks (c ∷ cs) all = ap (λ b. if b then suc (breaks cs) else breaks cs) (or_parts (c == 32) (c == 10) all.0).1 ∙ unbroken_breaks cs all.1

spelled_breaks : (form : List Piece) (ds : List Field) → AllByRecursion IsClear form → AllFit form ds → breaks (spelled ds) ≡ 1
spelled_breaks [] [] clear fits = refl
spelled_breaks [] (d ∷ ds) clear fits = absurd fits
spelled_breaks (p ∷ form) [] clear fits = absurd fits
spelled_breaks (p ∷ form) (d ∷ ds) clear fits =
    let text : spelled (d ∷ ds) ≡ 32 ∷ (field_text d ++ spelled ds) = append_assoc (32 ∷ field_text d) (flat_map (λ field. 32 ∷ field_text field) ds) (10 ∷ []) in
    let none = unbroken_breaks (field_text d) (field_unbroken p d clear.0 fits.0) in
    let behind = spelled_breaks form ds clear.1 fits.1 in
    ap breaks text ∙ (breaks_append (field_text d) (spelled ds) ∙ omega (arith, none, behind))

word_breaks : (kind : Kind) (x : List ℕ) → breaks (word_of kind ++ x) ≡ breaks x
word_breaks Sites x = refl
word_breaks kind x = refl

pub line_breaks : (version : Version) (line : Line) → IsLine version line → breaks (line_text line) ≡ 1
line_breaks version line is =
    word_breaks line.kind (spelled line.fields) ∙ spelled_breaks (form_of version line.kind) line.fields (form_clear version line.kind) is

pub lines_breaks : (version : Version) (lines : List Line) → AllByRecursion (IsLine version) lines → breaks (flat_map line_text lines) ≡ length lines
lines_breaks version [] all = refl
lines_breaks version (l ∷ ls) all =
    let one = line_breaks version l all.0 in
    let others = lines_breaks version ls all.1 in
    breaks_append (line_text l) (flat_map line_text ls) ∙ omega (arith, one, others)

-- a digit is no line end, however long the number
glyph_high : (d : ℕ) → NoBreak (digit_glyph false (d % 10))
glyph_high d = by_test (nat_lt (d % 10) 10)
  where
    high : (c : ℕ) → 32 < c → NoBreak c
    high c more = by_blank (c == 32) refl
      where
        by_blank : (b : Bool) → (c == 32) ≡ b → (b || c == 10) ≡ false
        by_blank true e = absurd (let h = eqb-true c 32 e in omega arith)
        by_blank false e = by_end (c == 10) refl
          where
            by_end : (b : Bool) → (c == 10) ≡ b → b ≡ false
            by_end true e = absurd (let h = eqb-true c 10 e in omega arith)
            by_end false e = refl

    by_test : (b : Bool) → NoBreak (if b then 48 + d % 10 else 87 + d % 10)
    by_test true = high (48 + d % 10) (omega arith)
    by_test false = high (87 + d % 10) (omega arith)

digits_unbroken : (k n : ℕ) (acc : List ℕ) → Unbroken acc → Unbroken (digits_onto k 10 false n acc)
digits_unbroken zero n acc all = all
digits_unbroken (suc k) n acc all = by_test (n / 10 == 0) (digits_unbroken k (n / 10) (digit_glyph false (n % 10) ∷ acc) (glyph_high n, all))
  where
    by_test : (b : Bool) → Unbroken (digits_onto k 10 false (n / 10) (digit_glyph false (n % 10) ∷ acc))
        → Unbroken (if b then digit_glyph false (n % 10) ∷ acc else digits_onto k 10 false (n / 10) (digit_glyph false (n % 10) ∷ acc))
    by_test true more = (glyph_high n, all)
    by_test false more = more

decimal_unbroken : (n : ℕ) → Unbroken (decimal n)
unfolding digits
decimal_unbroken n = digits_unbroken 64 n [] tt

pub end_breaks : (n : ℕ) → breaks (end_text n) ≡ 1
end_breaks n =
    let none = unbroken_breaks (decimal n) (decimal_unbroken n) in
    breaks_append (decimal n) (10 ∷ []) ∙ omega (arith, none)
