-- What is read is the text of its rows.
use Rattle.std.proofs.Common.{◌≡◌, ℕ, zero, suc, Bool, true, false, ◌==◌, List, [], ◌∷◌, ◌++◌, length, take, drop, take-append-drop, append_assoc, flat_map, Option, Some, None, option_map, Result, Ok, Err, refl, sym, ap, ◌∙◌, if◌then◌else◌}
use Rattle.ixp_registry.specs.declared.kind.Kind.{Kind}
use Rattle.ixp_rows_lines.specs.declared.version.Version.{Version}
use Rattle.ixp_rows_lines.specs.Fields.{Field}
use Rattle.ixp_registry.specs.Kinds.{word_of}
use Rattle.ixp_rows_lines.specs.Lines.{form_of, spelled, text_of}
use Rattle.ixp_rows_lines.specs.Reading.{fields_at}
use Rattle.ixp_rows_lines.proofs.Spelling.{some_is, none_some, same_is, fields_found}
use Rattle.ixp_num_tables.specs.Tables.{same}
use Rattle.ixp_rows.specs.declared.misread.Misread.{Misread}
use Rattle.ixp_rows.specs.declared.misread.Misread.TheVariants.{Bad}
use Rattle.ixp_rows.specs.Reading.{◌>>=◌, with_blank, behind, key_in, misplaced, unless, line_with, line_at, begun, behind_row, more_with, rows_from}

pub ok_is : {A : Type 0} (a b : A) → ◌≡◌ {A = Result A Misread} (Ok a) (Ok b) → a ≡ b
ok_is a b e = cc

pub err_ok : {A : Type 0} (f : Misread) (a : A) → ◌≡◌ {A = Result A Misread} (Err f) (Ok a) → ⊥
err_ok f a e = absurd cc

-- behind a text that stands first
pub front_found : (front t rest : List ℕ) → same (take (length front) t) front ≡ true → drop (length front) t ≡ rest → t ≡ front ++ rest
front_found front t rest is e = sym (take-append-drop (length front) t) ∙ (ap (λ x. x ++ drop (length front) t) (same_is (take (length front) t) front is) ∙ ap (λ r. front ++ r) e)

blank_found : (t rest : List ℕ) → with_blank t ≡ Some rest → t ≡ rest
blank_found [] rest e = absurd (none_some rest e)
blank_found (c ∷ cs) rest e = by_test (c == 32) e
  where
    by_test : (b : Bool) → (if b then Some (c ∷ cs) else None) ≡ Some rest → c ∷ cs ≡ rest
    by_test true e = some_is (c ∷ cs) rest e
    by_test false e = absurd (none_some rest e)

behind_found : (kind : Kind) (t rest : List ℕ) → behind kind t ≡ Some rest → t ≡ word_of kind ++ rest
unfolding behind
behind_found kind t rest e = by_test (same (take (length (word_of kind)) t) (word_of kind)) refl e
  where
    by_test : (b : Bool) → same (take (length (word_of kind)) t) (word_of kind) ≡ b → (if b then with_blank (drop (length (word_of kind)) t) else None) ≡ Some rest → t ≡ word_of kind ++ rest
    by_test true is e = front_found (word_of kind) t rest is (blank_found (drop (length (word_of kind)) t) rest e)
    by_test false is e = absurd (none_some rest e)

-- a line that is read
pub line_found : (version : Version) (kind : Kind) (t : List ℕ) (fs : List Field) (rest : List ℕ) → line_at version kind t ≡ Some (Some (fs, rest)) → t ≡ text_of kind fs ++ rest
unfolding line_at
line_found version kind t fs rest e = by_word (behind kind t) refl e
  where
    by_fields : (more : List ℕ) → behind kind t ≡ Some more → (o : Option (List Field × List ℕ)) → fields_at (form_of version kind) more ≡ o → option_map (λ x. Some x) o ≡ Some (Some (fs, rest)) → t ≡ text_of kind fs ++ rest
    by_fields more at None is e = absurd cc
    by_fields more at (Some x) is e =
        let read : x ≡ (fs, rest) = some_is x (fs, rest) (some_is (Some x) (Some (fs, rest)) e) in
        let behind_word : more ≡ spelled fs ++ rest = fields_found (form_of version kind) more fs rest (is ∙ ap (λ y. Some y) read) in
        behind_found kind t more at ∙ (ap (λ m. word_of kind ++ m) behind_word ∙ sym (append_assoc (word_of kind) (spelled fs) rest))

    by_word : (o : Option (List ℕ)) → behind kind t ≡ o → line_with version kind o ≡ Some (Some (fs, rest)) → t ≡ text_of kind fs ++ rest
    by_word None at e = absurd cc
    by_word (Some more) at e = by_fields more at (fields_at (form_of version kind) more) refl e

-- the texts of rows of a kind
abbrev pub texts : Kind → List (List Field) → List ℕ
texts kind rows = flat_map (text_of kind) rows

abbrev row_added : List Field → Result (List (List Field) × List ℕ) Misread → Result (List (List Field) × List ℕ) Misread
row_added fs r = r >>= λ s. Ok (fs ∷ s.0, s.1)

pub rows_found : (n : ℕ) (version : Version) (kind : Kind) (last : Option (List ℕ)) (t : List ℕ) (rows : List (List Field)) (rest : List ℕ)
    → rows_from n version kind last t ≡ Ok (rows, rest) → t ≡ texts kind rows ++ rest
unfolding rows_from
rows_found zero version kind last t rows rest e = ap (λ y. texts kind y.0 ++ y.1) (ok_is ([], t) (rows, rest) e)
rows_found (suc n) version kind last t rows rest e = by_line (rows_found n version kind) (line_at version kind t) refl e
  where
    by_more : ((last : Option (List ℕ)) (t : List ℕ) (rows : List (List Field)) (rest : List ℕ) → rows_from n version kind last t ≡ Ok (rows, rest) → t ≡ texts kind rows ++ rest)
        → (fs : List Field) (more : List ℕ) → t ≡ text_of kind fs ++ more → (r : Result (List (List Field) × List ℕ) Misread) → rows_from n version kind (Some (key_in kind fs)) more ≡ r
        → row_added fs r ≡ Ok (rows, rest) → t ≡ texts kind rows ++ rest
    by_more again fs more here (Err f) is e = absurd (err_ok f (rows, rest) e)
    by_more again fs more here (Ok s) is e =
        let whole : t ≡ texts kind (fs ∷ s.0) ++ s.1 = here ∙ (ap (λ m. text_of kind fs ++ m) (again (Some (key_in kind fs)) more s.0 s.1 is) ∙ sym (append_assoc (text_of kind fs) (texts kind s.0) s.1)) in
        whole ∙ ap (λ y. texts kind y.0 ++ y.1) (ok_is (fs ∷ s.0, s.1) (rows, rest) e)

    by_place : ((last : Option (List ℕ)) (t : List ℕ) (rows : List (List Field)) (rest : List ℕ) → rows_from n version kind last t ≡ Ok (rows, rest) → t ≡ texts kind rows ++ rest)
        → (x : List Field × List ℕ) → t ≡ text_of kind x.0 ++ x.1 → (o : Option Misread) → (unless o x >>= behind_row (rows_from n version kind) kind) ≡ Ok (rows, rest) → t ≡ texts kind rows ++ rest
    by_place again x here (Some f) e = absurd (err_ok f (rows, rest) e)
    by_place again x here None e = by_more again x.0 x.1 here (rows_from n version kind (Some (key_in kind x.0)) x.1) refl e

    by_line : ((last : Option (List ℕ)) (t : List ℕ) (rows : List (List Field)) (rest : List ℕ) → rows_from n version kind last t ≡ Ok (rows, rest) → t ≡ texts kind rows ++ rest)
        → (o : Option (Option (List Field × List ℕ))) → line_at version kind t ≡ o → (begun (length t) o >>= λ p. more_with (rows_from n version kind) kind last t p) ≡ Ok (rows, rest) → t ≡ texts kind rows ++ rest
    by_line again None at e = absurd (err_ok (Bad (length t)) (rows, rest) e)
    by_line again (Some None) at e = ap (λ y. texts kind y.0 ++ y.1) (ok_is ([], t) (rows, rest) e)
    by_line again (Some (Some (fs, more))) at e = by_place again (fs, more) (line_found version kind t fs more at) (misplaced (length t) last (key_in kind fs)) e
