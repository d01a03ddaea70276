-- Rows of a kind, and their lines in a dump.
use Rattle.std.proofs.Common.{◌≡◌, ◌≢◌, ℕ, IsSome, List, [], ◌∷◌, ◌++◌, append-nil, append_assoc, map, flat_map, length, Option, Some, option_map, refl, sym, ap, ◌∙◌, subst, arith}
use Rattle.std.specs.List.{AllByRecursion}
use Rattle.std.specs.declared.cmp.Ordering.TheVariants.{Less}
use Rattle.ixp_num_tables.specs.Tables.{order, Ascends}
use Rattle.ixp_num_tables.proofs.AllItems.{all_right, all_flat}
use Rattle.ixp_num_tables.proofs.Places.{Ascends_behind}
use Rattle.ixp_registry.specs.declared.kind.Kind.{Kind}
use Rattle.ixp_registry.specs.Kinds.{word_of}
use Rattle.ixp_rows_lines.specs.declared.version.Version.TheVariants.{Two}
use Rattle.ixp_rows_lines.specs.Fields.{Field, AllFit, field_text}
use Rattle.ixp_rows_lines.specs.Lines.{form_of, spelled, text_of}
use Rattle.ixp_rows_lines.specs.Reading.{◌>>=◌, fields_at}
use Rattle.ixp_rows_lines.proofs.Again.{fields_again, form_clear}
use Rattle.ixp_rows.specs.Reading.{breaks, key_in}
use Rattle.ixp_rows.proofs.LinesAgain.{after_again, breaks_append, line_breaks}
use Rattle.ixp_store_rows.specs.Names.{Entry, fields_row, line_body}
use Rattle.ixp_store_damage.specs.Loading.{front_at, line_said, line_key, key_said, line_end, row_text, AreLines}

abbrev pub Said : Option (List Field × List ℕ) → Option (List Field)
Said o = option_map (λ x. x.0) o

-- the fields of a line that stands first
pub front_told : (kind : Kind) (ds : List Field) (more : List ℕ) → AllFit (form_of Two kind) ds → Said (front_at kind (text_of kind ds ++ more)) ≡ Some ds
front_told kind ds more fits =
    ap (λ t. Said (front_at kind t)) (append_assoc (word_of kind) (spelled ds) more)
    ∙ (ap (λ o. Said (o >>= fields_at (form_of Two kind))) (after_again (word_of kind) (spelled ds ++ more))
    ∙ ap Said (fields_again (form_of Two kind) ds more (form_clear Two kind) fits))

pub body_text : (kind : Kind) (ds : List Field) → line_body kind ds ++ 10 ∷ [] ≡ text_of kind ds
body_text kind ds = append_assoc (word_of kind) (flat_map (λ field. 32 ∷ field_text field) ds) (10 ∷ [])

pub row_told : (kind : Kind) (ds : List Field) → AllFit (form_of Two kind) ds → line_said kind (fields_row kind ds) ≡ Some ds
unfolding line_said fields_row
row_told kind ds fits = ap (λ t. Said (front_at kind t)) (body_text kind ds ∙ sym (append-nil (text_of kind ds))) ∙ front_told kind ds [] fits

row_spelt : (kind : Kind) (ds : List Field) → line_end kind ≡ 10 ∷ [] → row_text kind (fields_row kind ds) ≡ text_of kind ds
unfolding fields_row
row_spelt kind ds plain = ap (λ t. line_body kind ds ++ t) plain ∙ body_text kind ds

one_line : (kind : Kind) (ds : List Field) → AllFit (form_of Two kind) ds → breaks (text_of kind ds) ≡ 1
one_line kind ds fits = line_breaks Two (record { kind = kind; fields = ds }) fits

module _ {R : Type 0} (kind : Kind) (fields : R → List Field) (key : R → List ℕ) (keyed : (x : R) → key_in kind (fields x) ≡ key x) where
  abbrev Is : R → Type 0
  Is x = AllFit (form_of Two kind) (fields x)

  abbrev text : R → List ℕ
  text x = text_of kind (fields x)

  counted_lines : (xs : List R) → AllByRecursion Is xs → breaks (flat_map text xs) ≡ length xs
  counted_lines [] all = refl
  counted_lines (x ∷ xs) all =
      let one = one_line kind (fields x) all.0 in
      let others = counted_lines xs all.1 in
      breaks_append (text x) (flat_map text xs) ∙ omega (arith, one, others)

  -- rows of one line each
  module _ (plain : line_end kind ≡ 10 ∷ []) where
    abbrev row : R → Entry
    row x = fields_row kind (fields x)

    row_keyed : (x : R) → Is x → line_key kind (row x) ≡ key x
    row_keyed x is = ap (key_said kind) (row_told kind (fields x) is) ∙ keyed x

    rows_below : (x : R) → Is x → (ys : List R) → AllByRecursion Is ys → AllByRecursion (λ y. order (key x) (key y) ≡ Less) ys → AllByRecursion (λ e. order (line_key kind (row x)) (line_key kind e) ≡ Less) (map row ys)
    rows_below x is [] all less = tt
    rows_below x is (y ∷ ys) all less = (
      ap (λ k. order k (line_key kind (row y))) (row_keyed x is) ∙ (ap (order (key x)) (row_keyed y all.0) ∙ less.0),
      rows_below x is ys all.1 less.1,
    )

    rows_up : (xs : List R) → AllByRecursion Is xs → Ascends key xs → Ascends (line_key kind) (map row xs)
    rows_up [] all up = tt
    rows_up (x ∷ xs) all up = (rows_below x all.0 xs all.1 up.0, rows_up xs all.1 up.1)

    rows_said : (xs : List R) → AllByRecursion Is xs → AllByRecursion (λ e. IsSome (line_said kind e)) (map row xs)
    rows_said [] all = tt
    rows_said (x ∷ xs) all = (subst IsSome (sym (row_told kind (fields x) all.0)) refl, rows_said xs all.1)

    rows_spelt : (xs : List R) → flat_map (row_text kind) (map row xs) ≡ flat_map text xs
    rows_spelt [] = refl
    rows_spelt (x ∷ xs) = ap (λ t. t ++ flat_map (row_text kind) (map row xs)) (row_spelt kind (fields x) plain) ∙ ap (λ t. text x ++ t) (rows_spelt xs)

    pub plain_lines : (xs : List R) → AllByRecursion Is xs → Ascends key xs → AreLines kind (map row xs) (flat_map text xs) (length xs)
    plain_lines xs all up = record { order = rows_up xs all up; said = rows_said xs all; spelt = rows_spelt xs; counted = counted_lines xs all }

  -- rows of whole lists
  module _ {L : Type 0} (whole : line_end kind ≡ []) (rows_in : L → List R) (entry : L → Entry) (body : (l : L) → (entry l).1 ≡ flat_map text (rows_in l)) where
    record Begins (xs : List R) : Type 0 where
      first : R
      others : List R
      is : xs ≡ first ∷ others

    begins : (xs : List R) → xs ≢ [] → Begins xs
    begins [] some = absurd (some refl)
    begins (x ∷ xs) some = record { first = x; others = xs; is = refl }

    list_told : (l : L) (b : Begins (rows_in l)) → Is b.first → line_said kind (entry l) ≡ Some (fields b.first)
    unfolding line_said
    list_told l b is =
        let lines : (entry l).1 ≡ text b.first ++ flat_map text b.others = body l ∙ ap (flat_map text) b.is in
        ap (λ t. Said (front_at kind (t ++ 10 ∷ []))) lines
        ∙ (ap (λ t. Said (front_at kind t)) (append_assoc (text b.first) (flat_map text b.others) (10 ∷ []))
        ∙ front_told kind (fields b.first) (flat_map text b.others ++ 10 ∷ []) is)

    list_keyed : (l : L) (b : Begins (rows_in l)) → Is b.first → line_key kind (entry l) ≡ key b.first
    list_keyed l b is = ap (key_said kind) (list_told l b is) ∙ keyed b.first

    first_is : (P : R → Type 0) (l : L) (b : Begins (rows_in l)) → AllByRecursion P (rows_in l) → P b.first
    first_is P l b all = (subst (AllByRecursion P) b.is all).0

    lists_below : (x : R) (e : Entry) → line_key kind e ≡ key x → (ms : List L) → AllByRecursion (λ m. rows_in m ≢ []) ms → AllByRecursion (λ m. AllByRecursion Is (rows_in m)) ms
        → AllByRecursion (λ m. AllByRecursion (λ y. order (key x) (key y) ≡ Less) (rows_in m)) ms → AllByRecursion (λ f. order (line_key kind e) (line_key kind f) ≡ Less) (map entry ms)
    lists_below x e at [] some all less = tt
    lists_below x e at (m ∷ ms) some all less =
        let b = begins (rows_in m) some.0 in (
          ap (λ k. order k (line_key kind (entry m))) at ∙ (ap (order (key x)) (list_keyed m b (first_is Is m b all.0)) ∙ first_is (λ y. order (key x) (key y) ≡ Less) m b less.0),
          lists_below x e at ms some.1 all.1 less.1,
        )

    lists_up : (ls : List L) → AllByRecursion (λ l. rows_in l ≢ []) ls → AllByRecursion (λ l. AllByRecursion Is (rows_in l)) ls → Ascends key (flat_map rows_in ls) → Ascends (line_key kind) (map entry ls)
    lists_up [] some all up = tt
    lists_up (l ∷ ls) some all up =
        let b = begins (rows_in l) some.0 in
        let parted : Ascends key (b.first ∷ (b.others ++ flat_map rows_in ls)) = subst (λ xs. Ascends key (xs ++ flat_map rows_in ls)) b.is up in
        let less : AllByRecursion (λ y. order (key b.first) (key y) ≡ Less) (flat_map rows_in ls) = all_right (λ y. order (key b.first) (key y) ≡ Less) b.others (flat_map rows_in ls) parted.0 in (
          lists_below b.first (entry l) (list_keyed l b (first_is Is l b all.0)) ls some.1 all.1 (all_flat (λ y. order (key b.first) (key y) ≡ Less) rows_in ls less),
          lists_up ls some.1 all.1 (Ascends_behind key (rows_in l) (flat_map rows_in ls) up),
        )

    lists_said : (ls : List L) → AllByRecursion (λ l. rows_in l ≢ []) ls → AllByRecursion (λ l. AllByRecursion Is (rows_in l)) ls → AllByRecursion (λ e. IsSome (line_said kind e)) (map entry ls)
    lists_said [] some all = tt
    lists_said (l ∷ ls) some all =
        let b = begins (rows_in l) some.0 in
        (subst IsSome (sym (list_told l b (first_is Is l b all.0))) refl, lists_said ls some.1 all.1)

    flat_texts : (xs ys : List R) → flat_map text (xs ++ ys) ≡ flat_map text xs ++ flat_map text ys
    flat_texts [] ys = refl
    flat_texts (x ∷ xs) ys = ap (λ t. text x ++ t) (flat_texts xs ys) ∙ sym (append_assoc (text x) (flat_map text xs) (flat_map text ys))

    lists_spelt : (ls : List L) → flat_map (row_text kind) (map entry ls) ≡ flat_map text (flat_map rows_in ls)
    lists_spelt [] = refl
    lists_spelt (l ∷ ls) =
        let one : row_text kind (entry l) ≡ flat_map text (rows_in l) = ap (λ t. (entry l).1 ++ t) whole ∙ (append-nil (entry l).1 ∙ body l) in
        ap (λ t. t ++ flat_map (row_text kind) (map entry ls)) one ∙ (ap (λ t. flat_map text (rows_in l) ++ t) (lists_spelt ls) ∙ sym (flat_texts (rows_in l) (flat_map rows_in ls)))

    pub list_lines : (ls : List L) → AllByRecursion (λ l. rows_in l ≢ []) ls → AllByRecursion Is (flat_map rows_in ls) → Ascends key (flat_map rows_in ls)
        → AreLines kind (map entry ls) (flat_map text (flat_map rows_in ls)) (length (flat_map rows_in ls))
    list_lines ls some all up =
        let each = all_flat Is rows_in ls all in
        record { order = lists_up ls some each up; said = lists_said ls some each; spelt = lists_spelt ls; counted = counted_lines (flat_map rows_in ls) all }
