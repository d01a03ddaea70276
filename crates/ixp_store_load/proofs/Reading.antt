-- Rows of a keeper that are read one after the other.
use Rattle.std.proofs.Common.{◌≡◌, ◌-◌, ◌<◌, ◌≤◌, Bool, true, false, T, subst, length-append, List, [], ◌∷◌, ◌++◌, map, append-nil, length, ℕ, Option, Some, None, option_map, refl, sym, ap, ◌∙◌, arith}
use Rattle.std.specs.Prelude.{slice_get}
use Rattle.std.proofs.lemmas.List.{append_assoc, map-append}
use Rattle.std.proofs.lemmas.List.{length-map}
use Rattle.std.specs.FinMap.{entries, entries_sorted, is_sorted, len, len-entries}
use Rattle.std.specs.Option.{option_map_or}
use Rattle.std.specs.Ordering.{is_lt}
use Rattle.ixp_io.specs.declared.keeper.Row.{Row}
use Rattle.ixp_io.specs.Tables.{Table, name_cmp, next_after, row_entry}
use Rattle.ixp_io.specs.Told.{WhereTold}
use Rattle.ixp_io.proofs.Rows.{rows_in_order}
use Rattle.ixp_store_rows.specs.Names.{Entry}
use Rattle.ixp_store_damage.specs.Damages.{IsOneTooMany}
use Rattle.ixp_store_damage.specs.Reading.{IsFront, ComesNext, above_last, name_before}
use Rattle.ixp_store_damage.proofs.SameRows.{first_of, second_of}
use Rattle.ixp_store_rows.proofs.Empty.{no_items}

-- the last of some rows
record Ends (rows : List Row) (n : ℕ) : Type 0 where
  front : List Row
  last : Row
  is : rows ≡ front ++ last ∷ []
  got : slice_get rows n ≡ Some last

ends : (x : Row) (xs : List Row) → Ends (x ∷ xs) (length xs)
ends x [] = record { front = []; last = x; is = refl; got = refl }
ends x (y ∷ ys) = let e = ends y ys in record { front = x ∷ e.front; last = e.last; is = ap (λ l. x ∷ l) e.is; got = e.got }

-- what comes after rows that are the first ones
behind : (t : Table) (rows : List Row) (rest : List Entry) → entries t ≡ map row_entry rows ++ rest → next_after (name_before rows) t ≡ slice_get rest 0
behind t [] rest e = ap (λ es. slice_get es 0) e
behind t (x ∷ xs) rest e =
    let at = ends x xs in
    let one : length (x ∷ xs) - 1 ≡ length xs = omega arith in
    let here : name_before (x ∷ xs) ≡ Some (at.last).name = ap (λ n. option_map (λ r. r.name) (slice_get (x ∷ xs) n)) one ∙ ap (λ o. option_map (λ r. r.name) o) at.got in
    let parted : entries t ≡ map row_entry at.front ++ row_entry at.last ∷ rest =
    e ∙ (ap (λ l. map row_entry l ++ rest) at.is ∙ (ap (λ l. l ++ rest) (map-append row_entry at.front (at.last ∷ [])) ∙ append_assoc (map row_entry at.front) (row_entry at.last ∷ []) rest)) in
    ap (λ o. next_after o t) here ∙ rows_in_order t (map row_entry at.front) rest (row_entry at.last) parted

abbrev first_rest : List Entry → List Entry
first_rest [] = []
first_rest (x ∷ xs) = xs

a_first : (es : List Entry) (x : Entry) → Some x ≡ slice_get es 0 → es ≡ x ∷ first_rest es
a_first [] x e = absurd (let bad : ◌≡◌ {A = Option Entry} (Some x) None = e in cc)
a_first (y ∷ ys) x e = let same : ◌≡◌ {A = Option Entry} (Some x) (Some y) = e in let here : x ≡ y = cc in ap (λ z. z ∷ ys) (sym here)

none_left : (t : Table) (rows : List Row) (rest : List Entry) → entries t ≡ map row_entry rows ++ rest → None ≡ next_after (name_before rows) t → map row_entry rows ≡ entries t
none_left t rows rest front e =
    let none : rest ≡ [] = no_items rest (e ∙ behind t rows rest front) in
    sym (append-nil (map row_entry rows)) ∙ (ap (λ r. map row_entry rows ++ r) (sym none) ∙ sym front)

one_more : (t : Table) (rows : List Row) (rest : List Entry) (row : Row) → entries t ≡ map row_entry rows ++ rest → Some (row_entry row) ≡ next_after (name_before rows) t → IsFront t (rows ++ row ∷ [])
one_more t rows rest row front e =
    let some : rest ≡ row_entry row ∷ first_rest rest = a_first rest (row_entry row) (e ∙ behind t rows rest front) in (
      first_rest rest,
      front ∙ (ap (λ r. map row_entry rows ++ r) some ∙ (sym (append_assoc (map row_entry rows) (row_entry row ∷ []) (first_rest rest)) ∙ ap (λ l. l ++ first_rest rest) (sym (map-append row_entry rows (row ∷ []))))),
    )

comes : (t : Table) (rows : List Row) (o : Option Row) → option_map row_entry o ≡ next_after (name_before rows) t → ComesNext t rows o
comes t rows None e = λ f. none_left t rows f.0 f.1 e
comes t rows (Some row) e = λ f. one_more t rows f.0 row f.1 e

pub comes_where_told : (o : Option Table) (rows : List Row) (row : Option Row) → WhereTold o (λ t. option_map row_entry row ≡ next_after (name_before rows) t) → WhereTold o (λ t. ComesNext t rows row)
comes_where_told None rows row e = tt
comes_where_told (Some t) rows row e = comes t rows row e

pub none_read : (o : Option Table) → WhereTold o (λ t. IsFront t [])
none_read None = tt
none_read (Some t) = (entries t, refl)

-- where the first rows are all of them
pub all_read : (o : Option Table) (rows : List Row) → WhereTold o (λ t. IsFront t rows) → WhereTold o (λ t. ComesNext t rows None) → WhereTold o (λ t. map row_entry rows ≡ entries t)
all_read None rows front next = tt
all_read (Some t) rows front next = next front

pub more_read : (o : Option Table) (rows : List Row) (row : Row) → WhereTold o (λ t. IsFront t rows) → WhereTold o (λ t. ComesNext t rows (Some row)) → WhereTold o (λ t. IsFront t (rows ++ row ∷ []))
more_read None rows row front next = tt
more_read (Some t) rows row front next = next front

-- rows of a table that rise
sorted_behind : (xs ys : List Entry) → T (is_sorted name_cmp (xs ++ ys)) → T (is_sorted name_cmp ys)
sorted_behind [] ys h = h
sorted_behind (x ∷ xs) ys h = sorted_behind xs ys (second_of _ _ h)

is_true : (b : Bool) → T b → b ≡ true
is_true true h = refl
is_true false h = absurd h

next_above : (t : Table) (rows : List Row) (row : Row) → IsFront t (rows ++ row ∷ []) → above_last rows row ≡ true
next_above t [] row front = refl
next_above t (x ∷ xs) row front =
    let at = ends x xs in
    let one : length (x ∷ xs) - 1 ≡ length xs = omega arith in
    let parted : map row_entry ((x ∷ xs) ++ row ∷ []) ++ front.0 ≡ map row_entry at.front ++ (row_entry at.last ∷ row_entry row ∷ front.0) =
    ap (λ l. map row_entry (l ++ row ∷ []) ++ front.0) at.is
    ∙ (ap (λ l. map row_entry l ++ front.0) (append_assoc at.front (at.last ∷ []) (row ∷ []))
    ∙ (ap (λ l. l ++ front.0) (map-append row_entry at.front (at.last ∷ row ∷ [])) ∙ append_assoc (map row_entry at.front) (row_entry at.last ∷ row_entry row ∷ []) front.0)) in
    let sorted : T (is_sorted name_cmp (row_entry at.last ∷ row_entry row ∷ front.0)) =
    sorted_behind (map row_entry at.front) _ (subst (λ es. T (is_sorted name_cmp es)) (front.1 ∙ parted) (entries_sorted t)) in
    ap (λ n. option_map_or (λ (l : Row). is_lt (name_cmp l.name row.name)) (slice_get (x ∷ xs) n) true) one
    ∙ (ap (λ o. option_map_or (λ (l : Row). is_lt (name_cmp l.name row.name)) o true) at.got ∙ is_true _ (first_of _ _ (first_of _ _ sorted)))

-- the row that comes next is never below the last one
pub never_below : (o : Option Table) (rows : List Row) (row : Row) → WhereTold o (λ t. IsFront t rows) → WhereTold o (λ t. ComesNext t rows (Some row)) → above_last rows row ≡ false → WhereTold o (λ t. 8000000 < len t)
never_below None rows row front next below = tt
never_below (Some t) rows row front next below = absurd (let bad : true ≡ false = sym (next_above t rows row (next front)) ∙ below in cc)

-- one row more than there may be
pub too_many : (o : Option Table) (rows : List Row) (row : Row) → WhereTold o (λ t. IsFront t rows) → WhereTold o (λ t. ComesNext t rows (Some row)) → 8000000 ≤ length rows → WhereTold o (λ t. 8000000 < len t)
too_many None rows row front next many = tt
too_many (Some t) rows row front next many =
    let more = next front in
    let all = len-entries t ∙ ap length more.1 in
    let joined = length-append (map row_entry (rows ++ row ∷ [])) more.0 in
    let mapped = length-map (rows ++ row ∷ []) row_entry in
    let here = length-append rows (row ∷ []) in
    omega (arith, all, joined, mapped, here, many)

pub never_beyond : (o : Option Table) (rows : List Row) (row : Row) → WhereTold o (λ t. IsFront t rows) → WhereTold o (λ t. ComesNext t rows (Some row)) → above_last rows row ≡ false → WhereTold o (λ t. IsOneTooMany t row.name)
never_beyond None rows row front next below = tt
never_beyond (Some t) rows row front next below = absurd (let bad : true ≡ false = sym (next_above t rows row (next front)) ∙ below in cc)

pub one_too_many : (o : Option Table) (rows : List Row) (row : Row) → WhereTold o (λ t. IsFront t rows) → WhereTold o (λ t. ComesNext t rows (Some row)) → length rows ≡ 8000000 → WhereTold o (λ t. IsOneTooMany t row.name)
one_too_many None rows row front next many = tt
one_too_many (Some t) rows row front next many =
    let more = next front in record {
      before = map row_entry rows;
      row = row_entry row;
      after = more.0;
      parts = more.1 ∙ (ap (λ l. l ++ more.0) (map-append row_entry rows (row ∷ [])) ∙ append_assoc (map row_entry rows) (row_entry row ∷ []) more.0);
      many = length-map rows row_entry ∙ many;
      named = refl;
    }
