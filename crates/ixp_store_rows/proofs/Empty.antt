-- A store of which no first row is found is empty.
use Rattle.std.proofs.Common.{◌≡◌, ◌≢◌, ℕ, map, List, [], ◌∷◌, ◌++◌, length, Option, Some, None, option_map, refl, sym, ap, ◌∙◌, subst}
use Rattle.std.specs.Prelude.{slice_get}
use Rattle.std.proofs.lemmas.List.{append_assoc, map-append}
use Rattle.std.specs.FinMap.{entries, empty, empty_of_len, len, len-empty, len-entries}
use Rattle.ixp_io.specs.declared.keeper.Row.{Row}
use Rattle.ixp_io.specs.declared.keeper.Change.{Change}
use Rattle.ixp_io.specs.Tables.{Table, name_cmp, changed, next_after, row_entry}
use Rattle.ixp_io.specs.Told.{Told, WhereTold}
use Rattle.ixp_machine_steps.specs.declared.state.State.{State}
use Rattle.ixp_store_rows.specs.Names.{Entry}
use Rattle.ixp_store_rows.specs.States.{set_row, stored_rows, tables}

pub no_items : (es : List Entry) → None ≡ slice_get es 0 → es ≡ []
no_items [] e = refl
no_items (x ∷ xs) e = absurd (let bad : ◌≡◌ {A = Option Entry} None (Some x) = e in cc)

some_items : (es : List Entry) (x : Entry) → Some x ≡ slice_get es 0 → length es ≡ 0 → ⊥
some_items [] x e is = let bad : ◌≡◌ {A = Option Entry} (Some x) None = e in cc
some_items (y ∷ ys) x e is = cc

none_first : (t : Table) → None ≡ next_after None t → t ≡ empty
none_first t e = empty_of_len t (len-entries t ∙ ap length (no_items (entries t) e))

some_first : (t : Table) (x : Entry) → Some x ≡ next_after None t → t ≢ empty
some_first t x e is = some_items (entries t) x e (sym (len-entries t) ∙ (ap len is ∙ len-empty name_cmp (List ℕ)))

-- where no first row was found, what a batch made is made of nothing
filled_of : (before middle after : Option Table) (batch : List Change) (made : Table) → WhereTold before (λ rows. None ≡ next_after None rows) → middle ≡ before
    → Told middle after (λ rows now. now ≡ changed rows batch) → changed empty batch ≡ made → Told before after (λ rows now. (rows ≡ empty) × (now ≡ made))
filled_of None None None batch made none same told is = tt
filled_of None None (Some now) batch made none same told is = told
filled_of None (Some middle) after batch made none same told is = absurd (let bad : ◌≡◌ {A = Option Table} (Some middle) None = same in cc)
filled_of (Some rows) None after batch made none same told is = absurd (let bad : ◌≡◌ {A = Option Table} None (Some rows) = same in cc)
filled_of (Some rows) (Some middle) None batch made none same told is = told
filled_of (Some rows) (Some middle) (Some now) batch made none same told is =
    let both : ◌≡◌ {A = Option Table} (Some middle) (Some rows) = same in
    let here : middle ≡ rows = cc in
    let clear : rows ≡ empty = none_first rows none in
    (clear, told ∙ ap (λ t. changed t batch) (here ∙ clear) ∙ is)

pub filled :
    (before middle after : Option Table) (o : Option Row) (batch : List Change) (made : Table) → o ≡ None → WhereTold before (λ rows. option_map row_entry o ≡ next_after None rows) → middle ≡ before
    → Told middle after (λ rows now. now ≡ changed rows batch) → changed empty batch ≡ made → Told before after (λ rows now. (rows ≡ empty) × (now ≡ made))
filled before middle after o batch made none is same told makes =
    filled_of before middle after batch made (subst (λ (x : Option Row). WhereTold before (λ rows. option_map row_entry x ≡ next_after None rows)) none is) same told makes

full_of : (before : Option Table) (x : Entry) → WhereTold before (λ rows. Some x ≡ next_after None rows) → WhereTold before (λ rows. rows ≢ empty)
full_of None x some = tt
full_of (Some rows) x some = some_first rows x some

pub full : (before : Option Table) (o : Option Row) (row : Row) → o ≡ Some row → WhereTold before (λ rows. option_map row_entry o ≡ next_after None rows) → WhereTold before (λ rows. rows ≢ empty)
full before o row some is = full_of before (row_entry row) (subst (λ (x : Option Row). WhereTold before (λ rows. option_map row_entry x ≡ next_after None rows)) some is)

-- the changes that set all rows of a state make its table
pub makes : (batch : List Change) (s : State) → batch ≡ map set_row (stored_rows s) → changed empty batch ≡ tables s
makes batch s is = ap (λ cs. changed empty cs) is

-- rows that are set one list after the other
pub three : (xs ys zs : List Entry) (start one two all : List Change) → one ≡ start ++ map set_row xs → two ≡ one ++ map set_row ys → all ≡ two ++ map set_row zs → all ≡ start ++ map set_row (xs ++ (ys ++ zs))
three xs ys zs start one two all e f g =
    g ∙ (ap (λ l. l ++ map set_row zs) (f ∙ ap (λ l. l ++ map set_row ys) e)
    ∙ (append_assoc (start ++ map set_row xs) (map set_row ys) (map set_row zs)
    ∙ (append_assoc start (map set_row xs) (map set_row ys ++ map set_row zs)
    ∙ ap (λ l. start ++ l) (ap (λ l. map set_row xs ++ l) (sym (map-append set_row ys zs)) ∙ sym (map-append set_row xs (ys ++ zs))))))
