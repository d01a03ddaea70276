-- Tables of rows: their laws, and that an ordered map in memory is one.
use Rattle.std.proofs.Common.{◌≡◌, ◌∙◌, Option, None, Some, List, [], ◌∷◌, ◌++◌, ℕ, Bool, true, false, ◌&&◌, cond, slice_get, refl, sym, ap, subst, T}
use Rattle.std.specs.List.{AllByRecursion}
use Rattle.std.specs.List.Sorted.{IsStrictlySortedBy}
use Rattle.std.specs.Cmp.{IsTotalOrder, on_total, eq_by_cmp_equiv}
use Rattle.std.specs.Cmp.Lexicographic.{nat_list_cmp_total}
use Rattle.std.specs.BTreeMap.{is_at}
use Rattle.std.specs.Map.{keys_of, lookup}
use Rattle.std.specs.Ordering.{is_lt, eq_by_cmp, ordering_reverse}
use Rattle.std.specs.FinMap.{IsAntisymmetric, empty, get-empty, slice_cmp-IsAntisymmetric, nat_cmp-IsAntisymmetric, get, entries_sorted, from_sorted, from_entries, get-insert, get-remove, get-from_sorted, get-from_entries, entries-from_sorted, same_map, find, is_sorted}
use Rattle.std.specs.FinMap.Entries.{below_all}
use Rattle.std.specs.Cmp.{tied_itself}
use Rattle.std.specs.declared.cmp.Ordering.{Ordering}
use Rattle.std.specs.declared.cmp.Ordering.TheVariants.{Less, Equal, Greater}
use Rattle.ixp_io.specs.declared.keeper.RowName.{RowName}
use Rattle.ixp_io.specs.Tables.{Table, name_bytes, name_cmp, set, rows_after, next_after, RowsInOrder}

-- the order of names is total
pub name_total : IsTotalOrder name_cmp
name_total = on_total name_bytes nat_list_cmp_total

-- only equal names tie
pub name_same : IsAntisymmetric name_cmp
name_same a b tie =
    let same : name_bytes a ≡ name_bytes b = slice_cmp-IsAntisymmetric nat_cmp-IsAntisymmetric (name_bytes a) (name_bytes b) tie in
    let kind : a.kind ≡ b.kind = cc in
    let key : a.key ≡ b.key = cc in
    λ i. record { kind = kind i; key = key i }

-- two tables with the same body for each name are equal
pub same_rows : (m n : Table) → ((name : RowName) → get m name ≡ get n name) → m ≡ n
same_rows m n is = same_map name_total name_same m n is

both : (a b : Bool) → T a → T b → T (a && b)
both true b p q = q
both false b p q = absurd p

below : (name : RowName) (es : List (RowName × List ℕ)) → AllByRecursion (λ k. name_cmp name k ≡ Less) (keys_of es) → T (below_all name_cmp name es)
below name [] h = tt
below name (e ∷ es) h = both _ _ (subst (λ o. T (is_lt o)) (sym h.0) tt) (below name es h.1)

-- the names of an ordered map rise
pub rises : (es : List (RowName × List ℕ)) → IsStrictlySortedBy name_cmp (keys_of es) → T (is_sorted name_cmp es)
unfolding IsStrictlySortedBy
rises [] h = tt
rises (e ∷ es) h = both _ _ (below e.0 es h.0) (rises es h.1)

-- a look-up finds what the map has
pub lookup_find : (name : RowName) (es : List (RowName × List ℕ)) → lookup (is_at (name_cmp name)) es ≡ find name_cmp name es
lookup_find name [] = refl
lookup_find name (e ∷ es) = ap (λ o. cond (is_at (name_cmp name) e.0) (Some e.1) o) (lookup_find name es)

-- what an ordered map has for a name
pub get-table_of : (es : List (RowName × List ℕ)) (name : RowName) → IsStrictlySortedBy name_cmp (keys_of es) → get (from_sorted {R = name_cmp} es) name ≡ lookup (is_at (name_cmp name)) es
get-table_of es name h = get-from_sorted name_cmp es name (rises es h) ∙ sym (lookup_find name es)

-- what a change of one row does to the map is what it does to the table
pub set-table_of : (old new : List (RowName × List ℕ)) (name : RowName) (body : Option (List ℕ)) → IsStrictlySortedBy name_cmp (keys_of old) → IsStrictlySortedBy name_cmp (keys_of new) → ((q : RowName) → lookup (is_at (name_cmp q)) new ≡ cond (is_at (name_cmp name) q) body (lookup (is_at (name_cmp q)) old)) → from_sorted {R = name_cmp} new ≡ set (from_sorted old) name body
set-table_of old new name (Some body) from to is = same_rows _ _ (λ q. get-table_of new q to ∙ is q ∙ ap (λ b. cond b (Some body) (lookup (is_at (name_cmp q)) old)) ((eq_by_cmp_equiv name_total).symm name q) ∙ ap (λ o. cond (eq_by_cmp name_cmp q name) (Some body) o) (sym (get-table_of old q from)) ∙ sym (get-insert name_total (from_sorted old) name body q))
set-table_of old new name None from to is = same_rows _ _ (λ q. get-table_of new q to ∙ is q ∙ ap (λ b. cond b None (lookup (is_at (name_cmp q)) old)) ((eq_by_cmp_equiv name_total).symm name q) ∙ ap (λ o. cond (eq_by_cmp name_cmp q name) None o) (sym (get-table_of old q from)) ∙ sym (get-remove name_total (from_sorted old) name q))

-- the rows of a list that rises are those of the list
pub copied-table_of : (es : List (RowName × List ℕ)) → IsStrictlySortedBy name_cmp (keys_of es) → from_entries {R = name_cmp} es ≡ from_sorted es
copied-table_of es h = same_rows _ _ (λ q. get-from_entries name_total es q ∙ sym (get-from_sorted name_cmp es q (rises es h)))

-- the rows after a name, in an ordered map
pub after-table_of : (before : Option RowName) (es : List (RowName × List ℕ)) → IsStrictlySortedBy name_cmp (keys_of es) → next_after before (from_sorted es) ≡ slice_get (rows_after before es) 0
after-table_of before es h = ap (λ t. slice_get (rows_after before t) 0) (entries-from_sorted name_cmp es (rises es h))

-- no rows
pub none-table_of : (es : List (RowName × List ℕ)) → es ≡ [] → from_sorted {R = name_cmp} es ≡ empty
none-table_of es is = ap from_sorted is ∙ same_rows _ _ (λ q. get-from_sorted name_cmp [] q tt ∙ sym (get-empty name_cmp q))

to_true : (b : Bool) → T b → b ≡ true
to_true true h = refl
to_true false h = absurd h

first_of_both : (a b : Bool) → T (a && b) → T a
first_of_both true b h = tt
first_of_both false b h = h

second_of_both : (a b : Bool) → T (a && b) → T b
second_of_both true b h = h
second_of_both false b h = absurd h

less : (o : Ordering) → T (is_lt o) → o ≡ Less
less Less h = refl
less Equal h = absurd h
less Greater h = absurd h

-- all rows above a name stay
all_above : (name : RowName) (es : List (RowName × List ℕ)) → T (below_all name_cmp name es) → rows_after (Some name) es ≡ es
all_above name [] h = refl
all_above name (e ∷ es) h =
    ap (λ b. cond b (e ∷ rows_after (Some name) es) (rows_after (Some name) es)) (to_true _ (first_of_both _ _ h))
    ∙ ap (λ t. e ∷ t) (all_above name es (second_of_both _ _ h))

-- a row that stands behind is above
above : (e row : RowName × List ℕ) (es after : List (RowName × List ℕ)) → T (below_all name_cmp e.0 (es ++ row ∷ after)) → name_cmp e.0 row.0 ≡ Less
above e row [] after h = less _ (first_of_both _ _ h)
above e row (x ∷ es) after h = above e row es after (second_of_both _ _ h)

-- in a list that rises, the rows above one of them are those behind it
behind : (before after : List (RowName × List ℕ)) (row : RowName × List ℕ) → T (is_sorted name_cmp (before ++ row ∷ after)) → rows_after (Some row.0) (before ++ row ∷ after) ≡ after
behind [] after row h =
    ap (λ o. cond (is_lt o) (row ∷ rows_after (Some row.0) after) (rows_after (Some row.0) after)) (tied_itself name_total row.0)
    ∙ all_above row.0 after (first_of_both _ _ h)
behind (e ∷ before) after row h =
    let rest = rows_after (Some row.0) (before ++ row ∷ after) in
    let greater : name_cmp row.0 e.0 ≡ Greater = name_total.antisymm row.0 e.0 ∙ ap ordering_reverse (above e row before after (first_of_both _ _ h)) in
    ap (λ o. cond (is_lt o) (e ∷ rest) rest) greater ∙ behind before after row (second_of_both _ _ h)

-- after a row comes the one behind it
pub rows_in_order : RowsInOrder
rows_in_order rows before after row is =
    ap (λ t. slice_get t 0) (ap (rows_after (Some row.0)) is ∙ behind before after row (subst (λ es. T (is_sorted name_cmp es)) is (entries_sorted rows)))
