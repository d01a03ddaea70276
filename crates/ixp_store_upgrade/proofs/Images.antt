-- The rows of a store of the first version, seen as those of today's.
use Rattle.std.proofs.Common.{◌≡◌, ◌==◌, ◌&&◌, ℕ, Bool, true, false, cond, codes, if◌then◌else◌, List, [], ◌∷◌, ◌++◌, map, Option, Some, None, option_map, T, refl, sym, ap, ◌∙◌, subst}
use Rattle.std.specs.Prelude.{slice_get}
use Rattle.std.specs.Ordering.{is_lt, eq_by_cmp}
use Rattle.std.specs.FinMap.{entries, entries_sorted, entries-from_sorted, from_sorted, find, get, get-entries, get-from_sorted, is_sorted}
use Rattle.std.specs.FinMap.Entries.{below_all}
use Rattle.std.proofs.lemmas.Map.Views.{tells_apart}
use Rattle.ixp_io.specs.declared.keeper.RowName.{RowName}
use Rattle.ixp_io.specs.declared.keeper.Row.{Row}
use Rattle.ixp_io.specs.Tables.{Table, name_cmp, next_after, row_entry, rows_after}
use Rattle.ixp_io.specs.Told.{WhereTold}
use Rattle.ixp_io.proofs.Rows.{name_same}
use Rattle.ixp_store_rows.specs.Names.{Entry}
use Rattle.ixp_store_upgrade.specs.Versions.{body_now, is_version, row_now, table_now}

-- names stay, and so does their order
below_now : (k : RowName) (es : List Entry) → below_all name_cmp k (map row_now es) ≡ below_all name_cmp k es
below_now k [] = refl
below_now k (e ∷ es) = ap (λ b. is_lt (name_cmp k e.0) && b) (below_now k es)

sorted_now : (es : List Entry) → is_sorted name_cmp (map row_now es) ≡ is_sorted name_cmp es
sorted_now [] = refl
sorted_now (e ∷ es) =
    ap (λ b. b && is_sorted name_cmp (map row_now es)) (below_now e.0 es) ∙ ap (λ b. below_all name_cmp e.0 es && b) (sorted_now es)

are_sorted : (t : Table) → T (is_sorted name_cmp (map row_now (entries t)))
are_sorted t = subst T (sym (sorted_now (entries t))) (entries_sorted t)

entries_now : (t : Table) → entries (table_now t) ≡ map row_now (entries t)
entries_now t = entries-from_sorted name_cmp (map row_now (entries t)) (are_sorted t)

find_now : (q : RowName) (es : List Entry) → find name_cmp q (map row_now es) ≡ option_map (body_now q) (find name_cmp q es)
find_now q [] = refl
find_now q (e ∷ es) = by_name (eq_by_cmp name_cmp q e.0) refl (find_now q es)
  where
    by_name : (b : Bool) → eq_by_cmp name_cmp q e.0 ≡ b → find name_cmp q (map row_now es) ≡ option_map (body_now q) (find name_cmp q es)
        → cond b (Some (body_now e.0 e.1)) (find name_cmp q (map row_now es)) ≡ option_map (body_now q) (cond b (Some e.1) (find name_cmp q es))
    by_name true tie more = ap (λ n. Some (body_now n e.1)) (sym (tells_apart name_same q e.0 tie))
    by_name false apart more = more

-- the body of each name
pub get_now : (t : Table) (q : RowName) → get (table_now t) q ≡ option_map (body_now q) (get t q)
get_now t q =
    get-from_sorted name_cmp (map row_now (entries t)) q (are_sorted t) ∙ (find_now q (entries t) ∙ ap (option_map (body_now q)) (sym (get-entries t q)))

-- the rows after a name
above_now : (before : RowName) (es : List Entry) → rows_after (Some before) (map row_now es) ≡ map row_now (rows_after (Some before) es)
above_now before [] = refl
above_now before (e ∷ es) = by_test (is_lt (name_cmp before e.0)) (above_now before es)
  where
    by_test : (b : Bool) → rows_after (Some before) (map row_now es) ≡ map row_now (rows_after (Some before) es)
        → cond b (row_now e ∷ rows_after (Some before) (map row_now es)) (rows_after (Some before) (map row_now es)) ≡ map row_now (cond b (e ∷ rows_after (Some before) es) (rows_after (Some before) es))
    by_test true more = ap (λ l. row_now e ∷ l) more
    by_test false more = more

after_now : (before : Option RowName) (es : List Entry) → rows_after before (map row_now es) ≡ map row_now (rows_after before es)
after_now None es = refl
after_now (Some name) es = above_now name es

first_now : (es : List Entry) → slice_get (map row_now es) 0 ≡ option_map row_now (slice_get es 0)
first_now [] = refl
first_now (e ∷ es) = refl

next_is : (before : Option RowName) (t : Table) → next_after before (table_now t) ≡ option_map row_now (next_after before t)
next_is before t =
    ap (λ es. slice_get (rows_after before es) 0) (entries_now t) ∙ (ap (λ es. slice_get es 0) (after_now before (entries t)) ∙ first_now (rows_after before (entries t)))

-- what a store tells of its next row
pub next_told :
    (o : Option Table) (before : Option RowName) (row now : Option Row) → WhereTold o (λ rows. option_map row_entry row ≡ next_after before rows) → option_map row_entry now ≡ option_map row_now (option_map row_entry row)
    → WhereTold (option_map table_now o) (λ rows. option_map row_entry now ≡ next_after before rows)
next_told None before row now told is = tt
next_told (Some t) before row now told is = is ∙ (ap (option_map row_now) told ∙ sym (next_is before t))
