-- A store of rows with names of their own holds each of them, and no others.
use Rattle.std.proofs.Common.{◌≡◌, ◌≢◌, ℕ, Bool, true, false, cond, List, [], ◌∷◌, ◌++◌, append-nil, map, length, Option, Some, None, refl, sym, ap, ◌∙◌, subst, arith}
use Rattle.std.specs.declared.cmp.Ordering.{Ordering}
use Rattle.std.specs.declared.cmp.Ordering.TheVariants.{Less, Equal, Greater}
use Rattle.std.specs.Cmp.{tied_itself}
use Rattle.std.specs.Ordering.{is_eq, eq_by_cmp}
use Rattle.std.specs.FinMap.Entries.{by_order as placed}
use Rattle.std.specs.FinMap.{empty, get, entries, find, put, insert, get-insert, get-empty, get-entries, entries-insert, len-empty, len-entries}
use Rattle.std.specs.List.{AllByRecursion}
use Rattle.std.specs.List.Sorted.{IsPermutation}
use Rattle.std.proofs.lemmas.List.Sorted.{IsPermutation-refl, IsPermutation-trans, IsPermutation-sym, IsPermutation-cons, IsPermutation-append, IsPermutation-middle}
use Rattle.std.proofs.lemmas.Map.Views.{tells_apart}
use Rattle.ixp_io.specs.declared.keeper.RowName.{RowName}
use Rattle.ixp_io.specs.Tables.{Table, name_cmp, changed}
use Rattle.ixp_io.proofs.Rows.{name_total, name_same}
use Rattle.ixp_num_tables.specs.Sums.{Pairs}
use Rattle.ixp_num_tables.proofs.AllItems.{all_true}
use Rattle.ixp_num_tables.proofs.Orders.{all_weaker}
use Rattle.ixp_machine_steps.specs.declared.state.State.{State}
use Rattle.ixp_machine_steps.specs.States.{ValidState}
use Rattle.ixp_store_rows.specs.Names.{Entry}
use Rattle.ixp_store_rows.specs.States.{set_row, stored_rows, tables}
use Rattle.ixp_store_rows.proofs.Apart.{Differ}
use Rattle.ixp_store_rows.proofs.NamesOnce.{names_once}

ties_itself : (k : RowName) → eq_by_cmp name_cmp k k ≡ true
ties_itself k = ap is_eq (tied_itself name_total k)

other_name : (q k : RowName) → q ≢ k → eq_by_cmp name_cmp q k ≡ false
other_name q k other = by_bool (eq_by_cmp name_cmp q k) refl
  where
    by_bool : (b : Bool) → eq_by_cmp name_cmp q k ≡ b → b ≡ false
    by_bool true e = absurd (other (tells_apart name_same q k e))
    by_bool false e = refl

-- what is stored under a name stays, where no row with that name is set
pub stays : (t : Table) (q : RowName) (es : List Entry) → AllByRecursion (λ e. q ≢ e.0) es → get (changed t (map set_row es)) q ≡ get t q
stays t q [] all = refl
stays t q (e ∷ es) all =
    stays (insert t e.0 e.1) q es all.1 ∙ (get-insert name_total t e.0 e.1 q ∙ ap (λ b. cond b (Some e.1) (get t q)) (other_name q e.0 all.0))

-- each row that is set is there
pub each_there : (t : Table) (es : List Entry) → Pairs Differ es → AllByRecursion (λ e. get (changed t (map set_row es)) e.0 ≡ Some e.1) es
each_there t [] apart = tt
each_there t (e ∷ es) apart = (
  stays (insert t e.0 e.1) e.0 es apart.0 ∙ (get-insert name_total t e.0 e.1 e.0 ∙ ap (λ b. cond b (Some e.1) (get t e.0)) (ties_itself e.0)),
  each_there (insert t e.0 e.1) es apart.1,
)

-- where a name isn't there, a row with it is added
put_new : (k : RowName) (v : List ℕ) (es : List Entry) → find name_cmp k es ≡ None → IsPermutation (put name_cmp k v es) ((k, v) ∷ es)
put_new k v [] none = IsPermutation-refl ((k, v) ∷ [])
put_new k v (e ∷ es) none = by_order (name_cmp k e.0) none (put_new k v es)
  where
    by_order : (o : Ordering) → cond (is_eq o) (Some e.1) (find name_cmp k es) ≡ None → (find name_cmp k es ≡ None → IsPermutation (put name_cmp k v es) ((k, v) ∷ es))
        → IsPermutation (placed o ((k, v) ∷ e ∷ es) ((e.0, v) ∷ es) (e ∷ put name_cmp k v es)) ((k, v) ∷ e ∷ es)
    by_order Less none more = IsPermutation-refl ((k, v) ∷ e ∷ es)
    by_order Equal none more = absurd (let bad : ◌≡◌ {A = Option (List ℕ)} (Some e.1) None = none in cc)
    by_order Greater none more =
        IsPermutation-trans (e ∷ put name_cmp k v es) (e ∷ (k, v) ∷ es) ((k, v) ∷ e ∷ es) (IsPermutation-cons e (put name_cmp k v es) ((k, v) ∷ es) (more none)) (IsPermutation-middle (e ∷ []) (k, v) es)

-- rows that are set behind those that are there
pub entries_with : (t : Table) (es : List Entry) → Pairs Differ es → AllByRecursion (λ e. get t e.0 ≡ None) es → IsPermutation (entries (changed t (map set_row es))) (entries t ++ es)
entries_with t [] apart new = subst (IsPermutation (entries t)) (sym (append-nil (entries t))) (IsPermutation-refl (entries t))
entries_with t (e ∷ es) apart new =
    let one : IsPermutation (entries (insert t e.0 e.1)) (e ∷ entries t) =
    subst (λ xs. IsPermutation xs (e ∷ entries t)) (sym (entries-insert name_total t e.0 e.1)) (put_new e.0 e.1 (entries t) (sym (get-entries t e.0) ∙ new.0)) in
    let others : AllByRecursion (λ f. get (insert t e.0 e.1) f.0 ≡ None) es = still es apart.0 new.1 in
    IsPermutation-trans _ _ _ (entries_with (insert t e.0 e.1) es apart.1 others)
    (IsPermutation-trans _ _ _ (IsPermutation-append (entries (insert t e.0 e.1)) (e ∷ entries t) es es one (IsPermutation-refl es)) (IsPermutation-sym _ _ (IsPermutation-middle (entries t) e es)))
  where
    still : (fs : List Entry) → AllByRecursion (Differ e) fs → AllByRecursion (λ f. get t f.0 ≡ None) fs → AllByRecursion (λ f. get (insert t e.0 e.1) f.0 ≡ None) fs
    still [] far none = tt
    still (f ∷ fs) far none = (
      get-insert name_total t e.0 e.1 f.0 ∙ (ap (λ b. cond b (Some e.1) (get t f.0)) (other_name f.0 e.0 (λ is. far.0 (sym is))) ∙ none.0),
      still fs far.1 none.1,
    )

no_entries : (es : List Entry) → length es ≡ 0 → es ≡ []
no_entries [] e = refl
no_entries (x ∷ xs) e = absurd (omega (arith, e))

nothing_held : entries {R = name_cmp} (empty {X = List ℕ}) ≡ []
nothing_held = no_entries (entries empty) (sym (len-entries empty) ∙ len-empty name_cmp (List ℕ))

-- a store of a valid state has each of its rows under its name
pub rows_held : (s : State) → ValidState s → AllByRecursion (λ e. get (tables s) e.0 ≡ Some e.1) (stored_rows s)
rows_held s v = each_there empty (stored_rows s) (names_once s v)

-- and no others
pub rows_are : (s : State) → ValidState s → IsPermutation (entries (tables s)) (stored_rows s)
rows_are s v =
    subst (λ es. IsPermutation (entries (tables s)) (es ++ stored_rows s)) nothing_held
    (entries_with empty (stored_rows s) (names_once s v) (all_true (λ e. get empty e.0 ≡ None) (λ e. get-empty name_cmp e.0) (stored_rows s)))

-- what isn't the name of a row has no body
pub others_empty : (s : State) (q : RowName) → AllByRecursion (λ e. q ≢ e.0) (stored_rows s) → get (tables s) q ≡ None
others_empty s q all = stays empty q (stored_rows s) all ∙ get-empty name_cmp q
