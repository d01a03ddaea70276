-- Rows that are set in any order make the table of which they are the rows.
use Rattle.std.proofs.Common.{◌≡◌, List, [], ◌∷◌, map, ℕ, Bool, Option, Some, None, IsSome, true, false, cond, inl, inr, length, refl, sym, ap, subst, ◌∙◌, T, ◌&&◌}
use Rattle.std.specs.Cmp.{tied_itself}
use Rattle.std.specs.Ordering.{is_lt, is_eq, eq_by_cmp}
use Rattle.std.specs.FinMap.{get, entries, empty, insert, get-insert, get-empty, get-entries, entries_sorted, empty_of_len, len-entries}
use Rattle.std.specs.FinMap.Entries.{find, is_sorted, below_all}
use Rattle.std.specs.List.{AllByRecursion}
use Rattle.std.specs.List.Sorted.{IsPermutation}
use Rattle.std.proofs.lemmas.List.Elements.{All-from_recursion, recursion_from_All}
use Rattle.std.proofs.lemmas.List.Sorted.{All-permutation, IsPermutation-sym}
use Rattle.std.proofs.lemmas.Map.Views.{tells_apart}
use Rattle.ixp_io.specs.declared.keeper.RowName.{RowName}
use Rattle.ixp_io.specs.declared.keeper.Change.{Change}
use Rattle.ixp_io.specs.Tables.{Table, changed, name_cmp, row_entry, set}
use Rattle.ixp_io.proofs.Rows.{name_total, name_same, same_rows}
use Rattle.ixp_num_tables.proofs.Orders.{all_weaker}
use Rattle.ixp_num_tables.proofs.AllItems.{all_both}
use Rattle.ixp_store_rows.specs.Names.{Entry}
use Rattle.ixp_store_rows.specs.States.{set_row, stored_rows}
use Rattle.ixp_io.specs.declared.keeper.Row.{Row}
use Rattle.ixp_io.specs.Told.{WhereTold}
use Rattle.ixp_machine_steps.specs.Openings.{first_state}
use Rattle.ixp_machine_steps.specs.declared.state.State.{State}
use Rattle.ixp_store_words.specs.Answers.{IsStoreOf, empty_registry}

pub ties_itself : (k : RowName) → eq_by_cmp name_cmp k k ≡ true
ties_itself k = ap is_eq (tied_itself name_total k)

pub first_of : (a b : Bool) → T (a && b) → T a
first_of true b h = tt
first_of false b h = absurd h

pub second_of : (a b : Bool) → T (a && b) → T b
second_of true b h = h
second_of false b h = absurd h

-- a name below another one doesn't tie with it
apart : (k q : RowName) → T (is_lt (name_cmp k q)) → eq_by_cmp name_cmp q k ≡ false
apart k q less = by_bool (eq_by_cmp name_cmp q k) refl
  where
    never : q ≡ k → ⊥
    never e = subst (λ o. T (is_lt o)) (tied_itself name_total k) (subst (λ x. T (is_lt (name_cmp k x))) e less)

    by_bool : (b : Bool) → eq_by_cmp name_cmp q k ≡ b → eq_by_cmp name_cmp q k ≡ false
    by_bool true e = absurd (never (tells_apart name_same q k e))
    by_bool false e = e

pub all_above : (k : RowName) (es : List Entry) → T (below_all name_cmp k es) → AllByRecursion (λ e. T (is_lt (name_cmp k e.0))) es
all_above k [] h = tt
all_above k (e ∷ es) h = (first_of _ _ h, all_above k es (second_of _ _ h))

-- in a list whose names rise each entry is found
all_found : (es : List Entry) → T (is_sorted name_cmp es) → AllByRecursion (λ e. find name_cmp e.0 es ≡ Some e.1) es
all_found [] h = tt
all_found (e ∷ es) h = (
  ap (λ b. cond b (Some e.1) (find name_cmp e.0 es)) (ties_itself e.0),
  all_weaker (λ x. T (is_lt (name_cmp e.0 x.0)) × (find name_cmp x.0 es ≡ Some x.1)) (λ x. find name_cmp x.0 (e ∷ es) ≡ Some x.1)
      (λ x both. ap (λ b. cond b (Some e.1) (find name_cmp x.0 es)) (apart e.0 x.0 both.0) ∙ both.1) es
      (all_both (λ x. T (is_lt (name_cmp e.0 x.0))) (λ x. find name_cmp x.0 es ≡ Some x.1) es (all_above e.0 es (first_of _ _ h)) (all_found es (second_of _ _ h))),
)

-- what holds of all entries holds of one that is found
pub found_one : (P : RowName → Type 0) (es : List Entry) (q : RowName) (b : List ℕ) → AllByRecursion (λ e. P e.0) es → find name_cmp q es ≡ Some b → P q
found_one P [] q b all e = absurd (let bad : ◌≡◌ {A = Option (List ℕ)} None (Some b) = e in cc)
found_one P (x ∷ xs) q b all e = by_bool (found_one P xs q b all.1) (eq_by_cmp name_cmp q x.0) refl
  where
    by_bool : (find name_cmp q xs ≡ Some b → P q) → (t : Bool) → eq_by_cmp name_cmp q x.0 ≡ t → P q
    by_bool more true is = subst P (sym (tells_apart name_same q x.0 is)) all.0
    by_bool more false is = more (sym (ap (λ t. cond t (Some x.1) (find name_cmp q xs)) is) ∙ e)

-- a change that sets what the table has
record Sets (t : Table) (c : Change) : Type 0 where
  body : List ℕ
  is_body : c.body ≡ Some body
  is_there : get t c.name ≡ Some body

-- what the one table has the other one has too
abbrev Within : Table → Table → Type 0
Within m t = (q : RowName) (b : List ℕ) → get m q ≡ Some b → get t q ≡ Some b

set_as : (m : Table) (c : Change) (b : List ℕ) → c.body ≡ Some b → set m c.name c.body ≡ insert m c.name b
set_as m c b e = ap (λ x. set m c.name x) e

set_within : (t m : Table) (c : Change) → Sets t c → Within m t → Within (set m c.name c.body) t
set_within t m c s within q b e = by_bool (eq_by_cmp name_cmp q c.name) refl
  where
    here : get (insert m c.name s.body) q ≡ Some b
    here = sym (ap (λ x. get x q) (set_as m c s.body s.is_body)) ∙ e

    by_bool : (x : Bool) → eq_by_cmp name_cmp q c.name ≡ x → get t q ≡ Some b
    by_bool true is =
        let one : cond true (Some s.body) (get m q) ≡ Some b = sym (ap (λ x. cond x (Some s.body) (get m q)) is) ∙ (sym (get-insert name_total m c.name s.body q) ∙ here) in
        ap (get t) (tells_apart name_same q c.name is) ∙ (s.is_there ∙ one)
    by_bool false is = within q b (sym (ap (λ x. cond x (Some s.body) (get m q)) is) ∙ (sym (get-insert name_total m c.name s.body q) ∙ here))

changed_within : (t m : Table) (cs : List Change) → AllByRecursion (Sets t) cs → Within m t → Within (changed m cs) t
changed_within t m [] all within = within
changed_within t m (c ∷ cs) all within = changed_within t (set m c.name c.body) cs all.1 (set_within t m c all.0 within)

-- what is there stays there
stays : (t m : Table) (c : Change) (q : RowName) → Sets t c → IsSome (get m q) → IsSome (get (set m c.name c.body) q)
stays t m c q s some = subst IsSome (sym (ap (λ x. get x q) (set_as m c s.body s.is_body) ∙ get-insert name_total m c.name s.body q)) (by_bool (eq_by_cmp name_cmp q c.name))
  where
    by_bool : (x : Bool) → IsSome (cond x (Some s.body) (get m q))
    by_bool true = refl
    by_bool false = some

stays_on : (t m : Table) (cs : List Change) (q : RowName) → AllByRecursion (Sets t) cs → IsSome (get m q) → IsSome (get (changed m cs) q)
stays_on t m [] q all some = some
stays_on t m (c ∷ cs) q all some = stays_on t (set m c.name c.body) cs q all.1 (stays t m c q all.0 some)

-- each row that is set is there
all_there : (t m : Table) (cs : List Change) → AllByRecursion (Sets t) cs → AllByRecursion (λ c. IsSome (get (changed m cs) c.name)) cs
all_there t m [] all = tt
all_there t m (c ∷ cs) all = (
  stays_on t (set m c.name c.body) cs c.name all.1
      (subst IsSome (sym (ap (λ x. get x c.name) (set_as m c (all.0).body (all.0).is_body) ∙ (get-insert name_total m c.name (all.0).body c.name ∙ ap (λ x. cond x (Some (all.0).body) (get m c.name)) (ties_itself c.name)))) refl),
  all_there t (set m c.name c.body) cs all.1,
)

sets_mapped : (t : Table) (es : List Entry) → AllByRecursion (λ e. get t e.0 ≡ Some e.1) es → AllByRecursion (Sets t) (map set_row es)
sets_mapped t [] all = tt
sets_mapped t (e ∷ es) all = (record { body = e.1; is_body = refl; is_there = all.0 }, sets_mapped t es all.1)

names_mapped : (P : RowName → Type 0) (es : List Entry) → AllByRecursion (λ c. P c.name) (map set_row es) → AllByRecursion (λ e. P e.0) es
names_mapped P [] all = tt
names_mapped P (e ∷ es) all = (all.0, names_mapped P es all.1)

-- changes that set the rows of a table, each of them and no others, make that table of nothing
pub made : (t : Table) (cs : List Change) → IsPermutation cs (map set_row (entries t)) → t ≡ changed empty cs
made t cs same = same_rows t (changed empty cs) each
  where
    found : AllByRecursion (λ e. get t e.0 ≡ Some e.1) (entries t)
    found = all_weaker (λ e. find name_cmp e.0 (entries t) ≡ Some e.1) (λ e. get t e.0 ≡ Some e.1) (λ e is. get-entries t e.0 ∙ is) (entries t) (all_found (entries t) (entries_sorted t))

    sets : AllByRecursion (Sets t) cs
    sets =
        recursion_from_All (Sets t) cs
        (All-permutation (Sets t) (map set_row (entries t)) cs (IsPermutation-sym cs (map set_row (entries t)) same) (All-from_recursion (Sets t) (map set_row (entries t)) (sets_mapped t (entries t) found)))

    Has : RowName → Type 0
    Has q = IsSome (get (changed empty cs) q)

    there : AllByRecursion (λ e. Has e.0) (entries t)
    there =
        names_mapped Has (entries t)
        (recursion_from_All (λ c. Has c.name) (map set_row (entries t)) (All-permutation (λ c. Has c.name) cs (map set_row (entries t)) same (All-from_recursion (λ c. Has c.name) cs (all_there t empty cs sets))))

    within : Within (changed empty cs) t
    within = changed_within t empty cs sets (λ q b e. absurd (let bad : ◌≡◌ {A = Option (List ℕ)} None (Some b) = sym (get-empty name_cmp q) ∙ e in cc))

    each : (q : RowName) → get t q ≡ get (changed empty cs) q
    each q = by_here (get t q) (get (changed empty cs) q) refl refl
      where
        by_here : (x y : Option (List ℕ)) → get t q ≡ x → get (changed empty cs) q ≡ y → get t q ≡ get (changed empty cs) q
        by_here x (Some b) e f = within q b f ∙ sym f
        by_here None None e f = e ∙ sym f
        by_here (Some b) None e f = absurd (let bad : IsSome {T = List ℕ} None = subst IsSome f (found_one Has (entries t) q b there (sym (get-entries t q) ∙ e)) in let clash : false ≡ true = bad in cc)

-- no row was read
pub none_stored : (o : Option Table) (rows : List Row) (s : State) → rows ≡ [] → WhereTold o (λ t. map row_entry rows ≡ entries t) → s ≡ first_state empty_registry → WhereTold o (IsStoreOf s)
none_stored None rows s none read first = tt
none_stored (Some t) rows s none read first = inr (empty_of_len t (len-entries t ∙ ap length (sym read ∙ ap (map row_entry) none)), first)

-- the rows that were read are those of the state
pub some_stored :
    (o : Option Table) (rows : List Row) (s : State) → WhereTold o (λ t. map row_entry rows ≡ entries t) → IsPermutation (map set_row (stored_rows s)) (map set_row (map row_entry rows)) → WhereTold o (IsStoreOf s)
some_stored None rows s read same = tt
some_stored (Some t) rows s read same = inl (made t (map set_row (stored_rows s)) (subst (λ es. IsPermutation (map set_row (stored_rows s)) (map set_row es)) read same))
