-- The rows of a valid state tell that state.
use Rattle.std.proofs.Common.{◌≡◌, ◌≢◌, ℕ, ◌<◌, ◌≤◌, ◌==◌, Bool, true, false, IsSome, inl, inr, List, [], ◌∷◌, map, length, IfSome, Option, Some, None, Result, Ok, Err, T, refl, sym, ap, ◌∙◌, subst, arith}
use Rattle.std.specs.declared.cmp.Ordering.TheVariants.{Less, Equal}
use Rattle.std.specs.declared.cmp.Ordering.{Ordering}
use Rattle.std.specs.FinMap.{empty, entries, entries_sorted, is_sorted, len, len-entries, len-empty}
use Rattle.std.specs.Ordering.{is_lt}
use Rattle.std.proofs.lemmas.List.{length-map}
use Rattle.std.proofs.lemmas.List.Sorted.{length_permutation}
use Rattle.ixp_io.specs.declared.keeper.Row.{Row}
use Rattle.ixp_io.specs.declared.keeper.RowName.{RowName}
use Rattle.ixp_io.specs.Tables.{Table, name_cmp, row_entry}
use Rattle.ixp_io.specs.Told.{WhereTold}
use Rattle.ixp_num_tables.specs.Sums.{Pairs}
use Rattle.ixp_num_tables.specs.Tables.{order, Ascends}
use Rattle.ixp_num_tables.proofs.Orders.{all_weaker, order_same}
use Rattle.ixp_registry.specs.declared.registry.Registry.{Registry}
use Rattle.ixp_rows_lines.specs.Lines.{place_of}
use Rattle.ixp_machine_steps.specs.Openings.{first_state}
use Rattle.ixp_machine_steps.specs.declared.kept.KeptOwner.{KeptOwner}
use Rattle.ixp_machine_steps.specs.declared.state.State.{State}
use Rattle.ixp_machine_steps.specs.States.{ValidState}
use Rattle.ixp_store_rows.specs.Names.{Entry, version_row, count_row}
use Rattle.ixp_store_rows.specs.States.{stored_rows, tables}
use Rattle.ixp_store_rows.proofs.RowsHeld.{rows_are, rows_held}
use Rattle.ixp_store_words.specs.declared.fault.LoadFault.{LoadFault}
use Rattle.ixp_store_words.specs.declared.fault.LoadFault.TheVariants.{KeeperFault, Damaged, OldVersion, NoMemory}
use Rattle.ixp_store_words.specs.Answers.{IsLoaded, empty_registry}
use Rattle.ixp_store_damage.specs.Damages.{IsOneTooMany, TellsDamage, TellsRow}
use Rattle.ixp_store_damage.specs.Loading.{kind_rows, AreRowsOf}
use Rattle.ixp_store_words.specs.Opening.{AreAllRows, entry_name, is_old}
use Rattle.ixp_store_damage.specs.Reading.{IsFront}
use Rattle.ixp_store_words.specs.Sorting.{Has, Same}
use Rattle.ixp_store_words.specs.Storing.{IsStorable}
use Rattle.ixp_store_damage.specs.Walking.{LoadTellsRow, LoadTellsWrong}
use Rattle.ixp_store_damage.proofs.FewRows.{few_rows}
use Rattle.ixp_store_damage.proofs.RowsByKind.{rows_of_kind, count_alone}
use Rattle.ixp_store_damage.proofs.SameRows.{all_above, first_of, second_of}
use Rattle.ixp_store_words.proofs.Sorting.{same_moved, same_filter, pairs_filter, one_item_alone}
use Rattle.ixp_store_damage.proofs.VersionRow.{less_of, old_told}

-- the rows of a table ascend by their names
sorted_up : (es : List Entry) → T (is_sorted name_cmp es) → Ascends entry_name es
sorted_up [] h = tt
sorted_up (e ∷ es) h =
    (all_weaker (λ x. T (is_lt (name_cmp e.0 x.0))) (λ x. order (entry_name e) (entry_name x) ≡ Less) (λ x l. less_of _ l) es (all_above e.0 es (first_of _ _ h)), sorted_up es (second_of _ _ h))

pub up_apart : (es : List Entry) → Ascends entry_name es → Pairs (λ a b. a ≢ b) es
up_apart [] up = tt
up_apart (e ∷ es) up = (all_weaker (λ x. order (entry_name e) (entry_name x) ≡ Less) (λ x. e ≢ x) (λ x less is. never e x less is) es up.0, up_apart es up.1)
  where
    never : (e x : Entry) → order (entry_name e) (entry_name x) ≡ Less → e ≡ x → ⊥
    never e x less is =
        let tie : order (entry_name e) (entry_name x) ≡ Equal = subst (λ y. order (entry_name e) (entry_name y) ≡ Equal) is (order_same (entry_name e)) in
        let bad : ◌≡◌ {A = Ordering} Equal Less = sym tie ∙ less in
        cc

state_rows : (s : State) → ValidState s → (rows : List Row) → map row_entry rows ≡ entries (tables s) → AreAllRows s (map row_entry rows)
state_rows s v rows read = record {
  same = subst (λ es. Same es (stored_rows s)) (sym read) (same_moved (entries (tables s)) (stored_rows s) (rows_are s v));
  order = subst (Ascends entry_name) (sym read) (sorted_up (entries (tables s)) (entries_sorted (tables s)));
}

-- of each kind they are those of the registry
pub registry_rows_are : (s : State) (es : List Entry) → AreAllRows s es → AreRowsOf s.registry es
registry_rows_are s es all = record {
  apart = up_apart es all.order;
  each = λ kind. subst (Same (kind_rows (place_of kind) es)) (rows_of_kind s kind) (same_filter (λ e. e.0.kind == place_of kind) es (stored_rows s) all.same);
}

-- and of the count
pub one_count : (s : State) → ValidState s → (es : List Entry) → AreAllRows s es → kind_rows 20 es ≡ count_row s.accepted ∷ []
one_count s v es all =
    one_item_alone (count_row s.accepted) (kind_rows 20 es) (pairs_filter (λ a b. a ≢ b) (λ e. e.0.kind == 20) es (up_apart es all.order))
    (subst (Same (kind_rows 20 es)) (count_alone s v.registry) (same_filter (λ e. e.0.kind == 20) es (stored_rows s) all.same))

-- a valid state is what its parts make
pub same_state : (s : State) → ValidState s → (registry : Registry) (kept : List KeptOwner) (accepted : ℕ) → registry ≡ s.registry → kept ≡ s.kept → accepted ≡ s.accepted
    → record (first_state registry) { kept = kept; accepted = accepted } ≡ s
same_state s v registry kept accepted r k a =
    (λ i. record (first_state (r i)) { kept = k i; accepted = a i })
    ∙ (λ i. record s { weight = sym v.weight i; prefixes = sym v.prefixes i })

-- a store of the state has some rows, is no old one, and has no more rows than may be
pub not_none : {X : Type 0} (s : State) (rows : List Row) → rows ≡ [] → AreAllRows s (map row_entry rows) → X
not_none s rows none all = absurd (subst (λ l. Has (map row_entry l) version_row) none (all.same.back version_row (inl refl)))

abbrev first_byte : Option (List ℕ) → ℕ
first_byte None = 0
first_byte (Some []) = 0
first_byte (Some (c ∷ cs)) = c

never_old : (s : State) → ValidState s → (rows : List Row) → IsFront (tables s) rows → is_old rows ≡ false
never_old s v rows front = by_test (is_old rows) refl
  where
    by_test : (b : Bool) → is_old rows ≡ b → is_old rows ≡ false
    by_test false e = e
    by_test true e = absurd (let bad : 50 ≡ 49 = ap first_byte (sym (rows_held s v).0 ∙ old_told (tables s) rows front e) in omega (arith, bad))

never_many : (s : State) → ValidState s → 8000000 < len (tables s) → ⊥
never_many s v many =
    let counted = len-entries (tables s) in
    let long = length_permutation (entries (tables s)) (stored_rows s) (rows_are s v) in
    let few = few_rows s v in
    omega (arith, counted, long, few, many)

-- what rows that were read are loaded as
pub state_loaded :
    (o : Option Table) (rows : List Row) (beyond : Option RowName) (r : Result State LoadFault) (s : State) → ValidState s → IsStorable s → o ≡ Some (tables s) → WhereTold o (λ t. IsFront t rows)
    → (beyond ≡ None → WhereTold o (λ t. map row_entry rows ≡ entries t)) → (IsSome beyond → WhereTold o (λ t. 8000000 < len t))
    → (AreAllRows s (map row_entry rows) → is_old rows ≡ false → beyond ≡ None → IsLoaded s r) → IsLoaded s r
state_loaded o rows None r s v stores is front all many done =
    done (state_rows s v rows (subst (λ o. WhereTold o (λ t. map row_entry rows ≡ entries t)) is (all refl))) (never_old s v rows (subst (λ o. WhereTold o (λ t. IsFront t rows)) is front)) refl
state_loaded o rows (Some name) r s v stores is front all many done = absurd (never_many s v (subst (λ o. WhereTold o (λ t. 8000000 < len t)) is (many refl)))

no_rows : (rows : List Row) → length (map row_entry rows) ≡ 0 → rows ≡ []
no_rows [] e = refl
no_rows (x ∷ xs) e = absurd (omega (arith, e))

-- and those of no row
pub none_loaded :
    (o : Option Table) (rows : List Row) (beyond : Option RowName) (r : Result State LoadFault) → o ≡ Some empty → (beyond ≡ None → WhereTold o (λ t. map row_entry rows ≡ entries t)) → (IsSome beyond → WhereTold o (λ t. 8000000 < len t))
    → (rows ≡ [] → beyond ≡ None → IsLoaded (first_state empty_registry) r) → IsLoaded (first_state empty_registry) r
none_loaded o rows None r is all many done =
    let read = subst (λ o. WhereTold o (λ t. map row_entry rows ≡ entries t)) is (all refl) in
    done (no_rows rows (ap length read ∙ (sym (len-entries empty) ∙ len-empty name_cmp (List ℕ)))) refl
none_loaded o rows (Some name) r is all many done =
    absurd (let more = subst (λ o. WhereTold o (λ t. 8000000 < len t)) is (many refl) in let none = len-empty name_cmp (List ℕ) in omega (arith, more, none))

-- what is told of rows that were read is told of the table
pub damage_told :
    (o : Option Table) (rows : List Row) (beyond : Option RowName) (r : Result State LoadFault) → (beyond ≡ None → WhereTold o (λ t. map row_entry rows ≡ entries t)) → IfSome beyond (λ name. WhereTold o (λ t. IsOneTooMany t name))
    → length rows ≤ 8000000 → ((s : State) → ValidState s → IsStorable s → o ≡ Some (tables s) → IsLoaded s r) → (Ascends entry_name (map row_entry rows) → beyond ≡ None → LoadTellsWrong (map row_entry rows) r)
    → IfSome beyond (λ name. LoadTellsRow name r) → WhereTold o (TellsRow r)
damage_told None rows beyond r all many most loads done last = tt
damage_told (Some t) rows beyond (Ok s) all many most loads done last = tt
damage_told (Some t) rows beyond (Err KeeperFault) all many most loads done last = tt
damage_told (Some t) rows None (Err (Damaged name damage)) all many most loads done last =
    let up = subst (Ascends entry_name) (sym (all refl)) (sorted_up (entries t) (entries_sorted t)) in
    let counted = len-entries t in
    let read = ap length (all refl) in
    let mapped = length-map rows row_entry in (
      (λ s v stores is. loads s v stores (ap Some is)),
      inl (omega (arith, counted, read, mapped, most), subst (λ es. TellsDamage es name damage) (all refl) (done up refl)),
    )
damage_told (Some t) rows (Some beyond) (Err (Damaged name damage)) all many most loads done last = (
  (λ s v stores is. loads s v stores (ap Some is)),
  inr (subst (IsOneTooMany t) (sym last.0) many, last.1),
)
damage_told (Some t) rows beyond (Err (OldVersion found)) all many most loads done last = tt
damage_told (Some t) rows beyond (Err NoMemory) all many most loads done last = tt
