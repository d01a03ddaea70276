-- What the first row says of the version.
use Rattle.std.proofs.Common.{◌≡◌, ◌≢◌, ◌⊎◌, IfOk, IsOk, inl, inr, ℕ, ◌<◌, ◌==◌, ◌&&◌, Bool, true, false, cond, List, [], ◌∷◌, ◌++◌, map, length, codes, Option, Some, None, IsSome, Result, Ok, Err, T, refl, sym, ap, ◌∙◌, subst, arith}
use Rattle.std.specs.declared.cmp.Ordering.{Ordering}
use Rattle.std.specs.declared.cmp.Ordering.TheVariants.{Less, Equal, Greater}
use Rattle.std.specs.Ordering.{is_lt, eq_by_cmp}
use Rattle.std.specs.FinMap.{entries, get, find, get-entries, entries_sorted, is_sorted}
use Rattle.std.proofs.lemmas.Bool.{and_parts, eqb-true}
use Rattle.std.proofs.lemmas.Map.Views.{tells_apart}
use Rattle.ixp_io.specs.declared.keeper.Row.{Row}
use Rattle.ixp_io.specs.declared.keeper.RowName.{RowName}
use Rattle.ixp_io.specs.Tables.{Table, name_cmp, row_entry}
use Rattle.ixp_io.specs.Told.{WhereTold}
use Rattle.ixp_io.proofs.Rows.{name_same}
use Rattle.ixp_num_tables.specs.Tables.{order, same}
use Rattle.ixp_num_tables.proofs.FirstNumbers.{key_up}
use Rattle.ixp_rows_lines.proofs.Spelling.{same_is, some_is}
use Rattle.ixp_machine_steps.specs.declared.state.State.{State}
use Rattle.ixp_store_rows.specs.Names.{Entry, version_name}
use Rattle.ixp_store_words.specs.declared.fault.LoadFault.{LoadFault}
use Rattle.ixp_store_words.specs.declared.fault.LoadFault.TheVariants.{KeeperFault, Damaged, OldVersion, NoMemory}
use Rattle.ixp_store_words.specs.Answers.{IsStoreOf, TellsVersion}
use Rattle.ixp_store_words.specs.Opening.{is_old, SaysVersion, IsFirstOrOf}
use Rattle.ixp_store_damage.specs.Reading.{IsFront}
use Rattle.ixp_store_damage.proofs.SameRows.{all_above, found_one, none_stored, some_stored, ties_itself, first_of}

abbrev Body : Type 0
Body = Option (List ℕ)

no_bytes : (t : List ℕ) → length t ≡ 0 → t ≡ []
no_bytes [] e = refl
no_bytes (c ∷ cs) e = absurd (omega (arith, e))

-- the version's name is the first of all
pub less_of : (o : Ordering) → T (is_lt o) → o ≡ Less
less_of Less h = refl
less_of Equal h = absurd h
less_of Greater h = absurd h

none_before : (name : RowName) → T (is_lt (name_cmp name version_name)) → ⊥
none_before name h = by_first (key_up name.kind 0 name.key [] (less_of _ h))
  where
    by_key : (key : List ℕ) → order key [] ≡ Less → ⊥
    by_key [] e = let bad : ◌≡◌ {A = Ordering} Equal Less = e in cc
    by_key (c ∷ cs) e = let bad : ◌≡◌ {A = Ordering} Greater Less = e in cc

    by_first : (name.kind < 0) ⊎ ((name.kind ≡ 0) × (order name.key [] ≡ Less)) → ⊥
    by_first (inl lt) = omega (arith, lt)
    by_first (inr (kind, less)) = by_key name.key less

old_first : (row : Row) (rows : List Row) (rest : List Entry) → is_old (row ∷ rows) ≡ true → find name_cmp version_name (map row_entry (row ∷ rows) ++ rest) ≡ Some (codes "1")
old_first row rows rest e =
    let parts = and_parts (row.name.kind == 0 && length row.name.key == 0) (same row.body (codes "1")) e in
    let name = and_parts (row.name.kind == 0) (length row.name.key == 0) parts.0 in
    let kind : row.name.kind ≡ 0 = eqb-true row.name.kind 0 name.0 in
    let key : row.name.key ≡ [] = no_bytes row.name.key (eqb-true (length row.name.key) 0 name.1) in
    let is : row.name ≡ version_name = λ i. record { kind = kind i; key = key i } in
    ap (λ n. cond (eq_by_cmp name_cmp version_name n) (Some row.body) (find name_cmp version_name (map row_entry rows ++ rest))) is
    ∙ (ap (λ b. cond b (Some row.body) (find name_cmp version_name (map row_entry rows ++ rest))) (ties_itself version_name) ∙ ap Some (same_is row.body (codes "1") parts.1))

other_first : (row : Row) (rows : List Row) (rest : List Entry) → T (is_sorted name_cmp (map row_entry (row ∷ rows) ++ rest)) → is_old (row ∷ rows) ≡ false → find name_cmp version_name (map row_entry (row ∷ rows) ++ rest) ≢ Some (codes "1")
other_first row rows rest sorted e found = by_name (eq_by_cmp name_cmp version_name row.name) refl found
  where
    by_name : (b : Bool) → eq_by_cmp name_cmp version_name row.name ≡ b → cond b (Some row.body) (find name_cmp version_name (map row_entry rows ++ rest)) ≡ Some (codes "1") → ⊥
    by_name true tie body =
        let name : version_name ≡ row.name = tells_apart name_same version_name row.name tie in
        let text : row.body ≡ codes "1" = some_is row.body (codes "1") body in
        let old : is_old (row ∷ rows) ≡ true = (λ i. (sym name i).kind == 0 && length (sym name i).key == 0 && same (text i) (codes "1")) in
        let bad : false ≡ true = sym e ∙ old in
        cc
    by_name false apart later =
        none_before row.name
        (found_one (λ q. T (is_lt (name_cmp row.name q))) (map row_entry rows ++ rest) version_name (codes "1") (all_above row.name (map row_entry rows ++ rest) (first_of _ _ sorted)) later)

pub old_told : (t : Table) (rows : List Row) → IsFront t rows → is_old rows ≡ true → get t version_name ≡ Some (codes "1")
old_told t [] front e = absurd (let bad : false ≡ true = e in cc)
old_told t (r ∷ rs) front e = get-entries t version_name ∙ (ap (find name_cmp version_name) front.1 ∙ old_first r rs front.0 e)

other_told : (t : Table) (rows : List Row) → IsFront t rows → (rows ≡ [] → entries t ≡ []) → is_old rows ≡ false → get t version_name ≢ Some (codes "1")
other_told t [] front none e is = let bad : ◌≡◌ {A = Body} None (Some (codes "1")) = sym (ap (find name_cmp version_name) (none refl)) ∙ (sym (get-entries t version_name) ∙ is) in cc
other_told t (r ∷ rs) front none e is =
    other_first r rs front.0 (subst (λ es. T (is_sorted name_cmp es)) front.1 (entries_sorted t)) e (sym (ap (find name_cmp version_name) front.1) ∙ (sym (get-entries t version_name) ∙ is))

none_beyond : (rows : List Row) (beyond : Option RowName) → (IsSome beyond → 0 < length rows) → rows ≡ [] → beyond ≡ None
none_beyond rows None some e = refl
none_beyond rows (Some name) some e = absurd (let few = some refl in let none = ap length e in omega (arith, few, none))

-- an answer by the rows is one by the table
pub version_told : (o : Option Table) (rows : List Row) (beyond : Option RowName) (result : Result State LoadFault) → WhereTold o (λ t. IsFront t rows) → (beyond ≡ None → WhereTold o (λ t. map row_entry rows ≡ entries t))
    → (IsSome beyond → 0 < length rows) → SaysVersion result rows → WhereTold o (TellsVersion result)
version_told None rows beyond result front all some says = tt
version_told (Some t) rows beyond result front all some says = by_result result says
  where
    none : rows ≡ [] → entries t ≡ []
    none e = sym (all (none_beyond rows beyond some e)) ∙ ap (map row_entry) e

    by_result : (r : Result State LoadFault) → SaysVersion r rows → TellsVersion r t
    by_result (Ok s) says = other_told t rows front none says
    by_result (Err KeeperFault) says = tt
    by_result (Err (Damaged name damage)) says = other_told t rows front none says
    by_result (Err (OldVersion found)) says = (says.0, old_told t rows front says.1)
    by_result (Err NoMemory) says = tt

pub state_told : (o : Option Table) (rows : List Row) (beyond : Option RowName) (s : State) → (beyond ≡ None → WhereTold o (λ t. map row_entry rows ≡ entries t)) → beyond ≡ None → IsFirstOrOf s rows → WhereTold o (IsStoreOf s)
state_told o rows beyond s all none (inl (no_rows, first)) = none_stored o rows s no_rows (all none) first
state_told o rows beyond s all none (inr same) = some_stored o rows s (all none) same

pub answer_told : (o : Option Table) (rows : List Row) (beyond : Option RowName) (r : Result State LoadFault) → (beyond ≡ None → WhereTold o (λ t. map row_entry rows ≡ entries t)) → (IsOk r → beyond ≡ None) → IfOk r (λ s. IsFirstOrOf s rows) → IfOk r (λ s. WhereTold o (IsStoreOf s))
answer_told o rows beyond (Ok s) all whole is = state_told o rows beyond s all (whole refl) is
answer_told o rows beyond (Err fault) all whole is = tt
