-- Right rows that break no rule are those of a state.
use Rattle.std.proofs.Common.{◌≡◌, ◌≢◌, ◌⊎◌, inl, inr, ℕ, ◌<◌, ◌≤◌, ◌^◌, ◌==◌, nat_le, true, List, [], ◌∷◌, ◌++◌, flat_map, decimal, Some, refl, sym, ap, ◌∙◌, subst, arith}
use Rattle.std.specs.List.{AllByRecursion}
use Rattle.std.specs.Option.{is_some}
use Rattle.std.proofs.lemmas.Bool.{and_from, eq-eqb, le-leb}
use Rattle.std.proofs.lemmas.Fmt.{decimal_injective}
use Rattle.ixp_num_tables.specs.Tables.{Ascends, find}
use Rattle.ixp_num_tables.proofs.Looking.{all_found_there}
use Rattle.ixp_num_tables.proofs.Orders.{all_weaker}
use Rattle.ixp_registry.specs.declared.kind.Kind.{Kind}
use Rattle.ixp_registry.specs.declared.kind.Kind.TheVariants.{Members}
use Rattle.ixp_registry.specs.declared.members.Owner.{Owner}
use Rattle.ixp_registry.specs.declared.members.Owner.TheVariants.{Staff, Member as Of}
use Rattle.ixp_registry.specs.Keys.{member_key}
use Rattle.ixp_registry.specs.Lookups.{has_owner, has_member}
use Rattle.ixp_registry.specs.Valid.{ValidMember}
use Rattle.ixp_registry.specs.Widths.{IsNumber, owner_number}
use Rattle.ixp_registry.specs.Words.{is_staff_number}
use Rattle.ixp_rows_lines.specs.Fields.{Number}
use Rattle.ixp_rows_lines.specs.Lines.{place_of, member_line}
use Rattle.ixp_rows.specs.Printing.{all_kinds}
use Rattle.ixp_rows.proofs.LinesAgain.{place_some, place_most}
use Rattle.ixp_machine_steps.specs.Openings.{first_state}
use Rattle.ixp_machine_steps.specs.declared.kept.KeptNumber.{KeptNumber}
use Rattle.ixp_machine_steps.specs.declared.kept.KeptOwner.{KeptOwner}
use Rattle.ixp_machine_steps.specs.declared.state.State.{State}
use Rattle.ixp_machine_steps.specs.Kept.{ValidKept}
use Rattle.ixp_machine_steps.specs.States.{ValidState}
use Rattle.ixp_store_rows.specs.Names.{Entry, fields_row, line_row, name_of, floor_row, floor_rows, kept_row, kept_rows, version_name, version_row, count_name, count_row}
use Rattle.ixp_store_rows.specs.States.{registry_rows, stored_rows}
use Rattle.ixp_store_damage.specs.Damages.{IsOwner, IsRow, AreRows, AreAllRight}
use Rattle.ixp_store_words.specs.Keeping.{AreKept}
use Rattle.ixp_store_damage.specs.Loading.{kind_rows, kind_entries}
use Rattle.ixp_store_words.specs.Opening.{AreAllRows, entry_name}
use Rattle.ixp_store_words.specs.Sorting.{Has, Same}
use Rattle.ixp_store_words.specs.Storing.{HasSubject, IsStorable, KeepsSome}
use Rattle.ixp_store_damage.specs.Walking.{TellNoState, TellsRegistry}
use Rattle.ixp_store_damage.proofs.DumpOfRows.{all_right}
use Rattle.ixp_store_words.proofs.Gathered.{has_left, has_right, has_either, flat_has, map_has, there_floor}
use Rattle.ixp_store_load.proofs.Keeping.{joined_valid}
use Rattle.ixp_store_load.proofs.KeptTable.{Stands, Holds, IsKeptTable, kept_table}
use Rattle.ixp_store_load.proofs.RegistryRows.{registry_same}
use Rattle.ixp_store_damage.proofs.RowsByKind.{all_rows, rows_of_kind}
use Rattle.ixp_store_words.proofs.Sorting.{all_has, filter_has, has_filter}
use Rattle.ixp_store_damage.proofs.Walks.{one_entry, row_kind}

abbrev kind_in : Entry → ℕ
kind_in e = e.0.kind

-- a row of right rows
row_at : (all before es : List Entry) → AreRows all before es → (e : Entry) → Has es e → (front : List Entry) × IsRow all front e
row_at all before [] are e has = absurd has
row_at all before (x ∷ xs) are e (inl is) = (before, subst (IsRow all before) (sym is) are.0)
row_at all before (x ∷ xs) are e (inr has) = row_at all (before ++ x ∷ []) xs are.1 e has

count_in : (es front : List Entry) (e : Entry) → e.0.kind ≡ 20 → IsRow es front e → (n : ℕ) × (n < 2 ^ 64) × (e ≡ count_row n)
count_in es front e at (inl is) = let zero : e.0.kind ≡ 0 = ap kind_in is in absurd (omega (arith, at, zero))
count_in es front e at (inr (inl (kind, is))) = let of_kind = row_kind kind e is in let most = place_most kind in absurd (omega (arith, of_kind, most, at))
count_in es front e at (inr (inr (inl is))) = let kind_is : e.0.kind ≡ 18 = ap kind_in (is.2).row in absurd (omega (arith, kind_is, at))
count_in es front e at (inr (inr (inr (inl is)))) = let kind_is : e.0.kind ≡ 19 = ap kind_in (is.says).row in absurd (omega (arith, kind_is, at))
count_in es front e at (inr (inr (inr (inr is)))) = is

version_in : (es front : List Entry) (e : Entry) → e.0.kind ≡ 0 → IsRow es front e → e ≡ version_row
version_in es front e at (inl is) = is
version_in es front e at (inr (inl (kind, is))) = let of_kind = row_kind kind e is in let some = place_some kind in absurd (omega (arith, of_kind, some, at))
version_in es front e at (inr (inr (inl is))) = let kind_is : e.0.kind ≡ 18 = ap kind_in (is.2).row in absurd (omega (arith, kind_is, at))
version_in es front e at (inr (inr (inr (inl is)))) = let kind_is : e.0.kind ≡ 19 = ap kind_in (is.says).row in absurd (omega (arith, kind_is, at))
version_in es front e at (inr (inr (inr (inr is)))) = let kind_is : e.0.kind ≡ 20 = ap kind_in is.2 in absurd (omega (arith, kind_is, at))

staff_right : (es : List Entry) (w : Owner) → IsOwner es w → is_staff_number w ≡ true
staff_right es (Staff n) is = and_from (nat_le 1 n) (nat_le n 16) (le-leb 1 n is.0) (le-leb n 16 is.1)
staff_right es (Of n) is = refl

-- what is kept
module _ (es : List Entry) (n : ℕ) (fits : n < 2 ^ 64) (counted : Has es (count_row n)) where
  low_floor : (o : KeptOwner) → (o.floor ≡ 0) ⊎ ((o.floor ≤ 10 ^ 16) × Has es (floor_row o)) → o.floor ≤ 10 ^ 16
  low_floor o (inl none) = omega (arith, none)
  low_floor o (inr some) = some.0

  not_below : (o : KeptOwner) (k : KeptNumber) → (o.floor ≡ 0) ⊎ ((o.floor ≤ 10 ^ 16) × Has es (floor_row o)) → Stands es o.owner k → o.floor ≤ k.number
  not_below o k (inl none) s = omega (arith, none)
  not_below o k (inr some) s = let most = some.0 in s.above o.floor (omega (arith, most)) some.1

  kept_right : (o : KeptOwner) → Holds es o → ValidKept n o
  kept_right o h = record {
    order = h.rising;
    above = all_weaker (Stands es o.owner) (λ k. o.floor ≤ k.number) (λ k s. not_below o k h.floor s) o.numbers h.numbers;
    counted = all_weaker (Stands es o.owner) (λ k. 0 < k.number) (λ k s. s.least) o.numbers h.numbers;
    few = h.few;
    floor = low_floor o h.floor;
    places = all_weaker (Stands es o.owner) (λ k. k.place ≤ n) (λ k s. s.counted n fits counted) o.numbers h.numbers;
  }

  are_kept : (ks : List KeptOwner) → AllByRecursion (Holds es) ks → AreKept n ks
  are_kept ks all = all_weaker (Holds es) (λ o. ValidKept n o × (is_staff_number o.owner ≡ true)) (λ o h. (kept_right o h, staff_right es o.owner h.known)) ks all

module _ (es : List Entry) (up : Ascends entry_name es) (right : AreAllRight es) (t : TellsRegistry es) where
  abbrev same_of : (kind : Kind) → Same (kind_rows (place_of kind) es) (kind_entries t.registry kind)
  same_of kind = registry_same es (all_right es up right) t kind

  kept : (ks : List KeptOwner) × IsKeptTable es ks
  kept = kept_table es up right.rows

  count : (n : ℕ) × (n < 2 ^ 64) × Has es (count_row n)
  count =
      let needed = right.needed count_name (inr (inr refl)) in
      let row = row_at es [] es right.rows (count_name, needed.0) needed.1 in
      let is = count_in es row.0 (count_name, needed.0) refl row.1 in
      (is.0, is.1, subst (Has es) is.2 needed.1)

  abbrev state : State
  state = record (first_state t.registry) { kept = kept.0; accepted = count.0 }

  holds : AllByRecursion (Holds es) kept.0
  holds = (kept.1).each

  -- owners are there
  member_there : (n : ℕ) → n < 2 ^ 32 → IsOwner es (Of n) → has_member t.registry.members n ≡ true
  unfolding fields_row
  member_there n small is =
      let row : Entry = (name_of Members (Number n ∷ []), is.0) in
      let in_kind : Has (kind_rows 2 es) row = has_filter (λ e. e.0.kind == 2) es row is.1 refl in
      let there = map_has (λ m. line_row (member_line m)) t.registry.members row ((same_of Members).to row in_kind) in
      let number : decimal n ≡ decimal (there.0).number = ap (λ (e : Entry). e.0.key) there.2 in
      let fits = (all_has ValidMember t.registry.members (t.valid).members.each there.0 there.1).fits.0 in
      let same : n ≡ (there.0).number = decimal_injective n (there.0).number (omega (arith, small)) (omega (arith, fits)) number in
      let found = all_has (λ m. find member_key (member_key m) t.registry.members ≡ Some m) t.registry.members (all_found_there member_key t.registry.members (t.valid).members.order) there.0 there.1 in
      ap (λ k. is_some (find member_key (k ∷ []) t.registry.members)) same ∙ ap is_some found

  owner_there : (w : Owner) → IsNumber (owner_number w) → IsOwner es w → has_owner t.registry.members w ≡ true
  owner_there (Staff n) small is = refl
  owner_there (Of n) small is = member_there n small is

  state_right : ValidState state
  state_right =
      joined_valid state t.valid (are_kept es count.0 count.1 count.2 kept.0 holds) (kept.1).order
      (all_weaker (Holds es) (λ o. has_owner t.registry.members o.owner ≡ true) (λ o h. owner_there o.owner h.small h.known) kept.0 holds) refl refl

  state_storable : IsStorable state
  state_storable = record {
    accepted = count.1;
    some = all_weaker (Holds es) KeepsSome (λ o h. h.some) kept.0 holds;
    subjects = all_weaker (Holds es) (λ o. AllByRecursion HasSubject o.numbers) (λ o h. all_weaker (Stands es o.owner) HasSubject (λ k s. s.subject) o.numbers h.numbers) kept.0 holds;
  }

  -- each row is the state's
  to_state : (e : Entry) → Has es e → (front : List Entry) → IsRow es front e → Has (stored_rows state) e
  to_state e has front (inl is) = inl is
  to_state e has front (inr (inl (kind, is))) =
      let in_kind = has_filter (λ x. x.0.kind == place_of kind) es e has (eq-eqb e.0.kind (place_of kind) (row_kind kind e is)) in
      let there : Has (kind_rows (place_of kind) (stored_rows state)) e = subst (λ l. Has l e) (sym (rows_of_kind state kind)) ((same_of kind).to e in_kind) in
      (filter_has (λ x. x.0.kind == place_of kind) (stored_rows state) e there).0
  to_state e has front (inr (inr (inl is))) =
      inr (has_right (registry_rows t.registry) _ e (has_left (flat_map floor_rows kept.0) _ e ((kept.1).floors e has (ap kind_in (is.2).row))))
  to_state e has front (inr (inr (inr (inl is)))) =
      inr (has_right (registry_rows t.registry) _ e (has_right (flat_map floor_rows kept.0) _ e (has_left (flat_map kept_rows kept.0) _ e ((kept.1).numbers e has (ap kind_in (is.says).row)))))
  to_state e has front (inr (inr (inr (inr is)))) =
      inr (has_right (registry_rows t.registry) _ e
      (has_right (flat_map floor_rows kept.0) _ e
      (has_right (flat_map kept_rows kept.0) _ e (inl (one_entry es up e (count_row count.0) has count.2 (ap (λ (x : Entry). x.0) is.2))))))

  -- and each row of the state is there
  floor_back : (e : Entry) → Has (flat_map floor_rows kept.0) e → Has es e
  floor_back e has =
      let one = flat_has floor_rows kept.0 e has in
      let is = there_floor one.0 e one.2 in
      by_floor one.0 is.0 is.1 (all_has (Holds es) kept.0 holds one.0 one.1).floor
    where
      by_floor : (o : KeptOwner) → o.floor ≢ 0 → e ≡ floor_row o → (o.floor ≡ 0) ⊎ ((o.floor ≤ 10 ^ 16) × Has es (floor_row o)) → Has es e
      by_floor o some is (inl none) = absurd (some none)
      by_floor o some is (inr there) = subst (Has es) (sym is) there.1

  number_back : (e : Entry) → Has (flat_map kept_rows kept.0) e → Has es e
  number_back e has =
      let one = flat_has kept_rows kept.0 e has in
      let k = map_has (kept_row one.0.owner) one.0.numbers e one.2 in
      subst (Has es) (sym k.2) (all_has (Stands es one.0.owner) one.0.numbers (all_has (Holds es) kept.0 holds one.0 one.1).numbers k.0 k.1).row

  registry_back : (e : Entry) → Has (registry_rows t.registry) e → Has es e
  registry_back e has =
      let one = flat_has (kind_entries t.registry) all_kinds e (subst (λ l. Has l e) (all_rows t.registry) has) in
      (filter_has (λ x. x.0.kind == place_of one.0) es e ((same_of one.0).back e one.2)).0

  version_there : Has es version_row
  version_there =
      let needed = right.needed version_name (inl refl) in
      let row = row_at es [] es right.rows (version_name, needed.0) needed.1 in
      subst (Has es) (version_in es row.0 (version_name, needed.0) refl row.1) needed.1

  from_state : (e : Entry) → Has (stored_rows state) e → Has es e
  from_state e (inl is) = subst (Has es) (sym is) version_there
  from_state e (inr has) = by_registry (has_either (registry_rows t.registry) _ e has)
    where
      by_count : Has (count_row count.0 ∷ []) e → Has es e
      by_count (inl is) = subst (Has es) (sym is) count.2
      by_count (inr none) = absurd none

      by_numbers : Has (flat_map kept_rows kept.0) e ⊎ Has (count_row count.0 ∷ []) e → Has es e
      by_numbers (inl here) = number_back e here
      by_numbers (inr there) = by_count there

      by_floors : Has (flat_map floor_rows kept.0) e ⊎ Has (flat_map kept_rows kept.0 ++ count_row count.0 ∷ []) e → Has es e
      by_floors (inl here) = floor_back e here
      by_floors (inr there) = by_numbers (has_either (flat_map kept_rows kept.0) (count_row count.0 ∷ []) e there)

      by_registry : Has (registry_rows t.registry) e ⊎ Has (flat_map floor_rows kept.0 ++ (flat_map kept_rows kept.0 ++ count_row count.0 ∷ [])) e → Has es e
      by_registry (inl here) = registry_back e here
      by_registry (inr there) = by_floors (has_either (flat_map floor_rows kept.0) (flat_map kept_rows kept.0 ++ count_row count.0 ∷ []) e there)

  pub right_state : (s : State) × ValidState s × IsStorable s × AreAllRows s es
  right_state = (
    state,
    state_right,
    state_storable,
    record { same = record { to = λ e has. let row = row_at es [] es right.rows e has in to_state e has row.0 row.1; back = from_state }; order = up },
  )

-- so there is no such row where the rows are those of no state
pub some_state : (es : List Entry) → Ascends entry_name es → AreAllRight es → TellsRegistry es → TellNoState es → ⊥
some_state es up right t none = let s = right_state es up right t in none s.0 s.1 s.2 s.3
