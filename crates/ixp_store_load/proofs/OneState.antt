-- Two states with the same rows are one.
use Rattle.std.proofs.Common.{◌≡◌, ◌≢◌, ◌⊎◌, inl, inr, ℕ, ◌<◌, ◌≤◌, ◌^◌, ◌==◌, Bool, true, false, List, [], ◌∷◌, ◌++◌, flat_map, Option, Some, None, refl, sym, ap, ◌∙◌, subst, arith}
use Rattle.std.specs.FinMap.{entries}
use Rattle.std.specs.List.{AllByRecursion}
use Rattle.std.proofs.lemmas.Bool.{eqb-true, eq-eqb}
use Rattle.std.proofs.lemmas.Fmt.{decimal_injective}
use Rattle.ixp_num_tables.specs.Tables.{Ascends, find, if_there}
use Rattle.ixp_num_tables.proofs.Looking.{all_found_there}
use Rattle.ixp_num_tables.proofs.Orders.{order_equal, head_same}
use Rattle.ixp_num_tables.proofs.TableLaws.{find-key}
use Rattle.ixp_registry.specs.declared.kind.Kind.{Kind}
use Rattle.ixp_registry.specs.declared.members.Owner.{Owner}
use Rattle.ixp_registry.specs.Registries.{rows_of}
use Rattle.ixp_registry.specs.Widths.{IsNumber, owner_number}
use Rattle.ixp_registry.specs.Words.{owner_numbers}
use Rattle.ixp_rows_lines.specs.declared.version.Version.TheVariants.{Two}
use Rattle.ixp_rows_lines.specs.Lines.{place_of}
use Rattle.ixp_rows.specs.Printing.{kind_lines, all_kinds}
use Rattle.ixp_rows.specs.Reading.{head_text}
use Rattle.ixp_rows.specs.Texts.{dump_text}
use Rattle.ixp_rows.proofs.ValidLines.{read_again}
use Rattle.ixp_machine_steps.specs.declared.kept.KeptNumber.{KeptNumber}
use Rattle.ixp_machine_steps.specs.declared.kept.KeptOwner.{KeptOwner}
use Rattle.ixp_machine_steps.specs.declared.state.State.{State}
use Rattle.ixp_machine_steps.specs.Kept.{kept_key, kept_owner_key, kept_of, ValidKept}
use Rattle.ixp_machine_steps.specs.States.{ValidState}
use Rattle.ixp_machine_steps.proofs.KeptOwners.{one_owner}
use Rattle.ixp_store_rows.specs.Names.{Entry, floor_row, floor_rows, kept_row, kept_rows, count_row}
use Rattle.ixp_store_rows.specs.States.{registry_rows, stored_rows, tables}
use Rattle.ixp_store_rows.proofs.KeyTexts.{owner_text_told}
use Rattle.ixp_store_rows.proofs.NamesOnce.{owners_small, registry_within}
use Rattle.ixp_store_rows.proofs.RowsHeld.{rows_are}
use Rattle.ixp_store_words.specs.Gathering.{floor_at, number_at, IsGathered}
use Rattle.ixp_store_words.specs.Sorting.{Has, Same}
use Rattle.ixp_store_words.specs.Storing.{HasSubject, IsStorable, KeepsSome}
use Rattle.ixp_store_words.proofs.Gathered.{has_left, has_right, has_either, has_flat, flat_has, map_has, find_has, floor_there, there_floor, number_names, own_row, all_gathered}
use Rattle.ixp_store_words.proofs.Sorting.{all_has, has_filter, has_map, same_moved, same_back, same_over, same_filter, ascending_same}
use Rattle.ixp_store_damage.specs.Loading.{kind_rows, kind_entries, line_key, row_text}
use Rattle.ixp_store_damage.proofs.KindLines.{kind_stands, dump_made, registry_read}
use Rattle.ixp_store_damage.proofs.RowsByKind.{rows_of_kind, count_alone}
use Rattle.ixp_store_damage.proofs.WholeStates.{same_state}
use Rattle.ixp_rows_lines.proofs.Spelling.{some_is}
use Rattle.ixp_store_load.proofs.KeptTold.{body_told}

abbrev kind_in : Entry → ℕ
kind_in e = e.0.kind

abbrev body_in : Entry → List ℕ
body_in e = e.1

-- The registry: the lines of each kind are told by the rows of the kind, and they are the dump.
module _ (s t : State) (v : ValidState s) (u : ValidState t) (same : Same (stored_rows s) (stored_rows t)) where
  kind_same : (kind : Kind) → kind_entries s.registry kind ≡ kind_entries t.registry kind
  kind_same kind =
      ascending_same (line_key kind) (kind_entries s.registry kind) (kind_entries t.registry kind) (kind_stands s.registry v.registry kind).order (kind_stands t.registry u.registry kind).order
      (subst (λ xs. Same xs (kind_entries t.registry kind)) (rows_of_kind s kind)
      (subst (Same (kind_rows (place_of kind) (stored_rows s))) (rows_of_kind t kind) (same_filter (λ e. e.0.kind == place_of kind) (stored_rows s) (stored_rows t) same)))

  lines_same : (kind : Kind) → kind_lines Two (rows_of s.registry) kind ≡ kind_lines Two (rows_of t.registry) kind
  lines_same kind = sym (kind_stands s.registry v.registry kind).spelt ∙ (ap (flat_map (row_text kind)) (kind_same kind) ∙ (kind_stands t.registry u.registry kind).spelt)

  all_same : (kinds : List Kind) → flat_map (kind_lines Two (rows_of s.registry)) kinds ≡ flat_map (kind_lines Two (rows_of t.registry)) kinds
  all_same [] = refl
  all_same (k ∷ ks) = let here = lines_same k in let more = all_same ks in (λ i. here i ++ more i)

  dumps_same : dump_text Two (rows_of s.registry) ≡ dump_text Two (rows_of t.registry)
  dumps_same =
      let mine = head_text Two ++ flat_map (kind_lines Two (rows_of s.registry)) all_kinds in
      sym (dump_made s.registry v.registry mine refl) ∙ dump_made t.registry u.registry mine (ap (λ x. head_text Two ++ x) (all_same all_kinds))

  registry_same : s.registry ≡ t.registry
  registry_same =
      some_is s.registry t.registry (registry_read (dump_text Two (rows_of s.registry)) s.registry (read_again s.registry v.registry) t.registry u.registry dumps_same)

  count_same : IsStorable s → IsStorable t → s.accepted ≡ t.accepted
  count_same stores keeps = by_row there
    where
      last : Has (stored_rows s) (count_row s.accepted)
      last =
          inr (has_right (registry_rows s.registry) _ (count_row s.accepted)
          (has_right (flat_map floor_rows s.kept) _ (count_row s.accepted) (has_right (flat_map kept_rows s.kept) _ (count_row s.accepted) (inl refl))))

      there : Has (count_row t.accepted ∷ []) (count_row s.accepted)
      there =
          subst (λ xs. Has xs (count_row s.accepted)) (count_alone t u.registry)
          (has_filter (λ e. e.0.kind == 20) (stored_rows t) (count_row s.accepted) (same.to (count_row s.accepted) last) refl)

      by_row : Has (count_row t.accepted ∷ []) (count_row s.accepted) → s.accepted ≡ t.accepted
      by_row (inl is) = decimal_injective s.accepted t.accepted stores.accepted keeps.accepted (ap body_in is)
      by_row (inr none) = absurd none

-- What is kept of requests: what the one state's rows say of an owner, the other one keeps.
module _ (s t : State) (v : ValidState s) (u : ValidState t) (stores : IsStorable s) (keeps : IsStorable t) (over : (e : Entry) → Has (stored_rows s) e → Has (stored_rows t) e) where
  kept_part : (e : Entry) → Has (stored_rows t) e → 18 ≤ e.0.kind → e.0.kind < 20 → Has (flat_map floor_rows t.kept) e ⊎ Has (flat_map kept_rows t.kept) e
  kept_part e (inl is) least below = let at : e.0.kind ≡ 0 = ap kind_in is in absurd (omega (arith, at, least))
  kept_part e (inr has) least below = by_registry (has_either (registry_rows t.registry) _ e has)
    where
      by_count : Has (count_row t.accepted ∷ []) e → Has (flat_map floor_rows t.kept) e ⊎ Has (flat_map kept_rows t.kept) e
      by_count (inl is) = let at : e.0.kind ≡ 20 = ap kind_in is in absurd (omega (arith, at, below))
      by_count (inr none) = absurd none

      by_numbers : Has (flat_map kept_rows t.kept) e ⊎ Has (count_row t.accepted ∷ []) e → Has (flat_map floor_rows t.kept) e ⊎ Has (flat_map kept_rows t.kept) e
      by_numbers (inl here) = inr here
      by_numbers (inr there) = by_count there

      by_floors : Has (flat_map floor_rows t.kept) e ⊎ Has (flat_map kept_rows t.kept ++ count_row t.accepted ∷ []) e → Has (flat_map floor_rows t.kept) e ⊎ Has (flat_map kept_rows t.kept) e
      by_floors (inl here) = inl here
      by_floors (inr there) = by_numbers (has_either (flat_map kept_rows t.kept) (count_row t.accepted ∷ []) e there)

      by_registry : Has (registry_rows t.registry) e ⊎ Has (flat_map floor_rows t.kept ++ (flat_map kept_rows t.kept ++ count_row t.accepted ∷ [])) e
          → Has (flat_map floor_rows t.kept) e ⊎ Has (flat_map kept_rows t.kept) e
      by_registry (inl here) = let low = all_has (λ x. x.0.kind < 18) (registry_rows t.registry) (registry_within t.registry u.registry).below e here in absurd (omega (arith, low, least))
      by_registry (inr there) = by_floors (has_either (flat_map floor_rows t.kept) (flat_map kept_rows t.kept ++ count_row t.accepted ∷ []) e there)

  small_of : (r : State) → ValidState r → (o : KeptOwner) → Has r.kept o → IsNumber (owner_number o.owner)
  small_of r w o has = all_has (λ x. IsNumber (owner_number x.owner)) r.kept (owners_small r w) o has

  right_of : (r : State) → ValidState r → (o : KeptOwner) → Has r.kept o → ValidKept r.accepted o
  right_of r w o has = all_has (ValidKept r.accepted) r.kept w.each o has

  -- an owner's floor
  abbrev Floor : KeptOwner → Type 0
  Floor o = (p : KeptOwner) × Has t.kept p × (o.owner ≡ p.owner) × (o.floor ≡ p.floor)

  floor_found : (o : KeptOwner) → Has s.kept o → o.floor ≢ 0 → Floor o
  floor_found o has some = by_part (kept_part (floor_row o) (over (floor_row o) stored) (omega arith) (omega arith))
    where
      stored : Has (stored_rows s) (floor_row o)
      stored =
          inr (has_right (registry_rows s.registry) _ (floor_row o)
          (has_left (flat_map floor_rows s.kept) _ (floor_row o) (has_flat floor_rows s.kept o (floor_row o) has (floor_there o some))))

      by_part : Has (flat_map floor_rows t.kept) (floor_row o) ⊎ Has (flat_map kept_rows t.kept) (floor_row o) → Floor o
      by_part (inl here) =
          let one = flat_has floor_rows t.kept (floor_row o) here in
          let is = there_floor one.0 (floor_row o) one.2 in
          let low = (right_of s v o has).floor in
          let high = (right_of t u one.0 one.1).floor in (
            one.0,
            one.1,
            one_owner o.owner one.0.owner (owner_text_told o.owner one.0.owner (small_of s v o has) (small_of t u one.0 one.1) (ap (λ (e : Entry). e.0.key) is.1)),
            decimal_injective o.floor one.0.floor (omega (arith, low)) (omega (arith, high)) (ap body_in is.1),
          )
      by_part (inr there) =
          let one = flat_has kept_rows t.kept (floor_row o) there in
          let k = map_has (kept_row one.0.owner) one.0.numbers (floor_row o) one.2 in
          let bad : 18 ≡ 19 = ap kind_in k.2 in
          absurd (omega (arith, bad))

  -- and one of its numbers
  abbrev Number : KeptOwner → KeptNumber → Type 0
  Number o k = (p : KeptOwner) × Has t.kept p × Has p.numbers k × (o.owner ≡ p.owner)

  number_found : (o : KeptOwner) (k : KeptNumber) → Has s.kept o → Has o.numbers k → Number o k
  number_found o k has there = by_part (kept_part (kept_row o.owner k) (over (kept_row o.owner k) stored) (omega arith) (omega arith))
    where
      stored : Has (stored_rows s) (kept_row o.owner k)
      stored =
          inr (has_right (registry_rows s.registry) _ (kept_row o.owner k)
          (has_right (flat_map floor_rows s.kept) _ (kept_row o.owner k)
          (has_left (flat_map kept_rows s.kept) _ (kept_row o.owner k) (has_flat kept_rows s.kept o (kept_row o.owner k) has (has_map (kept_row o.owner) o.numbers k there)))))

      place_of_it : (r : State) → ValidState r → IsStorable r → (q : KeptOwner) (j : KeptNumber) → Has r.kept q → Has q.numbers j → j.place < 2 ^ 64
      place_of_it r w stored q j at in_it =
          let low = all_has (λ (n : KeptNumber). n.place ≤ r.accepted) q.numbers (right_of r w q at).places j in_it in
          let most = stored.accepted in
          omega (arith, low, most)

      subject_of_it : (r : State) → IsStorable r → (q : KeptOwner) (j : KeptNumber) → Has r.kept q → Has q.numbers j → HasSubject j
      subject_of_it r stored q j at in_it = all_has HasSubject q.numbers (all_has (λ x. AllByRecursion HasSubject x.numbers) r.kept stored.subjects q at) j in_it

      by_part : Has (flat_map floor_rows t.kept) (kept_row o.owner k) ⊎ Has (flat_map kept_rows t.kept) (kept_row o.owner k) → Number o k
      by_part (inl here) =
          let one = flat_has floor_rows t.kept (kept_row o.owner k) here in
          let is = there_floor one.0 (kept_row o.owner k) one.2 in
          let bad : 19 ≡ 18 = ap kind_in is.1 in
          absurd (omega (arith, bad))
      by_part (inr at) =
          let one = flat_has kept_rows t.kept (kept_row o.owner k) at in
          let j = map_has (kept_row one.0.owner) one.0.numbers (kept_row o.owner k) one.2 in
          let names = number_names o.owner one.0.owner k j.0 (small_of s v o has) (small_of t u one.0 one.1) j.2 in
          let is : k ≡ j.0 =
          body_told k j.0 (subject_of_it s stores o k has there) (subject_of_it t keeps one.0 j.0 one.1 j.1) (place_of_it s v stores o k has there) (place_of_it t u keeps one.0 j.0 one.1 j.1) names.1 (ap body_in j.2) in
          (one.0, one.1, subst (Has one.0.numbers) (sym is) j.1, one_owner o.owner one.0.owner names.0)

  abbrev or_none : Owner → Option KeptOwner → KeptOwner
  or_none w o = if_there o (record { owner = w; floor = 0; numbers = [] }) (λ x. x)

  -- the row that is found is the owner's
  owner_found : (w : Owner) (o : KeptOwner) → find kept_owner_key (owner_numbers w) s.kept ≡ Some o → o.owner ≡ w
  owner_found w o e = one_owner o.owner w (order_equal (owner_numbers o.owner) (owner_numbers w) (find-key kept_owner_key (owner_numbers w) o s.kept e))

  kept_there : (w : Owner) (o p : KeptOwner) → o.owner ≡ w → Has t.kept p → o.owner ≡ p.owner → kept_of t.kept w ≡ p
  kept_there w o p own has is = ap (kept_of t.kept) (sym own ∙ is) ∙ own_row t.kept p u.order has

  floor_over : (w : Owner) → (floor_at s.kept w ≡ 0) ⊎ (floor_at s.kept w ≡ floor_at t.kept w)
  floor_over w = by_row (find kept_owner_key (owner_numbers w) s.kept) refl
    where
      by_floor : (o : KeptOwner) → find kept_owner_key (owner_numbers w) s.kept ≡ Some o → (b : Bool) → (o.floor == 0) ≡ b → (o.floor ≡ 0) ⊎ (o.floor ≡ floor_at t.kept w)
      by_floor o e true is = inl (eqb-true o.floor 0 is)
      by_floor o e false is =
          let f = floor_found o (find_has kept_owner_key (owner_numbers w) o s.kept e) (λ zero. let bad : false ≡ true = sym is ∙ eq-eqb o.floor 0 zero in let no : ⊥ = cc in no) in
          inr (f.3 ∙ ap (λ (x : KeptOwner). x.floor) (sym (kept_there w o f.0 (owner_found w o e) f.1 f.2)))

      by_row : (o : Option KeptOwner) → find kept_owner_key (owner_numbers w) s.kept ≡ o → ((or_none w o).floor ≡ 0) ⊎ ((or_none w o).floor ≡ floor_at t.kept w)
      by_row None e = inl refl
      by_row (Some o) e = by_floor o e (o.floor == 0) refl

  number_over : (w : Owner) (n : ℕ) → (number_at s.kept w n ≡ None) ⊎ (number_at s.kept w n ≡ number_at t.kept w n)
  number_over w n = by_row (find kept_owner_key (owner_numbers w) s.kept) refl
    where
      by_number : (o : KeptOwner) → find kept_owner_key (owner_numbers w) s.kept ≡ Some o → (k : Option KeptNumber) → find kept_key (n ∷ []) o.numbers ≡ k → (k ≡ None) ⊎ (k ≡ number_at t.kept w n)
      by_number o e None is = inl refl
      by_number o e (Some k) is =
          let f = number_found o k (find_has kept_owner_key (owner_numbers w) o s.kept e) (find_has kept_key (n ∷ []) k o.numbers is) in
          let at : k.number ≡ n = head_same k.number n [] [] (find-key kept_key (n ∷ []) k o.numbers is) in
          let rise = (right_of t u f.0 f.1).order in
          let looked : find kept_key (k.number ∷ []) f.0.numbers ≡ Some k = all_has (λ x. find kept_key (kept_key x) f.0.numbers ≡ Some x) f.0.numbers (all_found_there kept_key f.0.numbers rise) k f.2 in
          inr (sym (ap (λ (x : KeptOwner). find kept_key (n ∷ []) x.numbers) (kept_there w o f.0 (owner_found w o e) f.1 f.3) ∙ (ap (λ m. find kept_key (m ∷ []) f.0.numbers) (sym at) ∙ looked)))

      by_row : (o : Option KeptOwner) → find kept_owner_key (owner_numbers w) s.kept ≡ o
          → (find kept_key (n ∷ []) (or_none w o).numbers ≡ None) ⊎ (find kept_key (n ∷ []) (or_none w o).numbers ≡ number_at t.kept w n)
      by_row None e = inl refl
      by_row (Some o) e = by_number o e (find kept_key (n ∷ []) o.numbers) refl

-- so what the one keeps is what is gathered of the other one's rows
module _ (s t : State) (v : ValidState s) (u : ValidState t) (stores : IsStorable s) (keeps : IsStorable t) (same : Same (stored_rows s) (stored_rows t)) where
  floor_back : (o : KeptOwner) → Has t.kept o → floor_at s.kept o.owner ≡ o.floor
  floor_back o has = by_sides (floor_over t s u v keeps stores same.back o.owner) (floor_over s t v u stores keeps same.to o.owner)
    where
      own : floor_at t.kept o.owner ≡ o.floor
      own = ap (λ (x : KeptOwner). x.floor) (own_row t.kept o u.order has)

      by_sides : (floor_at t.kept o.owner ≡ 0) ⊎ (floor_at t.kept o.owner ≡ floor_at s.kept o.owner) → (floor_at s.kept o.owner ≡ 0) ⊎ (floor_at s.kept o.owner ≡ floor_at t.kept o.owner) → floor_at s.kept o.owner ≡ o.floor
      by_sides (inr is) other = sym is ∙ own
      by_sides (inl none) (inl zero) = zero ∙ (sym none ∙ own)
      by_sides (inl none) (inr is) = is ∙ own

  number_back : (o : KeptOwner) (k : KeptNumber) → Has t.kept o → Has o.numbers k → number_at s.kept o.owner k.number ≡ Some k
  number_back o k has there = by_side (number_over t s u v keeps stores same.back o.owner k.number)
    where
      rise : Ascends kept_key o.numbers
      rise = (all_has (ValidKept t.accepted) t.kept u.each o has).order

      own : number_at t.kept o.owner k.number ≡ Some k
      own =
          ap (λ (x : KeptOwner). find kept_key (k.number ∷ []) x.numbers) (own_row t.kept o u.order has)
          ∙ all_has (λ x. find kept_key (kept_key x) o.numbers ≡ Some x) o.numbers (all_found_there kept_key o.numbers rise) k there

      by_side : (number_at t.kept o.owner k.number ≡ None) ⊎ (number_at t.kept o.owner k.number ≡ number_at s.kept o.owner k.number) → number_at s.kept o.owner k.number ≡ Some k
      by_side (inr is) = sym is ∙ own
      by_side (inl none) =
          let bad : ◌≡◌ {A = Option KeptNumber} None (Some k) = sym none ∙ own in
          absurd (let no : ⊥ = cc in no)

  kept_each : (ks : List KeptOwner) → AllByRecursion KeepsSome ks → AllByRecursion (ValidKept s.accepted) ks → AllByRecursion (λ o. KeepsSome o × Ascends kept_key o.numbers) ks
  kept_each [] some right = tt
  kept_each (k ∷ ks) some right = ((some.0, right.0.order), kept_each ks some.1 right.1)

  gathered : IsGathered t s.kept []
  gathered = record {
    rows = tt;
    order = v.order;
    each = kept_each s.kept stores.some v.each;
    floor = floor_over s t v u stores keeps same.to;
    number = number_over s t v u stores keeps same.to;
    floors = λ o has. inl (floor_back o has);
    numbers = λ o k has there. inl (number_back o k has there);
  }

  pub states_same : s ≡ t
  states_same =
      sym (same_state s v s.registry s.kept s.accepted refl refl refl)
      ∙ same_state t u s.registry s.kept s.accepted (registry_same s t v u same) (all_gathered t u s.kept gathered keeps) (count_same s t v u same stores keeps)

-- the tables of two states that are the same have the same rows
pub one_state : (s t : State) → ValidState s → IsStorable s → ValidState t → IsStorable t → tables s ≡ tables t → s ≡ t
one_state s t v stores u keeps is =
    states_same s t v u stores keeps
    (same_over (stored_rows s) (entries (tables s)) (stored_rows t) (same_back (entries (tables s)) (stored_rows s) (same_moved (entries (tables s)) (stored_rows s) (rows_are s v)))
    (subst (λ x. Same (entries x) (stored_rows t)) (sym is) (same_moved (entries (tables t)) (stored_rows t) (rows_are t u))))
