-- What becomes of the rows of a state by a request that is accepted.
use Rattle.std.proofs.Common.{◌≡◌, ◌⊎◌, inl, inr, ℕ, suc, ◌+◌, ◌<◌, ◌≤◌, nat_lt, nat_le, ◌==◌, decimal, Bool, true, false, List, [], ◌∷◌, ◌++◌, length, map, flat_map, Option, Some, None, refl, sym, ap, subst, ◌∙◌, arith, if◌then◌else◌}
use Rattle.std.specs.declared.cmp.Ordering.{Ordering}
use Rattle.std.specs.declared.cmp.Ordering.TheVariants.{Less, Equal, Greater}
use Rattle.std.specs.Ordering.{match_ordering, eq_by_cmp}
use Rattle.std.specs.List.{AllByRecursion}
use Rattle.std.proofs.lemmas.Bool.{ltb-true, ltb-false, lt-ltb, leb-true, le-leb, eqb-true}
use Rattle.std.proofs.lemmas.Map.Views.{tells_apart}
use Rattle.ixp_io.specs.declared.keeper.RowName.{RowName}
use Rattle.ixp_io.specs.declared.keeper.Change.{Change}
use Rattle.ixp_io.specs.Tables.{Table, changed, name_cmp}
use Rattle.ixp_io.proofs.Rows.{name_same}
use Rattle.ixp_num_tables.specs.Sums.{Pairs}
use Rattle.ixp_num_tables.specs.Tables.{order, Ascends, find, if_there, put, without}
use Rattle.ixp_num_tables.proofs.FirstNumbers.{key_up, less_first}
use Rattle.ixp_num_tables.proofs.Orders.{order_same}
use Rattle.ixp_num_tables.proofs.Places.{find_above, above_greater, above_equal, without_above}
use Rattle.ixp_num_tables.proofs.TableLaws.{Ascends-put}
use Rattle.ixp_registry.specs.declared.members.Owner.{Owner}
use Rattle.ixp_registry.specs.Words.{owner_numbers}
use Rattle.ixp_machine_steps.specs.declared.kept.KeptNumber.{KeptNumber}
use Rattle.ixp_machine_steps.specs.declared.kept.KeptOwner.{KeptOwner}
use Rattle.ixp_machine_steps.specs.declared.state.State.{State}
use Rattle.ixp_machine_steps.specs.Kept.{kept_key, kept_owner_key, kept_of, noted, noted_for, without_least, ValidKept}
use Rattle.ixp_machine_steps.specs.States.{ValidState}
use Rattle.ixp_machine_steps.proofs.KeptOwners.{owner_kept, noted_is, valid_kept}
use Rattle.ixp_registry_change.specs.Changes.{with_change}
use Rattle.ixp_machine.specs.declared.preparing.Prepared.{Prepared}
use Rattle.ixp_machine.specs.Prepared.{prepared, IsFresh}
use Rattle.ixp_store_rows.specs.Names.{Entry, floor_name, floor_rows, kept_row, kept_rows, version_row, count_row}
use Rattle.ixp_store_rows.specs.States.{registry_rows, stored_rows, set_row, drop_row, tables}
use Rattle.ixp_store_rows.proofs.Apart.{Differ}
use Rattle.ixp_store_rows.proofs.NamesOnce.{names_once}
use Rattle.ixp_store_batches.specs.Batches.{entries_of, gone_among, added_among, gone_numbers, added_numbers, raised_above, old_floor, new_floor, old_entries, new_entries, old_rows, new_rows}
use Rattle.ixp_store_batches.proofs.Scripts.{Script, done, stays, goes, comes, unchanged, in_front, before, joined, replaced, Once, Others, is_name, script_makes}
use Rattle.ixp_store_batches.proofs.Tables.{script_put, script_of_map}
use Rattle.ixp_store_batches.proofs.Registries.{registry_script}

-- names that differ, as a test tells it
other_names : (e : Entry) (es : List Entry) → AllByRecursion (Differ e) es → Others e.0 es
other_names e [] all = tt
other_names e (x ∷ xs) all = (by_bool (is_name e.0 x.0) refl, other_names e xs all.1)
  where
    by_bool : (b : Bool) → is_name e.0 x.0 ≡ b → is_name e.0 x.0 ≡ false
    by_bool true is = absurd (all.0 (tells_apart name_same e.0 x.0 is))
    by_bool false is = is

once_of : (es : List Entry) → Pairs Differ es → Once es
once_of [] all = tt
once_of (e ∷ es) all = (other_names e es all.0, once_of es all.1)

-- how many numbers there are with a new one
length_new : (k : KeptNumber) (xs : List KeptNumber) → Ascends kept_key xs → find kept_key (kept_key k) xs ≡ None → length (put kept_key k xs) ≡ suc (length xs)
length_new k [] up none = refl
length_new k (x ∷ xs) up none = by_order (length_new k xs up.1) (order (kept_key x) (kept_key k)) refl
  where
    by_order : (find kept_key (kept_key k) xs ≡ None → length (put kept_key k xs) ≡ suc (length xs)) → (o : Ordering) → order (kept_key x) (kept_key k) ≡ o → length (put kept_key k (x ∷ xs)) ≡ suc (suc (length xs))
    by_order more Less is =
        let inner : find kept_key (kept_key k) xs ≡ None = sym (ap (λ o. match_ordering o (find kept_key (kept_key k) xs) (Some x) (find kept_key (kept_key k) xs)) is) ∙ none in
        ap (λ o. length (match_ordering o (x ∷ put kept_key k xs) (k ∷ xs) (k ∷ x ∷ xs))) is ∙ ap suc (more inner)
    by_order more Equal is =
        absurd (let bad : ◌≡◌ {A = Option KeptNumber} (Some x) None = sym (ap (λ o. match_ordering o (find kept_key (kept_key k) xs) (Some x) (find kept_key (kept_key k) xs)) is) ∙ none in cc)
    by_order more Greater is = ap (λ o. length (match_ordering o (x ∷ put kept_key k xs) (k ∷ xs) (k ∷ x ∷ xs))) is

-- where a number has room, and where it hasn't
noted_room : (k : KeptNumber) (o : KeptOwner) → Ascends kept_key o.numbers → find kept_key (kept_key k) o.numbers ≡ None → nat_lt (length o.numbers) 1024 ≡ true → noted k o ≡ record o { numbers = put kept_key k o.numbers }
noted_room k o up none room =
    let few : length o.numbers < 1024 = ltb-true (length o.numbers) 1024 room in
    let more : length (put kept_key k o.numbers) ≡ suc (length o.numbers) = length_new k o.numbers up none in
    let is : nat_le (length (put kept_key k o.numbers)) 1024 ≡ true = le-leb (length (put kept_key k o.numbers)) 1024 (omega (arith, few, more)) in
    ap (λ b. if b then record o { numbers = put kept_key k o.numbers } else without_least o (put kept_key k o.numbers)) is

noted_full : (k : KeptNumber) (o : KeptOwner) → Ascends kept_key o.numbers → find kept_key (kept_key k) o.numbers ≡ None → nat_lt (length o.numbers) 1024 ≡ false → noted k o ≡ without_least o (put kept_key k o.numbers)
noted_full k o up none full = by_bool (nat_le (length (put kept_key k o.numbers)) 1024) refl
  where
    by_bool : (b : Bool) → nat_le (length (put kept_key k o.numbers)) 1024 ≡ b → noted k o ≡ without_least o (put kept_key k o.numbers)
    by_bool false is = ap (λ b. if b then record o { numbers = put kept_key k o.numbers } else without_least o (put kept_key k o.numbers)) is
    by_bool true is =
        let many : 1024 ≤ length o.numbers = ltb-false (length o.numbers) 1024 full in
        let more : length (put kept_key k o.numbers) ≡ suc (length o.numbers) = length_new k o.numbers up none in
        let few : length (put kept_key k o.numbers) ≤ 1024 = leb-true (length (put kept_key k o.numbers)) 1024 is in
        absurd (omega (arith, many, more, few))

less_number : (x k : KeptNumber) → order (kept_key x) (kept_key k) ≡ Less → nat_lt x.number k.number ≡ true
less_number x k less = by_case (key_up x.number k.number [] [] less)
  where
    by_case : (x.number < k.number) ⊎ ((x.number ≡ k.number) × (order [] [] ≡ Less)) → nat_lt x.number k.number ≡ true
    by_case (inl below) = lt-ltb x.number k.number below
    by_case (inr both) = absurd (let bad : ◌≡◌ {A = Ordering} Equal Less = both.1 in cc)

more_number : (x k : KeptNumber) → order (kept_key x) (kept_key k) ≡ Greater → nat_lt x.number k.number ≡ false
more_number x k more = by_bool (nat_lt x.number k.number) refl
  where
    by_bool : (b : Bool) → nat_lt x.number k.number ≡ b → nat_lt x.number k.number ≡ false
    by_bool false is = is
    by_bool true is =
        absurd (let bad : ◌≡◌ {A = Ordering} Less Greater = sym (less_first x.number k.number [] [] (ltb-true x.number k.number is)) ∙ more in cc)

-- the floor rises to the number that goes, plus one
some_floor : (owner : Owner) (n : ℕ) (ns : List KeptNumber) → floor_rows (record { owner = owner; floor = n + 1; numbers = ns }) ≡ (floor_name owner, decimal (n + 1)) ∷ []
some_floor owner n ns = by_bool ((n + 1) == 0) refl
  where
    by_bool : (b : Bool) → ((n + 1) == 0) ≡ b → if◌then◌else◌ {A = List Entry} ((n + 1) == 0) [] ((floor_name owner, decimal (n + 1)) ∷ []) ≡ (floor_name owner, decimal (n + 1)) ∷ []
    by_bool false is = ap (λ b. if◌then◌else◌ {A = List Entry} b [] ((floor_name owner, decimal (n + 1)) ∷ [])) is
    by_bool true is = absurd (let zero : n + 1 ≡ 0 = eqb-true (n + 1) 0 is in omega (arith, zero))

raised_floor : (k : KeptNumber) (o : KeptOwner) (ns : List KeptNumber) → find kept_key (kept_key k) ns ≡ None → nat_lt (length ns) 1024 ≡ false → floor_rows (without_least o (put kept_key k ns)) ≡ raised_above k o ns
raised_floor k o [] away many = absurd (let bad : ◌≡◌ {A = Bool} true false = many in cc)
raised_floor k o (x ∷ xs) away many = by_order (order (kept_key x) (kept_key k)) refl
  where
    Inner : List KeptNumber → Bool → Type 0
    Inner ys b = floor_rows (without_least o ys) ≡ (floor_name o.owner, decimal ((if b then x.number else k.number) + 1)) ∷ []

    by_order : (p : Ordering) → order (kept_key x) (kept_key k) ≡ p → Inner (put kept_key k (x ∷ xs)) (nat_lt x.number k.number)
    by_order Less is =
        let here : put kept_key k (x ∷ xs) ≡ x ∷ put kept_key k xs = ap (λ p. match_ordering p (x ∷ put kept_key k xs) (k ∷ xs) (k ∷ x ∷ xs)) is in
        subst (λ (ys : List KeptNumber). Inner ys (nat_lt x.number k.number)) (sym here)
        (subst (Inner (x ∷ put kept_key k xs)) (sym (less_number x k is)) (some_floor o.owner x.number (without kept_key (kept_key x) (x ∷ put kept_key k xs))))
    by_order Equal is =
        absurd (let bad : ◌≡◌ {A = Option KeptNumber} (Some x) None = sym (ap (λ p. match_ordering p (find kept_key (kept_key k) xs) (Some x) (find kept_key (kept_key k) xs)) is) ∙ away in cc)
    by_order Greater is =
        let here : put kept_key k (x ∷ xs) ≡ k ∷ x ∷ xs = ap (λ p. match_ordering p (x ∷ put kept_key k xs) (k ∷ xs) (k ∷ x ∷ xs)) is in
        subst (λ (ys : List KeptNumber). Inner ys (nat_lt x.number k.number)) (sym here)
        (subst (Inner (k ∷ x ∷ xs)) (sym (more_number x k is)) (some_floor o.owner k.number (without kept_key (kept_key k) (k ∷ x ∷ xs))))

-- the floor's row
floor_script : (k : KeptNumber) (o : KeptOwner) → Ascends kept_key o.numbers → find kept_key (kept_key k) o.numbers ≡ None → Script (floor_rows o) (floor_rows (noted k o)) (old_floor k o) (new_floor k o)
floor_script k o up none = by_bool (nat_lt (length o.numbers) 1024) refl
  where
    by_bool : (b : Bool) → nat_lt (length o.numbers) 1024 ≡ b → Script (floor_rows o) (floor_rows (noted k o)) (old_floor k o) (new_floor k o)
    by_bool true is =
        subst (λ b. Script (floor_rows o) (floor_rows (noted k o)) (if b then [] else floor_rows o) (if b then [] else raised_above k o o.numbers)) (sym is)
        (subst (λ (n : KeptOwner). Script (floor_rows o) (floor_rows n) [] []) (sym (noted_room k o up none is)) (unchanged (floor_rows o)))
    by_bool false is =
        let now : floor_rows (noted k o) ≡ raised_above k o o.numbers = ap (λ (n : KeptOwner). floor_rows n) (noted_full k o up none is) ∙ raised_floor k o o.numbers none is in
        subst (λ b. Script (floor_rows o) (floor_rows (noted k o)) (if b then [] else floor_rows o) (if b then [] else raised_above k o o.numbers)) (sym is)
        (subst (λ (es : List Entry). Script (floor_rows o) es (floor_rows o) (raised_above k o o.numbers)) (sym now) (replaced (floor_rows o) (raised_above k o o.numbers)))

-- one number more
more_numbers : (g : KeptNumber → Entry) (k : KeptNumber) (xs : List KeptNumber) → Ascends kept_key xs → find kept_key (kept_key k) xs ≡ None → Script (map g xs) (map g (put kept_key k xs)) [] (g k ∷ [])
more_numbers g k xs up none =
    script_of_map g xs (put kept_key k xs) [] (g k ∷ [])
    (script_put kept_key (λ x. g x ∷ []) k xs [] (g k ∷ []) up
    (subst (λ (o : Option KeptNumber). Script (entries_of (λ x. g x ∷ []) o) (g k ∷ []) [] (g k ∷ [])) (sym none) (replaced [] (g k ∷ []))))

-- the numbers that are kept
numbers_script :
    (g : KeptNumber → Entry) (k : KeptNumber) (o : KeptOwner) → Ascends kept_key o.numbers → find kept_key (kept_key k) o.numbers ≡ None
    → Script (map g o.numbers) (map g (noted k o).numbers) (map g (gone_numbers k o)) (map g (added_numbers k o))
numbers_script g k o up none = by_bool (nat_lt (length o.numbers) 1024) refl
  where
    Goal : Bool → KeptOwner → Type 0
    Goal b n = Script (map g o.numbers) (map g n.numbers) (map g (if b then [] else gone_among k o.numbers)) (map g (if b then k ∷ [] else added_among k o.numbers))

    full : (ns : List KeptNumber) → Ascends kept_key ns → find kept_key (kept_key k) ns ≡ None → nat_lt (length ns) 1024 ≡ false → Script (map g ns) (map g (without_least o (put kept_key k ns)).numbers) (map g (gone_among k ns)) (map g (added_among k ns))
    full [] rise away many = absurd (let bad : ◌≡◌ {A = Bool} true false = many in cc)
    full (x ∷ xs) rise away many = by_order (order (kept_key x) (kept_key k)) refl
      where
        Inner : List KeptNumber → Bool → Type 0
        Inner ys b = Script (map g (x ∷ xs)) (map g (without_least o ys).numbers) (map g (if b then x ∷ [] else [])) (map g (if b then k ∷ [] else []))

        by_order : (p : Ordering) → order (kept_key x) (kept_key k) ≡ p → Inner (put kept_key k (x ∷ xs)) (nat_lt x.number k.number)
        by_order Less is =
            let here : put kept_key k (x ∷ xs) ≡ x ∷ put kept_key k xs = ap (λ p. match_ordering p (x ∷ put kept_key k xs) (k ∷ xs) (k ∷ x ∷ xs)) is in
            let inner : find kept_key (kept_key k) xs ≡ None = sym (ap (λ p. match_ordering p (find kept_key (kept_key k) xs) (Some x) (find kept_key (kept_key k) xs)) is) ∙ away in
            let rises : Ascends kept_key (x ∷ put kept_key k xs) = subst (Ascends kept_key) here (Ascends-put kept_key k (x ∷ xs) rise) in
            let rest : without kept_key (kept_key x) (x ∷ put kept_key k xs) ≡ put kept_key k xs =
            ap (λ p. match_ordering p (x ∷ without kept_key (kept_key x) (put kept_key k xs)) (without kept_key (kept_key x) (put kept_key k xs)) (x ∷ without kept_key (kept_key x) (put kept_key k xs))) (order_same (kept_key x))
            ∙ without_above kept_key (kept_key x) (put kept_key k xs) (above_equal kept_key x (kept_key x) (put kept_key k xs) (order_same (kept_key x)) rises.0) in
            subst (λ (ys : List KeptNumber). Inner ys (nat_lt x.number k.number)) (sym here)
            (subst (Inner (x ∷ put kept_key k xs)) (sym (less_number x k is))
            (subst (λ (ys : List KeptNumber). Script (map g (x ∷ xs)) (map g ys) (g x ∷ []) (g k ∷ [])) (sym rest)
            (goes (g x) (map g xs) (map g (put kept_key k xs)) [] (g k ∷ []) (more_numbers g k xs rise.1 inner))))
        by_order Equal is =
            absurd (let bad : ◌≡◌ {A = Option KeptNumber} (Some x) None = sym (ap (λ p. match_ordering p (find kept_key (kept_key k) xs) (Some x) (find kept_key (kept_key k) xs)) is) ∙ away in cc)
        by_order Greater is =
            let here : put kept_key k (x ∷ xs) ≡ k ∷ x ∷ xs = ap (λ p. match_ordering p (x ∷ put kept_key k xs) (k ∷ xs) (k ∷ x ∷ xs)) is in
            let rises : Ascends kept_key (k ∷ x ∷ xs) = subst (Ascends kept_key) here (Ascends-put kept_key k (x ∷ xs) rise) in
            let rest : without kept_key (kept_key k) (k ∷ x ∷ xs) ≡ x ∷ xs =
            ap (λ p. match_ordering p (k ∷ without kept_key (kept_key k) (x ∷ xs)) (without kept_key (kept_key k) (x ∷ xs)) (k ∷ without kept_key (kept_key k) (x ∷ xs))) (order_same (kept_key k))
            ∙ without_above kept_key (kept_key k) (x ∷ xs) (above_equal kept_key k (kept_key k) (x ∷ xs) (order_same (kept_key k)) rises.0) in
            subst (λ (ys : List KeptNumber). Inner ys (nat_lt x.number k.number)) (sym here)
            (subst (Inner (k ∷ x ∷ xs)) (sym (more_number x k is))
            (subst (λ (ys : List KeptNumber). Script (map g (x ∷ xs)) (map g ys) [] []) (sym rest) (unchanged (map g (x ∷ xs)))))

    by_bool : (b : Bool) → nat_lt (length o.numbers) 1024 ≡ b → Goal (nat_lt (length o.numbers) 1024) (noted k o)
    by_bool true is =
        subst (λ b. Goal b (noted k o)) (sym is)
        (subst (λ (n : KeptOwner). Goal true n) (sym (noted_room k o up none is)) (more_numbers g k o.numbers up none))
    by_bool false is =
        subst (λ b. Goal b (noted k o)) (sym is)
        (subst (λ (n : KeptOwner). Goal false n) (sym (noted_full k o up none is)) (full o.numbers up none is))

-- the rows of all owners, where what is kept for one of them changes
owners_script :
    (f : KeptOwner → List Entry) (nothing : (owner : Owner) → f (record { owner = owner; floor = 0; numbers = [] }) ≡ [])
    (ks : List KeptOwner) (owner : Owner) (k : KeptNumber) (old new : List Entry) → Ascends kept_owner_key ks
    → Script (f (kept_of ks owner)) (f (noted k (kept_of ks owner))) old new
    → Script (flat_map f ks) (flat_map f (noted_for owner k ks)) old new
owners_script f nothing ks owner k old new up s = script_put kept_owner_key f (noted k (kept_of ks owner)) ks old new up from_there
  where
    by_row : (o : Option KeptOwner) → f (if_there o (record { owner = owner; floor = 0; numbers = [] }) (λ x. x)) ≡ entries_of f o
    by_row None = nothing owner
    by_row (Some x) = refl

    from_there : Script (entries_of f (find kept_owner_key (kept_owner_key (noted k (kept_of ks owner))) ks)) (f (noted k (kept_of ks owner))) old new
    from_there =
        subst (λ (q : List ℕ). Script (entries_of f (find kept_owner_key q ks)) (f (noted k (kept_of ks owner))) old new) (ap owner_numbers (sym (noted_is k ks owner)))
        (subst (λ es. Script es (f (noted k (kept_of ks owner))) old new) (by_row (find kept_owner_key (owner_numbers owner) ks)) s)

-- the rows of the state
pub state_script : (s : State) (p : Prepared) → ValidState s → IsFresh s p → Script (stored_rows s) (stored_rows (prepared s p)) (old_rows s p) (new_rows s p)
state_script s p valid fresh =
    stays version_row (registry_rows s.registry ++ (flat_map floor_rows s.kept ++ (flat_map kept_rows s.kept ++ count_row s.accepted ∷ [])))
    (registry_rows (with_change s.registry p.change) ++ (flat_map floor_rows ks ++ (flat_map kept_rows ks ++ count_row (s.accepted + 1) ∷ []))) (old_rows s p) (new_rows s p)
    (joined (registry_rows s.registry) (registry_rows (with_change s.registry p.change)) (old_entries s.registry p.change) (new_entries p.change)
    (flat_map floor_rows s.kept ++ (flat_map kept_rows s.kept ++ count_row s.accepted ∷ [])) (flat_map floor_rows ks ++ (flat_map kept_rows ks ++ count_row (s.accepted + 1) ∷ []))
    (old_floor p.kept o ++ (gone ++ count_row s.accepted ∷ [])) (new_floor p.kept o ++ (added ++ count_row (s.accepted + 1) ∷ []))
    (registry_script s.registry valid.registry p.change)
    (joined (flat_map floor_rows s.kept) (flat_map floor_rows ks) (old_floor p.kept o) (new_floor p.kept o)
    (flat_map kept_rows s.kept ++ count_row s.accepted ∷ []) (flat_map kept_rows ks ++ count_row (s.accepted + 1) ∷ []) (gone ++ count_row s.accepted ∷ []) (added ++ count_row (s.accepted + 1) ∷ [])
    (owners_script floor_rows (λ x. refl) s.kept p.owner p.kept (old_floor p.kept o) (new_floor p.kept o) valid.order (floor_script p.kept o up fresh))
    (joined (flat_map kept_rows s.kept) (flat_map kept_rows ks) gone added (count_row s.accepted ∷ []) (count_row (s.accepted + 1) ∷ []) (count_row s.accepted ∷ []) (count_row (s.accepted + 1) ∷ [])
    (owners_script kept_rows (λ x. refl) s.kept p.owner p.kept gone added valid.order numbers)
    (replaced (count_row s.accepted ∷ []) (count_row (s.accepted + 1) ∷ [])))))
  where
    ks : List KeptOwner
    ks = noted_for p.owner p.kept s.kept

    o : KeptOwner
    o = kept_of s.kept p.owner

    up : Ascends kept_key o.numbers
    up = (valid_kept s.accepted s.kept p.owner valid.each).order

    gone : List Entry
    gone = map (kept_row p.owner) (gone_numbers p.kept o)

    added : List Entry
    added = map (kept_row p.owner) (added_numbers p.kept o)

    numbers : Script (kept_rows o) (kept_rows (noted p.kept o)) gone added
    numbers =
        subst (λ (w : Owner). Script (map (kept_row w) o.numbers) (kept_rows (noted p.kept o)) gone added) (sym (owner_kept s.kept p.owner))
        (subst (λ (w : Owner). Script (map (kept_row p.owner) o.numbers) (map (kept_row w) (noted p.kept o).numbers) gone added) (sym (noted_is p.kept s.kept p.owner))
        (numbers_script (kept_row p.owner) p.kept o up fresh))

-- a batch that drops what goes and sets what comes makes the tables of the state those of the next one
pub batch_makes :
    (s : State) (p : Prepared) (batch : List Change) → ValidState s → ValidState (prepared s p) → IsFresh s p → batch ≡ map drop_row (old_rows s p) ++ map set_row (new_rows s p)
    → changed (tables s) batch ≡ tables (prepared s p)
batch_makes s p batch valid next fresh is =
    ap (changed (tables s)) is
    ∙ script_makes (stored_rows s) (stored_rows (prepared s p)) (old_rows s p) (new_rows s p) (state_script s p valid fresh)
    (once_of (stored_rows s) (names_once s valid)) (once_of (stored_rows (prepared s p)) (names_once (prepared s p) next))
