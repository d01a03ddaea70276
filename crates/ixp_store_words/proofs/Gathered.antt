-- What is gathered of the rows of a state is what the state keeps.
use Rattle.std.proofs.Common.{◌≡◌, ◌≢◌, ◌⊎◌, inl, inr, ℕ, ◌<◌, ◌≤◌, ◌^◌, ◌==◌, Bool, true, false, IsTrue, List, [], ◌∷◌, ◌++◌, map, flat_map, Option, Some, None, if◌then◌else◌, refl, sym, ap, ◌∙◌, subst, arith}
use Rattle.std.specs.declared.cmp.Ordering.{Ordering}
use Rattle.std.specs.declared.cmp.Ordering.TheVariants.{Less, Equal, Greater}
use Rattle.std.specs.List.{AllByRecursion}
use Rattle.std.specs.Coded.{le_prop}
use Rattle.std.proofs.lemmas.Bool.{eqb-true, eq-eqb}
use Rattle.ixp_num_tables.specs.Tables.{order, Ascends, find, put, without, if_there}
use Rattle.ixp_num_tables.proofs.Orders.{order_same, order_equal, head_same}
use Rattle.ixp_num_tables.proofs.TableLaws.{all_put, all_without, Ascends-put, Ascends-without, find-put-same-key, find-put-other, find-without-same, find-without-other, find-key, without-absent, without-put}
use Rattle.ixp_num_tables.proofs.Looking.{all_found, all_found_there}
use Rattle.ixp_registry.specs.declared.edit_kind.EditKind.{EditKind}
use Rattle.ixp_registry.specs.declared.members.Owner.{Owner}
use Rattle.ixp_registry.specs.Widths.{IsNumber, owner_number}
use Rattle.ixp_registry.specs.Words.{owner_numbers}
use Rattle.ixp_machine_steps.specs.declared.kept.KeptNumber.{KeptNumber}
use Rattle.ixp_machine_steps.specs.declared.kept.KeptOwner.{KeptOwner}
use Rattle.ixp_machine_steps.specs.declared.state.State.{State}
use Rattle.ixp_machine_steps.specs.declared.subject.Subject.{Subject}
use Rattle.ixp_machine_steps.specs.Kept.{kept_key, kept_owner_key, kept_of, ValidKept}
use Rattle.ixp_machine_steps.specs.States.{ValidState}
use Rattle.ixp_machine_steps.proofs.KeptOwners.{one_owner, owner_kept}
use Rattle.ixp_store_rows.specs.Names.{Entry, floor_row, floor_rows, kept_row, kept_rows, count_row}
use Rattle.ixp_store_rows.specs.States.{registry_rows, stored_rows}
use Rattle.ixp_store_rows.proofs.KeyTexts.{owner_text_told, kept_told}
use Rattle.ixp_store_rows.proofs.NamesOnce.{owners_small, registry_within}
use Rattle.ixp_rows_lines.proofs.Spelling.{some_is}
use Rattle.ixp_store_words.specs.Gathering.{with_row, with_floor, with_number, IsNoted, floor_at, number_at, IsGathered}
use Rattle.ixp_store_words.specs.Opening.{AreAllRows}
use Rattle.ixp_store_words.specs.Sorting.{Has}
use Rattle.ixp_store_words.specs.Storing.{HasSubject, KeepsSome, IsStorable}
use Rattle.ixp_store_words.proofs.Sorting.{all_has, has_all, has_map, ascending_same}

-- a number that is kept, whatever shows that it is small
pub same_small : (k : KeptNumber) (n : ℕ) → n ≡ k.number → (small : n < 10 ^ 16) → ◌≡◌ {A = KeptNumber} (record { number = n; kind = k.kind; subject = k.subject; place = k.place; small = small }) k
same_small k n e =
    subst (λ m. (small : m < 10 ^ 16) → ◌≡◌ {A = KeptNumber} (record { number = m; kind = k.kind; subject = k.subject; place = k.place; small = small }) k) (sym e)
    (λ small. ap (λ (s : k.number < 10 ^ 16). record k { small = s }) (le_prop small k.small))

-- what was read of an owner and a number
pub same_said : (w : Owner) (k : KeptNumber) (owner : Owner) (n : ℕ) (kind : EditKind) (subject : Subject) (place : ℕ) (small : n < 10 ^ 16) → ◌≡◌ {A = Owner × ℕ} (owner, n) (w, k.number)
    → ◌≡◌ {A = EditKind × Subject × ℕ} (kind, subject, place) (k.kind, k.subject, k.place)
    → ◌≡◌ {A = Option (Owner × KeptNumber)} (Some (owner, record { number = n; kind = kind; subject = subject; place = place; small = small })) (Some (w, k))
same_said w k owner n kind subject place small named said =
    let number : ◌≡◌ {A = KeptNumber} (record { number = n; kind = kind; subject = subject; place = place; small = small }) k =
    (λ i. record { number = n; kind = (said i).0; subject = (said i).1; place = (said i).2; small = small }) ∙ same_small k n (ap (λ (x : Owner × ℕ). x.1) named) small in
    (λ i. Some ((named i).0, number i))

-- Items of joined lists
module _ {X : Type 0} where
  pub has_left : (xs ys : List X) (x : X) → Has xs x → Has (xs ++ ys) x
  has_left [] ys x has = absurd has
  has_left (z ∷ zs) ys x (inl e) = inl e
  has_left (z ∷ zs) ys x (inr has) = inr (has_left zs ys x has)

  pub has_right : (xs ys : List X) (x : X) → Has ys x → Has (xs ++ ys) x
  has_right [] ys x has = has
  has_right (z ∷ zs) ys x has = inr (has_right zs ys x has)

  pub has_either : (xs ys : List X) (x : X) → Has (xs ++ ys) x → Has xs x ⊎ Has ys x
  has_either [] ys x has = inr has
  has_either (z ∷ zs) ys x (inl e) = inl (inl e)
  has_either (z ∷ zs) ys x (inr has) = by_place (has_either zs ys x has)
    where
      by_place : Has zs x ⊎ Has ys x → Has (z ∷ zs) x ⊎ Has ys x
      by_place (inl here) = inl (inr here)
      by_place (inr there) = inr there

module _ {X Y : Type 0} where
  pub has_flat : (f : X → List Y) (xs : List X) (x : X) (y : Y) → Has xs x → Has (f x) y → Has (flat_map f xs) y
  has_flat f [] x y has is = absurd has
  has_flat f (z ∷ zs) x y (inl e) is = has_left (f z) (flat_map f zs) y (subst (λ w. Has (f w) y) e is)
  has_flat f (z ∷ zs) x y (inr has) is = has_right (f z) (flat_map f zs) y (has_flat f zs x y has is)

  pub flat_has : (f : X → List Y) (xs : List X) (y : Y) → Has (flat_map f xs) y → (x : X) × Has xs x × Has (f x) y
  flat_has f [] y has = absurd has
  flat_has f (z ∷ zs) y has = by_place (has_either (f z) (flat_map f zs) y has) (λ there. flat_has f zs y there)
    where
      by_place : Has (f z) y ⊎ Has (flat_map f zs) y → (Has (flat_map f zs) y → (x : X) × Has zs x × Has (f x) y) → (x : X) × Has (z ∷ zs) x × Has (f x) y
      by_place (inl here) later = (z, inl refl, here)
      by_place (inr there) later = let more = later there in (more.0, inr more.1, more.2)

  pub map_has : (f : X → Y) (xs : List X) (y : Y) → Has (map f xs) y → (x : X) × Has xs x × (y ≡ f x)
  map_has f [] y has = absurd has
  map_has f (z ∷ zs) y (inl e) = (z, inl refl, e)
  map_has f (z ∷ zs) y (inr has) = let more = map_has f zs y has in (more.0, inr more.1, more.2)

-- what is looked up is there, and what is there is looked up
module _ {R : Type 0} (key : R → List ℕ) where
  pub find_has : (k : List ℕ) (r : R) (rs : List R) → find key k rs ≡ Some r → Has rs r
  find_has k r rs e = all_found key (Has rs) k r rs (has_all (Has rs) rs (λ x has. has)) e

  has_found : (r : R) (rs : List R) → Ascends key rs → Has rs r → find key (key r) rs ≡ Some r
  has_found r rs up has = all_has (λ x. find key (key x) rs ≡ Some x) rs (all_found_there key rs up) r has

-- rows of floors and of kept numbers
pub floor_there : (o : KeptOwner) → o.floor ≢ 0 → Has (floor_rows o) (floor_row o)
floor_there o some = by_floor (o.floor == 0) refl
  where
    by_floor : (b : Bool) → (o.floor == 0) ≡ b → Has (if b then [] else floor_row o ∷ []) (floor_row o)
    by_floor true e = absurd (some (eqb-true o.floor 0 e))
    by_floor false e = inl refl

pub there_floor : (o : KeptOwner) (e : Entry) → Has (floor_rows o) e → (o.floor ≢ 0) × (e ≡ floor_row o)
there_floor o e has = by_floor (o.floor == 0) refl has
  where
    by_floor : (b : Bool) → (o.floor == 0) ≡ b → Has (if b then [] else floor_row o ∷ []) e → (o.floor ≢ 0) × (e ≡ floor_row o)
    by_floor true is has = absurd has
    by_floor false is (inl at) = ((λ zero. absurd (let bad : false ≡ true = sym is ∙ eq-eqb o.floor 0 zero in cc)), at)
    by_floor false is (inr none) = absurd none

-- two rows with one name are of one owner and one number
abbrev key_of : Entry → List ℕ
key_of e = e.0.key

abbrev place_in : Entry → ℕ
place_in e = e.0.kind

floor_names : (a b : KeptOwner) → IsNumber (owner_number a.owner) → IsNumber (owner_number b.owner) → floor_row a ≡ floor_row b → a.owner ≡ b.owner
floor_names a b small fits e = one_owner a.owner b.owner (owner_text_told a.owner b.owner small fits (ap key_of e))

pub number_names : (v w : Owner) (j k : KeptNumber) → IsNumber (owner_number v) → IsNumber (owner_number w) → kept_row v j ≡ kept_row w k → (owner_numbers v ≡ owner_numbers w) × (j.number ≡ k.number)
number_names v w j k small fits e =
    let first = j.small in
    let second = k.small in
    kept_told v w j.number k.number small fits (omega (arith, first)) (omega (arith, second)) (ap key_of e)

kinds_apart : {X : Type 0} (v : Owner) (o : KeptOwner) (k : KeptNumber) → floor_row o ≡ kept_row v k → X
kinds_apart v o k e = let bad : 18 ≡ 19 = ap place_in e in absurd (omega (arith, bad))

pub same_owner : (w v : Owner) → (v ≡ w) ⊎ (order (owner_numbers w) (owner_numbers v) ≡ Equal → ⊥)
same_owner w v = by_order (order (owner_numbers w) (owner_numbers v)) refl
  where
    by_order : (o : Ordering) → order (owner_numbers w) (owner_numbers v) ≡ o → (v ≡ w) ⊎ (order (owner_numbers w) (owner_numbers v) ≡ Equal → ⊥)
    by_order Less e = inr (λ eq. let bad : ⊥ = cc in bad)
    by_order Equal e = inl (sym (one_owner w v (order_equal (owner_numbers w) (owner_numbers v) e)))
    by_order Greater e = inr (λ eq. let bad : ⊥ = cc in bad)

apart_numbers : {X : Type 0} (w v : Owner) → (order (owner_numbers w) (owner_numbers v) ≡ Equal → ⊥) → owner_numbers v ≡ owner_numbers w → X
apart_numbers w v apart e = absurd (apart (subst (λ k. order k (owner_numbers v) ≡ Equal) e (order_same (owner_numbers v))))

-- what is kept for an owner once a row is there
abbrev or_none : Owner → Option KeptOwner → KeptOwner
or_none w o = if_there o (record { owner = w; floor = 0; numbers = [] }) (λ x. x)

pub row_now : (w : Owner) (row : KeptOwner) (ks : List KeptOwner) → row.owner ≡ w → kept_of (with_row w row ks) w ≡ row
row_now w row ks own =
    ap (or_none w)
    (find-put-same-key kept_owner_key (owner_numbers w) row (without kept_owner_key (owner_numbers w) ks)
    (subst (λ (x : Owner). order (owner_numbers x) (owner_numbers w) ≡ Equal) (sym own) (order_same (owner_numbers w))))

pub row_other : (w v : Owner) (row : KeptOwner) (ks : List KeptOwner) → row.owner ≡ w → (order (owner_numbers w) (owner_numbers v) ≡ Equal → ⊥) → kept_of (with_row w row ks) v ≡ kept_of ks v
row_other w v row ks own apart =
    ap (or_none v)
    (find-put-other kept_owner_key (owner_numbers v) row (without kept_owner_key (owner_numbers w) ks) (λ e. apart (subst (λ (x : Owner). order (owner_numbers x) (owner_numbers v) ≡ Equal) own e))
    ∙ find-without-other kept_owner_key (owner_numbers v) (owner_numbers w) ks (λ e. apart_numbers w v apart (order_equal (owner_numbers v) (owner_numbers w) e)))

-- the owner's row aside
pub aside_row : (row : KeptOwner) (ks : List KeptOwner) (w : Owner) → row.owner ≡ w → row ≡ kept_of (with_row row.owner row ks) w
aside_row row ks w is = sym (row_now row.owner row ks refl) ∙ ap (kept_of (with_row row.owner row ks)) is

pub aside_rest : (row : KeptOwner) (ks : List KeptOwner) (w : Owner) → row.owner ≡ w
    → without kept_owner_key (owner_numbers w) ks ≡ without kept_owner_key (owner_numbers w) (with_row row.owner row ks)
aside_rest row ks w is =
    subst (λ (x : Owner). without kept_owner_key (owner_numbers x) ks ≡ without kept_owner_key (owner_numbers x) (with_row row.owner row ks)) is
    (sym (without-put kept_owner_key row (without kept_owner_key (kept_owner_key row) ks) (find-without-same kept_owner_key (kept_owner_key row) (kept_owner_key row) ks (order_same (kept_owner_key row)))))

pub twice_without : (k : List ℕ) (ks : List KeptOwner) → without kept_owner_key k (without kept_owner_key k ks) ≡ without kept_owner_key k ks
twice_without k ks = without-absent kept_owner_key k (without kept_owner_key k ks) (find-without-same kept_owner_key k k ks (order_same k))

-- a row put back that was set aside
pub put_back : (row : KeptOwner) (w : Owner) (ks ts : List KeptOwner) → row.owner ≡ w → without kept_owner_key (owner_numbers w) ks ≡ without kept_owner_key (owner_numbers w) ts → with_row row.owner row ks ≡ with_row w row ts
put_back row w ks ts is rest = ap (λ x. with_row x row ks) is ∙ ap (put kept_owner_key row) rest

-- an owner's row, and a number of it
pub own_row : (ks : List KeptOwner) (o : KeptOwner) → Ascends kept_owner_key ks → Has ks o → kept_of ks o.owner ≡ o
own_row ks o up has = ap (or_none o.owner) (has_found kept_owner_key o ks up has)

own_number : (ks : List KeptOwner) (o : KeptOwner) (k : KeptNumber) → Ascends kept_owner_key ks → Has ks o → Ascends kept_key o.numbers → Has o.numbers k → number_at ks o.owner k.number ≡ Some k
own_number ks o k up has rise there = ap (λ (x : KeptOwner). find kept_key (k.number ∷ []) x.numbers) (own_row ks o up has) ∙ has_found kept_key k o.numbers rise there

pub kept_rise : (ks : List KeptOwner) (w : Owner) → AllByRecursion (λ o. KeepsSome o × Ascends kept_key o.numbers) ks → Ascends kept_key (kept_of ks w).numbers
kept_rise ks w all = by_row (find kept_owner_key (owner_numbers w) ks) refl
  where
    by_row : (o : Option KeptOwner) → find kept_owner_key (owner_numbers w) ks ≡ o → Ascends kept_key (or_none w o).numbers
    by_row None e = tt
    by_row (Some k) e = (all_found kept_owner_key (λ o. KeepsSome o × Ascends kept_key o.numbers) (owner_numbers w) k ks all e).1

pub put_some : (k : KeptNumber) (ns : List KeptNumber) → put kept_key k ns ≢ []
put_some k ns e =
    let bad : ◌≡◌ {A = Option KeptNumber} (Some k) None = sym (find-put-same-key kept_key (k.number ∷ []) k ns (order_same (k.number ∷ []))) ∙ ap (find kept_key (k.number ∷ [])) e in
    let no : ⊥ = cc in
    no

module _ (s : State) (v : ValidState s) where
  small_in : (o : KeptOwner) → Has s.kept o → IsNumber (owner_number o.owner)
  small_in o has = all_has (λ o. IsNumber (owner_number o.owner)) s.kept (owners_small s v) o has

  rise_in : (o : KeptOwner) → Has s.kept o → Ascends kept_key o.numbers
  rise_in o has = (all_has (ValidKept s.accepted) s.kept v.each o has).order

  number_in : (o : KeptOwner) (k : KeptNumber) → Has s.kept o → Has o.numbers k → number_at s.kept o.owner k.number ≡ Some k
  number_in o k has there = own_number s.kept o k v.order has (rise_in o has) there

  -- the rows of the state
  floor_stored : (o : KeptOwner) → Has s.kept o → o.floor ≢ 0 → Has (stored_rows s) (floor_row o)
  floor_stored o has some =
      inr (has_right (registry_rows s.registry) _ (floor_row o)
      (has_left (flat_map floor_rows s.kept) _ (floor_row o) (has_flat floor_rows s.kept o (floor_row o) has (floor_there o some))))

  number_stored : (o : KeptOwner) (k : KeptNumber) → Has s.kept o → Has o.numbers k → Has (stored_rows s) (kept_row o.owner k)
  number_stored o k has there =
      inr (has_right (registry_rows s.registry) _ (kept_row o.owner k)
      (has_right (flat_map floor_rows s.kept) _ (kept_row o.owner k)
      (has_left (flat_map kept_rows s.kept) _ (kept_row o.owner k) (has_flat kept_rows s.kept o (kept_row o.owner k) has (has_map (kept_row o.owner) o.numbers k there)))))

  abbrev SaysFloor : Entry → Type 0
  SaysFloor e = (o : KeptOwner) × Has s.kept o × (o.floor ≢ 0) × (e ≡ floor_row o)

  abbrev SaysNumber : Entry → Type 0
  SaysNumber e = (o : KeptOwner) × (k : KeptNumber) × Has s.kept o × Has o.numbers k × (e ≡ kept_row o.owner k)

  abbrev SaysOther : Entry → Type 0
  SaysOther e = (e.0.kind ≢ 18) × (e.0.kind ≢ 19)

  other_kind : (e : Entry) (k : ℕ) → e.0.kind ≡ k → k ≢ 18 → k ≢ 19 → SaysOther e
  other_kind e k is a b = ((λ h. a (sym is ∙ h)), (λ h. b (sym is ∙ h)))

  below_kinds : (e : Entry) → Has (registry_rows s.registry) e → SaysOther e
  below_kinds e has =
      let low = all_has (λ e. e.0.kind < 18) (registry_rows s.registry) (registry_within s.registry v.registry).below e has in
      ((λ is. omega (arith, low, is)), (λ is. omega (arith, low, is)))

  says_floor : (e : Entry) → Has (flat_map floor_rows s.kept) e → SaysFloor e
  says_floor e has =
      let one = flat_has floor_rows s.kept e has in
      let is = there_floor one.0 e one.2 in
      (one.0, one.1, is.0, is.1)

  says_number : (e : Entry) → Has (flat_map kept_rows s.kept) e → SaysNumber e
  says_number e has =
      let one = flat_has kept_rows s.kept e has in
      let k = map_has (kept_row one.0.owner) one.0.numbers e one.2 in
      (one.0, k.0, one.1, k.1, k.2)

  row_says : (e : Entry) → Has (stored_rows s) e → SaysOther e ⊎ (SaysFloor e ⊎ SaysNumber e)
  row_says e (inl is) = inl (other_kind e 0 (ap place_in is) (λ h. omega (arith, h)) (λ h. omega (arith, h)))
  row_says e (inr has) = by_registry (has_either (registry_rows s.registry) _ e has)
    where
      by_count : Has (count_row s.accepted ∷ []) e → SaysOther e ⊎ (SaysFloor e ⊎ SaysNumber e)
      by_count (inl is) = inl (other_kind e 20 (ap place_in is) (λ h. omega (arith, h)) (λ h. omega (arith, h)))
      by_count (inr none) = absurd none

      by_kept : Has (flat_map kept_rows s.kept) e ⊎ Has (count_row s.accepted ∷ []) e → SaysOther e ⊎ (SaysFloor e ⊎ SaysNumber e)
      by_kept (inl here) = inr (inr (says_number e here))
      by_kept (inr there) = by_count there

      by_floors : Has (flat_map floor_rows s.kept) e ⊎ Has (flat_map kept_rows s.kept ++ count_row s.accepted ∷ []) e → SaysOther e ⊎ (SaysFloor e ⊎ SaysNumber e)
      by_floors (inl here) = inr (inl (says_floor e here))
      by_floors (inr there) = by_kept (has_either (flat_map kept_rows s.kept) (count_row s.accepted ∷ []) e there)

      by_registry : Has (registry_rows s.registry) e ⊎ Has (flat_map floor_rows s.kept ++ (flat_map kept_rows s.kept ++ count_row s.accepted ∷ [])) e → SaysOther e ⊎ (SaysFloor e ⊎ SaysNumber e)
      by_registry (inl here) = inl (below_kinds e here)
      by_registry (inr there) = by_floors (has_either (flat_map floor_rows s.kept) (flat_map kept_rows s.kept ++ count_row s.accepted ∷ []) e there)

  -- at first
  pub at_first : (es : List Entry) → AreAllRows s es → IsGathered s [] es
  at_first es all = record {
    rows = has_all (Has (stored_rows s)) es all.same.to;
    order = tt;
    each = tt;
    floor = λ w. inl refl;
    number = λ w n. inl refl;
    floors = λ o has. by_floor o has (o.floor == 0) refl;
    numbers = λ o k has there. inr (all.same.back (kept_row o.owner k) (number_stored o k has there));
  }
    where
      by_floor : (o : KeptOwner) → Has s.kept o → (b : Bool) → (o.floor == 0) ≡ b → (0 ≡ o.floor) ⊎ Has es (floor_row o)
      by_floor o has true e = inl (sym (eqb-true o.floor 0 e))
      by_floor o has false e = inr (all.same.back (floor_row o) (floor_stored o has (λ zero. let bad : false ≡ true = sym e ∙ eq-eqb o.floor 0 zero in let no : ⊥ = cc in no)))

  module _ (ks : List KeptOwner) (e : Entry) (es : List Entry) (g : IsGathered s ks (e ∷ es)) where
    -- a row that says nothing of requests
    pass_floor : (o : KeptOwner) → SaysOther e → (floor_at ks o.owner ≡ o.floor) ⊎ Has (e ∷ es) (floor_row o) → (floor_at ks o.owner ≡ o.floor) ⊎ Has es (floor_row o)
    pass_floor o other (inl is) = inl is
    pass_floor o other (inr (inl at)) = absurd (other.0 (ap place_in (sym at)))
    pass_floor o other (inr (inr has)) = inr has

    pass_number : (o : KeptOwner) (k : KeptNumber) → SaysOther e → (number_at ks o.owner k.number ≡ Some k) ⊎ Has (e ∷ es) (kept_row o.owner k) → (number_at ks o.owner k.number ≡ Some k) ⊎ Has es (kept_row o.owner k)
    pass_number o k other (inl is) = inl is
    pass_number o k other (inr (inl at)) = absurd (other.1 (ap place_in (sym at)))
    pass_number o k other (inr (inr has)) = inr has

    passed : SaysOther e → IsGathered s ks es
    passed other = record {
      rows = g.rows.1;
      order = g.order;
      each = g.each;
      floor = g.floor;
      number = g.number;
      floors = λ o has. pass_floor o other (g.floors o has);
      numbers = λ o k has there. pass_number o k other (g.numbers o k has there);
    }

    -- a row of the owner
    module _ (w : Owner) (row : KeptOwner) (own : row.owner ≡ w) where
      abbrev new : List KeptOwner
      new = with_row w row ks

      now : kept_of new w ≡ row
      now = row_now w row ks own

      abbrev IsApart : Owner → Type 0
      IsApart x = order (owner_numbers w) (owner_numbers x) ≡ Equal → ⊥

      others_as : (x : Owner) → IsApart x → kept_of new x ≡ kept_of ks x
      others_as x apart = row_other w x row ks own apart

      module _ (floor_fits : (row.floor ≡ 0) ⊎ (row.floor ≡ floor_at s.kept w))
          (number_fits : (n : ℕ) → (find kept_key (n ∷ []) row.numbers ≡ None) ⊎ (find kept_key (n ∷ []) row.numbers ≡ number_at s.kept w n))
          (some : KeepsSome row × Ascends kept_key row.numbers)
          (floor_here : (o : KeptOwner) → Has s.kept o → o.owner ≡ w → (row.floor ≡ o.floor) ⊎ Has es (floor_row o))
          (floor_there : (o : KeptOwner) → Has s.kept o → IsApart o.owner → floor_row o ≡ e → ⊥)
          (number_here : (o : KeptOwner) (k : KeptNumber) → Has s.kept o → Has o.numbers k → o.owner ≡ w → (find kept_key (k.number ∷ []) row.numbers ≡ Some k) ⊎ Has es (kept_row o.owner k))
          (number_there : (o : KeptOwner) (k : KeptNumber) → Has s.kept o → Has o.numbers k → IsApart o.owner → kept_row o.owner k ≡ e → ⊥) where
        new_floor : (x : Owner) → (x ≡ w) ⊎ IsApart x → (floor_at new x ≡ 0) ⊎ (floor_at new x ≡ floor_at s.kept x)
        new_floor x (inl is) =
            subst (λ (y : Owner). (floor_at new y ≡ 0) ⊎ (floor_at new y ≡ floor_at s.kept y)) (sym is)
            (subst (λ (r : KeptOwner). (r.floor ≡ 0) ⊎ (r.floor ≡ floor_at s.kept w)) (sym now) floor_fits)
        new_floor x (inr apart) = subst (λ (r : KeptOwner). (r.floor ≡ 0) ⊎ (r.floor ≡ floor_at s.kept x)) (sym (others_as x apart)) (g.floor x)

        abbrev NumberIn : KeptOwner → Owner → ℕ → Type 0
        NumberIn r y n = (find kept_key (n ∷ []) r.numbers ≡ None) ⊎ (find kept_key (n ∷ []) r.numbers ≡ number_at s.kept y n)

        new_number : (x : Owner) (n : ℕ) → (x ≡ w) ⊎ IsApart x → NumberIn (kept_of new x) x n
        new_number x n (inl is) = subst (λ (y : Owner). NumberIn (kept_of new y) y n) (sym is) (subst (λ (r : KeptOwner). NumberIn r w n) (sym now) (number_fits n))
        new_number x n (inr apart) = subst (λ (r : KeptOwner). NumberIn r x n) (sym (others_as x apart)) (g.number x n)

        new_floors : (o : KeptOwner) → Has s.kept o → (o.owner ≡ w) ⊎ IsApart o.owner → (floor_at new o.owner ≡ o.floor) ⊎ Has es (floor_row o)
        new_floors o has (inl is) =
            subst (λ (y : Owner). (floor_at new y ≡ o.floor) ⊎ Has es (floor_row o)) (sym is)
            (subst (λ (r : KeptOwner). (r.floor ≡ o.floor) ⊎ Has es (floor_row o)) (sym now) (floor_here o has is))
        new_floors o has (inr apart) = by_place (g.floors o has)
          where
            by_place : (floor_at ks o.owner ≡ o.floor) ⊎ Has (e ∷ es) (floor_row o) → (floor_at new o.owner ≡ o.floor) ⊎ Has es (floor_row o)
            by_place (inl is) = inl (ap (λ (r : KeptOwner). r.floor) (others_as o.owner apart) ∙ is)
            by_place (inr (inl at)) = absurd (floor_there o has apart at)
            by_place (inr (inr more)) = inr more

        new_numbers : (o : KeptOwner) (k : KeptNumber) → Has s.kept o → Has o.numbers k → (o.owner ≡ w) ⊎ IsApart o.owner → (number_at new o.owner k.number ≡ Some k) ⊎ Has es (kept_row o.owner k)
        new_numbers o k has there (inl is) =
            subst (λ (y : Owner). (number_at new y k.number ≡ Some k) ⊎ Has es (kept_row o.owner k)) (sym is)
            (subst (λ (r : KeptOwner). (find kept_key (k.number ∷ []) r.numbers ≡ Some k) ⊎ Has es (kept_row o.owner k)) (sym now) (number_here o k has there is))
        new_numbers o k has there (inr apart) = by_place (g.numbers o k has there)
          where
            by_place : (number_at ks o.owner k.number ≡ Some k) ⊎ Has (e ∷ es) (kept_row o.owner k) → (number_at new o.owner k.number ≡ Some k) ⊎ Has es (kept_row o.owner k)
            by_place (inl is) = inl (ap (λ (r : KeptOwner). find kept_key (k.number ∷ []) r.numbers) (others_as o.owner apart) ∙ is)
            by_place (inr (inl at)) = absurd (number_there o k has there apart at)
            by_place (inr (inr more)) = inr more

        placed : IsGathered s new es
        placed = record {
          rows = g.rows.1;
          order = Ascends-put kept_owner_key row (without kept_owner_key (owner_numbers w) ks) (Ascends-without kept_owner_key (owner_numbers w) ks g.order);
          each = all_put kept_owner_key (λ o. KeepsSome o × Ascends kept_key o.numbers) row (without kept_owner_key (owner_numbers w) ks) some
              (all_without kept_owner_key (λ o. KeepsSome o × Ascends kept_key o.numbers) (owner_numbers w) ks g.each);
          floor = λ x. new_floor x (same_owner w x);
          number = λ x n. new_number x n (same_owner w x);
          floors = λ o has. new_floors o has (same_owner w o.owner);
          numbers = λ o k has there. new_numbers o k has there (same_owner w o.owner);
        }

    -- a floor
    module _ (p : KeptOwner) (at : Has s.kept p) (some : p.floor ≢ 0) (is : e ≡ floor_row p) where
      abbrev with_its : KeptOwner
      with_its = record (kept_of ks p.owner) { floor = p.floor }

      one_floor : (o : KeptOwner) → Has s.kept o → o.owner ≡ p.owner → p.floor ≡ o.floor
      one_floor o has one = ap (λ (r : KeptOwner). r.floor) (sym (own_row s.kept p v.order at) ∙ (ap (kept_of s.kept) (sym one) ∙ own_row s.kept o v.order has))

      still_there : (o : KeptOwner) (k : KeptNumber) → o.owner ≡ p.owner → (number_at ks o.owner k.number ≡ Some k) ⊎ Has (e ∷ es) (kept_row o.owner k) → (number_at ks p.owner k.number ≡ Some k) ⊎ Has es (kept_row o.owner k)
      still_there o k one (inl found) = inl (ap (λ (y : Owner). number_at ks y k.number) (sym one) ∙ found)
      still_there o k one (inr (inl first)) = kinds_apart o.owner p k (sym is ∙ sym first)
      still_there o k one (inr (inr more)) = inr more

      floor_placed : IsGathered s (with_floor p.owner p.floor ks) es
      floor_placed =
          placed p.owner with_its (owner_kept ks p.owner) (inr (sym (ap (λ (r : KeptOwner). r.floor) (own_row s.kept p v.order at)))) (g.number p.owner) (inl some, kept_rise ks p.owner g.each)
          (λ o has one. inl (one_floor o has one))
          (λ o has apart first. apart_numbers p.owner o.owner apart (ap owner_numbers (floor_names o p (small_in o has) (small_in p at) (first ∙ is))))
          (λ o k has there one. still_there o k one (g.numbers o k has there))
          (λ o k has there apart first. kinds_apart o.owner p k (sym is ∙ sym first))

    -- a number
    module _ (p : KeptOwner) (j : KeptNumber) (at : Has s.kept p) (there_is : Has p.numbers j) (is : e ≡ kept_row p.owner j) where
      abbrev before : List KeptNumber
      before = (kept_of ks p.owner).numbers

      abbrev with_one : KeptOwner
      with_one = record (kept_of ks p.owner) { numbers = put kept_key j before }

      known : number_at s.kept p.owner j.number ≡ Some j
      known = number_in p j at there_is

      one_fits : (n : ℕ) → (find kept_key (n ∷ []) (put kept_key j before) ≡ None) ⊎ (find kept_key (n ∷ []) (put kept_key j before) ≡ number_at s.kept p.owner n)
      one_fits n = by_order (order (j.number ∷ []) (n ∷ [])) refl
        where
          old : (order (j.number ∷ []) (n ∷ []) ≡ Equal → ⊥) → (find kept_key (n ∷ []) (put kept_key j before) ≡ None) ⊎ (find kept_key (n ∷ []) (put kept_key j before) ≡ number_at s.kept p.owner n)
          old apart = subst (λ f. (f ≡ None) ⊎ (f ≡ number_at s.kept p.owner n)) (sym (find-put-other kept_key (n ∷ []) j before apart)) (g.number p.owner n)

          by_order : (o : Ordering) → order (j.number ∷ []) (n ∷ []) ≡ o → (find kept_key (n ∷ []) (put kept_key j before) ≡ None) ⊎ (find kept_key (n ∷ []) (put kept_key j before) ≡ number_at s.kept p.owner n)
          by_order Less q = old (λ eq. let bad : ⊥ = cc in bad)
          by_order Equal q = inr (find-put-same-key kept_key (n ∷ []) j before q ∙ (sym known ∙ ap (number_at s.kept p.owner) (head_same j.number n [] [] q)))
          by_order Greater q = old (λ eq. let bad : ⊥ = cc in bad)

      floor_still : (o : KeptOwner) → o.owner ≡ p.owner → (floor_at ks o.owner ≡ o.floor) ⊎ Has (e ∷ es) (floor_row o) → (floor_at ks p.owner ≡ o.floor) ⊎ Has es (floor_row o)
      floor_still o one (inl found) = inl (ap (floor_at ks) (sym one) ∙ found)
      floor_still o one (inr (inl first)) = kinds_apart p.owner o j (first ∙ is)
      floor_still o one (inr (inr more)) = inr more

      one_number : (o : KeptOwner) (k : KeptNumber) → Has s.kept o → Has o.numbers k → o.owner ≡ p.owner → j.number ≡ k.number → j ≡ k
      one_number o k has there one same =
          some_is j k (sym known ∙ (ap (number_at s.kept p.owner) same ∙ (ap (λ (y : Owner). number_at s.kept y k.number) (sym one) ∙ number_in o k has there)))

      is_there : (o : KeptOwner) (k : KeptNumber) → Has s.kept o → Has o.numbers k → o.owner ≡ p.owner → (find kept_key (k.number ∷ []) (put kept_key j before) ≡ Some k) ⊎ Has es (kept_row o.owner k)
      is_there o k has there one = by_order (order (j.number ∷ []) (k.number ∷ [])) refl
        where
          old : (order (j.number ∷ []) (k.number ∷ []) ≡ Equal → ⊥) → (number_at ks o.owner k.number ≡ Some k) ⊎ Has (e ∷ es) (kept_row o.owner k) → (find kept_key (k.number ∷ []) (put kept_key j before) ≡ Some k) ⊎ Has es (kept_row o.owner k)
          old apart (inl found) = inl (find-put-other kept_key (k.number ∷ []) j before apart ∙ (ap (λ (y : Owner). number_at ks y k.number) (sym one) ∙ found))
          old apart (inr (inl first)) =
              absurd (apart (subst (λ n. order (j.number ∷ []) (n ∷ []) ≡ Equal) (sym (number_names o.owner p.owner k j (small_in o has) (small_in p at) (first ∙ is)).1) (order_same (j.number ∷ []))))
          old apart (inr (inr more)) = inr more

          by_order : (o' : Ordering) → order (j.number ∷ []) (k.number ∷ []) ≡ o' → (find kept_key (k.number ∷ []) (put kept_key j before) ≡ Some k) ⊎ Has es (kept_row o.owner k)
          by_order Less q = old (λ eq. let bad : ⊥ = cc in bad) (g.numbers o k has there)
          by_order Equal q = inl (find-put-same-key kept_key (k.number ∷ []) j before q ∙ ap (λ x. Some x) (one_number o k has there one (head_same j.number k.number [] [] q)))
          by_order Greater q = old (λ eq. let bad : ⊥ = cc in bad) (g.numbers o k has there)

      number_placed : IsGathered s (with_number p.owner j ks) es
      number_placed =
          placed p.owner with_one (owner_kept ks p.owner) (g.floor p.owner) one_fits (inr (put_some j before), Ascends-put kept_key j before (kept_rise ks p.owner g.each))
          (λ o has one. floor_still o one (g.floors o has))
          (λ o has apart first. kinds_apart p.owner o j (first ∙ is))
          is_there
          (λ o k has there apart first. apart_numbers p.owner o.owner apart (number_names o.owner p.owner k j (small_in o has) (small_in p at) (first ∙ is)).0)

    -- what a row did
    module _ (stores : IsStorable s) (done : Bool) (after : List KeptOwner) (noted : IsNoted e done ks after) where
      abbrev IsNext : Type 0
      IsNext = IsTrue done × IsGathered s after es

      next_is : (after' : List KeptOwner) → IsTrue done × (after ≡ after') → IsGathered s after' es → IsNext
      next_is after' both there = (both.0, subst (λ ts. IsGathered s ts es) (sym both.1) there)

      place_fits : (o : KeptOwner) (k : KeptNumber) → Has s.kept o → Has o.numbers k → k.place < 2 ^ 64
      place_fits o k has there =
          let low = all_has (λ (n : KeptNumber). n.place ≤ s.accepted) o.numbers (all_has (ValidKept s.accepted) s.kept v.each o has).places k there in
          let most = stores.accepted in
          omega (arith, low, most)

      floor_most : (o : KeptOwner) → Has s.kept o → o.floor < 2 ^ 64
      floor_most o has = let most = (all_has (ValidKept s.accepted) s.kept v.each o has).floor in omega (arith, most)

      subject_fits : (o : KeptOwner) (k : KeptNumber) → Has s.kept o → Has o.numbers k → HasSubject k
      subject_fits o k has there = all_has HasSubject o.numbers (all_has (λ o. AllByRecursion HasSubject o.numbers) s.kept stores.subjects o has) k there

      by_row : SaysOther e ⊎ (SaysFloor e ⊎ SaysNumber e) → IsNext
      by_row (inl other) = next_is ks (noted.other other.0 other.1) (passed other)
      by_row (inr (inl f)) = next_is (with_floor f.0.owner f.0.floor ks) (noted.floor f.0 (small_in f.0 f.1) (floor_most f.0 f.1) f.3) (floor_placed f.0 f.1 f.2 f.3)
      by_row (inr (inr n)) =
          next_is (with_number n.0.owner n.1 ks) (noted.number n.0.owner n.1 (small_in n.0 n.2) (subject_fits n.0 n.1 n.2 n.3) (place_fits n.0 n.1 n.2 n.3) n.4) (number_placed n.0 n.1 n.2 n.3 n.4)

      pub row_noted : IsNext
      row_noted = by_row (row_says e g.rows.0)

  -- at last
  module _ (ks : List KeptOwner) (g : IsGathered s ks []) where
    floor_all : (o : KeptOwner) → Has s.kept o → floor_at ks o.owner ≡ o.floor
    floor_all o has = by_place (g.floors o has)
      where
        by_place : (floor_at ks o.owner ≡ o.floor) ⊎ Has [] (floor_row o) → floor_at ks o.owner ≡ o.floor
        by_place (inl is) = is
        by_place (inr none) = absurd none

    number_all : (o : KeptOwner) (k : KeptNumber) → Has s.kept o → Has o.numbers k → number_at ks o.owner k.number ≡ Some k
    number_all o k has there = by_place (g.numbers o k has there)
      where
        by_place : (number_at ks o.owner k.number ≡ Some k) ⊎ Has [] (kept_row o.owner k) → number_at ks o.owner k.number ≡ Some k
        by_place (inl is) = is
        by_place (inr none) = absurd none

    rise_of : (o : KeptOwner) → Has ks o → Ascends kept_key o.numbers
    rise_of o has = (all_has (λ o. KeepsSome o × Ascends kept_key o.numbers) ks g.each o has).1

    -- of one owner there is the same
    one_row : (o p : KeptOwner) → Has ks o → Has s.kept p → o.owner ≡ p.owner → o ≡ p
    one_row o p has at one =
        let mine : kept_of ks p.owner ≡ o = ap (kept_of ks) (sym one) ∙ own_row ks o g.order has in
        let floor : o.floor ≡ p.floor = ap (λ (r : KeptOwner). r.floor) (sym mine) ∙ floor_all p at in
        let numbers : o.numbers ≡ p.numbers = ascending_same kept_key o.numbers p.numbers (rise_of o has) (rise_in p at) (record { to = to; back = back mine }) in
        (λ i. record { owner = one i; floor = floor i; numbers = numbers i })
      where
        back : kept_of ks p.owner ≡ o → (k : KeptNumber) → Has p.numbers k → Has o.numbers k
        back mine k there = find_has kept_key (k.number ∷ []) k o.numbers (ap (λ (r : KeptOwner). find kept_key (k.number ∷ []) r.numbers) (sym mine) ∙ number_all p k at there)

        to : (k : KeptNumber) → Has o.numbers k → Has p.numbers k
        to k there = by_place (g.number o.owner k.number)
          where
            here : number_at ks o.owner k.number ≡ Some k
            here = own_number ks o k g.order has (rise_of o has) there

            by_place : (number_at ks o.owner k.number ≡ None) ⊎ (number_at ks o.owner k.number ≡ number_at s.kept o.owner k.number) → Has p.numbers k
            by_place (inl none) = absurd (let bad : ◌≡◌ {A = Option KeptNumber} None (Some k) = sym none ∙ here in let no : ⊥ = cc in no)
            by_place (inr same) =
                find_has kept_key (k.number ∷ []) k p.numbers
                (ap (λ (r : KeptOwner). find kept_key (k.number ∷ []) r.numbers) (sym (ap (kept_of s.kept) one ∙ own_row s.kept p v.order at)) ∙ (sym same ∙ here))

    -- an owner with something is there
    abbrev IsThere : List KeptOwner → Owner → Type 0
    IsThere ts w = (p : KeptOwner) × Has ts p × (w ≡ p.owner)

    found_there : (ts : List KeptOwner) (w : Owner) → (find kept_owner_key (owner_numbers w) ts ≡ None → ⊥) → IsThere ts w
    found_there ts w some = by_row (find kept_owner_key (owner_numbers w) ts) refl
      where
        by_row : (o : Option KeptOwner) → find kept_owner_key (owner_numbers w) ts ≡ o → IsThere ts w
        by_row None e = absurd (some e)
        by_row (Some p) e =
            (p, find_has kept_owner_key (owner_numbers w) p ts e, sym (one_owner p.owner w (order_equal (owner_numbers p.owner) (owner_numbers w) (find-key kept_owner_key (owner_numbers w) p ts e))))

    none_kept : (ts : List KeptOwner) (w : Owner) → find kept_owner_key (owner_numbers w) ts ≡ None → kept_of ts w ≡ record { owner = w; floor = 0; numbers = [] }
    none_kept ts w e = ap (or_none w) e

    head_of : {X : Type 0} → List X → Option X
    head_of [] = None
    head_of (x ∷ xs) = Some x

    has_one : {X : Type 0} (xs : List X) → xs ≢ [] → (x : X) × Has xs x
    has_one [] some = absurd (some refl)
    has_one (x ∷ xs) some = (x, inl refl)

    to_state : (o : KeptOwner) → Has ks o → Has s.kept o
    to_state o has = let p = found_there s.kept o.owner (by_some (all_has (λ o. KeepsSome o × Ascends kept_key o.numbers) ks g.each o has).0) in subst (Has s.kept) (sym (one_row o p.0 has p.1 p.2)) p.1
      where
        no_floor : o.floor ≢ 0 → find kept_owner_key (owner_numbers o.owner) s.kept ≡ None → (floor_at ks o.owner ≡ 0) ⊎ (floor_at ks o.owner ≡ floor_at s.kept o.owner) → ⊥
        no_floor some none (inl zero) = some (sym (ap (λ (r : KeptOwner). r.floor) (own_row ks o g.order has)) ∙ zero)
        no_floor some none (inr same) = some (sym (ap (λ (r : KeptOwner). r.floor) (own_row ks o g.order has)) ∙ (same ∙ ap (λ (r : KeptOwner). r.floor) (none_kept s.kept o.owner none)))

        no_number : (k : KeptNumber) → Has o.numbers k → find kept_owner_key (owner_numbers o.owner) s.kept ≡ None → (number_at ks o.owner k.number ≡ None) ⊎ (number_at ks o.owner k.number ≡ number_at s.kept o.owner k.number) → ⊥
        no_number k there none (inl e) =
            let bad : ◌≡◌ {A = Option KeptNumber} (Some k) None = sym (own_number ks o k g.order has (rise_of o has) there) ∙ e in
            let no : ⊥ = cc in
            no
        no_number k there none (inr same) =
            let bad : ◌≡◌ {A = Option KeptNumber} (Some k) None =
            sym (own_number ks o k g.order has (rise_of o has) there) ∙ (same ∙ ap (λ (r : KeptOwner). find kept_key (k.number ∷ []) r.numbers) (none_kept s.kept o.owner none)) in
            let no : ⊥ = cc in
            no

        by_some : KeepsSome o → find kept_owner_key (owner_numbers o.owner) s.kept ≡ None → ⊥
        by_some (inl floor) none = no_floor floor none (g.floor o.owner)
        by_some (inr numbers) none = let k = has_one o.numbers numbers in no_number k.0 k.1 none (g.number o.owner k.0.number)

    from_state : AllByRecursion KeepsSome s.kept → (p : KeptOwner) → Has s.kept p → Has ks p
    from_state some p at = let o = found_there ks p.owner (by_some (all_has KeepsSome s.kept some p at)) in subst (Has ks) (one_row o.0 p o.1 at (sym o.2)) o.1
      where
        by_some : KeepsSome p → find kept_owner_key (owner_numbers p.owner) ks ≡ None → ⊥
        by_some (inl floor) none = floor (sym (floor_all p at) ∙ ap (λ (r : KeptOwner). r.floor) (none_kept ks p.owner none))
        by_some (inr numbers) none =
            let k = has_one p.numbers numbers in
            let bad : ◌≡◌ {A = Option KeptNumber} (Some k.0) None = sym (number_all p k.0 at k.1) ∙ ap (λ (r : KeptOwner). find kept_key (k.0.number ∷ []) r.numbers) (none_kept ks p.owner none) in
            let no : ⊥ = cc in
            no

    pub all_gathered : IsStorable s → ks ≡ s.kept
    all_gathered stores = ascending_same kept_owner_key ks s.kept g.order v.order (record { to = to_state; back = from_state stores.some })
