-- How rows of floors and kept numbers are gone through.
use Rattle.std.proofs.Common.{◌≡◌, ◌≢◌, ◌⊎◌, inl, inr, ℕ, zero, suc, ◌<◌, ◌≤◌, ◌^◌, ◌+◌, ◌-◌, false, true, IsSome, List, [], ◌∷◌, ◌++◌, length, length-append, decimal, Option, Some, None, refl, sym, ap, ◌∙◌, subst, arith}
use Rattle.std.specs.List.{AllByRecursion}
use Rattle.std.specs.declared.cmp.Ordering.{Ordering}
use Rattle.std.specs.declared.cmp.Ordering.TheVariants.{Less, Equal, Greater}
use Rattle.std.proofs.lemmas.Fmt.{decimal_injective}
use Rattle.ixp_num_tables.specs.Tables.{order, Ascends, find, put, if_there}
use Rattle.ixp_num_tables.proofs.Orders.{order_same, order_equal}
use Rattle.ixp_num_tables.proofs.TableLaws.{find-put-same-key, find-put-other}
use Rattle.ixp_registry.specs.declared.members.Owner.{Owner}
use Rattle.ixp_registry.specs.Widths.{IsNumber, owner_number}
use Rattle.ixp_registry.specs.Words.{owner_numbers}
use Rattle.ixp_rows_lines.proofs.Spelling.{some_is}
use Rattle.ixp_machine_steps.specs.declared.kept.KeptNumber.{KeptNumber}
use Rattle.ixp_machine_steps.specs.declared.kept.KeptOwner.{KeptOwner}
use Rattle.ixp_machine_steps.specs.Kept.{kept_owner_key}
use Rattle.ixp_machine_steps.proofs.KeptOwners.{one_owner}
use Rattle.ixp_store_rows.specs.Names.{Entry, floor_name, floor_row, kept_row, count_row}
use Rattle.ixp_store_rows.proofs.KeyTexts.{owner_text_told, kept_told}
use Rattle.ixp_store_damage.specs.declared.kept.Run.{Run}
use Rattle.ixp_store_damage.specs.Damages.{IsOwner, SaysFloor, SaysKept, EndsWithKept, IsFloorRow, IsKeptRow, IsRow, Below, IsFirstWrong}
use Rattle.ixp_store_words.specs.Gathering.{floor_at}
use Rattle.ixp_store_words.specs.Opening.{entry_name}
use Rattle.ixp_store_words.specs.Sorting.{Has}
use Rattle.ixp_store_damage.specs.Walking.{Reached, AreFloors, FloorsNoted, IsRun, GoesOn, IsCounted, Follows, KeptNoted}
use Rattle.ixp_store_words.proofs.Gathered.{has_right, has_either}
use Rattle.ixp_store_words.proofs.Sorting.{all_has}
use Rattle.ixp_rows.proofs.LinesAgain.{place_most}
use Rattle.ixp_num_tables.proofs.AllItems.{all_right}
use Rattle.ixp_store_damage.proofs.Walks.{kind_up, above_rest, one_entry, parts_up, reached_next, reached_up, wrong_below, front_past, row_kind}

-- Lists with one item more
some_last : {X : Type 0} (xs : List X) (x : X) → ◌≡◌ {A = List X} [] (xs ++ x ∷ []) → ⊥
some_last xs x e = let long = ap length e in let more = length-append xs (x ∷ []) in omega (arith, long, more)

first_is : {X : Type 0} (x y : X) (xs ys : List X) → x ∷ xs ≡ y ∷ ys → x ≡ y
first_is x y xs ys e = cc

rest_is : {X : Type 0} (x y : X) (xs ys : List X) → x ∷ xs ≡ y ∷ ys → xs ≡ ys
rest_is x y xs ys e = cc

last_parts : {X : Type 0} (xs ys : List X) (x y : X) → xs ++ x ∷ [] ≡ ys ++ y ∷ [] → (xs ≡ ys) × (x ≡ y)
last_parts [] [] x y e = (refl, first_is x y [] [] e)
last_parts [] (z ∷ zs) x y e = absurd (some_last zs y (rest_is x z [] (zs ++ y ∷ []) e))
last_parts (z ∷ zs) [] x y e = absurd (some_last zs x (sym (rest_is z y (zs ++ x ∷ []) [] e)))
last_parts (z ∷ zs) (w ∷ ws) x y e =
    let more = last_parts zs ws x y (rest_is z w (zs ++ x ∷ []) (ws ++ y ∷ []) e) in
    let first = first_is z w (zs ++ x ∷ []) (ws ++ y ∷ []) e in
    ((λ i. first i ∷ more.0 i), more.1)

-- Rows tell their owners
pub floor_owner : (v w : Owner) (f g : List ℕ) → IsNumber (owner_number v) → IsNumber (owner_number w) → ◌≡◌ {A = Entry} (floor_name v, f) (floor_name w, g) → v ≡ w
floor_owner v w f g small fits e = one_owner v w (owner_text_told v w small fits (ap (λ (x : Entry). x.0.key) e))

pub kept_owner : (v w : Owner) (j k : KeptNumber) → IsNumber (owner_number v) → IsNumber (owner_number w) → kept_row v j ≡ kept_row w k → v ≡ w
kept_owner v w j k small fits e =
    let low = j.small in
    let high = k.small in
    one_owner v w (kept_told v w j.number k.number small fits (omega (arith, low)) (omega (arith, high)) (ap (λ (x : Entry). x.0.key) e)).0

-- Runs of kept numbers
ends_parts : (w : Owner) (n : ℕ) (es : List Entry) (e : Entry) → EndsWithKept w (suc n) (es ++ e ∷ []) → (k : KeptNumber) × (e ≡ kept_row w k) × EndsWithKept w n es
unfolding EndsWithKept
ends_parts w n es e h =
    let parts = last_parts es h.0 e (kept_row w h.1) h.2 in
    (h.1, parts.1, subst (EndsWithKept w n) (sym parts.0) h.3)

pub ends_more : (w : Owner) (n : ℕ) (es : List Entry) (k : KeptNumber) → EndsWithKept w n es → EndsWithKept w (suc n) (es ++ kept_row w k ∷ [])
unfolding EndsWithKept
ends_more w n es k h = (es, k, refl, h)

ends_less : (w : Owner) (n : ℕ) (es : List Entry) → EndsWithKept w (suc n) es → EndsWithKept w n es
unfolding EndsWithKept
ends_less w zero es h = tt
ends_less w (suc n) es h = (h.0, h.1, h.2, ends_less w n h.0 h.3)

ends_down : (w : Owner) (d m : ℕ) (es : List Entry) → EndsWithKept w (d + m) es → EndsWithKept w m es
unfolding EndsWithKept
ends_down w zero m es h = let same : 0 + m ≡ m = omega arith in subst (λ x. EndsWithKept w x es) same h
ends_down w (suc d) m es h =
    let same : suc d + m ≡ suc (d + m) = omega arith in
    ends_down w d m es (ends_less w (d + m) es (subst (λ x. EndsWithKept w x es) same h))

pub ends_to : (w : Owner) (m n : ℕ) (es : List Entry) → m ≤ n → EndsWithKept w n es → EndsWithKept w m es
ends_to w m n es le h = let same : n ≡ (n - m) + m = omega (arith, le) in ends_down w (n - m) m es (subst (λ x. EndsWithKept w x es) same h)

pub no_rows_run : (es : List Entry) → AllByRecursion (λ e. e.0.kind < 19) es → IsRun (record { owner = None; count = 0 }) es
unfolding EndsWithKept
no_rows_run es low = record {
  here = λ w is. absurd (let bad : ◌≡◌ {A = Option Owner} None (Some w) = is in cc);
  other = λ w small apart h.
      let last : 19 < 19 = (all_right (λ e. e.0.kind < 19) h.0 (kept_row w h.1 ∷ []) (subst (AllByRecursion (λ e. e.0.kind < 19)) h.2 low)).0 in
      omega (arith, last);
}

-- one kept number more
pub run_more : (w : Owner) (count : ℕ) (before : List Entry) → IsNumber (owner_number w) → EndsWithKept w count before × ¬ (EndsWithKept w (suc count) before) → (k : KeptNumber)
    → IsRun (record { owner = Some w; count = count + 1 }) (before ++ kept_row w k ∷ [])
run_more w count before small ends k = record { here = λ v is. here v (some_is w v is); other = λ v fits apart h. other v fits apart h }
  where
    after : List Entry
    after = before ++ kept_row w k ∷ []

    longer : EndsWithKept w (count + 1) after
    longer = let same : suc count ≡ count + 1 = omega arith in subst (λ n. EndsWithKept w n after) same (ends_more w count before k ends.0)

    never : ¬ (EndsWithKept w (suc (count + 1)) after)
    never h = let same : count + 1 ≡ suc count = omega arith in ends.1 (subst (λ n. EndsWithKept w n before) same (ends_parts w (count + 1) before (kept_row w k) h).2)

    here : (v : Owner) → w ≡ v → EndsWithKept v (count + 1) after × ¬ (EndsWithKept v (suc (count + 1)) after)
    here v is = subst (λ x. EndsWithKept x (count + 1) after × ¬ (EndsWithKept x (suc (count + 1)) after)) is (longer, never)

    other : (v : Owner) → IsNumber (owner_number v) → ◌≢◌ {A = Option Owner} (Some w) (Some v) → ¬ (EndsWithKept v 1 after)
    other v fits apart h =
        let parts = ends_parts v 0 before (kept_row w k) h in
        apart (ap Some (kept_owner w v k parts.0 small fits parts.1))

-- Floors
pub not_floor : (es before : List Entry) (e : Entry) → e.0.kind ≡ 18 → ¬ (IsFloorRow es e) → ¬ (IsRow es before e)
not_floor es before e at wrong (inl is) = let zero : e.0.kind ≡ 0 = ap (λ (x : Entry). x.0.kind) is in omega (arith, zero, at)
not_floor es before e at wrong (inr (inl (kind, is))) = let of_kind = row_kind kind e is in let most = place_most kind in omega (arith, of_kind, most, at)
not_floor es before e at wrong (inr (inr (inl is))) = wrong is
not_floor es before e at wrong (inr (inr (inr (inl is)))) = let kind_is : e.0.kind ≡ 19 = ap (λ (x : Entry). x.0.kind) (is.says).row in omega (arith, kind_is, at)
not_floor es before e at wrong (inr (inr (inr (inr is)))) = let kind_is : e.0.kind ≡ 20 = ap (λ (x : Entry). x.0.kind) is.2 in omega (arith, kind_is, at)

pub not_kept : (es before : List Entry) (e : Entry) → e.0.kind ≡ 19 → ¬ (IsKeptRow es before e) → ¬ (IsRow es before e)
not_kept es before e at wrong (inl is) = let zero : e.0.kind ≡ 0 = ap (λ (x : Entry). x.0.kind) is in omega (arith, zero, at)
not_kept es before e at wrong (inr (inl (kind, is))) = let of_kind = row_kind kind e is in let most = place_most kind in omega (arith, of_kind, most, at)
not_kept es before e at wrong (inr (inr (inl is))) = let kind_is : e.0.kind ≡ 18 = ap (λ (x : Entry). x.0.kind) (is.2).row in omega (arith, kind_is, at)
not_kept es before e at wrong (inr (inr (inr (inl is)))) = wrong is
not_kept es before e at wrong (inr (inr (inr (inr is)))) = let kind_is : e.0.kind ≡ 20 = ap (λ (x : Entry). x.0.kind) is.2 in omega (arith, kind_is, at)

pub owner_unknown : (es : List Entry) (o : KeptOwner) (e : Entry) → SaysFloor o.owner o.floor e → ¬ (IsOwner es o.owner) → ¬ (IsFloorRow es e)
owner_unknown es o e says unknown is =
    let same = floor_owner is.0 o.owner (decimal is.1) (decimal o.floor) (is.2).small says.small (sym (is.2).row ∙ says.row) in
    unknown (subst (IsOwner es) same is.3)

-- what a row of a floor says
pub said_floor : (e : Entry) (said : Option (Owner × ℕ)) → ((o : KeptOwner) → IsNumber (owner_number o.owner) → o.floor < 2 ^ 64 → e ≡ floor_row o → said ≡ Some (o.owner, o.floor))
    → (w : Owner) (floor : ℕ) → SaysFloor w floor e → said ≡ Some (w, floor)
said_floor e said reads w floor says = let most = says.most in reads (record { owner = w; floor = floor; numbers = [] }) says.small (omega (arith, most)) says.row

pub never_said : (e : Entry) (said : Option (Owner × ℕ)) (v w : Owner) (f floor : ℕ) → said ≡ Some (v, f) → said ≡ Some (w, floor) → (v ≡ w) × (f ≡ floor)
never_said e said v w f floor one other = let same = some_is (v, f) (w, floor) (sym one ∙ other) in (ap (λ (x : Owner × ℕ). x.0) same, ap (λ (x : Owner × ℕ). x.1) same)

pub beyond_floors : (f floor : ℕ) → (f ≡ 0) ⊎ ((f ≡ 0 → ⊥) × (10 ^ 16 < f)) → f ≡ floor → 0 < floor → floor ≤ 10 ^ 16 → ⊥
beyond_floors f floor (inl none) same least most = omega (arith, none, same, least)
beyond_floors f floor (inr high) same least most = let over = high.1 in omega (arith, over, same, most)

-- an owner's floor is looked up, or no other owner's was put in
found_more : (o : KeptOwner) (kept : List KeptOwner) (w : Owner) (P : Option KeptOwner → Type 0) → (o.owner ≡ w → P (Some o)) → P (find kept_owner_key (owner_numbers w) kept)
    → P (find kept_owner_key (owner_numbers w) (put kept_owner_key o kept))
found_more o kept w P here there = by_order (order (kept_owner_key o) (owner_numbers w)) refl
  where
    past : (order (kept_owner_key o) (owner_numbers w) ≡ Equal → ⊥) → P (find kept_owner_key (owner_numbers w) (put kept_owner_key o kept))
    past apart = subst P (sym (find-put-other kept_owner_key (owner_numbers w) o kept apart)) there

    by_order : (x : Ordering) → order (kept_owner_key o) (owner_numbers w) ≡ x → P (find kept_owner_key (owner_numbers w) (put kept_owner_key o kept))
    by_order Equal e = subst P (sym (find-put-same-key kept_owner_key (owner_numbers w) o kept e)) (here (one_owner o.owner w (order_equal (owner_numbers o.owner) (owner_numbers w) e)))
    by_order Less e = past (λ eq. let bad : ◌≡◌ {A = Ordering} Less Equal = sym e ∙ eq in cc)
    by_order Greater e = past (λ eq. let bad : ◌≡◌ {A = Ordering} Greater Equal = sym e ∙ eq in cc)

module _ (es : List Entry) where
  pub floors_start : (left : List Entry) (kept : List KeptOwner) → kept ≡ [] → Reached 18 18 es left → FloorsNoted 18 es left kept
  floors_start left kept none r =
      subst (FloorsNoted 18 es left) (sym none)
      (record {
        at = reached_up 18 18 es left 19 18 r (omega arith) r.next;
        floors = record {
          said = λ w o found. absurd (let bad : ◌≡◌ {A = Option KeptOwner} None (Some o) = found in cc);
          all = λ w floor small has. absurd (let low = all_has (λ e. e.0.kind < 18) r.before r.lower (floor_name w, decimal floor) has in omega (arith, low));
        };
      })

  row_there : (low front : ℕ) (e : Entry) (rest : List Entry) (r : Reached low front es (e ∷ rest)) → Has es e
  row_there low front e rest r = subst (λ xs. Has xs e) (sym r.parts) (has_right r.before (e ∷ rest) e (inl refl))

  pub floors_next : (e : Entry) (rest : List Entry) (kept : List KeptOwner) (o : KeptOwner) → FloorsNoted 18 es (e ∷ rest) kept → e.0.kind ≡ 18 → SaysFloor o.owner o.floor e × IsOwner es o.owner
      → FloorsNoted 18 es rest (put kept_owner_key o kept)
  floors_next e rest kept o n kind is = record {
    at = reached_next 19 18 es e rest n.at (inr (inr (inl (o.owner, o.floor, is.0, is.1)))) kind (omega arith);
    floors = record { said = said; all = all };
  }
    where
      said : (w : Owner) (p : KeptOwner) → find kept_owner_key (owner_numbers w) (put kept_owner_key o kept) ≡ Some p → (p.owner ≡ w) × Has es (floor_row p) × (p.floor < 2 ^ 64)
      said w =
          found_more o kept w (λ x. (p : KeptOwner) → x ≡ Some p → (p.owner ≡ w) × Has es (floor_row p) × (p.floor < 2 ^ 64))
          (λ own p same.
          let most = (is.0).most in
          subst (λ q. (q.owner ≡ w) × Has es (floor_row q) × (q.floor < 2 ^ 64)) (some_is o p same) (own, subst (Has es) (is.0).row (row_there 19 18 e rest n.at), omega (arith, most)))
          ((n.floors).said w)

      all : (w : Owner) (floor : ℕ) → IsNumber (owner_number w) → Has (n.at.before ++ e ∷ []) (floor_name w, decimal floor) → IsSome (find kept_owner_key (owner_numbers w) (put kept_owner_key o kept))
      all w floor small has = by_place (has_either n.at.before (e ∷ []) (floor_name w, decimal floor) has)
        where
          here : o.owner ≡ w → IsSome (find kept_owner_key (owner_numbers w) (put kept_owner_key o kept))
          here own = subst IsSome (sym (find-put-same-key kept_owner_key (owner_numbers w) o kept (subst (λ x. order (owner_numbers x) (owner_numbers w) ≡ Equal) (sym own) (order_same (owner_numbers w))))) refl

          by_place : Has n.at.before (floor_name w, decimal floor) ⊎ Has (e ∷ []) (floor_name w, decimal floor) → IsSome (find kept_owner_key (owner_numbers w) (put kept_owner_key o kept))
          by_place (inl there) = found_more o kept w (λ x. IsSome x) (λ own. refl) ((n.floors).all w floor small there)
          by_place (inr (inl same)) = here (floor_owner o.owner w (decimal o.floor) (decimal floor) (is.0).small small (sym (is.0).row ∙ sym same))
          by_place (inr (inr none)) = absurd none

  pub floor_wrong : (e : Entry) (rest : List Entry) (kept : List KeptOwner) → FloorsNoted 18 es (e ∷ rest) kept → e.0.kind ≡ 18 → ¬ (IsFloorRow es e) → IsFirstWrong es e.0
  floor_wrong e rest kept n kind wrong = wrong_below 19 18 es e rest n.at (omega (arith, kind)) (not_floor es n.at.before e kind wrong)

  pub floors_end : (e : Entry) (rest : List Entry) (kept : List KeptOwner) → FloorsNoted 18 es (e ∷ rest) kept → e.0.kind ≢ 18 → FloorsNoted 19 es (e ∷ rest) kept
  floors_end e rest kept n other = record { at = reached_up 19 18 es (e ∷ rest) 19 19 n.at (omega arith) (front_past 18 e rest n.at.next other); floors = n.floors }

  pub floors_done : (kept : List KeptOwner) → FloorsNoted 18 es [] kept → FloorsNoted 19 es [] kept
  floors_done kept n = record { at = reached_up 19 18 es [] 19 19 n.at (omega arith) tt; floors = n.floors }

  -- Kept numbers
  pub kept_start : (left : List Entry) (floors : List KeptOwner) (run : Run) → run ≡ record { owner = None; count = 0 } → FloorsNoted 19 es left floors → KeptNoted es left floors run
  kept_start left floors run none n =
      subst (KeptNoted es left floors) (sym none)
      (record { at = reached_up 19 19 es left 20 19 n.at (omega arith) n.at.next; floors_are = n.floors; run_is = no_rows_run n.at.before n.at.lower })

  pub all_floors : (e : Entry) (rest : List Entry) (floors : List KeptOwner) (run : Run) → KeptNoted es (e ∷ rest) floors run → e.0.kind ≡ 19 → AreFloors es es floors
  all_floors e rest floors run n kind = record { said = (n.floors_are).said; all = all }
    where
      all : (w : Owner) (floor : ℕ) → IsNumber (owner_number w) → Has es (floor_name w, decimal floor) → IsSome (find kept_owner_key (owner_numbers w) floors)
      all w floor small has = by_place (has_either n.at.before (e ∷ rest) (floor_name w, decimal floor) (subst (λ xs. Has xs (floor_name w, decimal floor)) n.at.parts has))
        where
          by_place : Has n.at.before (floor_name w, decimal floor) ⊎ Has (e ∷ rest) (floor_name w, decimal floor) → IsSome (find kept_owner_key (owner_numbers w) floors)
          by_place (inl there) = (n.floors_are).all w floor small there
          by_place (inr (inl same)) = absurd (let is : 18 ≡ e.0.kind = ap (λ (x : Entry). x.0.kind) same in omega (arith, is, kind))
          by_place (inr (inr there)) =
              absurd
              (let up = kind_up e.0 (floor_name w) (all_has (λ x. Below e.0 x.0) rest (above_rest n.at.before e rest (parts_up 20 19 es e rest n.at)) (floor_name w, decimal floor) there) in omega (arith, up, kind))

  pub kept_next : (e : Entry) (rest : List Entry) (floors : List KeptOwner) (run next : Run) (n : KeptNoted es (e ∷ rest) floors run) → e.0.kind ≡ 19 → Follows es n.at.before e (Some next) → KeptNoted es rest floors next
  kept_next e rest floors run next n kind is = record {
    at = reached_next 20 19 es e rest n.at (inr (inr (inr (inl is.0)))) kind (omega arith);
    floors_are = record { said = (n.floors_are).said; all = all };
    run_is = is.1;
  }
    where
      all : (w : Owner) (floor : ℕ) → IsNumber (owner_number w) → Has (n.at.before ++ e ∷ []) (floor_name w, decimal floor) → IsSome (find kept_owner_key (owner_numbers w) floors)
      all w floor small has = by_place (has_either n.at.before (e ∷ []) (floor_name w, decimal floor) has)
        where
          by_place : Has n.at.before (floor_name w, decimal floor) ⊎ Has (e ∷ []) (floor_name w, decimal floor) → IsSome (find kept_owner_key (owner_numbers w) floors)
          by_place (inl there) = (n.floors_are).all w floor small there
          by_place (inr (inl same)) = absurd (let is : 18 ≡ e.0.kind = ap (λ (x : Entry). x.0.kind) same in omega (arith, is, kind))
          by_place (inr (inr none)) = absurd none

  pub kept_wrong : (e : Entry) (rest : List Entry) (floors : List KeptOwner) (run : Run) (n : KeptNoted es (e ∷ rest) floors run) → e.0.kind ≡ 19 → Follows es n.at.before e None → IsFirstWrong es e.0
  kept_wrong e rest floors run n kind wrong = wrong_below 20 19 es e rest n.at (omega (arith, kind)) (not_kept es n.at.before e kind wrong)

  pub kept_end : (e : Entry) (rest : List Entry) (floors : List KeptOwner) (run : Run) → KeptNoted es (e ∷ rest) floors run → e.0.kind ≢ 19 → Reached 20 20 es (e ∷ rest)
  kept_end e rest floors run n other = reached_up 20 19 es (e ∷ rest) 20 20 n.at (omega arith) (front_past 19 e rest n.at.next other)

  pub kept_done : (floors : List KeptOwner) (run : Run) → KeptNoted es [] floors run → Reached 20 20 es []
  kept_done floors run n = reached_up 20 19 es [] 20 20 n.at (omega arith) tt

-- One kept number
module _ (es before : List Entry) (up : Ascends entry_name es) (floors : List KeptOwner) (are : AreFloors es es floors) (count : Option ℕ) (counted : IsCounted es count) (e : Entry) (w : Owner) (k : KeptNumber)
    (found : SaysKept w k e × ((v : Owner) (j : KeptNumber) → SaysKept v j e → ◌≡◌ {A = Owner × KeptNumber} (w, k) (v, j))) where
  same_as : (is : IsKeptRow es before e) → ◌≡◌ {A = Owner × KeptNumber} (is.owner, is.kept) (w, k)
  same_as is = sym (found.1 is.owner is.kept is.says)

  pub unknown_owner : ¬ (IsOwner es w) → ¬ (IsKeptRow es before e)
  unknown_owner unknown is = unknown (subst (λ x. IsOwner es x.0) (same_as is) is.known)

  pub no_room : EndsWithKept w 1024 before → ¬ (IsKeptRow es before e)
  no_room full is = subst (λ x. ¬ (EndsWithKept x.0 1024 before)) (same_as is) is.few full

  pub below_floor : ¬ (floor_at floors w ≤ k.number) → ¬ (IsKeptRow es before e)
  below_floor low is = low (by_find (find kept_owner_key (owner_numbers w) floors) refl)
    where
      above : (floor : ℕ) → floor < 2 ^ 64 → Has es (floor_name w, decimal floor) → floor ≤ k.number
      above = subst (λ x. (floor : ℕ) → floor < 2 ^ 64 → Has es (floor_name x.0, decimal floor) → floor ≤ x.1.number) (same_as is) is.above

      by_find : (o : Option KeptOwner) → find kept_owner_key (owner_numbers w) floors ≡ o → (if_there o (record { owner = w; floor = 0; numbers = [] }) (λ o. o)).floor ≤ k.number
      by_find None at = omega arith
      by_find (Some p) at =
          let said = are.said w p at in
          above p.floor said.2 (subst (λ x. Has es (floor_name x, decimal p.floor)) said.0 said.1)

  pub not_counted : ¬ ((accepted : ℕ) → count ≡ Some accepted → k.place ≤ accepted) → ¬ (IsKeptRow es before e)
  not_counted high is = high (λ accepted at. let known = subst (IsCounted es) at counted in place accepted known.0 known.1)
    where
      place : (accepted : ℕ) → accepted < 2 ^ 64 → Has es (count_row accepted) → k.place ≤ accepted
      place = subst (λ x. (accepted : ℕ) → accepted < 2 ^ 64 → Has es (count_row accepted) → x.1.place ≤ accepted) (same_as is) is.counted

  pub is_kept : IsOwner es w → floor_at floors w ≤ k.number → ((accepted : ℕ) → count ≡ Some accepted → k.place ≤ accepted) → ¬ (EndsWithKept w 1024 before) → IsKeptRow es before e
  is_kept known above place few = record { owner = w; kept = k; says = found.0; known = known; above = all_above; counted = by_count count refl counted; few = few }
    where
      all_above : (floor : ℕ) → floor < 2 ^ 64 → Has es (floor_name w, decimal floor) → floor ≤ k.number
      all_above floor fits has = by_find (find kept_owner_key (owner_numbers w) floors) refl (are.all w floor (found.0).small has) above
        where
          by_find : (o : Option KeptOwner) → find kept_owner_key (owner_numbers w) floors ≡ o → IsSome o → (if_there o (record { owner = w; floor = 0; numbers = [] }) (λ o. o)).floor ≤ k.number → floor ≤ k.number
          by_find None at some le = absurd (let bad : false ≡ true = some in cc)
          by_find (Some p) at some le =
              let said = are.said w p at in
              let there : Has es (floor_name w, decimal p.floor) = subst (λ x. Has es (floor_name x, decimal p.floor)) said.0 said.1 in
              let same = one_entry es up (floor_name w, decimal floor) (floor_name w, decimal p.floor) has there refl in
              let is : floor ≡ p.floor = decimal_injective floor p.floor fits said.2 (ap (λ (x : Entry). x.1) same) in
              omega (arith, is, le)

      by_count : (c : Option ℕ) → count ≡ c → IsCounted es c → (accepted : ℕ) → accepted < 2 ^ 64 → Has es (count_row accepted) → k.place ≤ accepted
      by_count None at none accepted fits has = absurd (none accepted fits has)
      by_count (Some n) at known accepted fits has =
          let same = one_entry es up (count_row accepted) (count_row n) has known.1 refl in
          let is : accepted ≡ n = decimal_injective accepted n fits known.0 (ap (λ (x : Entry). x.1) same) in
          let le = place n at in
          omega (arith, is, le)

  -- a kept number with those that came last of its owner
  pub follows : IsOwner es w → floor_at floors w ≤ k.number → ((accepted : ℕ) → count ≡ Some accepted → k.place ≤ accepted) → (next : Option Run) → GoesOn w before next → Follows es before e next
  follows known above place None goes = no_room (goes (found.0).small)
  follows known above place (Some next) goes =
      let more = goes (found.0).small in
      (is_kept known above place more.0, subst (λ x. IsRun next (before ++ x ∷ [])) (sym (found.0).row) (more.1 k))
