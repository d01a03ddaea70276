-- The rows of floors and kept numbers of right rows are those of a table of what is kept.
use Rattle.std.proofs.Common.{◌≡◌, ◌≢◌, ◌⊎◌, inl, inr, ℕ, zero, suc, ◌+◌, ◌<◌, ◌≤◌, ◌^◌, true, false, List, [], ◌∷◌, ◌++◌, append-nil, append_assoc, flat_map, length, decimal, Option, Some, None, refl, sym, ap, ◌∙◌, subst, arith}
use Rattle.std.specs.List.{AllByRecursion}
use Rattle.std.specs.Ordering.{match_ordering}
use Rattle.std.specs.declared.cmp.Ordering.{Ordering}
use Rattle.std.specs.declared.cmp.Ordering.TheVariants.{Less, Equal, Greater}
use Rattle.ixp_num_tables.specs.Tables.{order, Ascends, find, put, without, if_there}
use Rattle.ixp_num_tables.proofs.Counts.{length_put}
use Rattle.ixp_num_tables.proofs.FirstNumbers.{key_up}
use Rattle.ixp_num_tables.proofs.Looking.{all_found}
use Rattle.ixp_num_tables.proofs.Orders.{order_same, order_equal, head_same}
use Rattle.ixp_num_tables.proofs.TableLaws.{all_put, all_without, Ascends-put, Ascends-without}
use Rattle.ixp_registry.specs.declared.members.Owner.{Owner}
use Rattle.ixp_registry.specs.declared.members.Owner.TheVariants.{Staff, Member}
use Rattle.ixp_registry.specs.Widths.{IsNumber, owner_number}
use Rattle.ixp_registry.specs.Words.{owner_numbers}
use Rattle.ixp_rows_lines.specs.Fields.{is_break}
use Rattle.ixp_rows_lines.specs.Lines.{owner_word}
use Rattle.ixp_rows_lines.proofs.Unbroken.{NoBreak, Unbroken}
use Rattle.ixp_rows.proofs.LinesAgain.{place_most}
use Rattle.ixp_machine_steps.specs.declared.kept.KeptNumber.{KeptNumber}
use Rattle.ixp_machine_steps.specs.declared.kept.KeptOwner.{KeptOwner}
use Rattle.ixp_machine_steps.specs.Kept.{kept_key, kept_owner_key, kept_of}
use Rattle.ixp_machine_steps.proofs.KeptOwners.{one_owner, owner_kept}
use Rattle.ixp_store_rows.specs.Names.{Entry, key_text, owner_fields, floor_name, floor_row, floor_rows, kept_name, kept_row, kept_rows, count_row}
use Rattle.ixp_store_rows.proofs.KeyTexts.{owner_text_told, decimal_unbroken}
use Rattle.ixp_store_damage.specs.Damages.{IsOwner, EndsWithKept, IsFloorRow, IsKeptRow, IsRow, AreRows, Below}
use Rattle.ixp_store_words.specs.Gathering.{with_row, with_floor, with_number}
use Rattle.ixp_store_words.specs.Opening.{entry_name}
use Rattle.ixp_store_words.specs.Sorting.{Has}
use Rattle.ixp_store_words.specs.Storing.{HasSubject, KeepsSome}
use Rattle.ixp_store_words.proofs.Gathered.{has_right, has_either, has_flat, flat_has, map_has, floor_there, there_floor, same_owner, own_row, row_now, row_other, put_some}
use Rattle.ixp_store_damage.proofs.KeptWalks.{kept_owner, ends_more, ends_to}
use Rattle.ixp_store_words.proofs.Sorting.{all_has, has_map}
use Rattle.ixp_store_damage.proofs.Walks.{never_same, either_way, kind_up, below_front, above_rest, row_kind}
use Rattle.ixp_store_damage.proofs.RowLines.{first_of, rest_of}

-- items of a table that was changed
module _ {R : Type 0} (key : R → List ℕ) where
  has_put : (r : R) (rs : List R) → Has (put key r rs) r
  has_put r [] = inl refl
  has_put r (s ∷ rs) = by_order (order (key s) (key r)) (has_put r rs)
    where
      by_order : (o : Ordering) → Has (put key r rs) r → Has (match_ordering o (s ∷ put key r rs) (r ∷ rs) (r ∷ s ∷ rs)) r
      by_order Less more = inr more
      by_order Equal more = inl refl
      by_order Greater more = inl refl

  put_has : (r x : R) (rs : List R) → (order (key x) (key r) ≡ Equal → ⊥) → Has rs x → Has (put key r rs) x
  put_has r x [] apart has = absurd has
  put_has r x (s ∷ rs) apart has = by_order (order (key s) (key r)) refl has (λ there. put_has r x rs apart there)
    where
      by_order : (o : Ordering) → order (key s) (key r) ≡ o → Has (s ∷ rs) x → (Has rs x → Has (put key r rs) x) → Has (match_ordering o (s ∷ put key r rs) (r ∷ rs) (r ∷ s ∷ rs)) x
      by_order Less e (inl is) more = inl is
      by_order Less e (inr there) more = inr (more there)
      by_order Equal e (inl is) more = absurd (apart (subst (λ y. order (key y) (key r) ≡ Equal) (sym is) e))
      by_order Equal e (inr there) more = inr there
      by_order Greater e there more = inr there

  without_has : (k : List ℕ) (x : R) (rs : List R) → (order (key x) k ≡ Equal → ⊥) → Has rs x → Has (without key k rs) x
  without_has k x [] apart has = absurd has
  without_has k x (s ∷ rs) apart has = by_order (order (key s) k) refl has (λ there. without_has k x rs apart there)
    where
      by_order : (o : Ordering) → order (key s) k ≡ o → Has (s ∷ rs) x → (Has rs x → Has (without key k rs) x) → Has (match_ordering o (s ∷ without key k rs) (without key k rs) (s ∷ without key k rs)) x
      by_order Less e (inl is) more = inl is
      by_order Less e (inr there) more = inr (more there)
      by_order Equal e (inl is) more = absurd (apart (subst (λ y. order (key y) k ≡ Equal) (sym is) e))
      by_order Equal e (inr there) more = more there
      by_order Greater e (inl is) more = inl is
      by_order Greater e (inr there) more = inr (more there)

-- names of one owner's kept numbers have no other owner's between them
record Goes (p x : List ℕ) : Type 0 where
  more : List ℕ
  is : x ≡ p ++ more

between : (p a x b : List ℕ) → order (p ++ a) x ≡ Less → order x (p ++ b) ≡ Less → Goes p x
between [] a x b up down = record { more = x; is = refl }
between (h ∷ p) a [] b up down = absurd (let bad : ◌≡◌ {A = Ordering} Greater Less = up in cc)
between (h ∷ p) a (y ∷ x) b up down = by_first (key_up h y (p ++ a) x up) (key_up y h x (p ++ b) down) (between p a x b)
  where
    by_first : (h < y) ⊎ ((h ≡ y) × (order (p ++ a) x ≡ Less)) → (y < h) ⊎ ((y ≡ h) × (order x (p ++ b) ≡ Less)) → (order (p ++ a) x ≡ Less → order x (p ++ b) ≡ Less → Goes p x) → Goes (h ∷ p) (y ∷ x)
    by_first (inl lt) (inl gt) again = absurd (omega (arith, lt, gt))
    by_first (inl lt) (inr (is, less)) again = absurd (omega (arith, lt, is))
    by_first (inr (is, less)) (inl gt) again = absurd (omega (arith, is, gt))
    by_first (inr (is, less)) (inr (was, more)) again = let g = again less more in record { more = g.more; is = λ i. was i ∷ g.is i }

never_blank : (c : ℕ) → NoBreak c → c ≡ 32 → ⊥
never_blank c solid is = let bad : true ≡ false = ap is_break (sym is) ∙ solid in cc

-- texts without blanks in front of a blank
pub two_words : (a b x y : List ℕ) → Unbroken a → Unbroken b → a ++ 32 ∷ x ≡ b ++ 32 ∷ y → (a ≡ b) × (x ≡ y)
two_words [] [] x y p q e = (refl, rest_of 32 32 x y e)
two_words [] (c ∷ b) x y p q e = absurd (never_blank c q.0 (sym (first_of 32 c x (b ++ 32 ∷ y) e)))
two_words (c ∷ a) [] x y p q e = absurd (never_blank c p.0 (first_of c 32 (a ++ 32 ∷ x) y e))
two_words (c ∷ a) (d ∷ b) x y p q e =
    let first = first_of c d (a ++ 32 ∷ x) (b ++ 32 ∷ y) e in
    let more = two_words a b x y p.1 q.1 (rest_of c d (a ++ 32 ∷ x) (b ++ 32 ∷ y) e) in
    ((λ i. first i ∷ more.0 i), more.1)

word_unbroken : (w : Owner) → Unbroken (owner_word w)
word_unbroken (Staff n) = (refl, (refl, (refl, (refl, (refl, tt)))))
word_unbroken (Member n) = (refl, (refl, (refl, (refl, (refl, (refl, tt))))))

abbrev owner_text : Owner → List ℕ
owner_text w = key_text (owner_fields w)

one_text : (v w : Owner) (x y : List ℕ) → IsNumber (owner_number v) → IsNumber (owner_number w) → owner_text v ++ 32 ∷ x ≡ owner_text w ++ 32 ∷ y → v ≡ w
one_text v w x y small fits e =
    let parted : owner_word v ++ 32 ∷ (decimal (owner_number v) ++ 32 ∷ x) ≡ owner_word w ++ 32 ∷ (decimal (owner_number w) ++ 32 ∷ y) =
    sym (append_assoc (owner_word v) (32 ∷ decimal (owner_number v)) (32 ∷ x)) ∙ (e ∙ append_assoc (owner_word w) (32 ∷ decimal (owner_number w)) (32 ∷ y)) in
    let words = two_words (owner_word v) (owner_word w) (decimal (owner_number v) ++ 32 ∷ x) (decimal (owner_number w) ++ 32 ∷ y) (word_unbroken v) (word_unbroken w) parted in
    let numbers = two_words (decimal (owner_number v)) (decimal (owner_number w)) x y (decimal_unbroken (owner_number v) (omega (arith, small))) (decimal_unbroken (owner_number w) (omega (arith, fits))) words.1 in
    one_owner v w (owner_text_told v w small fits (λ i. words.0 i ++ 32 ∷ numbers.0 i))

abbrev name_front : Owner → List ℕ
name_front v = 19 ∷ (owner_text v ++ 32 ∷ [])

front_is : (v : Owner) (n : ℕ) → 19 ∷ (owner_text v ++ 32 ∷ decimal n) ≡ name_front v ++ decimal n
front_is v n = ap (λ t. 19 ∷ t) (sym (append_assoc (owner_text v) (32 ∷ []) (decimal n)))

-- a kept number's row between two of an owner is of this owner
pub between_owners : (v w : Owner) (j k m : KeptNumber) → IsNumber (owner_number v) → IsNumber (owner_number w) → Below (kept_row v j).0 (kept_row w k).0 → Below (kept_row w k).0 (kept_row v m).0 → w ≡ v
between_owners v w j k m small fits up down =
    let name = 19 ∷ (owner_text w ++ 32 ∷ decimal k.number) in
    let g = between (name_front v) (decimal j.number) name (decimal m.number) (subst (λ t. order t name ≡ Less) (front_is v j.number) up) (subst (λ t. order name t ≡ Less) (front_is v m.number) down) in
    one_text w v (decimal k.number) g.more fits small
    (rest_of 19 19 (owner_text w ++ 32 ∷ decimal k.number) ((owner_text v ++ 32 ∷ []) ++ g.more) g.is ∙ append_assoc (owner_text v) (32 ∷ []) g.more)

-- What is kept, as right rows say it
pub record Stands (es : List Entry) (w : Owner) (k : KeptNumber) : Type 0 where
  pub subject : HasSubject k
  pub least : 0 < k.number
  pub above : (floor : ℕ) → floor < 2 ^ 64 → Has es (floor_name w, decimal floor) → floor ≤ k.number
  pub counted : (accepted : ℕ) → accepted < 2 ^ 64 → Has es (count_row accepted) → k.place ≤ accepted
  pub row : Has es (kept_row w k)

pub record Holds (es : List Entry) (o : KeptOwner) : Type 0 where
  pub small : IsNumber (owner_number o.owner)
  pub known : IsOwner es o.owner
  pub some : KeepsSome o
  pub rising : Ascends kept_key o.numbers
  pub few : length o.numbers ≤ 1024
  pub floor : (o.floor ≡ 0) ⊎ ((o.floor ≤ 10 ^ 16) × Has es (floor_row o))
  pub numbers : AllByRecursion (Stands es o.owner) o.numbers

-- a number of an owner's comes no more
abbrev Past : Owner → List Entry → Type 0
Past w left = (k : KeptNumber) → Has left (kept_row w k) → ⊥

pub record IsKeptSoFar (es done left : List Entry) (ks : List KeptOwner) : Type 0 where
  pub parts : es ≡ done ++ left
  pub order : Ascends kept_owner_key ks
  pub each : AllByRecursion (Holds es) ks
  pub floors : (e : Entry) → Has done e → e.0.kind ≡ 18 → Has (flat_map floor_rows ks) e
  pub numbers : (e : Entry) → Has done e → e.0.kind ≡ 19 → Has (flat_map kept_rows ks) e
  pub runs : (w : Owner) → IsNumber (owner_number w) → EndsWithKept w (length (kept_of ks w).numbers) done ⊎ Past w left

ends_last : (w : Owner) (n : ℕ) (es : List Entry) → EndsWithKept w (suc n) es → (k : KeptNumber) × Has es (kept_row w k)
unfolding EndsWithKept
ends_last w n es h = (h.1, subst (λ l. Has l (kept_row w h.1)) (sym h.2) (has_right h.0 (kept_row w h.1 ∷ []) (kept_row w h.1) (inl refl)))

no_run : (w : Owner) (es : List Entry) → EndsWithKept w 0 es
unfolding EndsWithKept
no_run w es = tt

abbrev kind_in : Entry → ℕ
kind_in e = e.0.kind

module _ (es : List Entry) (up : Ascends entry_name es) (done left : List Entry) (e : Entry) (ks : List KeptOwner) (s : IsKeptSoFar es done (e ∷ left) ks) where
  whole : Ascends entry_name (done ++ e ∷ left)
  whole = subst (Ascends entry_name) s.parts up

  in_front : AllByRecursion (λ x. Below x.0 e.0) done
  in_front = below_front done e left whole

  behind : AllByRecursion (λ x. Below e.0 x.0) left
  behind = above_rest done e left whole

  parts_on : es ≡ (done ++ e ∷ []) ++ left
  parts_on = s.parts ∙ sym (append_assoc done (e ∷ []) left)

  row_in : Has es e
  row_in = subst (λ l. Has l e) (sym s.parts) (has_right done (e ∷ left) e (inl refl))

  -- a row that stands before has another name
  named_apart : (x : Entry) → Has done x → x.0 ≡ e.0 → ⊥
  named_apart x has is = never_same e.0 (subst (λ n. Below n e.0) is (all_has (λ y. Below y.0 e.0) done in_front x has))

  abbrev SaysKeptNumber : Type 0
  SaysKeptNumber = (w : Owner) × (k : KeptNumber) × IsNumber (owner_number w) × (e ≡ kept_row w k)

  -- no row of an owner's comes behind one of another kind or owner
  run_on : (v : Owner) (n : ℕ) → IsNumber (owner_number v) → (e.0.kind ≡ 19 → SaysKeptNumber) → ((k : KeptNumber) → e ≡ kept_row v k → ⊥) → EndsWithKept v n done ⊎ Past v (e ∷ left) → EndsWithKept v n (done ++ e ∷ []) ⊎ Past v left
  run_on v n small says other (inr past) = inr (λ k has. past k (inr has))
  run_on v zero small says other (inl ends) = inl (no_run v (done ++ e ∷ []))
  run_on v (suc n) small says other (inl ends) = inr never
    where
      never : (k : KeptNumber) → Has left (kept_row v k) → ⊥
      never k has =
          let last = ends_last v n done ends in
          let low = all_has (λ y. Below y.0 e.0) done in_front (kept_row v last.0) last.1 in
          let high = all_has (λ y. Below e.0 y.0) left behind (kept_row v k) has in
          let least = kind_up (kept_row v last.0).0 e.0 low in
          let most = kind_up e.0 (kept_row v k).0 high in
          let said = says (omega (arith, least, most)) in
          let owner =
          between_owners v said.0 last.0 said.1 k small said.2 (subst (λ (x : Entry). Below (kept_row v last.0).0 x.0) said.3 low) (subst (λ (x : Entry). Below x.0 (kept_row v k).0) said.3 high) in
          other said.1 (said.3 ∙ ap (λ w. kept_row w said.1) owner)

  -- a row that says nothing of what is kept
  pub passed : e.0.kind ≢ 18 → e.0.kind ≢ 19 → IsKeptSoFar es (done ++ e ∷ []) left ks
  passed no_floor no_number = record {
    parts = parts_on;
    order = s.order;
    each = s.each;
    floors = λ x has at. by_floor x at (has_either done (e ∷ []) x has);
    numbers = λ x has at. by_number x at (has_either done (e ∷ []) x has);
    runs = λ v small. run_on v (length (kept_of ks v).numbers) small (λ at. absurd (no_number at)) (λ k is. no_number (ap kind_in is)) (s.runs v small);
  }
    where
      by_floor : (x : Entry) → x.0.kind ≡ 18 → Has done x ⊎ Has (e ∷ []) x → Has (flat_map floor_rows ks) x
      by_floor x at (inl has) = s.floors x has at
      by_floor x at (inr (inl is)) = absurd (no_floor (ap kind_in (sym is) ∙ at))
      by_floor x at (inr (inr none)) = absurd none

      by_number : (x : Entry) → x.0.kind ≡ 19 → Has done x ⊎ Has (e ∷ []) x → Has (flat_map kept_rows ks) x
      by_number x at (inl has) = s.numbers x has at
      by_number x at (inr (inl is)) = absurd (no_number (ap kind_in (sym is) ∙ at))
      by_number x at (inr (inr none)) = absurd none

  -- with another row for an owner
  module _ (w : Owner) (row : KeptOwner) (own : row.owner ≡ w) where
    abbrev new : List KeptOwner
    new = with_row w row ks

    new_there : Has new row
    new_there = has_put kept_owner_key row (without kept_owner_key (owner_numbers w) ks)

    stays : (o : KeptOwner) → Has ks o → (o.owner ≡ w → ⊥) → Has new o
    stays o has other =
        put_has kept_owner_key row o (without kept_owner_key (owner_numbers w) ks) (λ eq. other (one_owner o.owner row.owner (order_equal (owner_numbers o.owner) (owner_numbers row.owner) eq) ∙ own))
        (without_has kept_owner_key (owner_numbers w) o ks (λ eq. other (one_owner o.owner w (order_equal (owner_numbers o.owner) (owner_numbers w) eq))) has)

    the_row : (o : KeptOwner) → Has ks o → o.owner ≡ w → kept_of ks w ≡ o
    the_row o has is = ap (kept_of ks) (sym is) ∙ own_row ks o s.order has

    either_owner : (v : Owner) → (v ≡ w) ⊎ (v ≡ w → ⊥)
    either_owner v = by_order (same_owner w v)
      where
        by_order : (v ≡ w) ⊎ (order (owner_numbers w) (owner_numbers v) ≡ Equal → ⊥) → (v ≡ w) ⊎ (v ≡ w → ⊥)
        by_order (inl is) = inl is
        by_order (inr apart) = inr (λ is. apart (subst (λ x. order (owner_numbers x) (owner_numbers v) ≡ Equal) is (order_same (owner_numbers v))))

    -- the rows that were there before
    floors_stay : (x : Entry) → x.0.kind ≡ 18 → Has (flat_map floor_rows ks) x → ((o : KeptOwner) → kept_of ks w ≡ o → Has (floor_rows o) x → Has (floor_rows row) x) → Has (flat_map floor_rows new) x
    floors_stay x at has same = by_owner (either_owner one.0.owner)
      where
        one : (o : KeptOwner) × Has ks o × Has (floor_rows o) x
        one = flat_has floor_rows ks x has

        by_owner : (one.0.owner ≡ w) ⊎ (one.0.owner ≡ w → ⊥) → Has (flat_map floor_rows new) x
        by_owner (inl is) = has_flat floor_rows new row x new_there (same one.0 (the_row one.0 one.1 is) one.2)
        by_owner (inr other) = has_flat floor_rows new one.0 x (stays one.0 one.1 other) one.2

    numbers_stay : (x : Entry) → Has (flat_map kept_rows ks) x → ((o : KeptOwner) → kept_of ks w ≡ o → Has (kept_rows o) x → Has (kept_rows row) x) → Has (flat_map kept_rows new) x
    numbers_stay x has same = by_owner (either_owner one.0.owner)
      where
        one : (o : KeptOwner) × Has ks o × Has (kept_rows o) x
        one = flat_has kept_rows ks x has

        by_owner : (one.0.owner ≡ w) ⊎ (one.0.owner ≡ w → ⊥) → Has (flat_map kept_rows new) x
        by_owner (inl is) = has_flat kept_rows new row x new_there (same one.0 (the_row one.0 one.1 is) one.2)
        by_owner (inr other) = has_flat kept_rows new one.0 x (stays one.0 one.1 other) one.2

    new_order : Ascends kept_owner_key new
    new_order = Ascends-put kept_owner_key row (without kept_owner_key (owner_numbers w) ks) (Ascends-without kept_owner_key (owner_numbers w) ks s.order)

    new_each : Holds es row → AllByRecursion (Holds es) new
    new_each holds = all_put kept_owner_key (Holds es) row (without kept_owner_key (owner_numbers w) ks) holds (all_without kept_owner_key (Holds es) (owner_numbers w) ks s.each)

    row_here : kept_of new w ≡ row
    row_here = row_now w row ks own

    row_there : (v : Owner) → (v ≡ w → ⊥) → kept_of new v ≡ kept_of ks v
    row_there v other = row_other w v row ks own (λ eq. other (sym (one_owner w v (order_equal (owner_numbers w) (owner_numbers v) eq))))

  -- what was there of an owner
  abbrev Was : Owner → KeptOwner → Type 0
  Was w o = (o.owner ≡ w) × Ascends kept_key o.numbers × (length o.numbers ≤ 1024) × ((o.floor ≡ 0) ⊎ ((o.floor ≤ 10 ^ 16) × Has es (floor_row o))) × AllByRecursion (Stands es o.owner) o.numbers

  was : (w : Owner) → Was w (kept_of ks w)
  was w = by_row (find kept_owner_key (owner_numbers w) ks) refl
    where
      by_row : (o : Option KeptOwner) → find kept_owner_key (owner_numbers w) ks ≡ o → Was w (if_there o (record { owner = w; floor = 0; numbers = [] }) (λ x. x))
      by_row None is = (refl, tt, omega arith, inl refl, tt)
      by_row (Some o) is =
          let h = all_found kept_owner_key (Holds es) (owner_numbers w) o ks s.each is in
          (ap (λ (x : Option KeptOwner). (if_there x (record { owner = w; floor = 0; numbers = [] }) (λ y. y)).owner) (sym is) ∙ owner_kept ks w, h.rising, h.few, h.floor, h.numbers)

  -- a floor
  module _ (is : IsFloorRow es e) where
    abbrev floored : KeptOwner
    floored = record (kept_of ks is.0) { floor = is.1 }

    floor_own : floored.owner ≡ is.0
    floor_own = owner_kept ks is.0

    some_floor : is.1 ≢ 0
    some_floor none = let least = (is.2).least in omega (arith, least, none)

    floor_is : floor_row floored ≡ e
    floor_is = ap (λ x. (floor_name x, decimal is.1)) floor_own ∙ sym (is.2).row

    floor_holds : Holds es floored
    floor_holds =
        let old = was is.0 in
        record {
          small = subst (λ x. IsNumber (owner_number x)) (sym floor_own) (is.2).small;
          known = subst (IsOwner es) (sym floor_own) is.3;
          some = inl some_floor;
          rising = old.1;
          few = old.2;
          floor = inr ((is.2).most, subst (Has es) (sym floor_is) row_in);
          numbers = old.4;
        }

    pub floor_step : IsKeptSoFar es (done ++ e ∷ []) left (with_floor is.0 is.1 ks)
    floor_step = record {
      parts = parts_on;
      order = new_order is.0 floored floor_own;
      each = new_each is.0 floored floor_own floor_holds;
      floors = λ x has at. by_floor x at (has_either done (e ∷ []) x has);
      numbers = λ x has at. by_number x at (has_either done (e ∷ []) x has);
      runs = λ v small. subst (λ ns. EndsWithKept v (length ns) (done ++ e ∷ []) ⊎ Past v left) (sym (same_numbers v (either_owner is.0 floored floor_own v)))
          (run_on v (length (kept_of ks v).numbers) small (λ at. absurd (never at)) (λ k row. never (ap kind_in row)) (s.runs v small));
    }
      where
        never : e.0.kind ≡ 19 → ⊥
        never at = let floor : e.0.kind ≡ 18 = ap kind_in (is.2).row in omega (arith, at, floor)

        same_numbers : (v : Owner) → (v ≡ is.0) ⊎ (v ≡ is.0 → ⊥) → (kept_of (new is.0 floored floor_own) v).numbers ≡ (kept_of ks v).numbers
        same_numbers v (inl same) =
            subst (λ y. (kept_of (new is.0 floored floor_own) y).numbers ≡ (kept_of ks y).numbers) (sym same) (ap (λ (r : KeptOwner). r.numbers) (row_here is.0 floored floor_own))
        same_numbers v (inr other) = ap (λ (r : KeptOwner). r.numbers) (row_there is.0 floored floor_own v other)

        replaced : (x : Entry) → Has done x → (o : KeptOwner) → kept_of ks is.0 ≡ o → Has (floor_rows o) x → Has (floor_rows floored) x
        replaced x has o same there =
            let owner : o.owner ≡ is.0 = ap (λ (r : KeptOwner). r.owner) (sym same) ∙ owner_kept ks is.0 in
            absurd (named_apart x has (ap (λ (y : Entry). y.0) (there_floor o x there).1 ∙ (ap floor_name owner ∙ ap (λ (y : Entry). y.0) (sym (is.2).row))))

        by_floor : (x : Entry) → x.0.kind ≡ 18 → Has done x ⊎ Has (e ∷ []) x → Has (flat_map floor_rows (new is.0 floored floor_own)) x
        by_floor x at (inl has) = floors_stay is.0 floored floor_own x at (s.floors x has at) (replaced x has)
        by_floor x at (inr (inl same)) =
            has_flat floor_rows (new is.0 floored floor_own) floored x (new_there is.0 floored floor_own) (subst (Has (floor_rows floored)) (floor_is ∙ sym same) (floor_there floored some_floor))
        by_floor x at (inr (inr none)) = absurd none

        by_number : (x : Entry) → x.0.kind ≡ 19 → Has done x ⊎ Has (e ∷ []) x → Has (flat_map kept_rows (new is.0 floored floor_own)) x
        by_number x at (inl has) = numbers_stay is.0 floored floor_own x (s.numbers x has at) (λ o same there. subst (λ (y : KeptOwner). Has (kept_rows y) x) (sym same) there)
        by_number x at (inr (inl same)) = absurd (never (ap kind_in (sym same) ∙ at))
        by_number x at (inr (inr none)) = absurd none

  -- a kept number
  module _ (is : IsKeptRow es done e) where
    abbrev w : Owner
    w = is.owner

    abbrev k : KeptNumber
    k = is.kept

    abbrev ns : List KeptNumber
    ns = (kept_of ks w).numbers

    abbrev counted_in : KeptOwner
    counted_in = record (kept_of ks w) { numbers = put kept_key k ns }

    number_own : counted_in.owner ≡ w
    number_own = owner_kept ks w

    row_is : e ≡ kept_row w k
    row_is = (is.says).row

    run_here : EndsWithKept w (length ns) done
    run_here = by_run (s.runs w (is.says).small)
      where
        by_run : EndsWithKept w (length ns) done ⊎ Past w (e ∷ left) → EndsWithKept w (length ns) done
        by_run (inl ends) = ends
        by_run (inr past) = absurd (past k (inl (sym row_is)))

    room : length ns < 1024
    room = by_way (either_way 1024 (length ns))
      where
        by_way : (length ns < 1024) ⊎ (1024 ≤ length ns) → length ns < 1024
        by_way (inl lt) = lt
        by_way (inr le) = absurd (is.few (ends_to w 1024 (length ns) done le run_here))

    grown : length (put kept_key k ns) ≤ length ns + 1
    grown = length_put kept_key k ns (was w).1

    stands_here : Stands es w k
    stands_here = record { subject = (is.says).subject; least = (is.says).least; above = is.above; counted = is.counted; row = subst (Has es) row_is row_in }

    number_holds : Holds es counted_in
    number_holds =
        let old = was w in
        let more = grown in
        let less = room in
        record {
          small = subst (λ x. IsNumber (owner_number x)) (sym number_own) (is.says).small;
          known = subst (IsOwner es) (sym number_own) is.known;
          some = inr (put_some k ns);
          rising = Ascends-put kept_key k ns old.1;
          few = omega (arith, more, less);
          floor = old.3;
          numbers = all_put kept_key (Stands es (kept_of ks w).owner) k ns (subst (λ x. Stands es x k) (sym number_own) stands_here) old.4;
        }

    pub number_step : IsKeptSoFar es (done ++ e ∷ []) left (with_number w k ks)
    number_step = record {
      parts = parts_on;
      order = new_order w counted_in number_own;
      each = new_each w counted_in number_own number_holds;
      floors = λ x has at. by_floor x at (has_either done (e ∷ []) x has);
      numbers = λ x has at. by_number x at (has_either done (e ∷ []) x has);
      runs = λ v small. by_owner v small (either_owner w counted_in number_own v);
    }
      where
        by_floor : (x : Entry) → x.0.kind ≡ 18 → Has done x ⊎ Has (e ∷ []) x → Has (flat_map floor_rows (new w counted_in number_own)) x
        by_floor x at (inl has) = floors_stay w counted_in number_own x at (s.floors x has at) (λ o same there. subst (λ (y : KeptOwner). Has (floor_rows y) x) (sym same) there)
        by_floor x at (inr (inl same)) = absurd (let kept : e.0.kind ≡ 19 = ap kind_in row_is in let floor : e.0.kind ≡ 18 = ap kind_in (sym same) ∙ at in omega (arith, kept, floor))
        by_floor x at (inr (inr none)) = absurd none

        still : (x : Entry) → Has done x → (o : KeptOwner) → kept_of ks w ≡ o → Has (kept_rows o) x → Has (kept_rows counted_in) x
        still x has o same there =
            let one = map_has (kept_row (kept_of ks w).owner) ns x (subst (λ (y : KeptOwner). Has (kept_rows y) x) (sym same) there) in
            let apart : order (kept_key one.0) (kept_key k) ≡ Equal → ⊥ =
            λ eq. named_apart x has (ap (λ (y : Entry). y.0) one.2 ∙ (ap (λ y. kept_name y one.0.number) number_own ∙ (ap (kept_name w) (head_same one.0.number k.number [] [] eq) ∙ ap (λ (y : Entry). y.0) (sym row_is)))) in
            subst (Has (kept_rows counted_in)) (sym one.2) (has_map (kept_row (kept_of ks w).owner) (put kept_key k ns) one.0 (put_has kept_key k one.0 ns apart one.1))

        by_number : (x : Entry) → x.0.kind ≡ 19 → Has done x ⊎ Has (e ∷ []) x → Has (flat_map kept_rows (new w counted_in number_own)) x
        by_number x at (inl has) = numbers_stay w counted_in number_own x (s.numbers x has at) (still x has)
        by_number x at (inr (inl same)) =
            has_flat kept_rows (new w counted_in number_own) counted_in x (new_there w counted_in number_own)
            (subst (Has (kept_rows counted_in)) (ap (λ y. kept_row y k) number_own ∙ (sym row_is ∙ sym same)) (has_map (kept_row (kept_of ks w).owner) (put kept_key k ns) k (has_put kept_key k ns)))
        by_number x at (inr (inr none)) = absurd none

        by_owner : (v : Owner) → IsNumber (owner_number v) → (v ≡ w) ⊎ (v ≡ w → ⊥) → EndsWithKept v (length (kept_of (new w counted_in number_own) v).numbers) (done ++ e ∷ []) ⊎ Past v left
        by_owner v small (inl same) =
            let ends : EndsWithKept w (suc (length ns)) (done ++ e ∷ []) = subst (λ x. EndsWithKept w (suc (length ns)) (done ++ x ∷ [])) (sym row_is) (ends_more w (length ns) done k run_here) in
            let more = grown in
            subst (λ y. EndsWithKept y (length (kept_of (new w counted_in number_own) y).numbers) (done ++ e ∷ []) ⊎ Past y left) (sym same)
            (inl (subst (λ (r : KeptOwner). EndsWithKept w (length r.numbers) (done ++ e ∷ [])) (sym (row_here w counted_in number_own)) (ends_to w (length (put kept_key k ns)) (suc (length ns)) (done ++ e ∷ []) (omega (arith, more)) ends)))
        by_owner v small (inr other) =
            subst (λ (r : KeptOwner). EndsWithKept v (length r.numbers) (done ++ e ∷ []) ⊎ Past v left) (sym (row_there w counted_in number_own v other))
            (run_on v (length (kept_of ks v).numbers) small (λ at. (w, k, (is.says).small, row_is)) (λ j row. other (kept_owner v w j k small (is.says).small (sym row ∙ row_is))) (s.runs v small))

  -- any right row
  pub one_more : IsRow es done e → (more : List KeptOwner) × IsKeptSoFar es (done ++ e ∷ []) left more
  one_more (inl is) = let at : e.0.kind ≡ 0 = ap kind_in is in (ks, passed (λ other. omega (arith, at, other)) (λ other. omega (arith, at, other)))
  one_more (inr (inl (kind, is))) = let at = row_kind kind e is in let most = place_most kind in (ks, passed (λ other. omega (arith, at, most, other)) (λ other. omega (arith, at, most, other)))
  one_more (inr (inr (inl is))) = (with_floor is.0 is.1 ks, floor_step is)
  one_more (inr (inr (inr (inl is)))) = (with_number is.owner is.kept ks, number_step is)
  one_more (inr (inr (inr (inr is)))) = let at : e.0.kind ≡ 20 = ap kind_in is.2 in (ks, passed (λ other. omega (arith, at, other)) (λ other. omega (arith, at, other)))

abbrev pub IsKeptTable : List Entry → List KeptOwner → Type 0
IsKeptTable es ks = IsKeptSoFar es es [] ks

all_more : (es : List Entry) → Ascends entry_name es → (done left : List Entry) (ks : List KeptOwner) → IsKeptSoFar es done left ks → AreRows es done left → (more : List KeptOwner) × IsKeptTable es more
all_more es up done [] ks s are = (ks, subst (λ d. IsKeptSoFar es d [] ks) (sym (s.parts ∙ append-nil done)) s)
all_more es up done (e ∷ left) ks s are = let next = one_more es up done left e ks s are.0 in all_more es up (done ++ e ∷ []) left next.0 next.1 are.1

-- the table that right rows say
pub kept_table : (es : List Entry) → Ascends entry_name es → AreRows es [] es → (ks : List KeptOwner) × IsKeptTable es ks
kept_table es up are =
    all_more es up [] es []
    (record { parts = refl; order = tt; each = tt; floors = λ x has at. absurd has; numbers = λ x has at. absurd has; runs = λ w small. inl (no_run w []) }) are
