-- Where a search ends, and what looking up, putting in and taking out are there.
use Rattle.std.proofs.Common.{◌≡◌, ℕ, suc, ◌+◌, ◌<◌, ◌≤◌, List, [], ◌∷◌, ◌++◌, length, get_or, set, Option, Some, None, Result, Ok, Err, refl, sym, ap, ◌∙◌, subst, arith, zero-add, add-zero, add_assoc}
use Rattle.std.specs.declared.cmp.Ordering.{Ordering}
use Rattle.std.specs.declared.cmp.Ordering.TheVariants.{Less, Equal, Greater}
use Rattle.std.specs.Ordering.{match_ordering}
use Rattle.std.specs.List.{AllByRecursion, slice_get, insert, remove}
use Rattle.std.proofs.lemmas.Option.{slice_get_read}
use Rattle.ixp_num_tables.specs.Tables.{order, Ascends, find, put, without, place, further}
use Rattle.ixp_num_tables.proofs.Orders.{turned, chained, as_equal, as_equal_right, all_weaker}

-- the same place, `n` rows further on
abbrev pub onward : ℕ → Result ℕ ℕ → Result ℕ ℕ
onward n (Ok i) = Ok (n + i)
onward n (Err i) = Err (n + i)

pub onward_zero : (p : Result ℕ ℕ) → onward 0 p ≡ p
onward_zero (Ok i) = ap Ok (zero-add i)
onward_zero (Err i) = ap Err (zero-add i)

pub onward_onward : (m n : ℕ) (p : Result ℕ ℕ) → onward m (onward n p) ≡ onward (m + n) p
onward_onward m n (Ok i) = ap Ok (sym (add_assoc m n i))
onward_onward m n (Err i) = ap Err (sym (add_assoc m n i))

further_onward : (n : ℕ) (p : Result ℕ ℕ) → further (onward n p) ≡ onward (suc n) p
further_onward n (Ok i) = let e : suc (n + i) ≡ suc n + i = omega arith in ap Ok e
further_onward n (Err i) = let e : suc (n + i) ≡ suc n + i = omega arith in ap Err e

onward_further : (n : ℕ) (p : Result ℕ ℕ) → onward n (further p) ≡ onward (suc n) p
onward_further n (Ok i) = let e : n + suc i ≡ suc n + i = omega arith in ap Ok e
onward_further n (Err i) = let e : n + suc i ≡ suc n + i = omega arith in ap Err e

module _ {R : Type 0} (key : R → List ℕ) where
  all_middle : (P : R → Type 0) (xs : List R) (y : R) (zs : List R) → AllByRecursion P (xs ++ y ∷ zs) → P y
  all_middle P [] y zs all = all.0
  all_middle P (x ∷ xs) y zs all = all_middle P xs y zs all.1

  -- rows before a row and rows behind it
  pub Ascends_front : (xs : List R) (y : R) (zs : List R) → Ascends key (xs ++ y ∷ zs) → AllByRecursion (λ x. order (key x) (key y) ≡ Less) xs
  Ascends_front [] y zs up = tt
  Ascends_front (x ∷ xs) y zs up = (all_middle (λ s. order (key x) (key s) ≡ Less) xs y zs up.0, Ascends_front xs y zs up.1)

  all_before : (P : R → Type 0) (xs ys : List R) → AllByRecursion P (xs ++ ys) → AllByRecursion P xs
  all_before P [] ys all = tt
  all_before P (x ∷ xs) ys all = (all.0, all_before P xs ys all.1)

  pub Ascends_before : (xs ys : List R) → Ascends key (xs ++ ys) → Ascends key xs
  Ascends_before [] ys up = tt
  Ascends_before (x ∷ xs) ys up = (all_before (λ s. order (key x) (key s) ≡ Less) xs ys up.0, Ascends_before xs ys up.1)

  pub Ascends_behind : (xs ys : List R) → Ascends key (xs ++ ys) → Ascends key ys
  Ascends_behind [] ys up = up
  Ascends_behind (x ∷ xs) ys up = Ascends_behind xs ys up.1

  -- the rows behind one that isn't below a key are above the key
  pub above_greater : (r : R) (k : List ℕ) (rs : List R) → order (key r) k ≡ Greater → AllByRecursion (λ s. order (key r) (key s) ≡ Less) rs → AllByRecursion (λ s. order (key s) k ≡ Greater) rs
  above_greater r k rs e = all_weaker (λ s. order (key r) (key s) ≡ Less) (λ s. order (key s) k ≡ Greater) (λ s less. turned k (key s) Less (chained k (key r) (key s) (turned (key r) k Greater e) less)) rs

  pub above_equal : (r : R) (k : List ℕ) (rs : List R) → order (key r) k ≡ Equal → AllByRecursion (λ s. order (key r) (key s) ≡ Less) rs → AllByRecursion (λ s. order (key s) k ≡ Greater) rs
  above_equal r k rs e = all_weaker (λ s. order (key r) (key s) ≡ Less) (λ s. order (key s) k ≡ Greater) (λ s less. turned k (key s) Less (sym (as_equal (key r) k (key s) e) ∙ less)) rs

  below_less : (y : R) (k : List ℕ) (xs : List R) → order (key y) k ≡ Less → AllByRecursion (λ x. order (key x) (key y) ≡ Less) xs → AllByRecursion (λ x. order (key x) k ≡ Less) xs
  below_less y k xs e = all_weaker (λ x. order (key x) (key y) ≡ Less) (λ x. order (key x) k ≡ Less) (λ x less. chained (key x) (key y) k less e) xs

  below_equal : (y : R) (k : List ℕ) (xs : List R) → order (key y) k ≡ Equal → AllByRecursion (λ x. order (key x) (key y) ≡ Less) xs → AllByRecursion (λ x. order (key x) k ≡ Less) xs
  below_equal y k xs e = all_weaker (λ x. order (key x) (key y) ≡ Less) (λ x. order (key x) k ≡ Less) (λ x less. sym (as_equal_here x) ∙ less) xs where
    as_equal_here : (x : R) → order (key x) (key y) ≡ order (key x) k
    as_equal_here x = as_equal_right (key y) k (key x) e

  -- a search passes rows below the key
  passes : (k : List ℕ) (xs zs : List R) → AllByRecursion (λ x. order (key x) k ≡ Less) xs → place key k (xs ++ zs) ≡ onward (length xs) (place key k zs)
  passes k [] zs all = sym (onward_zero (place key k zs))
  passes k (x ∷ xs) zs all =
      ap (λ o. match_ordering o (further (place key k (xs ++ zs))) (Ok 0) (Err 0)) all.0
      ∙ (ap further (passes k xs zs all.1) ∙ further_onward (length xs) (place key k zs))

  pub place_less : (k : List ℕ) (xs : List R) (y : R) (zs : List R) → Ascends key (xs ++ y ∷ zs) → order (key y) k ≡ Less → place key k (xs ++ y ∷ zs) ≡ onward (length xs + 1) (place key k zs)
  place_less k xs y zs up e =
      let one : length xs + 1 ≡ suc (length xs) = omega arith in
      passes k xs (y ∷ zs) (below_less y k xs e (Ascends_front xs y zs up))
      ∙ (ap (λ o. onward (length xs) (match_ordering o (further (place key k zs)) (Ok 0) (Err 0))) e
      ∙ (onward_further (length xs) (place key k zs) ∙ ap (λ n. onward n (place key k zs)) (sym one)))

  pub place_equal : (k : List ℕ) (xs : List R) (y : R) (zs : List R) → Ascends key (xs ++ y ∷ zs) → order (key y) k ≡ Equal → place key k (xs ++ y ∷ zs) ≡ Ok (length xs)
  place_equal k xs y zs up e =
      passes k xs (y ∷ zs) (below_equal y k xs e (Ascends_front xs y zs up))
      ∙ (ap (λ o. onward (length xs) (match_ordering o (further (place key k zs)) (Ok 0) (Err 0))) e ∙ ap Ok (add-zero (length xs)))

  pub place_greater : (k : List ℕ) (xs : List R) (y : R) (zs : List R) → order (key y) k ≡ Greater → place key k (xs ++ y ∷ zs) ≡ place key k xs
  place_greater k [] y zs e = ap (λ o. match_ordering o (further (place key k zs)) (Ok 0) (Err 0)) e
  place_greater k (x ∷ xs) y zs e = ap (λ p. match_ordering (order (key x) k) (further p) (Ok 0) (Err 0)) (place_greater k xs y zs e)

  -- the place is in the table, or at its end
  abbrev pub Within : List R → Result ℕ ℕ → Type 0
  Within rs (Ok i) = i < length rs
  Within rs (Err i) = i ≤ length rs

  within_step : (r : R) (rs : List R) (p : Result ℕ ℕ) (o : Ordering) → Within rs p → Within (r ∷ rs) (match_ordering o (further p) (Ok 0) (Err 0))
  within_step r rs (Ok i) Less h = omega arith
  within_step r rs (Err i) Less h = omega arith
  within_step r rs p Equal h = omega arith
  within_step r rs p Greater h = omega arith

  pub place_within : (k : List ℕ) (rs : List R) → Within rs (place key k rs)
  place_within k [] = omega arith
  place_within k (r ∷ rs) = within_step r rs (place key k rs) (order (key r) k) (place_within k rs)

  -- what is found at a place
  abbrev pub found : List R → Result ℕ ℕ → Option R
  found rs (Ok i) = slice_get rs i
  found rs (Err i) = None

  -- the rows without the one at a place
  abbrev pub removed : List R → Result ℕ ℕ → List R
  removed rs (Ok i) = remove rs i
  removed rs (Err i) = rs

  -- the rows with a row put at a place
  abbrev pub placed : R → List R → Result ℕ ℕ → List R
  placed r rs (Ok i) = set rs i r
  placed r rs (Err i) = insert rs i r

  pub find_above : (k : List ℕ) (rs : List R) → AllByRecursion (λ s. order (key s) k ≡ Greater) rs → find key k rs ≡ None
  find_above k [] all = refl
  find_above k (r ∷ rs) all = ap (λ o. match_ordering o (find key k rs) (Some r) (find key k rs)) all.0 ∙ find_above k rs all.1

  pub without_above : (k : List ℕ) (rs : List R) → AllByRecursion (λ s. order (key s) k ≡ Greater) rs → without key k rs ≡ rs
  without_above k [] all = refl
  without_above k (r ∷ rs) all = ap (λ o. match_ordering o (r ∷ without key k rs) (without key k rs) (r ∷ without key k rs)) all.0 ∙ ap (λ ss. r ∷ ss) (without_above k rs all.1)

  found_further : (r : R) (rs : List R) (p : Result ℕ ℕ) → found (r ∷ rs) (further p) ≡ found rs p
  found_further r rs (Ok i) = refl
  found_further r rs (Err i) = refl

  removed_further : (r : R) (rs : List R) (p : Result ℕ ℕ) → removed (r ∷ rs) (further p) ≡ r ∷ removed rs p
  removed_further r rs (Ok i) = refl
  removed_further r rs (Err i) = refl

  placed_further : (r s : R) (rs : List R) (p : Result ℕ ℕ) → placed r (s ∷ rs) (further p) ≡ s ∷ placed r rs p
  placed_further r s rs (Ok i) = refl
  placed_further r s rs (Err i) = refl

  find_step : (k : List ℕ) (r : R) (rs : List R) (o : Ordering) → order (key r) k ≡ o → AllByRecursion (λ s. order (key r) (key s) ≡ Less) rs → find key k rs ≡ found rs (place key k rs) → match_ordering o (find key k rs) (Some r) (find key k rs) ≡ found (r ∷ rs) (match_ordering o (further (place key k rs)) (Ok 0) (Err 0))
  find_step k r rs Less e above rest = rest ∙ sym (found_further r rs (place key k rs))
  find_step k r rs Equal e above rest = refl
  find_step k r rs Greater e above rest = find_above k rs (above_greater r k rs e above)

  pub find_at_place : (k : List ℕ) (rs : List R) → Ascends key rs → find key k rs ≡ found rs (place key k rs)
  find_at_place k [] up = refl
  find_at_place k (r ∷ rs) up = find_step k r rs (order (key r) k) refl up.0 (find_at_place k rs up.1)

  without_step : (k : List ℕ) (r : R) (rs : List R) (o : Ordering) → order (key r) k ≡ o → AllByRecursion (λ s. order (key r) (key s) ≡ Less) rs → without key k rs ≡ removed rs (place key k rs) → match_ordering o (r ∷ without key k rs) (without key k rs) (r ∷ without key k rs) ≡ removed (r ∷ rs) (match_ordering o (further (place key k rs)) (Ok 0) (Err 0))
  without_step k r rs Less e above rest = ap (λ ss. r ∷ ss) rest ∙ sym (removed_further r rs (place key k rs))
  without_step k r rs Equal e above rest = without_above k rs (above_equal r k rs e above)
  without_step k r rs Greater e above rest = ap (λ ss. r ∷ ss) (without_above k rs (above_greater r k rs e above))

  pub without_at_place : (k : List ℕ) (rs : List R) → Ascends key rs → without key k rs ≡ removed rs (place key k rs)
  without_at_place k [] up = refl
  without_at_place k (r ∷ rs) up = without_step k r rs (order (key r) k) refl up.0 (without_at_place k rs up.1)

  put_step : (r s : R) (rs : List R) (o : Ordering) → put key r rs ≡ placed r rs (place key (key r) rs) → match_ordering o (s ∷ put key r rs) (r ∷ rs) (r ∷ s ∷ rs) ≡ placed r (s ∷ rs) (match_ordering o (further (place key (key r) rs)) (Ok 0) (Err 0))
  put_step r s rs Less rest = ap (λ ss. s ∷ ss) rest ∙ sym (placed_further r s rs (place key (key r) rs))
  put_step r s rs Equal rest = refl
  put_step r s rs Greater rest = refl

  pub put_at_place : (r : R) (rs : List R) → put key r rs ≡ placed r rs (place key (key r) rs)
  put_at_place r [] = refl
  put_at_place r (s ∷ rs) = put_step r s rs (order (key s) (key r)) (put_at_place r rs)

  -- a search goes on in one half of what is left
  module _ (k : List ℕ) (rows left xs : List R) (y : R) (zs : List R) (n : ℕ) (is : left ≡ xs ++ y ∷ zs) (up : Ascends key left) (so_far : place key k rows ≡ onward n (place key k left)) where
    upward : Ascends key (xs ++ y ∷ zs)
    upward = subst (Ascends key) is up

    from_here : place key k rows ≡ onward n (place key k (xs ++ y ∷ zs))
    from_here = so_far ∙ ap (λ l. onward n (place key k l)) is

    pub front_ascends : Ascends key xs
    front_ascends = Ascends_before xs (y ∷ zs) upward

    behind_here : Ascends key (y ∷ zs)
    behind_here = Ascends_behind xs (y ∷ zs) upward

    pub behind_ascends : Ascends key zs
    behind_ascends = behind_here.1

    pub on_behind : order (key y) k ≡ Less → place key k rows ≡ onward (n + (length xs + 1)) (place key k zs)
    on_behind e = from_here ∙ (ap (onward n) (place_less k xs y zs upward e) ∙ onward_onward n (length xs + 1) (place key k zs))

    pub on_front : order (key y) k ≡ Greater → place key k rows ≡ onward n (place key k xs)
    on_front e = from_here ∙ ap (onward n) (place_greater k xs y zs e)

    pub here : order (key y) k ≡ Equal → place key k rows ≡ Ok (n + length xs)
    here e = from_here ∙ ap (onward n) (place_equal k xs y zs upward e)

  -- what a caller of the search knows
  pub find_here : (k : List ℕ) (rs : List R) (i : ℕ) (r : R) → Ascends key rs → Ok i ≡ place key k rs → i < length rs → r ≡ get_or rs i r → Some r ≡ find key k rs
  find_here k rs i r up e in_range is = sym (find_at_place k rs up ∙ (ap (found rs) (sym e) ∙ slice_get_read rs (length rs) i r refl in_range is))

  pub find_gap : (k : List ℕ) (rs : List R) (i : ℕ) → Ascends key rs → Err i ≡ place key k rs → None ≡ find key k rs
  find_gap k rs i up e = sym (find_at_place k rs up ∙ ap (found rs) (sym e))

  pub put_here : (r : R) (rs : List R) (i : ℕ) → Ok i ≡ place key (key r) rs → set rs i r ≡ put key r rs
  put_here r rs i e = sym (put_at_place r rs ∙ ap (placed r rs) (sym e))

  pub put_gap : (r : R) (rs : List R) (i : ℕ) → Err i ≡ place key (key r) rs → insert rs i r ≡ put key r rs
  put_gap r rs i e = sym (put_at_place r rs ∙ ap (placed r rs) (sym e))

  pub without_here : (k : List ℕ) (rs : List R) (i : ℕ) → Ascends key rs → Ok i ≡ place key k rs → remove rs i ≡ without key k rs
  without_here k rs i up e = sym (without_at_place k rs up ∙ ap (removed rs) (sym e))

  pub without_gap : (k : List ℕ) (rs : List R) (i : ℕ) → Ascends key rs → Err i ≡ place key k rs → rs ≡ without key k rs
  without_gap k rs i up e = sym (without_at_place k rs up ∙ ap (removed rs) (sym e))
