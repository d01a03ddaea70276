-- Members of lists: of a longer list, of what passes a test, of lists joined, of patterns put in order.
use Rattle.std.proofs.Common.{◌≡◌, zero, suc, Bool, true, false, cond, List, [], ◌∷◌, ◌⊎◌, inl, inr, refl, sym, ap, ◌∙◌, subst, arith}
use Rattle.std.specs.List.{Any, Contains, filter, flat_map, list_any}
use Rattle.std.proofs.lemmas.List.Elements.{Contains-append_left, Contains-append_right, Contains-append_cases}
use Rattle.std.proofs.lemmas.List.Folds.{Any-from_list_any, list_any-from_Any}

module _ {X : Type 0} where
  pub first_in : (x : X) (xs : List X) → Contains (x ∷ xs) x
  first_in x xs = (zero, omega arith, refl)

  pub later_in : (y x : X) (xs : List X) → Contains xs x → Contains (y ∷ xs) x
  later_in y x xs (k, inside, is) = (suc k, omega arith, is)

  pub in_cases : (y x : X) (xs : List X) → Contains (y ∷ xs) x → (y ≡ x) ⊎ Contains xs x
  in_cases y x xs (zero, inside, is) = inl is
  in_cases y x xs (suc k, inside, is) = inr (k, omega arith, is)

  pub none_in : (x : X) → Contains [] x → ⊥
  none_in x (k, inside, is) = omega arith

  -- a test that some member passes
  pub passing : (p : X → Bool) (xs : List X) → list_any p xs ≡ true → (x : X) × Contains xs x × (p x ≡ true)
  passing p xs e = from (Any-from_list_any p xs e) where
    from : Any (λ x. p x ≡ true) xs → (x : X) × Contains xs x × (p x ≡ true)
    from (k, x, inside, is, pass) = (x, (k, inside, is), pass)

  pub passed : (p : X → Bool) (xs : List X) (x : X) → Contains xs x → p x ≡ true → list_any p xs ≡ true
  passed p xs x (k, inside, is) pass = list_any-from_Any p xs (k, x, inside, is, pass)

  -- what a filter keeps
  kept_step : (p : X → Bool) (y x : X) (xs : List X) (b : Bool) → p y ≡ b → Contains (cond b (y ∷ filter p xs) (filter p xs)) x
      → (Contains (filter p xs) x → Contains xs x × (p x ≡ true)) → Contains (y ∷ xs) x × (p x ≡ true)
  kept_step p y x xs true e here rest = by (in_cases y x (filter p xs) here) where
    by : (y ≡ x) ⊎ Contains (filter p xs) x → Contains (y ∷ xs) x × (p x ≡ true)
    by (inl same) = (subst (Contains (y ∷ xs)) same (first_in y xs), subst (λ z. p z ≡ true) same e)
    by (inr later) = let r = rest later in (later_in y x xs r.0, r.1)
  kept_step p y x xs false e here rest = let r = rest here in (later_in y x xs r.0, r.1)

  pub kept : (p : X → Bool) (x : X) (xs : List X) → Contains (filter p xs) x → Contains xs x × (p x ≡ true)
  kept p x [] here = absurd (none_in x here)
  kept p x (y ∷ xs) here = kept_step p y x xs (p y) refl here (kept p x xs)

  stays_step : (p : X → Bool) (y x : X) (xs : List X) (b : Bool) → p y ≡ b → p x ≡ true → (y ≡ x) ⊎ Contains xs x
      → (Contains xs x → Contains (filter p xs) x) → Contains (cond b (y ∷ filter p xs) (filter p xs)) x
  stays_step p y x xs true e pass (inl same) rest = subst (Contains (y ∷ filter p xs)) same (first_in y (filter p xs))
  stays_step p y x xs true e pass (inr later) rest = later_in y x (filter p xs) (rest later)
  stays_step p y x xs false e pass (inl same) rest = let other = subst (λ z. p z ≡ false) same e in cc
  stays_step p y x xs false e pass (inr later) rest = rest later

  pub stays : (p : X → Bool) (x : X) (xs : List X) → Contains xs x → p x ≡ true → Contains (filter p xs) x
  stays p x [] here pass = absurd (none_in x here)
  stays p x (y ∷ xs) here pass = stays_step p y x xs (p y) refl pass (in_cases y x xs here) (λ later. stays p x xs later pass)

module _ {X Y : Type 0} where
  pub from_some : (f : X → List Y) (y : Y) (xs : List X) → Contains (flat_map f xs) y → (x : X) × Contains xs x × Contains (f x) y
  from_some f y [] here = absurd (none_in y here)
  from_some f y (x ∷ xs) here = by (Contains-append_cases (f x) (flat_map f xs) y here) (from_some f y xs) where
    by : Contains (f x) y ⊎ Contains (flat_map f xs) y → (Contains (flat_map f xs) y → (z : X) × Contains xs z × Contains (f z) y) → (z : X) × Contains (x ∷ xs) z × Contains (f z) y
    by (inl first) rest = (x, first_in x xs, first)
    by (inr later) rest = let r = rest later in (r.0, later_in x r.0 xs r.1, r.2)

  pub to_some : (f : X → List Y) (y : Y) (x : X) (xs : List X) → Contains xs x → Contains (f x) y → Contains (flat_map f xs) y
  to_some f y x [] at here = absurd (none_in x at)
  to_some f y x (z ∷ xs) at here = by (in_cases z x xs at) (λ later. to_some f y x xs later here) where
    by : (z ≡ x) ⊎ Contains xs x → (Contains xs x → Contains (flat_map f xs) y) → Contains (flat_map f (z ∷ xs)) y
    by (inl same) rest = Contains-append_left (f z) (flat_map f xs) y (subst (λ w. Contains (f w) y) (sym same) here)
    by (inr later) rest = Contains-append_right (f z) (flat_map f xs) y (rest later)

-- what a filter leaves passes it again
filter_step : {X : Type 0} (p : X → Bool) (x : X) (kept again : List X) → again ≡ kept → (b : Bool) → p x ≡ b → cond b (cond (p x) (x ∷ again) again) again ≡ cond b (x ∷ kept) kept
filter_step p x kept again rest true e = ap (λ c. cond c (x ∷ again) again) e ∙ ap (λ t. x ∷ t) rest
filter_step p x kept again rest false e = rest

-- by cases on the test of the first item
filter_of_cond : {X : Type 0} (p : X → Bool) (x : X) (xs : List X) (b : Bool) → filter p (cond b (x ∷ xs) xs) ≡ cond b (cond (p x) (x ∷ filter p xs) (filter p xs)) (filter p xs)
filter_of_cond p x xs true = refl
filter_of_cond p x xs false = refl

pub filter_twice : {X : Type 0} (p : X → Bool) (xs : List X) → filter p (filter p xs) ≡ filter p xs
filter_twice p [] = refl
filter_twice p (x ∷ xs) = filter_of_cond p x (filter p xs) (p x) ∙ filter_step p x (filter p xs) (filter p (filter p xs)) (filter_twice p xs) (p x) refl
