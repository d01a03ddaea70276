-- A route's communities, as `~` and the changes of a route see them.
use Rattle.std.proofs.Common.{◌≡◌, ℕ, Bool, true, false, ◌&&◌, ◌||◌, ◌==◌, not, List, [], ◌∷◌, map, filter, Some, None, refl, sym, ap, ◌∙◌, ap₂, inl, inr, ◌⊎◌}
use Rattle.std.specs.List.{list_any}
use Rattle.std.proofs.lemmas.Bool.{cases_eq, eq-eqb, ne_eqb}
use Rattle.std.proofs.lemmas.List.Elements.{filter_agree}
use Rattle.ixp_lang.specs.Attributes.{fits_part, in_pairs, in_triples}

pub eq_swap : (m n : ℕ) → (m == n) ≡ (n == m)
eq_swap m n = go (cases_eq m n) where
  go : ((m ≡ n) ⊎ (m ≡ n → ⊥)) → (m == n) ≡ (n == m)
  go (inl e) = eq-eqb m n e ∙ sym (eq-eqb n m (sym e))
  go (inr f) = ne_eqb m n f ∙ sym (ne_eqb n m (λ e. f (sym e)))

pub eq_refl : (n : ℕ) → (n == n) ≡ true
eq_refl n = eq-eqb n n refl

pub and_true : (b : Bool) → (b && true) ≡ b
and_true true = refl
and_true false = refl

pub and_none : (b : Bool) → (b && false) ≡ false
and_none true = refl
and_none false = refl

pub or_false : (b : Bool) → (b || false) ≡ b
or_false true = refl
or_false false = refl

-- a list is searched alike by tests that agree
pub any_agree : {A : Type 0} (p q : A → Bool) → ((x : A) → p x ≡ q x) → (xs : List A) → list_any p xs ≡ list_any q xs
any_agree p q h [] = refl
any_agree p q h (x ∷ xs) = ap₂ (λ a b. a || b) (h x) (any_agree p q h xs)

pub any_map : {A B : Type 0} (f : A → B) (p : B → Bool) (xs : List A) → list_any p (map f xs) ≡ list_any (λ x. p (f x)) xs
any_map f p [] = refl
any_map f p (x ∷ xs) = ap (λ b. p (f x) || b) (any_map f p xs)

-- `(a, b, c) ~ bgp_large_community`
pub in_own_triples : (a b c : ℕ) (ts : List (ℕ × ℕ × ℕ))
    → in_triples (a, b, c) (map (λ t. (t.0, t.1, Some t.2)) ts) ≡ list_any (λ t. t.0 == a && t.1 == b && t.2 == c) ts
in_own_triples a b c ts =
    any_map (λ t. (t.0, t.1, Some t.2)) (λ u. a == u.0 && b == u.1 && fits_part c u.2) ts
    ∙ any_agree (λ t. a == t.0 && b == t.1 && c == t.2) (λ t. t.0 == a && t.1 == b && t.2 == c)
    (λ t i. eq_swap a t.0 i && eq_swap b t.1 i && eq_swap c t.2 i) ts

-- `(a, b) ~ bgp_community`
pub in_own_pairs : (a b : ℕ) (ps : List (ℕ × ℕ))
    → in_pairs (a, b) (map (λ p. (p.0, Some p.1)) ps) ≡ list_any (λ p. p.0 == a && p.1 == b) ps
in_own_pairs a b ps =
    any_map (λ p. (p.0, Some p.1)) (λ u. a == u.0 && fits_part b u.1) ps
    ∙ any_agree (λ p. a == p.0 && b == p.1) (λ p. p.0 == a && p.1 == b) (λ p i. eq_swap a p.0 i && eq_swap b p.1 i) ps

-- what a filter leaves out isn't found either way
pub any_filter : {A : Type 0} (p q : A → Bool) → ((x : A) → q x ≡ false → p x ≡ false) → (xs : List A) → list_any p (filter q xs) ≡ list_any p xs
any_filter p q h [] = refl
any_filter p q h (x ∷ xs) = go (any_filter p q h xs) (q x) refl where
  go : list_any p (filter q xs) ≡ list_any p xs → (b : Bool) → q x ≡ b → list_any p (filter q (x ∷ xs)) ≡ list_any p (x ∷ xs)
  go rest true e = rw e (ap (λ c. p x || c) rest)
  go rest false e = rw (e, h x e) rest

-- Sets of all large communities of a server with these second parts.

and_same : (a b c d : Bool) → ((a && b) && true || a && (c)) ≡ a && (b || c)
and_same true true c d = refl
and_same true false c d = refl
and_same false b c d = refl

pub in_large : (rs : ℕ) (t : ℕ × ℕ × ℕ) (actions : List ℕ)
    → in_triples t (map (λ a. (rs, a, None)) actions) ≡ (t.0 == rs && list_any (λ a. a == t.1) actions)
in_large rs t [] = sym (and_none (t.0 == rs))
in_large rs t (a ∷ actions) =
    ap (λ b. (t.0 == rs && t.1 == a && true) || b) (in_large rs t actions)
    ∙ ap (λ b. (t.0 == rs && b && true) || (t.0 == rs && list_any (λ a. a == t.1) actions)) (eq_swap t.1 a)
    ∙ and_same (t.0 == rs) (a == t.1) (list_any (λ a. a == t.1) actions) true

pub without_agree : {A : Type 0} (p q : A → Bool) → ((x : A) → p x ≡ q x) → (xs : List A) → filter (λ x. not (p x)) xs ≡ filter (λ x. not (q x)) xs
without_agree p q h xs = filter_agree (λ x. not (p x)) (λ x. not (q x)) (λ x. ap not (h x)) xs

pub filter_none : {A : Type 0} (xs : List A) → filter (λ x. true) xs ≡ xs
filter_none [] = refl
filter_none (x ∷ xs) = ap (λ ys. x ∷ ys) (filter_none xs)
