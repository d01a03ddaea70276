-- What is kept under a name.
use Rattle.std.proofs.Common.{◌≡◌, ℕ, ◌++◌, ◌||◌, Bool, true, false, List, [], ◌∷◌, Option, Some, None, bytes_eq, nat_lt, length, if◌then◌else◌, refl, ap, ◌∙◌, arith}
use Rattle.std.specs.Option.{option_map}
use Rattle.ixp_rpsl.specs.Expansion.{is_among}
use Rattle.ixp_rpsl_sources.specs.Counting.{best, better, names_of}
use Rattle.ixp_rpsl_sources.specs.Told.{best_of, better_of, kept_onto}
use Rattle.ixp_rpsl_sources.specs.declared.best.Best.{Best}
use Rattle.ixp_rpsl_sources.specs.declared.objects.SetObject.{SetObject}

-- the last one is kept first
pub kept_append : (sources : List (List ℕ)) (front : List SetObject) (last : SetObject) (x : Option Best) (q : List ℕ)
    → kept_onto sources (front ++ last ∷ []) x q ≡ kept_onto sources front (kept_onto sources (last ∷ []) x q) q
kept_append sources [] last x q = refl
kept_append sources (o ∷ os) last x q =
    ap (λ k. if is_among (names_of sources o) q then Some (better_of (best_of o) k) else k) (kept_append sources os last x q)

one_better : (o : SetObject) (p : Option SetObject) → Some (better_of (best_of o) (option_map best_of p)) ≡ option_map best_of (better o p)
one_better o None = refl
one_better o (Some p) = by (nat_lt p.place o.place) where
  by : (b : Bool) → Some (if b then best_of p else best_of o) ≡ option_map best_of (if b then Some p else Some o)
  by true = refl
  by false = refl

-- what is kept of all objects is the one that counts
pub kept_best : (sources : List (List ℕ)) (sets : List SetObject) (q : List ℕ) → kept_onto sources sets None q ≡ option_map best_of (best sources sets q)
kept_best sources [] q = refl
kept_best sources (o ∷ os) q =
    ap (λ k. if is_among (names_of sources o) q then Some (better_of (best_of o) k) else k) (kept_best sources os q) ∙ by (is_among (names_of sources o) q)
  where
    by : (b : Bool) → (if b then Some (better_of (best_of o) (option_map best_of (best sources os q))) else option_map best_of (best sources os q))
        ≡ option_map best_of (if b then better o (best sources os q) else best sources os q)
    by true = one_better o (best sources os q)
    by false = refl

-- keeping one once more changes nothing
again : (b : Best) (x : Option Best) → better_of b (Some (better_of b x)) ≡ better_of b x
again b None = by (nat_lt b.place b.place) where
  by : (t : Bool) → (if t then b else b) ≡ b
  by true = refl
  by false = refl
again b (Some p) = by (nat_lt p.place b.place) refl where
  same : (t : Bool) → (if t then b else b) ≡ b
  same true = refl
  same false = refl

  by : (t : Bool) → nat_lt p.place b.place ≡ t → better_of b (Some (if t then p else b)) ≡ (if t then p else b)
  by true e = ap (λ t. if t then p else b) e
  by false e = same (nat_lt b.place b.place)

-- under two names, one after another
pub kept_twice : (b : Best) (n s q : List ℕ) (x first second : Option Best)
    → first ≡ (if bytes_eq s q then Some (better_of b x) else x)
    → second ≡ (if bytes_eq n q then Some (better_of b first) else first)
    → second ≡ (if bytes_eq n q || (bytes_eq s q || false) then Some (better_of b x) else x)
kept_twice b n s q x first second e f = f ∙ (ap (λ k. if bytes_eq n q then Some (better_of b k) else k) e ∙ by (bytes_eq n q) (bytes_eq s q)) where
  by : (u v : Bool) → (if u then Some (better_of b (if v then Some (better_of b x) else x)) else (if v then Some (better_of b x) else x)) ≡ (if u || (v || false) then Some (better_of b x) else x)
  by true true = ap (λ k. Some k) (again b x)
  by true false = refl
  by false true = refl
  by false false = refl

pub kept_once : (b : Best) (n q : List ℕ) (x second : Option Best)
    → second ≡ (if bytes_eq n q then Some (better_of b x) else x)
    → second ≡ (if bytes_eq n q || false then Some (better_of b x) else x)
kept_once b n q x second f = f ∙ by (bytes_eq n q) where
  by : (u : Bool) → (if u then Some (better_of b x) else x) ≡ (if u || false then Some (better_of b x) else x)
  by true = refl
  by false = refl

pub nothing_left : {A : Type 0} (xs : List A) → length xs ≡ 0 → xs ≡ []
nothing_left [] e = refl
nothing_left (x ∷ xs) e = absurd (let h : ⊥ = omega arith in h)
