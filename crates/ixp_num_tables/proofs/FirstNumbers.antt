-- The order of keys by their first numbers.
use Rattle.std.proofs.Common.{◌≡◌, ℕ, ◌<◌, ◌⊎◌, inl, inr, Bool, true, false, ◌==◌, nat_lt, List, ◌∷◌, refl, arith}
use Rattle.std.proofs.lemmas.Bool.{lt-ltb, le-ltb, ltb-true, eqb-true, eq-eqb}
use Rattle.std.specs.Ordering.{nat_cmp, ordering_then}
use Rattle.std.specs.declared.cmp.Ordering.{Ordering}
use Rattle.std.specs.declared.cmp.Ordering.TheVariants.{Less, Greater}
use Rattle.ixp_num_tables.specs.Tables.{order}

less_by : (m n : ℕ) (o : Ordering) (b : Bool) → nat_lt m n ≡ b → (c : Bool) → (m == n) ≡ c → ordering_then (nat_cmp m n) o ≡ Less → (m < n) ⊎ ((m ≡ n) × (o ≡ Less))
less_by m n o true lt c eq e = inl (ltb-true m n lt)
less_by m n o false lt true eq e = inr (eqb-true m n eq, rw (lt, eq) at e)
less_by m n o false lt false eq e = absurd (let h : ◌≡◌ {A = Ordering} Greater Less = rw (lt, eq) at e in cc)

pub key_up : (m n : ℕ) (a b : List ℕ) → order (m ∷ a) (n ∷ b) ≡ Less → (m < n) ⊎ ((m ≡ n) × (order a b ≡ Less))
key_up m n a b e = less_by m n (order a b) (nat_lt m n) refl (m == n) refl e

pub less_first : (m n : ℕ) (a b : List ℕ) → m < n → order (m ∷ a) (n ∷ b) ≡ Less
less_first m n a b lt = rw (lt-ltb m n lt) refl

pub same_first : (m : ℕ) (a b : List ℕ) → order (m ∷ a) (m ∷ b) ≡ order a b
same_first m a b = rw (le-ltb m m (omega arith), eq-eqb m m refl) refl
