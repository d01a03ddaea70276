-- A place is known where its parts are.
use Rattle.std.proofs.Common.{◌≡◌, ℕ, suc, ◌+◌, Bool, true, false, not, List, ◌∷◌, length, Some, None, option_map, cond, nat_lt, arith}
use Rattle.std.specs.List.{prefix_len}
use Rattle.std.proofs.lemmas.Grind.{common_steps}
use Rattle.ixp_registry.specs.Places.{first}

here : (at m : ℕ) → option_map (λ i. at + i) (cond (nat_lt 0 (suc m)) (Some 0) None) ≡ Some at
here at m = grind (arith, common_steps)

numbered : (at n m : ℕ) →
    option_map (λ i. at + i) (cond (nat_lt (1 + n) (suc m)) (Some (1 + n)) None) ≡ option_map (λ i. (at + 1) + i) (cond (nat_lt n m) (Some n) None)
numbered at n m = grind (arith, common_steps)

pub first_here : {R : Type 0} (at : ℕ) (test : R → Bool) (r : R) (rs : List R) → test r ≡ true → first at test (r ∷ rs) ≡ Some at
first_here at test r rs h = rw h (here at (length rs))

pub first_on : {R : Type 0} (at : ℕ) (test : R → Bool) (r : R) (rs : List R) →
    test r ≡ false → first at test (r ∷ rs) ≡ first (at + 1) test rs
first_on at test r rs h = rw h (numbered at (prefix_len (λ x. not (test x)) rs) (length rs))
