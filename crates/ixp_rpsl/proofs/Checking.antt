-- Steps of the test of a chain.
use Rattle.std.proofs.Common.{◌≡◌, ◌+◌, ◌++◌, ℕ, List, [], ◌∷◌, ap, subst, take, drop, suc, zero, arith}

step_suc : {X : Type 0} (c : List X) (at : ℕ) (r : X) (others : List X) → drop at c ≡ r ∷ others → (take (suc at) c ≡ take at c ++ r ∷ []) × (drop (suc at) c ≡ others)
step_suc [] zero r others e = absurd (let h : ⊥ = cc in h)
step_suc [] (suc at) r others e = absurd (let h : ⊥ = cc in h)
step_suc (x ∷ c) zero r others e = (cc, cc)
step_suc (x ∷ c) (suc at) r others e = let more = step_suc c at r others e in (ap (λ l. x ∷ l) more.0, more.1)

pub step_at : {X : Type 0} (c : List X) (at : ℕ) (r : X) (others : List X) → drop at c ≡ r ∷ others → (take (at + 1) c ≡ take at c ++ r ∷ []) × (drop (at + 1) c ≡ others)
step_at c at r others e =
    let next : suc at ≡ at + 1 = omega arith in
    subst (λ n. (take n c ≡ take at c ++ r ∷ []) × (drop n c ≡ others)) next (step_suc c at r others e)
