-- Sentences say that a test fails on no row; facts say that it holds of each.
use Rattle.std.proofs.Common.{◌≡◌, Bool, true, false, not, ◌&&◌, ◌||◌, List, refl, ap, ◌∙◌}
use Rattle.std.specs.List.{AllByRecursion}
use Rattle.ixp_num_tables.proofs.Orders.{all_weaker}

pub holds : (b : Bool) → not b ≡ false → b ≡ true
holds true e = refl
holds false e = absurd (let bad : ⊥ = cc in bad)

pub held : (b : Bool) → b ≡ true → not b ≡ false
held b e = ap not e

pub all_hold : {X : Type 0} (p : X → Bool) (xs : List X) → AllByRecursion (λ x. not (p x) ≡ false) xs → AllByRecursion (λ x. p x ≡ true) xs
all_hold p xs all = all_weaker (λ x. not (p x) ≡ false) (λ x. p x ≡ true) (λ x. holds (p x)) xs all

pub all_held : {X : Type 0} (p : X → Bool) (xs : List X) → AllByRecursion (λ x. p x ≡ true) xs → AllByRecursion (λ x. not (p x) ≡ false) xs
all_held p xs all = all_weaker (λ x. p x ≡ true) (λ x. not (p x) ≡ false) (λ x. held (p x)) xs all

pub both_true : (a b : Bool) → a ≡ true → b ≡ true → (a && b) ≡ true
both_true a b p q = ap (λ x. x && b) p ∙ q

pub neither : (a b : Bool) → a ≡ false → b ≡ false → (a || b) ≡ false
neither a b p q = ap (λ x. x || b) p ∙ q
