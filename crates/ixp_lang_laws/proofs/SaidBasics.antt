-- Tests, and what is known where there is no fault.
use Rattle.std.proofs.Common.{◌≡◌, ◌⊎◌, ℕ, zero, suc, inl, inr, Bool, true, false, ◌&&◌, not, List, [], ◌∷◌, Option, Some, None, option_map, refl, ap, if◌then◌else◌}
use Rattle.std.specs.Option.{is_some, option_or}
use Rattle.std.specs.List.{list_all}
use Rattle.std.proofs.lemmas.Bool.{and_from}
use Rattle.ixp_lang_tokens.specs.declared.fault.Cause.{Cause}
use Rattle.ixp_lang_exprs.specs.Sets.{if_missing}
use Rattle.ixp_lang_laws.proofs.Saying.{AreAll}
pub use Rattle.ixp_lang_laws.proofs.Misfits.{Within, within_same, within_more, both_none, is_so, none_settled, if_none, none_part, none_unfit}

-- Tests.

pub both : {a b : Bool} → a ≡ true → b ≡ true → (a && b) ≡ true
both {a} {b} p q = and_from a b p q

pub is_off : (b : Bool) → b ≡ false → not b ≡ true
is_off b e = ap not e

pub all_pass : {A : Type 0} (test : A → Bool) (xs : List A) → AreAll (λ x. test x ≡ true) xs → list_all test xs ≡ true
all_pass test [] all = refl
all_pass test (x ∷ xs) (one, all) = both one (all_pass test xs all)

-- Faults.

pub is_there : {A : Type 0} (x : Option A) (fault : Cause × ℕ) → if_missing x fault ≡ None → is_some x ≡ true
is_there (Some a) fault e = refl
is_there None fault e = absurd cc

-- what is there has been made of something
pub mapped : {A B : Type 0} (f : A → B) (x : Option A) (b : B) → option_map f x ≡ Some b → (a : A) × (b ≡ f a)
mapped f None b e = absurd cc
mapped f (Some a) b e = (a, (let h : b ≡ f a = cc in h))

pub either_some : {A : Type 0} (x y : Option A) (a : A) → option_or x y ≡ Some a → (x ≡ Some a) ⊎ (y ≡ Some a)
either_some None y a e = inr e
either_some (Some b) y a e = inl e
