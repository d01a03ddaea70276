-- What is known where no test refuses.
use Rattle.std.proofs.Common.{◌≡◌, ℕ, ◌≤◌, ◌<◌, ◌+◌, Bool, true, false, not, nat_le, List, [], ◌∷◌, Option, Some, None, option_map, find, refl, ap, cond}
use Rattle.std.specs.List.{AllByRecursion}
use Rattle.std.specs.Option.{is_some}
use Rattle.std.proofs.lemmas.Bool.{leb-true, leb-false}
use Rattle.ixp_num_tables.specs.Tables.{find as row_of, put, if_there}
use Rattle.ixp_registry.specs.declared.kind.Kind.{Kind}
use Rattle.ixp_registry.specs.declared.refusal.Limited.TheVariants.{Rows, Weight}
use Rattle.ixp_registry.specs.declared.refusal.Refusal.{Refusal}
use Rattle.ixp_registry.specs.declared.refusal.Refusal.TheVariants.{Unknown, Taken, Exists, InUse, TooMany}
use Rattle.ixp_registry.specs.declared.refusal.RowKey.{RowKey}
use Rattle.ixp_machine_edits.specs.Tests.{Tests, refused, first_refused, unless_there, of_there, taken_by, exists, in_use_by, full, beyond, too_heavy, changed}

pub no_refusal : (ts : Tests) → first_refused ts ≡ None → AllByRecursion (λ t. t ≡ None) ts
no_refusal [] e = tt
no_refusal (None ∷ ts) e = (refl, no_refusal ts e)
no_refusal (Some x ∷ ts) e = absurd (let bad : ⊥ = cc in bad)

pub after_first : (t : Option Refusal) (ts : Tests) → first_refused (t ∷ ts) ≡ None → (t ≡ None) × (first_refused ts ≡ None)
after_first None ts e = (refl, e)
after_first (Some x) ts e = absurd (let bad : ⊥ = cc in bad)

pub passed : (b : Bool) (x : Refusal) → refused b x ≡ None → b ≡ false
passed false x e = refl
passed true x e = absurd (let bad : ⊥ = cc in bad)

pub holds : (b : Bool) (x : Refusal) → refused (not b) x ≡ None → b ≡ true
holds true x e = refl
holds false x e = absurd (let bad : ⊥ = cc in bad)

pub unmapped : {A B : Type 0} (f : A → B) (o : Option A) → option_map f o ≡ None → o ≡ None
unmapped f None e = refl
unmapped f (Some a) e = absurd (let bad : ⊥ = cc in bad)

pub none_first : {R : Type 0} (p : R → Bool) (rs : List R) → find p rs ≡ None → AllByRecursion (λ r. p r ≡ false) rs
none_first p [] e = tt
none_first p (r ∷ rs) e = by_test (p r) refl e (none_first p rs) where
  by_test : (b : Bool) → p r ≡ b → cond b (Some r) (find p rs) ≡ None → (find p rs ≡ None → AllByRecursion (λ r. p r ≡ false) rs) → (p r ≡ false) × AllByRecursion (λ r. p r ≡ false) rs
  by_test true h e again = absurd (let bad : ⊥ = cc in bad)
  by_test false h e again = (h, again e)

-- X4
pub is_there : {R : Type 0} (o : Option R) (table : Kind) (key : RowKey) → unless_there o table key ≡ None → is_some o ≡ true
is_there o table key e = holds (is_some o) (Unknown table key) e

pub there : {R : Type 0} (o : Option R) (table : Kind) (key : RowKey) (f : R → Tests) → first_refused (of_there o table key f) ≡ None → (r : R) × (o ≡ Some r) × (first_refused (f r) ≡ None)
there None table key f e = absurd (let bad : ⊥ = cc in bad)
there (Some r) table key f e = (r, refl, e)

pub found : {R : Type 0} (o : Option R) → is_some o ≡ true → (r : R) × (o ≡ Some r)
found None e = absurd (let bad : ⊥ = cc in bad)
found (Some r) e = (r, refl)

-- X9, X11, X14
pub nobody_has : {R : Type 0} (table : Kind) (key : R → RowKey) (p : R → Bool) (rs : List R) → taken_by table key (find p rs) ≡ None → AllByRecursion (λ r. p r ≡ false) rs
nobody_has table key p rs e = none_first p rs (unmapped (λ r. Taken table (key r)) (find p rs) e)

pub is_new : {R : Type 0} (key : R → RowKey) (o : Option R) → exists key o ≡ None → o ≡ None
is_new key o e = unmapped (λ r. Exists (key r)) o e

pub nobody_is : {R : Type 0} (key : R → RowKey) (p : R → Bool) (rs : List R) → exists key (find p rs) ≡ None → AllByRecursion (λ r. p r ≡ false) rs
nobody_is key p rs e = none_first p rs (is_new key (find p rs) e)

pub nobody_uses : {R : Type 0} (table : Kind) (key : R → RowKey) (p : R → Bool) (rs : List R) → in_use_by table key (find p rs) ≡ None → AllByRecursion (λ r. p r ≡ false) rs
nobody_uses table key p rs e = none_first p rs (unmapped (λ r. InUse table (key r)) (find p rs) e)

-- X16
pub has_room : (table : Kind) (have most : ℕ) → full table have most ≡ None → have < most
has_room table have most e = leb-false most have (passed (nat_le most have) (TooMany (Rows table) (have + 1) most) e)

pub is_within : (table : Kind) (have most : ℕ) → beyond table have most ≡ None → have ≤ most
is_within table have most e = leb-true have most (holds (nat_le have most) (TooMany (Rows table) have most) e)

pub is_light : (weight : ℕ) → too_heavy weight ≡ None → weight ≤ 8000000
is_light weight e = leb-true weight 8000000 (holds (nat_le weight 8000000) (TooMany Weight weight 8000000) e)

-- a row that is there is changed
pub changed_there : {R : Type 0} (key : R → List ℕ) (k : List ℕ) (f : R → R) (rs : List R) (r : R) → row_of key k rs ≡ Some r → changed key k f rs ≡ put key (f r) rs
changed_there key k f rs r e = ap (λ o. if_there o rs (λ r. put key (f r) rs)) e
