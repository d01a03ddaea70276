-- Where no row breaks a sentence.
use Rattle.std.proofs.Common.{◌≡◌, ℕ, suc, ◌+◌, Bool, true, false, ◌||◌, List, [], ◌∷◌, ◌++◌, Option, Some, None, find, refl, sym, ap, ◌∙◌, if◌then◌else◌, cond}
use Rattle.std.specs.List.{list_any, AllByRecursion}
use Rattle.std.proofs.lemmas.Bool.{or_parts}
use Rattle.ixp_registry.specs.Places.{first, first_with_earlier_from, earliest}
use Rattle.ixp_registry.specs.Registries.{first_rule}
use Rattle.ixp_registry.proofs.Placing.{first_here, first_on}

pub none_of_first : {R : Type 0} (at : ℕ) (test : R → Bool) (rs : List R) → first at test rs ≡ None → list_any test rs ≡ false
none_of_first at test [] e = refl
none_of_first at test (r ∷ rs) e = by_test (none_of_first (at + 1) test rs) (test r) refl where
  by_test : (first (at + 1) test rs ≡ None → list_any test rs ≡ false) → (b : Bool) → test r ≡ b → list_any test (r ∷ rs) ≡ false
  by_test again true h = absurd (let s : ◌≡◌ {A = Option ℕ} (Some at) None = sym (first_here at test r rs h) ∙ e in let bad : ⊥ = cc in bad)
  by_test again false h = ap (λ b. b || list_any test rs) h ∙ again (sym (first_on at test r rs h) ∙ e)

pub first_of_none : {R : Type 0} (at : ℕ) (test : R → Bool) (rs : List R) → list_any test rs ≡ false → first at test rs ≡ None
first_of_none at test [] e = refl
first_of_none at test (r ∷ rs) e =
    let parts = or_parts (test r) (list_any test rs) e in
    first_on at test r rs parts.0 ∙ first_of_none (at + 1) test rs parts.1

pub both_none : (a b : Option ℕ) → earliest (a ∷ b ∷ []) ≡ None → (a ≡ None) × (b ≡ None)
both_none None None e = (refl, refl)
both_none None (Some b) e = absurd (let bad : ⊥ = cc in bad)
both_none (Some a) None e = absurd (let bad : ⊥ = cc in bad)
both_none (Some a) (Some b) e = absurd (let bad : ⊥ = cc in bad)

pub none_both : (a b : Option ℕ) → a ≡ None → b ≡ None → earliest (a ∷ b ∷ []) ≡ None
none_both None None x y = refl
none_both None (Some b) x y = absurd (let bad : ⊥ = cc in bad)
none_both (Some a) None x y = absurd (let bad : ⊥ = cc in bad)
none_both (Some a) (Some b) x y = absurd (let bad : ⊥ = cc in bad)

pub no_rule : (n : ℕ) (places : List (Option ℕ)) → first_rule n places ≡ None → AllByRecursion (λ p. p ≡ None) places
no_rule n [] e = tt
no_rule n (None ∷ places) e = (refl, no_rule (suc n) places e)
no_rule n (Some line ∷ places) e = absurd (let bad : ⊥ = cc in bad)

-- the line from which rows are counted makes no difference
pub moved : {R : Type 0} (breaks : List R → R → Bool) (earlier : List R) (at to : ℕ) (rs : List R) → first_with_earlier_from earlier at breaks rs ≡ None → first_with_earlier_from earlier to breaks rs ≡ None
moved breaks earlier at to [] e = refl
moved breaks earlier at to (r ∷ rs) e = by_test (moved breaks (earlier ++ r ∷ []) (at + 1) (to + 1) rs) (breaks earlier r) e where
  by_test : (first_with_earlier_from (earlier ++ r ∷ []) (at + 1) breaks rs ≡ None → first_with_earlier_from (earlier ++ r ∷ []) (to + 1) breaks rs ≡ None) → (b : Bool)
      → (if b then Some at else first_with_earlier_from (earlier ++ r ∷ []) (at + 1) breaks rs) ≡ None → (if b then Some to else first_with_earlier_from (earlier ++ r ∷ []) (to + 1) breaks rs) ≡ None
  by_test again true h = absurd (let bad : ⊥ = cc in bad)
  by_test again false h = again h

-- a test that no row passes, by another that none passes
pub any_weaker : {R : Type 0} (p u q : R → Bool) → ((r : R) → p r ≡ false → u r ≡ false → q r ≡ false) → (rs : List R) → list_any p rs ≡ false → list_any u rs ≡ false → list_any q rs ≡ false
any_weaker p u q step [] x y = refl
any_weaker p u q step (r ∷ rs) x y =
    let a = or_parts (p r) (list_any p rs) x in
    let b = or_parts (u r) (list_any u rs) y in
    ap (λ c. c || list_any q rs) (step r a.0 b.0) ∙ any_weaker p u q step rs a.1 b.1

pub none_found : {R : Type 0} (p : R → Bool) (rs : List R) → find p rs ≡ None → list_any p rs ≡ false
none_found p [] e = refl
none_found p (r ∷ rs) e = by_test (none_found p rs) (p r) refl e where
  by_test : (find p rs ≡ None → list_any p rs ≡ false) → (b : Bool) → p r ≡ b → cond b (Some r) (find p rs) ≡ None → (p r || list_any p rs) ≡ false
  by_test again true h e = absurd (let bad : ⊥ = cc in bad)
  by_test again false h e = ap (λ b. b || list_any p rs) h ∙ again e
