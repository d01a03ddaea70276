-- What the public lists say, as sets of the language.
use Rattle.std.proofs.Common.{◌≡◌, ℕ, ◌≤◌, Bool, true, false, ◌&&◌, ◌||◌, ◌==◌, nat_le, max, List, [], ◌∷◌, map, refl, sym, ap, ◌∙◌, arith}
use Rattle.std.specs.List.{list_any, AllByRecursion}
use Rattle.std.proofs.lemmas.Bool.{leb-true, leb-false, le-leb, lt-leb, eq-eqb, ne_eqb}
use Rattle.ixp_num.specs.declared.asn.Asn.{Asn}
use Rattle.ixp_lang.specs.Attributes.{in_range, in_ranges}
use Rattle.ixp_policy.specs.Import.{is_listed}
use Rattle.ixp_compile.specs.Header.{joined_ranges, joined_to}
use Rattle.ixp_compile.specs.Shared.{FirstsAscend}
use Rattle.ixp_compile.proofs.Communities.{any_agree, any_map}

-- Ranges.

abbrev pub holds : ℕ → Asn × Asn → Bool
holds n r = nat_le r.0.0 n && nat_le n r.1.0

-- two ranges of which the second begins in the first
both_hold : (n first last a b : ℕ) → first ≤ a → a ≤ last → (nat_le first n && nat_le n (max last b)) ≡ ((nat_le first n && nat_le n last) || (nat_le a n && nat_le n b))
both_hold n first last a b p q = go (nat_le first n) (nat_le n last) (nat_le a n) (nat_le n b) refl refl refl refl where
  go : (w x y z : Bool) → nat_le first n ≡ w → nat_le n last ≡ x → nat_le a n ≡ y → nat_le n b ≡ z
      → (nat_le first n && nat_le n (max last b)) ≡ ((w && x) || (y && z))
  go false x true z ew ex ey ez = absurd (let h = leb-false first n ew in let g = leb-true a n ey in omega (arith))
  go false x false z ew ex ey ez = rw ew refl
  go true true y z ew ex ey ez = let h = leb-true n last ex in rw (ew, le-leb n (max last b) (omega arith)) refl
  go true false false z ew ex ey ez = absurd (let h = leb-false a n ey in let g = leb-false n last ex in omega arith)
  go true false true true ew ex ey ez = let h = leb-true n b ez in rw (ew, le-leb n (max last b) (omega arith)) refl
  go true false true false ew ex ey ez =
      let h = leb-false n b ez in let g = leb-false n last ex in rw (ew, lt-leb n (max last b) (omega arith)) refl

swap_or : (a b c : Bool) → ((a || b) || c) ≡ (a || (b || c))
swap_or true b c = refl
swap_or false b c = refl

joined_to_holds : (n first last : ℕ) (rs : List (Asn × Asn)) → AllByRecursion (λ s. first ≤ s.0.0) rs → FirstsAscend rs
    → in_ranges n (joined_to first last rs) ≡ (in_range n (first, last) || list_any (holds n) rs)
joined_to_holds n first last [] above up = refl
joined_to_holds n first last (r ∷ rs) above up =
    go (nat_le r.0.0 last) refl (joined_to_holds n first (max last r.1.0) rs above.1 up.1) (joined_to_holds n r.0.0 r.1.0 rs up.0 up.1)
  where
    go : (b : Bool) → nat_le r.0.0 last ≡ b
        → in_ranges n (joined_to first (max last r.1.0) rs) ≡ (in_range n (first, max last r.1.0) || list_any (holds n) rs)
        → in_ranges n (joined_to r.0.0 r.1.0 rs) ≡ (in_range n (r.0.0, r.1.0) || list_any (holds n) rs)
        → in_ranges n (joined_to first last (r ∷ rs)) ≡ (in_range n (first, last) || (holds n r || list_any (holds n) rs))
    go true e one other =
        rw e (one ∙ ap (λ b. b || list_any (holds n) rs) (both_hold n first last r.0.0 r.1.0 above.0 (leb-true r.0.0 last e)) ∙ swap_or (in_range n (first, last)) (holds n r) (list_any (holds n) rs))
    go false e one other = rw e (ap (λ b. in_range n (first, last) || b) other)

pub joined_holds : (n : ℕ) (rs : List (Asn × Asn)) → FirstsAscend rs → in_ranges n (joined_ranges rs) ≡ list_any (holds n) rs
joined_holds n [] up = refl
joined_holds n (r ∷ rs) up = joined_to_holds n r.0.0 r.1.0 rs up.0 up.1

-- Numbers.

le_both : (a n : ℕ) → (nat_le a n && nat_le n a) ≡ (a == n)
le_both a n = go (nat_le a n) (nat_le n a) refl refl where
  go : (x y : Bool) → nat_le a n ≡ x → nat_le n a ≡ y → (x && y) ≡ (a == n)
  go true true ex ey = let h = leb-true a n ex in let g = leb-true n a ey in sym (eq-eqb a n (omega arith))
  go true false ex ey = let g = leb-false n a ey in sym (ne_eqb a n (λ e. omega arith))
  go false y ex ey = let g = leb-false a n ex in sym (ne_eqb a n (λ e. omega arith))

-- a set of numbers, each a range of its own
pub numbers_hold : (n : ℕ) (asns : List Asn) → in_ranges n (map (λ a. (a.0, a.0)) asns) ≡ is_listed asns n
numbers_hold n asns =
    any_map (λ a. (a.0, a.0)) (λ r. in_range n r) asns ∙ any_agree (λ a. nat_le a.0 n && nat_le n a.0) (λ a. a.0 == n) (λ a. le_both a.0 n) asns

-- a path that is looked through for the numbers of a set
pub path_in : (rs : List (ℕ × ℕ)) (test : Asn → Bool) → ((a : Asn) → in_ranges a.0 rs ≡ test a) → (path : List Asn)
    → list_any (λ (n : ℕ × ℕ). in_ranges n.0 rs) (map (λ a. (a.0, a.0)) path) ≡ list_any test path
path_in rs test h path = any_map (λ a. (a.0, a.0)) (λ n. in_ranges n.0 rs) path ∙ any_agree (λ a. in_ranges a.0 rs) test h path

pub none_found : {A : Type 0} (test : A → Bool) → ((x : A) → test x ≡ false) → (xs : List A) → list_any test xs ≡ false
none_found test h [] = refl
none_found test h (x ∷ xs) = rw (h x) (none_found test h xs)
