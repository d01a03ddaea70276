-- One more weight in a map.
use Rattle.std.proofs.Common.{◌≡◌, ℕ, ◌+◌, ◌==◌, Bool, true, false, ◌&&◌, cond, Option, Some, refl, ap, ◌∙◌, arith, if◌then◌else◌}
use Rattle.std.specs.Option.{unwrap_or}
use Rattle.std.specs.Ordering.{is_eq}
use Rattle.std.specs.BTreeMap as tree
use Rattle.std.specs.BTreeMap.{BTreeMap, is_at}
use Rattle.std.proofs.lemmas.Bool.{eqb-true}
use Rattle.ixp_num.specs.declared.family.Family.{Family}
use Rattle.ixp_num.specs.declared.family.Family.TheVariants.{V4, V6}
use Rattle.ixp_num.specs.Families.{same_family}
use Rattle.ixp_num.specs.AddressForms.{version_of}
use Rattle.ixp_registry.specs.Told.{pair_told}
use Rattle.ixp_registry_breach.specs.Weights.{capped, share_of, list_cmp, weight_at}
use Rattle.ixp_registry.proofs.Counting.{and_left, and_right}

versions : (f g : Family) → (version_of f == version_of g && true) ≡ same_family f g
versions V4 V4 = refl
versions V4 V6 = refl
versions V6 V4 = refl
versions V6 V6 = refl

same_list : (a b : ℕ) (f g : Family) → is_eq (list_cmp (a, f) (b, g)) ≡ (a == b && same_family f g)
same_list a b f g = pair_told (a, f) (b, g) ∙ ap (λ t. a == b && t) (versions f g)

one_family : (f g : Family) → same_family f g ≡ true → f ≡ g
one_family V4 V4 h = refl
one_family V4 V6 h = absurd cc
one_family V6 V4 h = absurd cc
one_family V6 V6 h = refl

either : (t : Bool) (old new : Option ℕ) (sum weight n : ℕ) → new ≡ cond t (Some sum) old → capped sum ≡ capped (weight + n) →
    (t ≡ true → weight ≡ unwrap_or old 0) → capped (unwrap_or new 0) ≡ capped (unwrap_or old 0 + (if t then n else 0))
either true old new sum weight n e s w = rw e (s ∙ ap (λ x. capped (x + n)) (w refl))
either false old new sum weight n e s w = rw e (ap capped (omega arith))

pub weight_added : (m n : BTreeMap (ℕ × Family) ℕ) (s : ℕ × Family × ℕ) (weight sum member : ℕ) (family : Family) →
    weight ≡ weight_at m s.0 s.1 → capped sum ≡ capped (weight + s.2) →
    tree.get list_cmp n (member, family) ≡ cond (is_at (list_cmp (s.0, s.1)) (member, family)) (Some sum) (tree.get list_cmp m (member, family)) →
    capped (weight_at n member family) ≡ capped (weight_at m member family + share_of (Some s) member family)
weight_added m n s weight sum member family w c e =
    either (s.0 == member && same_family s.1 family) (tree.get list_cmp m (member, family)) (tree.get list_cmp n (member, family)) sum weight s.2
    (e ∙ ap (λ t. cond t (Some sum) (tree.get list_cmp m (member, family))) (same_list s.0 member s.1 family)) c
    (λ h.
    let p : s.0 ≡ member = eqb-true s.0 member (and_left (s.0 == member) (same_family s.1 family) h) in
    let q : s.1 ≡ family = one_family s.1 family (and_right (s.0 == member) (same_family s.1 family) h) in
    w ∙ (ap (λ x. weight_at m x s.1) p ∙ ap (weight_at m member) q))
