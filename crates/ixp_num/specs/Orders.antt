-- The order of prefixes; that it is total, and that two which stand at one place in it are equal, are its
-- laws.
use Rattle.std.specs.Prelude.{◌≡◌, Bool, true, false, ◌&&◌, nat_eq}
use Rattle.std.proofs.Common.{refl, sym, ap, ◌∙◌}
use Rattle.std.specs.declared.cmp.Ordering.{Ordering}
use Rattle.std.specs.Cmp.{IsTotalOrder, both_tied, then_total, on_total, nat_cmp_total, unsigned_ties}
use Rattle.std.specs.Ordering.{is_eq, nat_cmp, ordering_reverse, ordering_then}
use Rattle.ixp_num.specs.contracts.family.FamilyOrd.TheImpl as family_ord
use Rattle.ixp_num.specs.contracts.family.FamilyPartialEq.TheImpl as family_eq
use Rattle.ixp_num.specs.declared.family.Family.{Family}
use Rattle.ixp_num.specs.declared.family.Family.TheVariants.{V4, V6}
use Rattle.ixp_num.specs.declared.prefix.Prefix.{Prefix}
use Rattle.ixp_num.specs.AddressForms.{version_of}

-- by family, then by number, then by length
abbrev pub prefix_cmp : Prefix → Prefix → Ordering
prefix_cmp p q = ordering_then ((family_ord.ghosts).cmp p.family q.family) (ordering_then (nat_cmp p.value q.value) (nat_cmp p.len q.len))

abbrev family_cmp : Family → Family → Ordering
family_cmp = (family_ord.ghosts).cmp

family_versions : (f g : Family) → nat_cmp (version_of f) (version_of g) ≡ family_cmp f g
family_versions V4 V4 = refl
family_versions V4 V6 = refl
family_versions V6 V4 = refl
family_versions V6 V6 = refl

families_total : IsTotalOrder family_cmp
families_total =
    let versions : IsTotalOrder (λ (f : Family) (g : Family). nat_cmp (version_of f) (version_of g)) = on_total version_of nat_cmp_total in
    record {
      antisymm = λ f g. sym (family_versions f g) ∙ (versions.antisymm f g ∙ ap ordering_reverse (family_versions g f));
      trans = λ f g h a b. sym (family_versions f h) ∙ versions.trans f g h (family_versions f g ∙ a) (family_versions g h ∙ b);
      congr = λ f g h a. sym (family_versions f h) ∙ (versions.congr f g h (family_versions f g ∙ a) ∙ family_versions g h);
    }

families_equal : (f g : Family) → (family_eq.ghosts).eq f g ≡ is_eq (family_cmp f g)
families_equal V4 V4 = refl
families_equal V4 V6 = refl
families_equal V6 V4 = refl
families_equal V6 V6 = refl

pub prefix_cmp_total : IsTotalOrder prefix_cmp
prefix_cmp_total =
    then_total (on_total (λ (p : Prefix). p.family) families_total) (then_total (on_total (λ (p : Prefix). p.value) nat_cmp_total) (on_total (λ (p : Prefix). p.len) nat_cmp_total))

swapped : (a b c : Bool) → (a && (b && c)) ≡ (b && (a && c))
swapped true true c = refl
swapped true false c = refl
swapped false true c = refl
swapped false false c = refl

pub prefix_cmp_eq : (x y : Prefix) → (nat_eq x.value y.value && ((family_eq.ghosts).eq x.family y.family && nat_eq x.len y.len)) ≡ is_eq (prefix_cmp x y)
prefix_cmp_eq x y =
    swapped (nat_eq x.value y.value) ((family_eq.ghosts).eq x.family y.family) (nat_eq x.len y.len)
    ∙ both_tied _ _ _ _ (families_equal x.family y.family) (both_tied _ _ _ _ (unsigned_ties x.value y.value) (unsigned_ties x.len y.len))
