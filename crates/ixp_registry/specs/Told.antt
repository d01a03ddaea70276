-- Keys are equal where they have the same numbers: laws of the kinds of keys, and no part of any contract.
use Rattle.std.proofs.Common.{◌≡◌, ℕ, List, [], ◌∷◌, refl, ap, ◌∙◌}
use Rattle.std.specs.declared.cmp.Ordering.{Ordering}
use Rattle.std.specs.declared.cmp.Ordering.TheVariants.{Less, Equal, Greater}
use Rattle.std.specs.Ordering.{is_eq, nat_cmp, ordering_then}
use Rattle.std.specs.Cmp.Lexicographic.{slice_cmp}
use Rattle.std.proofs.lemmas.Map.Text.{is_eq-slice_cmp}
use Rattle.ixp_num.specs.declared.family.Family.{Family}
use Rattle.ixp_num.specs.declared.family.Family.TheVariants.{V4, V6}
use Rattle.ixp_num.specs.declared.addr.Addr.{Addr}
use Rattle.ixp_num.specs.contracts.family.FamilyOrd.TheImpl as family_ord
use Rattle.ixp_num.specs.contracts.addr.AddrOrd.TheImpl as addr_ord
use Rattle.ixp_registry.specs.declared.members.Owner.{Owner}
use Rattle.ixp_registry.specs.declared.members.Owner.TheVariants.{Staff, Member as Of}
use Rattle.ixp_registry.specs.contracts.members.OwnerOrd.TheImpl as owner_ord
use Rattle.ixp_num.specs.AddressForms.{version_of}
use Rattle.ixp_num_tables.specs.Tables.{same}
use Rattle.ixp_registry.specs.Words.{addr_numbers, owner_numbers}

then_equal : (o : Ordering) → o ≡ ordering_then o Equal
then_equal Less = refl
then_equal Equal = refl
then_equal Greater = refl

pub text_told : (xs ys : List ℕ) → is_eq (slice_cmp nat_cmp xs ys) ≡ same xs ys
text_told xs ys = is_eq-slice_cmp xs ys

told_by : (o : Ordering) (xs ys : List ℕ) → o ≡ slice_cmp nat_cmp xs ys → is_eq o ≡ same xs ys
told_by o xs ys e = ap is_eq e ∙ text_told xs ys

pub number_told : (a b : ℕ) → is_eq (nat_cmp a b) ≡ same (a ∷ []) (b ∷ [])
number_told a b = told_by (nat_cmp a b) (a ∷ []) (b ∷ []) (then_equal (nat_cmp a b))

family_ordered : (f g : Family) → (family_ord.ghosts).cmp f g ≡ nat_cmp (version_of f) (version_of g)
family_ordered V4 V4 = refl
family_ordered V4 V6 = refl
family_ordered V6 V4 = refl
family_ordered V6 V6 = refl

pub pair_told : (a b : ℕ × Family) →
    is_eq (ordering_then (nat_cmp a.0 b.0) ((family_ord.ghosts).cmp a.1 b.1))
    ≡ same (a.0 ∷ version_of a.1 ∷ []) (b.0 ∷ version_of b.1 ∷ [])
pair_told a b =
    told_by _ (a.0 ∷ version_of a.1 ∷ []) (b.0 ∷ version_of b.1 ∷ [])
    (ap (ordering_then (nat_cmp a.0 b.0))
    (family_ordered a.1 b.1 ∙ then_equal (nat_cmp (version_of a.1) (version_of b.1))))

pub addr_told : (a b : Addr) → is_eq ((addr_ord.ghosts).cmp a b) ≡ same (addr_numbers a) (addr_numbers b)
addr_told a b =
    told_by _ (addr_numbers a) (addr_numbers b)
    (ap (λ o. ordering_then o (nat_cmp a.value b.value)) (family_ordered a.family b.family)
    ∙ ap (ordering_then (nat_cmp (version_of a.family) (version_of b.family)))
    (then_equal (nat_cmp a.value b.value)))

pub owner_told : (a b : Owner) → is_eq ((owner_ord.ghosts).cmp a b) ≡ same (owner_numbers a) (owner_numbers b)
owner_told (Staff n) (Staff m) = told_by _ (0 ∷ n ∷ []) (0 ∷ m ∷ []) (then_equal (nat_cmp n m))
owner_told (Staff n) (Of m) = refl
owner_told (Of n) (Staff m) = refl
owner_told (Of n) (Of m) = told_by _ (1 ∷ n ∷ []) (1 ∷ m ∷ []) (then_equal (nat_cmp n m))
