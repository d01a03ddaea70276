-- The derived order of items is that of their keys, and items with one key are the same: laws of the kinds of
-- items, and no part of any contract.
use Rattle.std.proofs.Common.{◌≡◌, ℕ, List, [], ◌∷◌, refl, ap, ◌∙◌}
use Rattle.std.specs.declared.cmp.Ordering.{Ordering}
use Rattle.std.specs.declared.cmp.Ordering.TheVariants.{Less, Equal, Greater}
use Rattle.std.specs.Ordering.{nat_cmp, ordering_then}
use Rattle.ixp_num.specs.declared.family.Family.{Family}
use Rattle.ixp_num.specs.declared.family.Family.TheVariants.{V4, V6}
use Rattle.ixp_num.specs.declared.prefix.Prefix.{Prefix}
use Rattle.ixp_num.specs.declared.pattern.Pattern.{Pattern}
use Rattle.ixp_num.specs.declared.asn.Asn.{Asn}
use Rattle.ixp_num.specs.declared.roa.Roa.{Roa}
use Rattle.ixp_num.specs.contracts.family.FamilyOrd.TheImpl as family_ord
use Rattle.ixp_num.specs.contracts.prefix_order.PrefixOrd.TheImpl as prefix_ord
use Rattle.ixp_num.specs.contracts.pattern.PatternOrd.TheImpl as pattern_ord
use Rattle.ixp_num.specs.contracts.asn.AsnOrd.TheImpl as asn_ord
use Rattle.ixp_num.specs.contracts.roa.RoaOrd.TheImpl as roa_ord
use Rattle.ixp_num.specs.AddressForms.{version_of}
use Rattle.ixp_num.proofs.SameParts.{family_same, one_prefix, one_pattern, one_asn, one_roa}
use Rattle.ixp_num_tables.specs.Tables.{order}
use Rattle.ixp_num_tables.proofs.Orders.{order_equal}
use Rattle.ixp_num_sorted.specs.Keys.{prefix_key, pattern_key, asn_key, range_key, roa_key}

-- items of keys
abbrev first : List ℕ → ℕ
first [] = 0
first (n ∷ ns) = n

abbrev rest : List ℕ → List ℕ
rest [] = []
rest (n ∷ ns) = ns

pub prefix_one : (a b : Prefix) → order (prefix_key a) (prefix_key b) ≡ Equal → a ≡ b
prefix_one a b e =
    let same = order_equal (prefix_key a) (prefix_key b) e in
    one_prefix a b (family_same a.family b.family (ap first same)) (ap (λ k. first (rest k)) same) (ap (λ k. first (rest (rest k))) same)

pub pattern_one : (a b : Pattern) → order (pattern_key a) (pattern_key b) ≡ Equal → a ≡ b
pattern_one a b e =
    let same = order_equal (pattern_key a) (pattern_key b) e in
    one_pattern a b
    (one_prefix a.prefix b.prefix (family_same a.prefix.family b.prefix.family (ap first same)) (ap (λ k. first (rest k)) same) (ap (λ k. first (rest (rest k))) same))
    (ap (λ k. first (rest (rest (rest k)))) same) (ap (λ k. first (rest (rest (rest (rest k))))) same)

pub asn_one : (a b : Asn) → order (asn_key a) (asn_key b) ≡ Equal → a ≡ b
asn_one a b e = one_asn a b (ap first (order_equal (asn_key a) (asn_key b) e))

pub range_one : (a b : Asn × Asn) → order (range_key a) (range_key b) ≡ Equal → a ≡ b
range_one a b e =
    let same = order_equal (range_key a) (range_key b) e in
    let first_one = one_asn a.0 b.0 (ap first same) in
    let last_one = one_asn a.1 b.1 (ap (λ k. first (rest k)) same) in
    ap (λ (x : Asn). let r : Asn × Asn = (x, a.1) in r) first_one ∙ ap (λ (x : Asn). let r : Asn × Asn = (b.0, x) in r) last_one

pub roa_one : (a b : Roa) → order (roa_key a) (roa_key b) ≡ Equal → a ≡ b
roa_one a b e =
    let same = order_equal (roa_key a) (roa_key b) e in
    one_roa a b
    (one_prefix a.prefix b.prefix (family_same a.prefix.family b.prefix.family (ap first same)) (ap (λ k. first (rest k)) same) (ap (λ k. first (rest (rest k))) same))
    (ap (λ k. first (rest (rest (rest k)))) same) (ap (λ k. first (rest (rest (rest (rest k))))) same)

then_equal : (o : Ordering) → o ≡ ordering_then o Equal
then_equal Less = refl
then_equal Equal = refl
then_equal Greater = refl

family_ordered : (f g : Family) → (family_ord.ghosts).cmp f g ≡ nat_cmp (version_of f) (version_of g)
family_ordered V4 V4 = refl
family_ordered V4 V6 = refl
family_ordered V6 V4 = refl
family_ordered V6 V6 = refl

then_then : (o p q : Ordering) → ordering_then (ordering_then o p) q ≡ ordering_then o (ordering_then p q)
then_then Less p q = refl
then_then Equal p q = refl
then_then Greater p q = refl

-- what stands behind a prefix in an order
prefix_then : (a b : Prefix) (o : Ordering) → ordering_then ((prefix_ord.ghosts).cmp a b) o
    ≡ ordering_then (nat_cmp (version_of a.family) (version_of b.family)) (ordering_then (nat_cmp a.value b.value) (ordering_then (nat_cmp a.len b.len) o))
prefix_then a b o =
    then_then ((family_ord.ghosts).cmp a.family b.family) (ordering_then (nat_cmp a.value b.value) (nat_cmp a.len b.len)) o
    ∙ (ap (λ f. ordering_then f (ordering_then (ordering_then (nat_cmp a.value b.value) (nat_cmp a.len b.len)) o)) (family_ordered a.family b.family)
    ∙ ap (ordering_then (nat_cmp (version_of a.family) (version_of b.family))) (then_then (nat_cmp a.value b.value) (nat_cmp a.len b.len) o))

pub prefix_ordered : (a b : Prefix) → (prefix_ord.ghosts).cmp a b ≡ order (prefix_key a) (prefix_key b)
prefix_ordered a b = then_equal ((prefix_ord.ghosts).cmp a b) ∙ prefix_then a b Equal

pub pattern_ordered : (a b : Pattern) → (pattern_ord.ghosts).cmp a b ≡ order (pattern_key a) (pattern_key b)
pattern_ordered a b =
    ap (λ o. ordering_then ((prefix_ord.ghosts).cmp a.prefix b.prefix) (ordering_then (nat_cmp a.low b.low) o)) (then_equal (nat_cmp a.high b.high))
    ∙ prefix_then a.prefix b.prefix (ordering_then (nat_cmp a.low b.low) (ordering_then (nat_cmp a.high b.high) Equal))

pub asn_ordered : (a b : Asn) → (asn_ord.ghosts).cmp a b ≡ order (asn_key a) (asn_key b)
asn_ordered a b = then_equal (nat_cmp a.0 b.0)

pub range_ordered : (a b : Asn × Asn) → ordering_then ((asn_ord.ghosts).cmp a.0 b.0) ((asn_ord.ghosts).cmp a.1 b.1) ≡ order (range_key a) (range_key b)
range_ordered a b = ap (ordering_then (nat_cmp a.0.0 b.0.0)) (then_equal (nat_cmp a.1.0 b.1.0))

pub roa_ordered : (a b : Roa) → (roa_ord.ghosts).cmp a b ≡ order (roa_key a) (roa_key b)
roa_ordered a b =
    ap (λ o. ordering_then ((prefix_ord.ghosts).cmp a.prefix b.prefix) (ordering_then (nat_cmp a.max b.max) o)) (then_equal (nat_cmp a.asn.0 b.asn.0))
    ∙ prefix_then a.prefix b.prefix (ordering_then (nat_cmp a.max b.max) (ordering_then (nat_cmp a.asn.0 b.asn.0) Equal))
