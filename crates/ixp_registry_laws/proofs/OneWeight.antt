-- The weight by sessions is the sum over the lists' rows.
use Rattle.std.proofs.Common.{◌≡◌, ℕ, ◌+◌, ◌*◌, Bool, true, false, ◌&&◌, ◌==◌, [], ◌∷◌, length, map, flat_map, Option, Some, None, option_map, refl, sym, ap, ◌∙◌, subst, arith, if◌then◌else◌}
use Rattle.std.specs.declared.cmp.Ordering.TheVariants.{Equal}
use Rattle.std.specs.List.{AllByRecursion}
use Rattle.std.proofs.lemmas.Bool.{eqb-true, eqb-false}
use Rattle.ixp_num.specs.declared.family.Family.{Family}
use Rattle.ixp_num.specs.declared.family.Family.TheVariants.{V4, V6}
use Rattle.ixp_num.specs.AddressForms.{version_of}
use Rattle.ixp_num.specs.Families.{same_family}
use Rattle.ixp_num.proofs.SameParts.{family_same}
use Rattle.ixp_num_tables.specs.Tables.{order, Ascends, find, if_there}
use Rattle.ixp_num_tables.specs.Sums.{total}
use Rattle.ixp_num_tables.proofs.AllItems.{all_true}
use Rattle.ixp_num_tables.proofs.Looking.{all_found_there}
use Rattle.ixp_num_tables.proofs.Orders.{all_weaker, order_same, order_equal}
use Rattle.ixp_num_tables.proofs.SumLaws.{total_flat, total_joined, total_map, total_const, total_zero, total_plus, total_same, total_at, exchanged}
use Rattle.ixp_num_tables.proofs.TableLaws.{find-key}
use Rattle.ixp_registry.specs.declared.network.Interface.{Interface}
use Rattle.ixp_registry.specs.declared.network.IfAddr.{IfAddr}
use Rattle.ixp_registry.specs.declared.network.AddressRow.{AddressRow}
use Rattle.ixp_registry.specs.declared.lists.IrrList.{IrrList}
use Rattle.ixp_registry.specs.declared.lists.MemberPrefix.{MemberPrefix}
use Rattle.ixp_registry.specs.declared.registry.Registry.{Registry}
use Rattle.ixp_registry.specs.Keys.{interface_key, interface_row_key, irr_key}
use Rattle.ixp_registry.specs.Lookups.{is_member_connected}
use Rattle.ixp_registry.specs.Registries.{rows_of, bare, address_rows, addresses_of, prefixes_of}
use Rattle.ixp_registry.specs.Rules.{row_weight, list_weight}
use Rattle.ixp_registry.specs.Weight.{vlan_weight, address_weight, column_weight, interface_weight, weight}
use Rattle.ixp_registry_laws.specs.WellFormed.{IsPrefixList}
use Rattle.ixp_registry_laws.proofs.Bare.{find_bare}

one_family : (f g : Family) → same_family f g ≡ true → f ≡ g
one_family V4 V4 h = refl
one_family V4 V6 h = absurd (let bad : ⊥ = cc in bad)
one_family V6 V4 h = absurd (let bad : ⊥ = cc in bad)
one_family V6 V6 h = refl

-- whether the rows of a member's list of a family count for an address
abbrev counts : Registry → Interface → IfAddr → ℕ → Family → Bool
counts r i x m f = i.member == m && same_family x.addr.family f && x.rs && x.irr && is_member_connected r.members m

abbrev share : Registry → Interface → IfAddr → ℕ → Family → ℕ
share r i x m f = if counts r i x m f then vlan_weight r.routers i.vlan f else 0

apart : (r : Registry) (i : Interface) (x : IfAddr) (l : IrrList) → (order (irr_key l) (i.member ∷ version_of x.addr.family ∷ []) ≡ Equal → ⊥) → share r i x l.member l.family ≡ 0
apart r i x l far = by_tests (i.member == l.member) refl (same_family x.addr.family l.family) refl where
  by_tests : (a : Bool) → (i.member == l.member) ≡ a → (b : Bool) → same_family x.addr.family l.family ≡ b
      → (if a && b && x.rs && x.irr && is_member_connected r.members l.member then vlan_weight r.routers i.vlan l.family else 0) ≡ 0
  by_tests false h b g = refl
  by_tests true h false g = refl
  by_tests true h true g =
      absurd (far (subst (λ (m : ℕ). order (l.member ∷ version_of l.family ∷ []) (m ∷ version_of x.addr.family ∷ []) ≡ Equal) (sym (eqb-true i.member l.member h))
      (subst (λ (f : Family). order (l.member ∷ version_of l.family ∷ []) (l.member ∷ version_of f ∷ []) ≡ Equal) (sym (one_family x.addr.family l.family g)) (order_same (irr_key l)))))

choose : (a b c : Bool) (v n : ℕ) → n * (if a && b && c then v else 0) ≡ (if c then (if a && b then v * n else 0) else 0)
choose true true true v n = omega arith
choose true true false v n = omega arith
choose true false true v n = omega arith
choose true false false v n = omega arith
choose false b true v n = omega arith
choose false b false v n = omega arith

-- what a list makes of an address
list_share : (r : Registry) (i : Interface) (x : IfAddr) (l : IrrList) → IsPrefixList l → total (λ p. share r i x p.member p.prefix.family) (prefixes_of l) ≡ length l.prefixes * share r i x l.member l.family
list_share r i x l is =
    total_map (λ p. share r i x p.member p.prefix.family) (λ p. record { member = l.member; prefix = p }) l.prefixes
    ∙ total_const (λ p. share r i x l.member p.family) (share r i x l.member l.family) l.prefixes
    (all_weaker (λ p. p.family ≡ l.family) (λ p. share r i x l.member p.family ≡ share r i x l.member l.family) (λ p e. ap (share r i x l.member) e) l.prefixes is.2)

here : (r : Registry) (i : Interface) (x : IfAddr) (l : IrrList) → order (irr_key l) (i.member ∷ version_of x.addr.family ∷ []) ≡ Equal
    → length l.prefixes * share r i x l.member l.family ≡ (if is_member_connected r.members i.member then (if x.rs && x.irr then vlan_weight r.routers i.vlan x.addr.family * length l.prefixes else 0) else 0)
here r i x l e =
    let key : irr_key l ≡ i.member ∷ version_of x.addr.family ∷ [] = order_equal (irr_key l) (i.member ∷ version_of x.addr.family ∷ []) e in
    let m : l.member ≡ i.member = cc in
    let v : version_of l.family ≡ version_of x.addr.family = cc in
    let f : l.family ≡ x.addr.family = family_same l.family x.addr.family v in
    let a : share r i x l.member l.family ≡ share r i x i.member x.addr.family = ap (λ n. share r i x n l.family) m ∙ ap (share r i x i.member) f in
    let b : share r i x i.member x.addr.family ≡ (if x.rs && x.irr && is_member_connected r.members i.member then vlan_weight r.routers i.vlan x.addr.family else 0) =
    own_test (i.member == i.member) refl x.addr.family refl in
    ap (λ n. length l.prefixes * n) (a ∙ b) ∙ choose x.rs x.irr (is_member_connected r.members i.member) (vlan_weight r.routers i.vlan x.addr.family) (length l.prefixes)
  where
    own_test : (t : Bool) → (i.member == i.member) ≡ t → (g : Family) → g ≡ x.addr.family
        → (if t && same_family g g && x.rs && x.irr && is_member_connected r.members i.member then vlan_weight r.routers i.vlan x.addr.family else 0)
        ≡ (if x.rs && x.irr && is_member_connected r.members i.member then vlan_weight r.routers i.vlan x.addr.family else 0)
    own_test true h V4 e = refl
    own_test true h V6 e = refl
    own_test false h g e = absurd (eqb-false i.member i.member h refl)

no_list : (a b : Bool) (v : ℕ) → 0 ≡ (if a then (if b then v * 0 else 0) else 0)
no_list true true v = omega arith
no_list true false v = refl
no_list false b v = refl

-- all lists
address_share : (r : Registry) (i : Interface) (x : IfAddr) → Ascends irr_key r.irr → AllByRecursion IsPrefixList r.irr
    → total (λ p. share r i x p.member p.prefix.family) (flat_map prefixes_of r.irr) ≡ (if is_member_connected r.members i.member then address_weight r.routers r.irr i.member i.vlan x else 0)
address_share r i x up lists =
    let k = i.member ∷ version_of x.addr.family ∷ [] in
    let w : IrrList → ℕ = λ l. length l.prefixes * share r i x l.member l.family in
    total_flat (λ p. share r i x p.member p.prefix.family) prefixes_of r.irr
    ∙ (total_same (λ l. total (λ p. share r i x p.member p.prefix.family) (prefixes_of l)) w r.irr (all_weaker IsPrefixList (λ l. total (λ p. share r i x p.member p.prefix.family) (prefixes_of l) ≡ w l) (λ l is. list_share r i x l is) r.irr lists)
    ∙ (total_at irr_key k w r.irr up (λ l far. let z = apart r i x l far in ap (λ n. length l.prefixes * n) z ∙ omega arith)
    ∙ by_found (find irr_key k r.irr) refl))
  where
    by_found : (o : Option IrrList) → find irr_key (i.member ∷ version_of x.addr.family ∷ []) r.irr ≡ o
        → if_there o 0 (λ l. length l.prefixes * share r i x l.member l.family) ≡ (if is_member_connected r.members i.member then (if x.rs && x.irr then vlan_weight r.routers i.vlan x.addr.family * if_there o 0 (λ l. length l.prefixes) else 0) else 0)
    by_found None e = no_list (is_member_connected r.members i.member) (x.rs && x.irr) (vlan_weight r.routers i.vlan x.addr.family)
    by_found (Some l) e = here r i x l (find-key irr_key (i.member ∷ version_of x.addr.family ∷ []) l r.irr e)

-- an address row's weight in the rules is this share
row_share : (r : Registry) (i : Interface) (x : IfAddr) (m : ℕ) (f : Family) → find interface_row_key (i.number ∷ []) (map bare r.interfaces) ≡ Some (bare i)
    → row_weight (rows_of r) m f (record { interface = i.number; address = x }) ≡ share r i x m f
row_share r i x m f e = ap (λ o. if_there o 0 (λ j. if j.member == m && same_family x.addr.family f && x.rs && x.irr && is_member_connected r.members m then vlan_weight r.routers j.vlan f else 0)) e

column_share : (r : Registry) (i : Interface) (o : Option IfAddr) → find interface_row_key (i.number ∷ []) (map bare r.interfaces) ≡ Some (bare i) → Ascends irr_key r.irr → AllByRecursion IsPrefixList r.irr
    → total (λ p. total (row_weight (rows_of r) p.member p.prefix.family) (address_rows i.number o)) (flat_map prefixes_of r.irr) ≡ (if is_member_connected r.members i.member then column_weight r.routers r.irr i.member i.vlan o else 0)
column_share r i None row up lists = total_zero (flat_map prefixes_of r.irr) ∙ nothing (is_member_connected r.members i.member) where
  nothing : (b : Bool) → ◌≡◌ {A = ℕ} 0 (if b then 0 else 0)
  nothing true = refl
  nothing false = refl
column_share r i (Some x) row up lists =
    total_same (λ p. row_weight (rows_of r) p.member p.prefix.family (record { interface = i.number; address = x }) + 0) (λ p. share r i x p.member p.prefix.family) (flat_map prefixes_of r.irr)
    (all_true (λ p. row_weight (rows_of r) p.member p.prefix.family (record { interface = i.number; address = x }) + 0 ≡ share r i x p.member p.prefix.family) (λ p. let e = row_share r i x p.member p.prefix.family row in omega (arith, e)) (flat_map prefixes_of r.irr))
    ∙ address_share r i x up lists

both_columns : (b : Bool) (m n : ℕ) → (if b then m else 0) + (if b then n else 0) ≡ (if b then m + n else 0)
both_columns true m n = refl
both_columns false m n = omega arith

interface_share : (r : Registry) (i : Interface) → find interface_key (i.number ∷ []) r.interfaces ≡ Some i → Ascends irr_key r.irr → AllByRecursion IsPrefixList r.irr
    → total (λ p. total (row_weight (rows_of r) p.member p.prefix.family) (addresses_of i)) (flat_map prefixes_of r.irr) ≡ interface_weight r.members r.routers r.irr i
interface_share r i there up lists =
    let ps = flat_map prefixes_of r.irr in
    let w : MemberPrefix → AddressRow → ℕ = λ p. row_weight (rows_of r) p.member p.prefix.family in
    let row : find interface_row_key (i.number ∷ []) (map bare r.interfaces) ≡ Some (bare i) = find_bare (i.number ∷ []) r.interfaces ∙ ap (option_map bare) there in
    let a = column_share r i i.v4 row up lists in
    let b = column_share r i i.v6 row up lists in
    let split = total_same (λ p. total (w p) (addresses_of i)) (λ p. total (w p) (address_rows i.number i.v4) + total (w p) (address_rows i.number i.v6)) ps (all_true (λ p. total (w p) (addresses_of i) ≡ total (w p) (address_rows i.number i.v4) + total (w p) (address_rows i.number i.v6)) (λ p. total_joined (w p) (address_rows i.number i.v4) (address_rows i.number i.v6)) ps) in
    let plus = total_plus (λ p. total (w p) (address_rows i.number i.v4)) (λ p. total (w p) (address_rows i.number i.v6)) ps in
    let c = both_columns (is_member_connected r.members i.member) (column_weight r.routers r.irr i.member i.vlan i.v4) (column_weight r.routers r.irr i.member i.vlan i.v6) in
    omega (arith, a, b, split, plus, c)

pub one_weight : (r : Registry) → Ascends interface_key r.interfaces → Ascends irr_key r.irr → AllByRecursion IsPrefixList r.irr
    → total (λ p. list_weight (rows_of r) p.member p.prefix.family) (flat_map prefixes_of r.irr) ≡ weight r.members r.interfaces r.routers r.irr
one_weight r ups up lists =
    let ps = flat_map prefixes_of r.irr in
    let w : MemberPrefix → AddressRow → ℕ = λ p. row_weight (rows_of r) p.member p.prefix.family in
    total_same (λ p. total (w p) (flat_map addresses_of r.interfaces)) (λ p. total (λ i. total (w p) (addresses_of i)) r.interfaces) ps
    (all_true (λ p. total (w p) (flat_map addresses_of r.interfaces) ≡ total (λ i. total (w p) (addresses_of i)) r.interfaces) (λ p. total_flat (w p) addresses_of r.interfaces) ps)
    ∙ (exchanged (λ p i. total (w p) (addresses_of i)) ps r.interfaces
    ∙ total_same (λ i. total (λ p. total (w p) (addresses_of i)) ps) (interface_weight r.members r.routers r.irr) r.interfaces
    (all_weaker (λ i. find interface_key (interface_key i) r.interfaces ≡ Some i) (λ i. total (λ p. total (w p) (addresses_of i)) ps ≡ interface_weight r.members r.routers r.irr i) (λ i there. interface_share r i there up lists) r.interfaces (all_found_there interface_key r.interfaces ups)))
