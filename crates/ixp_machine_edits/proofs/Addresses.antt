-- The addresses of an interface of which one is set.
use Rattle.std.proofs.Common.{◌≡◌, ℕ, ◌≤◌, ◌+◌, false, ◌&&◌, ◌==◌, List, [], ◌∷◌, Option, Some, None, refl, ap, ◌∙◌, arith}
use Rattle.std.specs.List.{AllByRecursion}
use Rattle.std.proofs.lemmas.Bool.{or_parts}
use Rattle.ixp_num.specs.declared.addr.Addr.{Addr}
use Rattle.ixp_num.specs.declared.family.Family.{Family}
use Rattle.ixp_num.specs.declared.family.Family.TheVariants.{V4, V6}
use Rattle.ixp_num.specs.Families.{same_family}
use Rattle.ixp_num.specs.Prefixes.{same_addr}
use Rattle.ixp_num_tables.specs.Tables.{same, if_there}
use Rattle.ixp_num_tables.specs.Sums.{count, one_if}
use Rattle.ixp_num_tables.proofs.AllItems.{all_left, all_right, all_joined, none_any}
use Rattle.ixp_num_tables.proofs.SumLaws.{total_joined}
use Rattle.ixp_registry.specs.declared.network.IfAddr.{IfAddr}
use Rattle.ixp_registry.specs.declared.network.Interface.{Interface}
use Rattle.ixp_registry.specs.declared.network.AddressRow.{AddressRow}
use Rattle.ixp_registry.specs.declared.router.Router.{Router}
use Rattle.ixp_registry.specs.Lookups.{is_at, has_addr, has_blackhole}
use Rattle.ixp_registry.specs.Registries.{address_rows, addresses_of}
use Rattle.ixp_registry.specs.Valid.{IsIn, holds}
use Rattle.ixp_registry.specs.Words.{addr_numbers}
use Rattle.ixp_registry_laws.proofs.Truths.{neither}
use Rattle.ixp_plan.proofs.Takings.{is_of, by_interface}
use Rattle.ixp_plan.proofs.Times.{numbers_same, swapped}
use Rattle.ixp_machine_edits.specs.Interfaces.{addressed}
use Rattle.ixp_machine_edits.specs.Routers.{holds_blackhole}
use Rattle.ixp_machine_edits.proofs.Numbers.{never, most_one}

pub all_set : (P : AddressRow → Type 0) (f : Family) (x : IfAddr) (i : Interface) → AllByRecursion P (addresses_of i) → P (record { interface = i.number; address = x }) → AllByRecursion P (addresses_of (addressed f x i))
all_set P V4 x i old new = (new, all_right P (address_rows i.number i.v4) (address_rows i.number i.v6) old)
all_set P V6 x i old new = all_joined P (address_rows i.number i.v4) (record { interface = i.number; address = x } ∷ []) (all_left P (address_rows i.number i.v4) (address_rows i.number i.v6) old) (new, tt)

pub columns_set : (f : Family) (x : IfAddr) (i : Interface) → x.addr.family ≡ f → IsIn V4 i.v4 × IsIn V6 i.v6 → IsIn V4 (addressed f x i).v4 × IsIn V6 (addressed f x i).v6
columns_set V4 x i e old = (e, old.1)
columns_set V6 x i e old = (old.0, e)

pub holds_set : (k : List ℕ) (f : Family) (x : IfAddr) (i : Interface) → holds k (addressed f x i) ≤ holds k i + one_if (same k (addr_numbers x.addr))
holds_set k V4 x i =
    let j = total_joined (λ a. one_if (same k (addr_numbers a.address.addr))) (address_rows i.number i.v4) (address_rows i.number i.v6) in
    omega (arith, j)
holds_set k V6 x i =
    let j = total_joined (λ a. one_if (same k (addr_numbers a.address.addr))) (address_rows i.number i.v4) (address_rows i.number i.v6) in
    let h = total_joined (λ a. one_if (same k (addr_numbers a.address.addr))) (address_rows i.number i.v4) (record { interface = i.number; address = x } ∷ []) in
    omega (arith, j, h)

families_differ : (a b : Addr) (f g : Family) → a.family ≡ f → b.family ≡ g → same_family f g ≡ false → same (addr_numbers a) (addr_numbers b) ≡ false
families_differ a b f g p q e =
    numbers_same a b
    ∙ (ap (λ h. same_family h b.family && a.value == b.value) p ∙ (ap (λ h. same_family f h && a.value == b.value) q ∙ ap (λ t. t && a.value == b.value) e))

other_family : (a : Addr) (f g : Family) (n : ℕ) (o : Option IfAddr) → a.family ≡ f → IsIn g o → same_family f g ≡ false → count (λ y. same (addr_numbers a) (addr_numbers y.address.addr)) (address_rows n o) ≡ 0
other_family a f g n None p q e = refl
other_family a f g n (Some y) p q e = let z : one_if (same (addr_numbers a) (addr_numbers y.addr)) ≡ 0 = ap one_if (families_differ a y.addr f g p q e) in omega (arith, z)

pub holds_once : (f : Family) (x : IfAddr) (i : Interface) → x.addr.family ≡ f → IsIn V4 i.v4 × IsIn V6 i.v6 → holds (addr_numbers x.addr) (addressed f x i) ≤ 1
holds_once V4 x i e columns =
    let z = other_family x.addr V4 V6 i.number i.v6 e columns.1 refl in
    let o = most_one (same (addr_numbers x.addr) (addr_numbers x.addr)) in
    omega (arith, z, o)
holds_once V6 x i e columns =
    let z = other_family x.addr V6 V4 i.number i.v4 e columns.0 refl in
    let o = most_one (same (addr_numbers x.addr) (addr_numbers x.addr)) in
    let h = total_joined (λ a. one_if (same (addr_numbers x.addr) (addr_numbers a.address.addr))) (address_rows i.number i.v4) (record { interface = i.number; address = x } ∷ []) in
    omega (arith, z, o, h)

-- an interface that hasn't the address holds it never
pub holds_none : (a : Addr) (i : Interface) → has_addr a i ≡ false → holds (addr_numbers a) i ≡ 0
holds_none a i e = never (λ y. y.address.addr) a (addresses_of i) (none_any (is_of a) (addresses_of i) (by_interface a i ∙ e))

blackhole_at : (o : Option Addr) (f : Family) (x : IfAddr) (i : Interface) → if_there o false (λ b. same_addr b x.addr) ≡ false → if_there o false (λ b. has_addr b i) ≡ false → if_there o false (λ b. has_addr b (addressed f x i)) ≡ false
blackhole_at None f x i e old = refl
blackhole_at (Some b) V4 x i e old = neither (same_addr x.addr b) (is_at b i.v6) (swapped x.addr b ∙ e) (or_parts (is_at b i.v4) (is_at b i.v6) old).1
blackhole_at (Some b) V6 x i e old = neither (is_at b i.v4) (same_addr x.addr b) (or_parts (is_at b i.v4) (is_at b i.v6) old).0 (swapped x.addr b ∙ e)

pub blackhole_set : (q : Router) (f : Family) (x : IfAddr) (i : Interface) → has_blackhole q x.addr ≡ false → holds_blackhole q i ≡ false → holds_blackhole q (addressed f x i) ≡ false
blackhole_set q f x i e old = blackhole_at q.blackhole f x i e old
