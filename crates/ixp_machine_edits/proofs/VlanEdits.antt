-- Edits of VLANs.
use Rattle.std.proofs.Common.{◌≡◌, ℕ, ◌<◌, Bool, true, false, not, ◌||◌, ◌&&◌, ◌==◌, nat_le, List, [], ◌∷◌, length, Option, Some, None, find as first_with, refl, sym, ap, ◌∙◌, subst, arith}
use Rattle.std.specs.declared.cmp.Ordering.TheVariants.{Equal}
use Rattle.std.specs.List.{AllByRecursion, list_any, list_all}
use Rattle.std.proofs.lemmas.Bool.{or_parts, and_parts, and_from}
use Rattle.ixp_num.specs.declared.family.Family.TheVariants.{V4, V6}
use Rattle.ixp_num.specs.declared.prefix.Prefix.{Prefix}
use Rattle.ixp_num.specs.Prefixes.{covers}
use Rattle.ixp_num.specs.Families.{same_family}
use Rattle.ixp_num_tables.specs.Tables.{order, find, put, without}
use Rattle.ixp_num_tables.proofs.Orders.{all_weaker}
use Rattle.ixp_num_tables.proofs.AllItems.{all_true, any_none, none_any}
use Rattle.ixp_num_tables.proofs.PairLaws.{pairs_put, pairs_without}
use Rattle.ixp_num_tables.proofs.TableLaws.{all_put, all_without, Ascends-put, Ascends-without, find-equal-key}
use Rattle.ixp_num_tables.proofs.Counts.{length_put, length_fewer}
use Rattle.ixp_num_tables.proofs.Looking.{look_put, look_without}
use Rattle.ixp_registry.specs.declared.kind.Kind.TheVariants.{Interfaces, Vlans, Routers}
use Rattle.ixp_registry.specs.declared.network.Vlan.{Vlan}
use Rattle.ixp_registry.specs.declared.registry.Registry.{Registry}
use Rattle.ixp_registry.specs.declared.refusal.Refusal.TheVariants.{BadText, Family as OtherFamily, Overlap, BadRule}
use Rattle.ixp_registry.specs.declared.refusal.RowKey.TheVariants.{Number, Handle}
use Rattle.ixp_registry.specs.declared.refusal.TextField.TheVariants.{Name}
use Rattle.ixp_registry.specs.Alphabets.{is_label}
use Rattle.ixp_registry.specs.Keys.{vlan_key}
use Rattle.ixp_registry.specs.Lookups.{overlap, listed, vlan_prefixes}
use Rattle.ixp_registry.specs.Valid.{Valid, ValidVlan}
use Rattle.ixp_registry.specs.Widths.{VlanFits}
use Rattle.ixp_registry.specs.Words.{is_of, is_vlan_length, overlaps_any}
use Rattle.ixp_plan.proofs.Prefixes.{one_family}
use Rattle.ixp_registry_laws.proofs.Truths.{holds as true_where, neither}
use Rattle.ixp_machine_edits.specs.Tests.{first_refused}
use Rattle.ixp_machine_edits.specs.Interfaces.{with_vlan, add_vlan_tests, without_vlan, drop_vlan_tests}
use Rattle.ixp_machine_edits.proofs.Passing.{no_refusal, passed, holds, unmapped, none_first, is_new, nobody_uses, has_room}
use Rattle.ixp_machine_edits.proofs.Numbers.{apart}
use Rattle.ixp_machine_edits.proofs.Frames.{Keeps, vlans_on}

-- prefixes that overlap with none
overlap_swaps : (p q : Prefix) → overlap p q ≡ false → overlap q p ≡ false
overlap_swaps p q e = let both = or_parts (covers p q) (covers q p) e in neither (covers q p) (covers p q) both.1 both.0

any_swaps : (ps qs : List Prefix) → list_any (overlaps_any ps) qs ≡ false → list_any (overlaps_any qs) ps ≡ false
any_swaps ps qs e = any_none (overlaps_any qs) ps (turned ps (all_of qs e)) where
  all_of : (ys : List Prefix) → list_any (overlaps_any ps) ys ≡ false → AllByRecursion (λ q. AllByRecursion (λ p. overlap p q ≡ false) ps) ys
  all_of [] e = tt
  all_of (y ∷ ys) e = let both = or_parts (overlaps_any ps y) (list_any (overlaps_any ps) ys) e in (none_any (λ p. overlap p y) ps both.0, all_of ys both.1)

  row : (p : Prefix) (xs ys : List Prefix) → AllByRecursion (λ q. AllByRecursion (λ p. overlap p q ≡ false) (p ∷ xs)) ys → AllByRecursion (λ q. overlap q p ≡ false) ys
  row p xs [] all = tt
  row p xs (y ∷ ys) all = (overlap_swaps p y all.0.0, row p xs ys all.1)

  rest : (p : Prefix) (xs ys : List Prefix) → AllByRecursion (λ q. AllByRecursion (λ p. overlap p q ≡ false) (p ∷ xs)) ys → AllByRecursion (λ q. AllByRecursion (λ p. overlap p q ≡ false) xs) ys
  rest p xs [] all = tt
  rest p xs (y ∷ ys) all = (all.0.1, rest p xs ys all.1)

  turned : (xs : List Prefix) → AllByRecursion (λ q. AllByRecursion (λ p. overlap p q ≡ false) xs) qs → AllByRecursion (λ p. overlaps_any qs p ≡ false) xs
  turned [] all = tt
  turned (x ∷ xs) all = (any_none (λ q. overlap q x) qs (row x xs qs all), turned xs (rest x xs qs all))

-- prefixes of two families
families_apart : (a b : Option Prefix) → is_of V4 a ≡ true → is_of V6 b ≡ true → list_any (overlaps_any (listed a)) (listed b) ≡ false
families_apart None None x y = refl
families_apart None (Some q) x y = refl
families_apart (Some p) None x y = refl
families_apart (Some p) (Some q) x y =
    let f : p.family ≡ V4 = one_family p.family V4 (and_parts (same_family p.family V4) true x).0 in
    let g : q.family ≡ V6 = one_family q.family V6 (and_parts (same_family q.family V6) true y).0 in
    let a : same_family p.family q.family ≡ false = ap (λ h. same_family h q.family) f ∙ ap (same_family V4) g in
    let b : same_family q.family p.family ≡ false = ap (λ h. same_family h p.family) g ∙ ap (same_family V6) f in
    any_none (overlaps_any (p ∷ [])) (q ∷ [])
    (any_none (λ z. overlap z q) (p ∷ []) (neither (covers p q) (covers q p) (first_off (same_family p.family q.family) _ _ a) (first_off (same_family q.family p.family) _ _ b), tt), tt)
  where
    first_off : (a b c : Bool) → a ≡ false → (a && b && c) ≡ false
    first_off false b c e = refl
    first_off true b c e = absurd (let bad : ⊥ = cc in bad)

pub vlan_added : (r : Registry) (v : Vlan) → VlanFits v → Valid r → first_refused (add_vlan_tests r v) ≡ None → Valid (record r { vlans = with_vlan v r.vlans })
vlan_added r v fits s ok =
    let vs = r.vlans in
    let number = v.number in
    let t = no_refusal (add_vlan_tests r v) ok in
    let four = holds (is_of V4 v.v4) (OtherFamily V4) t.1.0 in
    let six = holds (is_of V6 v.v6) (OtherFamily V6) t.1.1.0 in
    let fresh : find vlan_key (number ∷ []) vs ≡ None = is_new (λ u. Number u.number) (find vlan_key (number ∷ []) vs) t.1.1.1.0 in
    let free = none_first (λ u. list_any (overlaps_any (vlan_prefixes u)) (vlan_prefixes v)) vs (unmapped (λ u. Overlap u.number) (first_with (λ u. list_any (overlaps_any (vlan_prefixes u)) (vlan_prefixes v)) vs) t.1.1.1.1.0) in
    let bounds = list_all is_vlan_length (vlan_prefixes v) && nat_le 1 v.tag && nat_le v.tag 4094 in
    let numbers = or_parts (number == 0) (not bounds) (passed (number == 0 || not bounds) (BadRule 0) t.1.1.1.1.1.0) in
    let few : length vs < 64 = has_room Vlans (length vs) 64 t.1.1.1.1.1.1.0 in
    let grown = length_put vlan_key v vs s.vlans.order in
    let keeps : (n : ℕ) → Keeps vs (put vlan_key v vs) n = λ n g none was. look_put vlan_key g true v (n ∷ []) vs (λ e now. absurd (
    let gone : find vlan_key (n ∷ []) vs ≡ None = sym (find-equal-key vlan_key (number ∷ []) (n ∷ []) vs e) ∙ fresh in
    let no : g None ≡ true = subst (λ (o : Option Vlan). g o ≡ true) gone now in
    let bad : ⊥ = cc in bad)) was in
    vlans_on r (put vlan_key v vs)
    (record {
      order = Ascends-put vlan_key v vs s.vlans.order;
      each = all_put vlan_key ValidVlan v vs
          (record {
            fits = fits;
            number = numbers.0;
            name = holds (is_label v.name) (BadText Name) t.0;
            bounds = true_where bounds numbers.1;
            families = and_from (is_of V4 v.v4) (is_of V6 v.v6) four six;
            apart = families_apart v.v4 v.v6 four six;
          }) s.vlans.each;
      apart = pairs_put vlan_key (λ u v. list_any (overlaps_any (vlan_prefixes u)) (vlan_prefixes v) ≡ false) v vs s.vlans.order
          (all_weaker (λ u. list_any (overlaps_any (vlan_prefixes u)) (vlan_prefixes v) ≡ false)
          (λ u. (order (vlan_key u) (vlan_key v) ≡ Equal → ⊥) → (list_any (overlaps_any (vlan_prefixes u)) (vlan_prefixes v) ≡ false) × (list_any (overlaps_any (vlan_prefixes v)) (vlan_prefixes u) ≡ false))
          (λ u e far. (e, any_swaps (vlan_prefixes u) (vlan_prefixes v) e)) vs free) s.vlans.apart;
      few = omega (arith, few, grown);
    })
    (all_true (λ i. Keeps vs (put vlan_key v vs) i.vlan) (λ i. keeps i.vlan) r.interfaces)
    (all_true (λ q. Keeps vs (put vlan_key v vs) q.vlan) (λ q. keeps q.vlan) r.routers) s

pub vlan_dropped : (r : Registry) (vlan : ℕ) → Valid r → first_refused (drop_vlan_tests r vlan) ≡ None → Valid (record r { vlans = without_vlan vlan r.vlans })
vlan_dropped r vlan s ok =
    let vs = r.vlans in
    let k = vlan ∷ [] in
    let t = no_refusal (drop_vlan_tests r vlan) ok in
    let no_interface = nobody_uses Interfaces (λ i. Number i.number) (λ i. i.vlan == vlan) r.interfaces t.1.0 in
    let no_router = nobody_uses Routers (λ q. Handle q.handle) (λ q. q.vlan == vlan) r.routers t.1.1.0 in
    let fewer = length_fewer vlan_key k vs s.vlans.order in
    let few = s.vlans.few in
    let keeps : (n : ℕ) → (n == vlan) ≡ false → Keeps vs (without vlan_key k vs) n = λ n far g none was. look_without vlan_key g true (n ∷ []) k vs (apart n vlan far) was in
    vlans_on r (without vlan_key k vs)
    (record {
      order = Ascends-without vlan_key k vs s.vlans.order;
      each = all_without vlan_key ValidVlan k vs s.vlans.each;
      apart = pairs_without vlan_key (λ u v. list_any (overlaps_any (vlan_prefixes u)) (vlan_prefixes v) ≡ false) k vs s.vlans.apart;
      few = omega (arith, fewer, few);
    })
    (all_weaker (λ i. (i.vlan == vlan) ≡ false) (λ i. Keeps vs (without vlan_key k vs) i.vlan) (λ i far. keeps i.vlan far) r.interfaces no_interface)
    (all_weaker (λ q. (q.vlan == vlan) ≡ false) (λ q. Keeps vs (without vlan_key k vs) q.vlan) (λ q far. keeps q.vlan far) r.routers no_router) s
