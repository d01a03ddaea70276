-- The registry with an accepted address keeps the rules on addresses.
use Rattle.std.proofs.Common.{◌≡◌, ℕ, ◌+◌, ◌≤◌, Bool, true, false, ◌&&◌, ◌==◌, nat_le, not, List, [], ◌∷◌, ◌++◌, map, flat_map, Option, Some, None, option_map, Result, Ok, Err, refl, sym, ap, ◌∙◌, subst, arith, if◌then◌else◌}
use Rattle.std.specs.List.{list_any, AllByRecursion}
use Rattle.std.specs.declared.cmp.Ordering.TheVariants.{Equal}
use Rattle.std.specs.Option.{is_some}
use Rattle.std.proofs.lemmas.Bool.{and_parts, or_parts, not-true}
use Rattle.std.proofs.lemmas.List.Folds.{list_any-append}
use Rattle.ixp_num.specs.declared.family.Family.{Family}
use Rattle.ixp_num.specs.declared.family.Family.TheVariants.{V4, V6}
use Rattle.ixp_num.specs.declared.addr.Addr.{Addr}
use Rattle.ixp_num.specs.Families.{same_family}
use Rattle.ixp_num_tables.specs.Tables.{order, Ascends, find, put, if_there}
use Rattle.ixp_num_tables.proofs.Orders.{head_same, all_weaker}
use Rattle.ixp_num_tables.proofs.TableLaws.{find-key}
use Rattle.ixp_registry.specs.declared.kind.Kind.TheVariants.{Interfaces}
use Rattle.ixp_registry.specs.declared.network.IfAddr.{IfAddr}
use Rattle.ixp_registry.specs.declared.network.Interface.{Interface}
use Rattle.ixp_registry.specs.declared.network.InterfaceRow.{InterfaceRow}
use Rattle.ixp_registry.specs.declared.network.AddressRow.{AddressRow}
use Rattle.ixp_registry.specs.declared.router.Router.{Router}
use Rattle.ixp_registry.specs.declared.registry.Registry.{Registry}
use Rattle.ixp_registry.specs.declared.refusal.RowKey.TheVariants.{Number}
use Rattle.ixp_registry.specs.declared.refusal.Refusal.{Refusal}
use Rattle.ixp_registry.specs.declared.refusal.Refusal.TheVariants.{Unknown, Family as OtherFamily, Outside}
use Rattle.ixp_registry.specs.Keys.{interface_key, interface_row_key}
use Rattle.ixp_registry.specs.Lookups.{is_host_in, is_host_at, has_blackhole, prefix_in, has_addr}
use Rattle.ixp_num.specs.Prefixes.{same_addr}
use Rattle.ixp_registry.specs.Lines.{addresses_at, routers_at}
use Rattle.ixp_registry.specs.Places.{times}
use Rattle.ixp_registry.specs.Registries.{bare, addresses_of, rows_of}
use Rattle.ixp_registry.specs.Rules.{is_assigned, may_be_blackhole, blackholes_meet, rules, rule_6, rule_7, rule_15, addresses_are_hosts, routers_are_hosts, secrets_differ, addresses_differ, blackholes_lie_apart, routers_have_blackholes}
use Rattle.ixp_registry.specs.Words.{addr_numbers}
use Rattle.ixp_registry.specs.Valid.{IsIn, Valid, ValidInterface}
use Rattle.ixp_registry_laws.proofs.Bare.{find_bare}
use Rattle.ixp_registry_laws.proofs.Sentences.{unbroken}
use Rattle.ixp_registry_laws.proofs.ToRules.{all_kept}
use Rattle.ixp_plan.specs.Holders.{answers_at, uses}
use Rattle.ixp_plan.specs.Checks.{other_interface, router_with, unless_taken, fits_family, checked, address_check}
use Rattle.ixp_plan.specs.Setting.{addressed, with_address, KeepsAddressRules}
use Rattle.ixp_plan.proofs.Prefixes.{one_family}
use Rattle.ixp_plan.proofs.Firsts.{none_of_first, first_of_none, both_none, none_both, no_rule, moved, any_weaker, none_found}
use Rattle.ixp_plan.proofs.Splits.{Split, splits, all_below, all_above, none_has}
use Rattle.ixp_plan.proofs.Times.{times_both, once, few, never, swapped}
use Rattle.ixp_plan.proofs.Accepting.{new_row, any_kept, bares_kept, key_kept, row_numbers, met, met_once}

ok_parts : (a b : Bool) (e g : Refusal) (z : Result Unit Refusal) → (if not a then Err e else (if not b then Err g else z)) ≡ Ok tt → (a ≡ true) × (b ≡ true) × (z ≡ Ok tt)
ok_parts false b e g z h = absurd (let bad : ⊥ = cc in bad)
ok_parts true false e g z h = absurd (let bad : ⊥ = cc in bad)
ok_parts true true e g z h = (refl, refl, h)

nobody : (o : Option Interface) (q : Option Router) → unless_taken o q ≡ Ok tt → (o ≡ None) × (q ≡ None)
nobody (Some i) q h = absurd (let bad : ⊥ = cc in bad)
nobody None (Some q) h = absurd (let bad : ⊥ = cc in bad)
nobody None None h = (refl, refl)

all_at : (P : Interface → Type 0) (before : List Interface) (i : Interface) (behind : List Interface) → AllByRecursion P (before ++ i ∷ behind) → P i
all_at P [] i behind all = all.0
all_at P (j ∷ before) i behind all = all_at P before i behind all.1

-- the address lies elsewhere than in the VLAN of the interface's row
abbrev pub stray : Registry → List InterfaceRow → AddressRow → Bool
stray r rows y = not (if_there (find interface_row_key (y.interface ∷ []) rows) false (λ j. is_host_in r.vlans j.vlan y.address.addr.family y.address.addr))

-- an accepted address of the interface i, which has the number n
record Accepted (r : Registry) (n : ℕ) (i : Interface) (f : Family) (x : IfAddr) : Type 0 where
  there : find interface_key (n ∷ []) r.interfaces ≡ Some i
  number : i.number ≡ n
  family : x.addr.family ≡ f
  host : is_host_in r.vlans i.vlan f x.addr ≡ true
  split : Split r.interfaces (n ∷ []) i
  changed : put interface_key (addressed f x i) r.interfaces ≡ split.before ++ addressed f x i ∷ split.behind
  none_before : list_any (has_addr x.addr) split.before ≡ false
  none_behind : list_any (has_addr x.addr) split.behind ≡ false
  no_router : list_any (uses x.addr) r.routers ≡ false

accepted : (r : Registry) (n : ℕ) (i : Interface) (f : Family) (x : IfAddr) → Ascends interface_key r.interfaces → find interface_key (n ∷ []) r.interfaces ≡ Some i → checked r f x.addr i ≡ Ok tt → Accepted r n i f x
accepted r n i f x up there ok =
    let a = x.addr in
    let parts = ok_parts (fits_family r i.vlan f a) (is_host_in r.vlans i.vlan f a) (OtherFamily f) (Outside i.vlan) (unless_taken (other_interface r i.number a) (router_with r a)) ok in
    let free = nobody (other_interface r i.number a) (router_with r a) parts.2 in
    let s : Split r.interfaces (n ∷ []) i = splits r.interfaces (n ∷ []) i up there in
    let key : order (interface_key i) (n ∷ []) ≡ Equal = find-key interface_key (n ∷ []) i r.interfaces there in
    let number : i.number ≡ n = head_same i.number n [] [] key in
    let other : Interface → Bool = λ j. not (j.number == i.number) && has_addr a j in
    let others : list_any other r.interfaces ≡ false = none_found other r.interfaces free.0 in
    let parted : list_any other (s.before ++ i ∷ s.behind) ≡ false = sym (ap (list_any other) s.parted) ∙ others in
    let two = or_parts (list_any other s.before) (list_any other (i ∷ s.behind)) (sym (list_any-append other s.before (i ∷ s.behind)) ∙ parted) in
    let three = or_parts (other i) (list_any other s.behind) two.1 in
    record {
      there = there;
      number = number;
      family = one_family a.family f (and_parts (same_family a.family f) (is_some (prefix_in r.vlans i.vlan f)) parts.0).0;
      host = parts.1;
      split = s;
      changed = s.replaced (addressed f x i) (subst (λ (k : List ℕ). order k (n ∷ []) ≡ Equal) (sym (key_kept f x i)) key);
      none_before = none_has a i.number s.before (subst (λ (m : ℕ). AllByRecursion (λ j. (j.number == m) ≡ false) s.before) (sym number) (all_below n s.before s.below)) two.0;
      none_behind = none_has a i.number s.behind (subst (λ (m : ℕ). AllByRecursion (λ j. (j.number == m) ≡ false) s.behind) (sym number) (all_above n s.behind s.above)) three.1;
      no_router = none_found (uses a) r.routers free.1;
    }

abbrev pub changed_to : Registry → Family → IfAddr → Interface → Registry
changed_to r f x i = record r { interfaces = put interface_key (addressed f x i) r.interfaces }

-- the addresses of the new registry, where those of the old one and the new address pass no test
none_after : (r : Registry) (n : ℕ) (i : Interface) (f : Family) (x : IfAddr) → Accepted r n i f x → (p : AddressRow → Bool) → list_any p (flat_map addresses_of r.interfaces) ≡ false → p (new_row x i) ≡ false
    → list_any p (flat_map addresses_of (put interface_key (addressed f x i) r.interfaces)) ≡ false
none_after r n i f x c p old new =
    let s = c.split in
    let old' : list_any p (flat_map addresses_of (s.before ++ i ∷ s.behind)) ≡ false = sym (ap (λ is. list_any p (flat_map addresses_of is)) s.parted) ∙ old in
    ap (λ is. list_any p (flat_map addresses_of is)) c.changed ∙ any_kept p f x s.before i s.behind old' new

bares_same : (r : Registry) (n : ℕ) (i : Interface) (f : Family) (x : IfAddr) → Accepted r n i f x → map bare (put interface_key (addressed f x i) r.interfaces) ≡ map bare r.interfaces
bares_same r n i f x c =
    let s = c.split in
    ap (map bare) c.changed ∙ (bares_kept f x s.before i s.behind ∙ sym (ap (map bare) s.parted))

-- the new address is where it has to be
placed : (r : Registry) (n : ℕ) (i : Interface) (f : Family) (x : IfAddr) → Accepted r n i f x → stray r (map bare r.interfaces) (new_row x i) ≡ false
placed r n i f x c =
    let row : find interface_row_key (i.number ∷ []) (map bare r.interfaces) ≡ Some (bare i) =
    find_bare (i.number ∷ []) r.interfaces ∙ ap (option_map bare) (ap (λ m. find interface_key (m ∷ []) r.interfaces) c.number ∙ c.there) in
    ap (λ o. not (if_there o false (λ j. is_host_in r.vlans j.vlan x.addr.family x.addr))) row
    ∙ ap not (ap (λ g. is_host_in r.vlans i.vlan g x.addr) c.family ∙ c.host)

keeps_6 : (r : Registry) (n : ℕ) (i : Interface) (f : Family) (x : IfAddr) → Accepted r n i f x → rule_6 (rows_of r) ≡ None → rule_6 (rows_of (changed_to r f x i)) ≡ None
keeps_6 r n i f x c old =
    let w = rows_of r in
    let v = rows_of (changed_to r f x i) in
    let parts = both_none (addresses_are_hosts w) (routers_are_hosts w) old in
    let before : list_any (stray r (map bare r.interfaces)) (flat_map addresses_of r.interfaces) ≡ false =
    none_of_first (addresses_at w) (λ y. not (is_host_at w.vlans w.interfaces y.interface y.address.addr)) w.addresses parts.0 in
    let after : list_any (stray r v.interfaces) v.addresses ≡ false =
    ap (λ rows. list_any (stray r rows) v.addresses) (bares_same r n i f x c) ∙ none_after r n i f x c (stray r (map bare r.interfaces)) before (placed r n i f x c) in
    let routers : list_any (λ q. not (is_host_in w.vlans q.vlan q.family q.addr)) r.routers ≡ false =
    none_of_first (routers_at w) (λ q. not (is_host_in w.vlans q.vlan q.family q.addr)) w.routers parts.1 in
    none_both (addresses_are_hosts v) (routers_are_hosts v)
    (first_of_none (addresses_at v) (λ y. not (is_host_at v.vlans v.interfaces y.interface y.address.addr)) v.addresses after)
    (first_of_none (routers_at v) (λ q. not (is_host_in v.vlans q.vlan q.family q.addr)) v.routers routers)

own_none : (a : Addr) (qs : List Router) → list_any (uses a) qs ≡ false → list_any (answers_at a) qs ≡ false
own_none a qs e = any_weaker (uses a) (uses a) (answers_at a) (λ q x y. (or_parts (answers_at a q) (has_blackhole q a) x).0) qs e e

abbrev pub router_keys : List Router → List (List ℕ)
router_keys qs = map (λ q. addr_numbers q.addr) qs

keeps_7 : (r : Registry) (n : ℕ) (i : Interface) (f : Family) (x : IfAddr) → Accepted r n i f x → IsIn V4 i.v4 × IsIn V6 i.v6 → rule_7 (rows_of r) ≡ None → rule_7 (rows_of (changed_to r f x i)) ≡ None
keeps_7 r n i f x c columns old = none_both (secrets_differ (rows_of (changed_to r f x i))) (addresses_differ (rows_of (changed_to r f x i))) parts.0 (once [] (addresses_at (rows_of (changed_to r f x i))) (map row_numbers (rows_of (changed_to r f x i)).addresses ++ router_keys r.routers) (λ q. at_most q)) where
  parts : (secrets_differ (rows_of r) ≡ None) × (addresses_differ (rows_of r) ≡ None)
  parts = both_none (secrets_differ (rows_of r)) (addresses_differ (rows_of r)) old

  at_most : (q : List ℕ) → 0 + times q (map row_numbers (rows_of (changed_to r f x i)).addresses ++ router_keys r.routers) ≤ 1
  at_most q =
      let s = c.split in
      let rest = times q (router_keys r.routers) in
      let was : 0 + times q (map row_numbers (rows_of r).addresses ++ router_keys r.routers) ≤ 1 = few [] (addresses_at (rows_of r)) (map row_numbers (rows_of r).addresses ++ router_keys r.routers) parts.1 q (omega arith) in
      let both : times q (map row_numbers (rows_of r).addresses ++ router_keys r.routers) ≡ met q (rows_of r).addresses + rest = times_both q (map row_numbers (rows_of r).addresses) (router_keys r.routers) in
      let both' : times q (map row_numbers (rows_of (changed_to r f x i)).addresses ++ router_keys r.routers) ≡ met q (rows_of (changed_to r f x i)).addresses + rest = times_both q (map row_numbers (rows_of (changed_to r f x i)).addresses) (router_keys r.routers) in
      let parted : met q (rows_of r).addresses ≡ met q (flat_map addresses_of (s.before ++ i ∷ s.behind)) = ap (λ is. met q (flat_map addresses_of is)) s.parted in
      let changed : met q (rows_of (changed_to r f x i)).addresses ≡ met q (flat_map addresses_of (s.before ++ addressed f x i ∷ s.behind)) = ap (λ is. met q (flat_map addresses_of is)) c.changed in
      let none : (q ≡ addr_numbers x.addr) → rest ≡ 0 =
      λ it. subst (λ (k : List ℕ). times k (router_keys r.routers) ≡ 0) (sym it) (never (λ y. y.addr) x.addr r.routers (own_none x.addr r.routers c.no_router)) in
      let now : met q (flat_map addresses_of (s.before ++ addressed f x i ∷ s.behind)) + rest ≤ 1 =
      met_once q f x s.before i s.behind rest c.family columns c.none_before c.none_behind none (omega (arith, was, both, parted)) in
      omega (arith, both', changed, now)

pub not_false : (b : Bool) → not b ≡ false → b ≡ true
not_false true e = refl
not_false false e = absurd (let bad : ⊥ = cc in bad)

keeps_15 : (r : Registry) (n : ℕ) (i : Interface) (f : Family) (x : IfAddr) → Accepted r n i f x → rule_15 (rows_of r) ≡ None → rule_15 (rows_of (changed_to r f x i)) ≡ None
keeps_15 r n i f x c old =
    none_both (blackholes_lie_apart (rows_of (changed_to r f x i))) (routers_have_blackholes (rows_of (changed_to r f x i))) (moved blackholes_meet [] (routers_at (rows_of r)) (routers_at (rows_of (changed_to r f x i))) r.routers parts.0)
    (first_of_none (routers_at (rows_of (changed_to r f x i))) (λ q. not (if_there q.blackhole true (may_be_blackhole (rows_of (changed_to r f x i)) q) && nat_le q.max_comms 1000)) r.routers
    (any_weaker (λ q. not (if_there q.blackhole true (may_be_blackhole (rows_of r) q) && nat_le q.max_comms 1000)) (uses x.addr)
    (λ q. not (if_there q.blackhole true (may_be_blackhole (rows_of (changed_to r f x i)) q) && nat_le q.max_comms 1000)) (λ q was free. by_hole q q.blackhole was (or_parts (answers_at x.addr q) (has_blackhole q x.addr) free).1) r.routers
    (none_of_first (routers_at (rows_of r)) (λ q. not (if_there q.blackhole true (may_be_blackhole (rows_of r) q) && nat_le q.max_comms 1000)) r.routers parts.1) c.no_router))
  where
    parts : (blackholes_lie_apart (rows_of r) ≡ None) × (routers_have_blackholes (rows_of r) ≡ None)
    parts = both_none (blackholes_lie_apart (rows_of r)) (routers_have_blackholes (rows_of r)) old

    by_hole : (q : Router) (o : Option Addr) → not (if_there o true (may_be_blackhole (rows_of r) q) && nat_le q.max_comms 1000) ≡ false → if_there o false (λ b. same_addr b x.addr) ≡ false
        → not (if_there o true (may_be_blackhole (rows_of (changed_to r f x i)) q) && nat_le q.max_comms 1000) ≡ false
    by_hole q None was free = was
    by_hole q (Some b) was free =
        let bound = nat_le q.max_comms 1000 in
        let lawful = same_family b.family q.family && is_host_in r.vlans q.vlan q.family b in
        let routable = not (q.asn.0 == 65535) in
        let all : (may_be_blackhole (rows_of r) q b && bound) ≡ true = not_false (may_be_blackhole (rows_of r) q b && bound) was in
        let first = and_parts (may_be_blackhole (rows_of r) q b) bound all in
        let second = and_parts (lawful && not (is_assigned (rows_of r).addresses b)) routable first.0 in
        let nobody : is_assigned (rows_of r).addresses b ≡ false = not-true (is_assigned (rows_of r).addresses b) (and_parts lawful (not (is_assigned (rows_of r).addresses b)) second.0).1 in
        let still : is_assigned (rows_of (changed_to r f x i)).addresses b ≡ false = none_after r n i f x c (λ y. same_addr y.address.addr b) nobody (swapped x.addr b ∙ free) in
        ap (λ h. not ((lawful && not h && routable) && bound)) (still ∙ sym nobody) ∙ was

pub kept : (r : Registry) (n : ℕ) (f : Family) (x : IfAddr) → Valid r → address_check r n f x.addr ≡ Ok tt → KeepsAddressRules (with_address r n f x)
kept r n f x valid ok = by_found (find interface_key (n ∷ []) r.interfaces) refl ok where
  all : AllByRecursion (λ (p : Option ℕ). p ≡ None) (rules (rows_of r))
  all = no_rule 1 (rules (rows_of r)) (unbroken (rows_of r) (all_kept r valid))

  columned : AllByRecursion (λ (j : Interface). IsIn V4 j.v4 × IsIn V6 j.v6) r.interfaces
  columned = all_weaker ValidInterface (λ j. IsIn V4 j.v4 × IsIn V6 j.v6) (λ j v. v.columns) r.interfaces valid.interfaces.each

  set : (i : Interface) → find interface_key (n ∷ []) r.interfaces ≡ Some i → checked r f x.addr i ≡ Ok tt → KeepsAddressRules (changed_to r f x i)
  set i there e =
      let c : Accepted r n i f x = accepted r n i f x valid.interfaces.order there e in
      let s = c.split in
      let columns : IsIn V4 i.v4 × IsIn V6 i.v6 =
      all_at (λ j. IsIn V4 j.v4 × IsIn V6 j.v6) s.before i s.behind (subst (λ (is : List Interface). AllByRecursion (λ j. IsIn V4 j.v4 × IsIn V6 j.v6) is) s.parted columned) in
      (keeps_6 r n i f x c all.1.1.1.1.1.0, keeps_7 r n i f x c columns all.1.1.1.1.1.1.0, keeps_15 r n i f x c all.1.1.1.1.1.1.1.1.1.1.1.1.1.1.0)

  by_found : (o : Option Interface) → find interface_key (n ∷ []) r.interfaces ≡ o → if_there o (Err (Unknown Interfaces (Number n))) (checked r f x.addr) ≡ Ok tt
      → KeepsAddressRules (if_there o r (λ i. changed_to r f x i))
  by_found None at e = absurd (let bad : ⊥ = cc in bad)
  by_found (Some i) at e = set i at e
