-- An address with which the registry keeps the rules on addresses is accepted.
use Rattle.std.proofs.Common.{◌≡◌, ℕ, suc, ◌+◌, ◌≤◌, Bool, true, false, ◌&&◌, ◌||◌, ◌==◌, nat_le, not, List, [], ◌∷◌, ◌++◌, map, flat_map, Option, Some, None, option_map, Ok, Err, find as found, refl, sym, ap, ◌∙◌, subst, arith, eq-eqb, cond, if◌then◌else◌}
use Rattle.std.specs.List.{list_any}
use Rattle.std.specs.declared.cmp.Ordering.TheVariants.{Equal}
use Rattle.std.specs.Option.{is_some}
use Rattle.std.proofs.Math.Bool.{and-false}
use Rattle.std.proofs.lemmas.Bool.{and_parts, or_parts, not-true, and_from}
use Rattle.std.proofs.lemmas.List.Folds.{list_any-append}
use Rattle.ixp_num.specs.declared.family.Family.{Family}
use Rattle.ixp_num.specs.declared.family.Family.TheVariants.{V4, V6}
use Rattle.ixp_num.specs.declared.addr.Addr.{Addr}
use Rattle.ixp_num.specs.declared.prefix.Prefix.{Prefix}
use Rattle.ixp_num.specs.Families.{same_family}
use Rattle.ixp_num_tables.specs.Tables.{order, Ascends, find, put, if_there, same}
use Rattle.ixp_num_tables.proofs.Orders.{head_same}
use Rattle.ixp_num_tables.proofs.TableLaws.{find-key}
use Rattle.ixp_registry.specs.declared.kind.Kind.TheVariants.{Interfaces}
use Rattle.ixp_registry.specs.declared.network.IfAddr.{IfAddr}
use Rattle.ixp_registry.specs.declared.network.Interface.{Interface}
use Rattle.ixp_registry.specs.declared.network.AddressRow.{AddressRow}
use Rattle.ixp_registry.specs.declared.router.Router.{Router}
use Rattle.ixp_registry.specs.declared.registry.Registry.{Registry}
use Rattle.ixp_registry.specs.declared.refusal.RowKey.TheVariants.{Number}
use Rattle.ixp_registry.specs.declared.refusal.Refusal.TheVariants.{Unknown, Family as OtherFamily, Outside}
use Rattle.ixp_registry.specs.Keys.{vlan_key, interface_key, interface_row_key}
use Rattle.ixp_registry.specs.Lookups.{is_host, is_host_in, is_host_at, has_blackhole, prefix_in, has_addr}
use Rattle.ixp_num.specs.Prefixes.{same_addr}
use Rattle.ixp_registry.specs.Lines.{addresses_at, routers_at}
use Rattle.ixp_registry.specs.Places.{times}
use Rattle.ixp_registry.specs.Registries.{bare, address_rows, addresses_of, rows_of}
use Rattle.ixp_registry.specs.Rules.{is_assigned, may_be_blackhole, rule_6, rule_7, rule_15, addresses_are_hosts, routers_are_hosts, secrets_differ, addresses_differ, blackholes_lie_apart, routers_have_blackholes}
use Rattle.ixp_registry.specs.Words.{addr_numbers}
use Rattle.ixp_registry_laws.proofs.Bare.{find_bare}
use Rattle.ixp_num_tables.proofs.Counts.{same_itself}
use Rattle.ixp_registry.specs.Valid.{Valid}
use Rattle.ixp_plan.specs.Holders.{answers_at, uses}
use Rattle.ixp_plan.specs.Free.{IsFree}
use Rattle.ixp_plan.specs.Checks.{other_interface, router_with, unless_taken, fits_family, checked, address_check}
use Rattle.ixp_plan.specs.Setting.{addressed, with_address, KeepsAddressRules}
use Rattle.ixp_plan.proofs.Prefixes.{family_itself}
use Rattle.ixp_plan.proofs.Search.{by_prefix}
use Rattle.ixp_plan.proofs.Takings.{by_interfaces}
use Rattle.ixp_plan.proofs.Firsts.{none_of_first, both_none, any_weaker}
use Rattle.ixp_plan.proofs.Splits.{Split, splits}
use Rattle.ixp_plan.proofs.Times.{numbers_same, swapped, times_both, few}
use Rattle.ixp_plan.proofs.Accepting.{new_row, any_parts, none_of_both, bares_kept, key_kept, row_numbers, met, met_parts, met_own, one_if, other_column}
use Rattle.ixp_plan.proofs.Keeping.{changed_to, router_keys, stray, not_false}

found_none : {R : Type 0} (p : R → Bool) (rs : List R) → list_any p rs ≡ false → found p rs ≡ None
found_none p [] e = refl
found_none p (r ∷ rs) e =
    let parts = or_parts (p r) (list_any p rs) e in
    ap (λ b. cond b (Some r) (found p rs)) parts.0 ∙ found_none p rs parts.1

-- an address whose numbers aren't met among the items is none of theirs
not_met : {R : Type 0} (g : R → Addr) (a : Addr) (rs : List R) → times (addr_numbers a) (map (λ r. addr_numbers (g r)) rs) ≡ 0 → list_any (λ r. same_addr (g r) a) rs ≡ false
not_met g a [] e = refl
not_met g a (r ∷ rs) e = by_test (not_met g a rs) (same (addr_numbers a) (addr_numbers (g r))) refl e where
  by_test : (times (addr_numbers a) (map (λ r. addr_numbers (g r)) rs) ≡ 0 → list_any (λ r. same_addr (g r) a) rs ≡ false) → (b : Bool) → same (addr_numbers a) (addr_numbers (g r)) ≡ b
      → (if b then suc (times (addr_numbers a) (map (λ r. addr_numbers (g r)) rs)) else times (addr_numbers a) (map (λ r. addr_numbers (g r)) rs)) ≡ 0
      → (same_addr (g r) a || list_any (λ r. same_addr (g r) a) rs) ≡ false
  by_test again true h e = absurd (omega (arith, e))
  by_test again false h e = none_of_both (same_addr (g r) a) (list_any (λ r. same_addr (g r) a) rs) (swapped (g r) a ∙ (sym (numbers_same a (g r)) ∙ h)) (again e)

own_none : (p : AddressRow → Bool) (f : Family) (x : IfAddr) (i : Interface) → list_any p (addresses_of (addressed f x i)) ≡ false → p (new_row x i) ≡ false
own_none p V4 x i e = (or_parts (p (new_row x i)) (list_any p (address_rows i.number i.v6)) e).0
own_none p V6 x i e =
    let parts = or_parts (list_any p (address_rows i.number i.v4)) (p (new_row x i) || false) (sym (list_any-append p (address_rows i.number i.v4) (new_row x i ∷ [])) ∙ e) in
    (or_parts (p (new_row x i)) false parts.1).0

-- the interface i, which has the number n, among the others
record Changed (r : Registry) (n : ℕ) (i : Interface) (f : Family) (x : IfAddr) : Type 0 where
  there : find interface_key (n ∷ []) r.interfaces ≡ Some i
  number : i.number ≡ n
  split : Split r.interfaces (n ∷ []) i
  changed : put interface_key (addressed f x i) r.interfaces ≡ split.before ++ addressed f x i ∷ split.behind

changes : (r : Registry) (n : ℕ) (i : Interface) (f : Family) (x : IfAddr) → Ascends interface_key r.interfaces → find interface_key (n ∷ []) r.interfaces ≡ Some i → Changed r n i f x
changes r n i f x up there =
    let s : Split r.interfaces (n ∷ []) i = splits r.interfaces (n ∷ []) i up there in
    let key : order (interface_key i) (n ∷ []) ≡ Equal = find-key interface_key (n ∷ []) i r.interfaces there in
    record {
      there = there;
      number = head_same i.number n [] [] key;
      split = s;
      changed = s.replaced (addressed f x i) (subst (λ (k : List ℕ). order k (n ∷ []) ≡ Equal) (sym (key_kept f x i)) key);
    }

-- what no address passes afterwards, the new one doesn't
new_none : (r : Registry) (n : ℕ) (i : Interface) (f : Family) (x : IfAddr) → Changed r n i f x → (p : AddressRow → Bool) → list_any p (flat_map addresses_of (put interface_key (addressed f x i) r.interfaces)) ≡ false → p (new_row x i) ≡ false
new_none r n i f x c p e =
    let s = c.split in
    let e' : list_any p (flat_map addresses_of (s.before ++ addressed f x i ∷ s.behind)) ≡ false = sym (ap (λ is. list_any p (flat_map addresses_of is)) c.changed) ∙ e in
    let parts = or_parts (list_any p (flat_map addresses_of s.before)) (list_any p (addresses_of (addressed f x i)) || list_any p (flat_map addresses_of s.behind)) (sym (any_parts p s.before (addressed f x i) s.behind) ∙ e') in
    own_none p f x i (or_parts (list_any p (addresses_of (addressed f x i))) (list_any p (flat_map addresses_of s.behind)) parts.1).0

is_placed : (r : Registry) (n : ℕ) (i : Interface) (f : Family) (x : IfAddr) → Changed r n i f x → x.addr.family ≡ f → rule_6 (rows_of (changed_to r f x i)) ≡ None → is_host_in r.vlans i.vlan f x.addr ≡ true
is_placed r n i f x c family kept =
    let s = c.split in
    let parts = both_none (addresses_are_hosts (rows_of (changed_to r f x i))) (routers_are_hosts (rows_of (changed_to r f x i))) kept in
    let none : list_any (stray r (map bare (put interface_key (addressed f x i) r.interfaces))) (flat_map addresses_of (put interface_key (addressed f x i) r.interfaces)) ≡ false =
    none_of_first (addresses_at (rows_of (changed_to r f x i))) (λ y. not (is_host_at (rows_of (changed_to r f x i)).vlans (rows_of (changed_to r f x i)).interfaces y.interface y.address.addr)) (rows_of (changed_to r f x i)).addresses parts.0 in
    let bares : map bare (put interface_key (addressed f x i) r.interfaces) ≡ map bare r.interfaces = ap (map bare) c.changed ∙ (bares_kept f x s.before i s.behind ∙ sym (ap (map bare) s.parted)) in
    let here : stray r (map bare r.interfaces) (new_row x i) ≡ false =
    sym (ap (λ rows. stray r rows (new_row x i)) bares) ∙ new_none r n i f x c (stray r (map bare (put interface_key (addressed f x i) r.interfaces))) none in
    let row : find interface_row_key (i.number ∷ []) (map bare r.interfaces) ≡ Some (bare i) =
    find_bare (i.number ∷ []) r.interfaces ∙ ap (option_map bare) (ap (λ m. find interface_key (m ∷ []) r.interfaces) c.number ∙ c.there) in
    let host : not (is_host_in r.vlans i.vlan x.addr.family x.addr) ≡ false =
    sym (ap (λ o. not (if_there o false (λ j. is_host_in r.vlans j.vlan x.addr.family x.addr))) row) ∙ here in
    sym (ap (λ g. is_host_in r.vlans i.vlan g x.addr) family) ∙ not_false (is_host_in r.vlans i.vlan x.addr.family x.addr) host

has_prefix : (r : Registry) (vlan : ℕ) (f : Family) (a : Addr) → is_host_in r.vlans vlan f a ≡ true → is_some (prefix_in r.vlans vlan f) ≡ true
has_prefix r vlan f a host = by_found (prefix_in r.vlans vlan f) (sym (by_prefix (find vlan_key (vlan ∷ []) r.vlans) f (λ q. is_host q a)) ∙ host) where
  by_found : (o : Option Prefix) → if_there o false (λ q. is_host q a) ≡ true → is_some o ≡ true
  by_found None e = absurd (let bad : ⊥ = cc in bad)
  by_found (Some p) e = refl

-- nobody else has the address
record Alone (r : Registry) (n : ℕ) (i : Interface) (f : Family) (x : IfAddr) (before behind : List Interface) : Type 0 where
  none_before : list_any (has_addr x.addr) before ≡ false
  none_behind : list_any (has_addr x.addr) behind ≡ false
  no_router : list_any (answers_at x.addr) r.routers ≡ false

is_alone : (r : Registry) (n : ℕ) (i : Interface) (f : Family) (x : IfAddr) (c : Changed r n i f x) → rule_7 (rows_of (changed_to r f x i)) ≡ None → Alone r n i f x c.split.before c.split.behind
is_alone r n i f x c kept =
    let s = c.split in
    let q = addr_numbers x.addr in
    let fm = flat_map addresses_of (put interface_key (addressed f x i) r.interfaces) in
    let rest = times q (router_keys r.routers) in
    let parts = both_none (secrets_differ (rows_of (changed_to r f x i))) (addresses_differ (rows_of (changed_to r f x i))) kept in
    let most : 0 + times q (map row_numbers fm ++ router_keys r.routers) ≤ 1 = few [] (addresses_at (rows_of (changed_to r f x i))) (map row_numbers fm ++ router_keys r.routers) parts.1 q (omega arith) in
    let both : times q (map row_numbers fm ++ router_keys r.routers) ≡ met q fm + rest = times_both q (map row_numbers fm) (router_keys r.routers) in
    let changed : met q fm ≡ met q (flat_map addresses_of (s.before ++ addressed f x i ∷ s.behind)) = ap (λ is. met q (flat_map addresses_of is)) c.changed in
    let all : met q (flat_map addresses_of (s.before ++ addressed f x i ∷ s.behind)) ≡ met q (flat_map addresses_of s.before) + (met q (addresses_of (addressed f x i)) + met q (flat_map addresses_of s.behind)) =
    met_parts q s.before (addressed f x i) s.behind in
    let own : met q (addresses_of (addressed f x i)) ≡ met q (address_rows i.number (other_column f i)) + one_if (same q q) = met_own q f x i in
    let once : one_if (same q q) ≡ 1 = ap one_if (same_itself q) in
    let before : met q (flat_map addresses_of s.before) ≡ 0 = omega (arith, most, both, changed, all, own, once) in
    let behind : met q (flat_map addresses_of s.behind) ≡ 0 = omega (arith, most, both, changed, all, own, once) in
    let routers : rest ≡ 0 = omega (arith, most, both, changed, all, own, once) in
    record {
      none_before = sym (by_interfaces x.addr s.before) ∙ not_met (λ (y : AddressRow). y.address.addr) x.addr (flat_map addresses_of s.before) before;
      none_behind = sym (by_interfaces x.addr s.behind) ∙ not_met (λ (y : AddressRow). y.address.addr) x.addr (flat_map addresses_of s.behind) behind;
      no_router = not_met (λ (y : Router). y.addr) x.addr r.routers routers;
    }

no_blackhole : (r : Registry) (n : ℕ) (i : Interface) (f : Family) (x : IfAddr) → Changed r n i f x → rule_15 (rows_of (changed_to r f x i)) ≡ None → list_any (λ q. has_blackhole q x.addr) r.routers ≡ false
no_blackhole r n i f x c kept =
    any_weaker (λ q. not (if_there q.blackhole true (may_be_blackhole (rows_of (changed_to r f x i)) q) && nat_le q.max_comms 1000))
    (λ q. not (if_there q.blackhole true (may_be_blackhole (rows_of (changed_to r f x i)) q) && nat_le q.max_comms 1000)) (λ q. has_blackhole q x.addr) (λ q is again. by_hole q q.blackhole is) r.routers none none
  where
    none : list_any (λ q. not (if_there q.blackhole true (may_be_blackhole (rows_of (changed_to r f x i)) q) && nat_le q.max_comms 1000)) r.routers ≡ false
    none =
        let parts = both_none (blackholes_lie_apart (rows_of (changed_to r f x i))) (routers_have_blackholes (rows_of (changed_to r f x i))) kept in
        none_of_first (routers_at (rows_of (changed_to r f x i))) (λ q. not (if_there q.blackhole true (may_be_blackhole (rows_of (changed_to r f x i)) q) && nat_le q.max_comms 1000)) r.routers parts.1

    by_hole : (q : Router) (o : Option Addr) → not (if_there o true (may_be_blackhole (rows_of (changed_to r f x i)) q) && nat_le q.max_comms 1000) ≡ false → if_there o false (λ b. same_addr b x.addr) ≡ false
    by_hole q None is = refl
    by_hole q (Some b) is =
        let bound = nat_le q.max_comms 1000 in
        let lawful = same_family b.family q.family && is_host_in r.vlans q.vlan q.family b in
        let routable = not (q.asn.0 == 65535) in
        let hole = may_be_blackhole (rows_of (changed_to r f x i)) q b in
        let first = and_parts hole bound (not_false (hole && bound) is) in
        let second = and_parts (lawful && not (is_assigned (rows_of (changed_to r f x i)).addresses b)) routable first.0 in
        let nobody : is_assigned (rows_of (changed_to r f x i)).addresses b ≡ false = not-true (is_assigned (rows_of (changed_to r f x i)).addresses b) (and_parts lawful (not (is_assigned (rows_of (changed_to r f x i)).addresses b)) second.0).1 in
        swapped b x.addr ∙ new_none r n i f x c (λ y. same_addr y.address.addr b) nobody

others_none : (a : Addr) (m : ℕ) (is : List Interface) → list_any (has_addr a) is ≡ false → list_any (λ j. not (j.number == m) && has_addr a j) is ≡ false
others_none a m is e =
    any_weaker (has_addr a) (has_addr a) (λ j. not (j.number == m) && has_addr a j) (λ j x y. ap (λ b. not (j.number == m) && b) x ∙ and-false (not (j.number == m))) is e e

no_other : (r : Registry) (n : ℕ) (i : Interface) (f : Family) (x : IfAddr) (c : Changed r n i f x) → Alone r n i f x c.split.before c.split.behind → other_interface r i.number x.addr ≡ None
no_other r n i f x c alone =
    let s = c.split in
    let a = x.addr in
    let other : Interface → Bool = λ j. not (j.number == i.number) && has_addr a j in
    let itself : other i ≡ false = ap (λ b. not b && has_addr a i) (eq-eqb i.number i.number refl) in
    let none : list_any other (s.before ++ i ∷ s.behind) ≡ false =
    list_any-append other s.before (i ∷ s.behind)
    ∙ none_of_both (list_any other s.before) (other i || list_any other s.behind) (others_none a i.number s.before alone.none_before)
    (none_of_both (other i) (list_any other s.behind) itself (others_none a i.number s.behind alone.none_behind)) in
    found_none other r.interfaces (ap (list_any other) s.parted ∙ none)

no_user : (a : Addr) (qs : List Router) → list_any (answers_at a) qs ≡ false → list_any (λ q. has_blackhole q a) qs ≡ false → found (uses a) qs ≡ None
no_user a qs own hole =
    found_none (uses a) qs (any_weaker (answers_at a) (λ q. has_blackhole q a) (uses a) (λ q x y. none_of_both (answers_at a q) (has_blackhole q a) x y) qs own hole)

-- an address of the family that may be had, and that nobody else has, passes all tests
all_pass : (r : Registry) (i : Interface) (f : Family) (a : Addr) → a.family ≡ f → is_host_in r.vlans i.vlan f a ≡ true → other_interface r i.number a ≡ None → router_with r a ≡ None → checked r f a i ≡ Ok tt
all_pass r i f a family host other router =
    let fits : fits_family r i.vlan f a ≡ true =
    and_from (same_family a.family f) (is_some (prefix_in r.vlans i.vlan f)) (ap (λ g. same_family g f) family ∙ family_itself f) (has_prefix r i.vlan f a host) in
    let rest : unless_taken (other_interface r i.number a) (router_with r a) ≡ Ok tt = ap (λ o. unless_taken o (router_with r a)) other ∙ ap (unless_taken None) router in
    ap (λ b. if not b then Err (OtherFamily f) else (if not (is_host_in r.vlans i.vlan f a) then Err (Outside i.vlan) else unless_taken (other_interface r i.number a) (router_with r a))) fits
    ∙ (ap (λ b. if not b then Err (Outside i.vlan) else unless_taken (other_interface r i.number a) (router_with r a)) host ∙ rest)

passes : (r : Registry) (n : ℕ) (i : Interface) (f : Family) (x : IfAddr) → Changed r n i f x → x.addr.family ≡ f → KeepsAddressRules (changed_to r f x i) → checked r f x.addr i ≡ Ok tt
passes r n i f x c family kept =
    let alone : Alone r n i f x c.split.before c.split.behind = is_alone r n i f x c kept.1 in
    all_pass r i f x.addr family (is_placed r n i f x c family kept.0) (no_other r n i f x c alone)
    (no_user x.addr r.routers alone.no_router (no_blackhole r n i f x c kept.2))

-- what is free is accepted
pub welcome : (r : Registry) (n : ℕ) (i : Interface) (f : Family) (a : Addr) → find interface_key (n ∷ []) r.interfaces ≡ Some i → IsFree r i.vlan f a → a.family ≡ f → address_check r n f a ≡ Ok tt
welcome r n i f a there free family =
    let parts = or_parts (list_any (has_addr a) r.interfaces) (list_any (uses a) r.routers) free.1 in
    let other : Interface → Bool = λ j. not (j.number == i.number) && has_addr a j in
    ap (λ o. if_there o (Err (Unknown Interfaces (Number n))) (checked r f a)) there
    ∙ all_pass r i f a family free.0 (found_none other r.interfaces (others_none a i.number r.interfaces parts.0)) (found_none (uses a) r.routers parts.1)

pub admitted : (r : Registry) (n : ℕ) (f : Family) (x : IfAddr) → Valid r → is_some (find interface_key (n ∷ []) r.interfaces) ≡ true → x.addr.family ≡ f → KeepsAddressRules (with_address r n f x) → address_check r n f x.addr ≡ Ok tt
admitted r n f x valid there family kept = by_found (find interface_key (n ∷ []) r.interfaces) refl there kept where
  by_found : (o : Option Interface) → find interface_key (n ∷ []) r.interfaces ≡ o → is_some o ≡ true → KeepsAddressRules (if_there o r (λ i. changed_to r f x i)) → if_there o (Err (Unknown Interfaces (Number n))) (checked r f x.addr) ≡ Ok tt
  by_found None at there kept = absurd (let bad : ⊥ = cc in bad)
  by_found (Some i) at there kept = passes r n i f x (changes r n i f x valid.interfaces.order at) family kept
