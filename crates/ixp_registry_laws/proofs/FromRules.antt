-- What stands where no rule is broken, table by table.
use Rattle.std.proofs.Common.{◌≡◌, ◌≢◌, ℕ, ◌+◌, ◌≤◌, Bool, true, false, not, ◌&&◌, ◌||◌, ◌==◌, nat_le, List, [], ◌∷◌, ◌++◌, map, flat_map, Option, Some, None, option_map, refl, sym, ap, ◌∙◌, subst, arith}
use Rattle.std.specs.List.{AllByRecursion, list_any, list_all}
use Rattle.std.proofs.lemmas.Bool.{and_parts, or_parts}
use Rattle.ixp_num.specs.declared.addr.Addr.{Addr}
use Rattle.ixp_num.specs.declared.family.Family.TheVariants.{V4, V6}
use Rattle.ixp_num.specs.declared.prefix.Prefix.{Prefix}
use Rattle.ixp_num.specs.declared.asn.Asn.{Asn}
use Rattle.ixp_num.specs.AddressForms.{version_of}
use Rattle.ixp_num.specs.Families.{same_family}
use Rattle.ixp_num_tables.specs.Tables.{find, if_there, same}
use Rattle.ixp_num_tables.specs.Sums.{total, one_if}
use Rattle.ixp_num_tables.proofs.AllItems.{all_both, all_true, zip, zip3, zip4, zip5, all_mapped, mapped_all, all_flat, none_any}
use Rattle.ixp_num_tables.proofs.Looking.{all_found_there}
use Rattle.ixp_num_tables.proofs.Orders.{all_weaker}
use Rattle.ixp_num_tables.proofs.SumLaws.{total_flat, total_map}
use Rattle.ixp_registry.specs.declared.network.IfAddr.{IfAddr}
use Rattle.ixp_registry.specs.declared.network.AddressRow.{AddressRow}
use Rattle.ixp_registry.specs.declared.network.InterfaceRow.{InterfaceRow}
use Rattle.ixp_registry.specs.declared.router.Router.{Router}
use Rattle.ixp_registry.specs.declared.lists.IrrList.{IrrList}
use Rattle.ixp_registry.specs.declared.lists.OriginList.{OriginList}
use Rattle.ixp_registry.specs.declared.lists.MemberPrefix.{MemberPrefix}
use Rattle.ixp_registry.specs.declared.lists.MemberOrigin.{MemberOrigin}
use Rattle.ixp_registry.specs.declared.rules.MemberRule.{MemberRule}
use Rattle.ixp_registry.specs.declared.rules.RuleList.{RuleList}
use Rattle.ixp_registry.specs.declared.registry.Registry.{Registry}
use Rattle.ixp_registry.specs.declared.rows.Rows.{Rows}
use Rattle.ixp_registry.specs.Alphabets.{is_label, is_note, is_macro, is_session_secret, is_key_secret, is_handle}
use Rattle.ixp_registry.specs.Keys.{interface_key, interface_row_key, irr_key, origins_key, rules_key}
use Rattle.ixp_registry.specs.Lines.{site_at, members_at, contacts_at, keys_at, switches_at, ports_at, vlans_at, interfaces_at, addresses_at, routers_at, prefixes_at, origins_at, rules_at, bogons_at, bogon_as_at, transit_at, roas_at}
use Rattle.ixp_registry.specs.Lookups.{has_member, has_switch, has_port, has_vlan, has_owner, is_port_of, has_left, listed, vlan_prefixes, is_host_in, is_host_at, is_at, has_addr, has_blackhole}
use Rattle.ixp_num.specs.Prefixes.{same_addr}
use Rattle.ixp_registry.specs.Places.{times}
use Rattle.ixp_registry.specs.Registries.{rows_of, bare, address_rows, addresses_of, prefixes_of, origins_of, rules_in}
use Rattle.ixp_registry.specs.Rules.{list_weight, is_assigned, may_be_blackhole}
use Rattle.ixp_registry.specs.Valid.{Valid, ValidMembers, ValidContacts, ValidKeys, ValidSwitches, ValidPorts, ValidVlans, ValidInterfaces, ValidRouters, ValidIrr, ValidOrigins, ValidRules, ValidPublic, holds as times_held, answers as times_answered}
use Rattle.ixp_registry.specs.Weight.{weight}
use Rattle.ixp_registry.specs.Widths.{RouterFits}
use Rattle.ixp_registry.specs.Words.{is_reserved, is_vlan_length, overlaps_any, is_of, addr_numbers, owner_numbers, is_staff_number, is_lawful, has_bounds, pattern_has_bounds, range_ascends, roa_has_bounds}
use Rattle.ixp_registry_laws.specs.WellFormed.{IsWellFormed, IsPrefixList, IsRuleList}
use Rattle.ixp_registry_laws.proofs.Bare.{find_bare, own_addresses}
use Rattle.ixp_registry_laws.proofs.LineForms.{first_all, beyond_often, over_within, heavy_within, earlier_pairs, beside_follow, few, times_both, times_count}
use Rattle.ixp_registry_laws.proofs.Lists.{length_flat, length_map, lengths_same, listed_few, follow_placed}
use Rattle.ixp_registry_laws.proofs.OneWeight.{one_weight}
use Rattle.ixp_registry_laws.proofs.Sentences.{Sentences}
use Rattle.ixp_registry_laws.proofs.Truths.{holds, all_hold, both_true, neither}

module _ (r : Registry) (f : IsWellFormed r) (s : Sentences (rows_of r)) where
  abbrev w : Rows
  w = rows_of r

  pub members_valid : ValidMembers r.members
  members_valid =
      let ms = r.members in
      record {
        order = f.ordered.members;
        each = zip4 ms f.fit.members (first_all members_at (λ m. m.number == 0) ms s.one.0) (all_hold (λ m. is_macro m.as_macro && is_label m.name) ms (first_all members_at (λ m. not (is_macro m.as_macro && is_label m.name)) ms s.three.1.0))
            (first_all members_at (λ m. is_reserved m.asn.0) ms s.four.0)
            (λ m a b c d. record { fits = a; number = b; texts = c; asn = d });
        asns = beyond_often 1 members_at (λ m. m.asn.0 ∷ []) ms s.one.1.0;
        few = over_within 4000 members_at ms s.owners.0;
      }

  pub contacts_valid : ValidContacts r.members r.contacts
  contacts_valid =
      let cs = r.contacts in
      record {
        order = f.ordered.contacts;
        each = zip3 cs f.fit.contacts (first_all (contacts_at w) (λ c. c.place == 0) cs s.one.1.1.0) (all_hold (λ c. is_note c.role && is_note c.mail && is_label c.name) cs (first_all (contacts_at w) (λ c. not (is_note c.role && is_note c.mail && is_label c.name)) cs s.three.1.1.0))
            (λ c x y z. record { fits = x; place = y; texts = z });
        members = all_hold (λ c. has_member r.members c.member) cs (first_all (contacts_at w) (λ c. not (has_member r.members c.member)) cs s.two.0);
        few = beyond_often 16 (contacts_at w) (λ c. c.member ∷ []) cs s.owners.1.1.1.0;
      }

  pub keys_valid : ValidKeys r.members r.keys
  keys_valid =
      let ks = r.keys in
      record {
        order = f.ordered.keys;
        each = zip4 ks f.fit.keys (first_all (keys_at w) (λ k. k.number == 0) ks s.one.1.1.1.0) (all_hold (λ k. is_key_secret k.secret) ks (first_all (keys_at w) (λ k. not (is_key_secret k.secret)) ks s.three.1.1.1.0))
            (all_hold (λ k. is_staff_number k.owner) ks (first_all (keys_at w) (λ k. not (is_staff_number k.owner)) ks s.owners.1.0))
            (λ k a b c d. record { fits = a; number = b; secret = c; staff = d });
        owners = all_hold (λ k. has_owner r.members k.owner) ks (first_all (keys_at w) (λ k. not (has_owner r.members k.owner)) ks s.two.1.0);
        secrets = beyond_often 1 (keys_at w) (λ k. k.secret) ks s.seven.0;
        few = beyond_often 8 (keys_at w) (λ k. owner_numbers k.owner) ks s.owners.1.1.0;
      }

  pub switches_valid : ValidSwitches r.switches
  switches_valid =
      let ss = r.switches in
      record {
        order = f.ordered.switches;
        each = zip3 ss f.fit.switches (first_all (switches_at w) (λ x. x.number == 0) ss s.one.1.1.1.1.0) (all_hold (λ x. is_label x.name) ss (first_all (switches_at w) (λ x. not (is_label x.name)) ss s.three.1.1.1.1.0)) (λ x a b c. record { fits = a; number = b; name = c });
        few = over_within 256 (switches_at w) ss s.network.0;
      }

  pub ports_valid : ValidPorts r.members r.switches r.ports
  ports_valid =
      let ps = r.ports in
      let named = all_hold (λ p. has_switch r.switches p.switch && (p.member == 0 || has_member r.members p.member)) ps (first_all (ports_at w) (λ p. not (has_switch r.switches p.switch && (p.member == 0 || has_member r.members p.member))) ps s.two.1.1.0) in
      record {
        order = f.ordered.ports;
        each = zip3 ps f.fit.ports (first_all (ports_at w) (λ p. p.number == 0 || p.speed == 0) ps s.one.1.1.1.1.1.0) (all_hold (λ p. is_label p.name) ps (first_all (ports_at w) (λ p. not (is_label p.name)) ps s.three.1.1.1.1.1.0)) (λ p a b c. record { fits = a; number = b; name = c });
        switches = all_weaker (λ p. (has_switch r.switches p.switch && (p.member == 0 || has_member r.members p.member)) ≡ true) (λ p. has_switch r.switches p.switch ≡ true) (λ p e. (and_parts (has_switch r.switches p.switch) (p.member == 0 || has_member r.members p.member) e).0) ps named;
        members = all_weaker (λ p. (has_switch r.switches p.switch && (p.member == 0 || has_member r.members p.member)) ≡ true) (λ p. (p.member == 0 || has_member r.members p.member) ≡ true) (λ p e. (and_parts (has_switch r.switches p.switch) (p.member == 0 || has_member r.members p.member) e).1) ps named;
        few = over_within 16384 (ports_at w) ps s.network.1.0;
      }

  pub vlans_valid : ValidVlans r.vlans
  vlans_valid =
      let vs = r.vlans in
      let pairs = earlier_pairs (λ u v. list_any (overlaps_any (vlan_prefixes u)) (vlan_prefixes v)) (λ v. list_any (overlaps_any (listed v.v4)) (listed v.v6)) [] (vlans_at w) vs s.five.0 in
      record {
        order = f.ordered.vlans;
        each = zip5 vs f.fit.vlans (all_both (λ v. (v.number == 0) ≡ false) (λ v. is_label v.name ≡ true) vs (first_all (vlans_at w) (λ v. v.number == 0) vs s.one.1.1.1.1.1.1.0) (all_hold (λ v. is_label v.name) vs (first_all (vlans_at w) (λ v. not (is_label v.name)) vs s.three.1.1.1.1.1.1.0)))
            (all_hold (λ v. list_all is_vlan_length (vlan_prefixes v) && nat_le 1 v.tag && nat_le v.tag 4094) vs (first_all (vlans_at w) (λ v. not (list_all is_vlan_length (vlan_prefixes v) && nat_le 1 v.tag && nat_le v.tag 4094)) vs s.five.1.0))
            (all_hold (λ v. is_of V4 v.v4 && is_of V6 v.v6) vs (first_all (vlans_at w) (λ v. not (is_of V4 v.v4 && is_of V6 v.v6)) vs s.ten)) pairs.2
            (λ v a b c d e. record { fits = a; number = b.0; name = b.1; bounds = c; families = d; apart = e });
        apart = pairs.1;
        few = over_within 64 (vlans_at w) vs s.network.1.1.0;
      }

  hosts_each : AllByRecursion (λ i. AllByRecursion (λ a. is_host_in r.vlans i.vlan a.address.addr.family a.address.addr ≡ true) (addresses_of i)) r.interfaces
  hosts_each =
      let stray : AddressRow → Bool = λ a. not (is_host_at r.vlans (map bare r.interfaces) a.interface a.address.addr) in
      let all = all_flat (λ a. stray a ≡ false) addresses_of r.interfaces (first_all (addresses_at w) stray (flat_map addresses_of r.interfaces) s.six.0) in
      zip r.interfaces (all_found_there interface_key r.interfaces f.ordered.interfaces) all
      (λ i there x.
      let row : find interface_row_key (i.number ∷ []) (map bare r.interfaces) ≡ Some (bare i) = find_bare (i.number ∷ []) r.interfaces ∙ ap (option_map bare) there in
      own_addresses (λ a. stray a ≡ false) (λ a. is_host_in r.vlans i.vlan a.address.addr.family a.address.addr ≡ true) i
      (λ y h. subst (λ (o : Option InterfaceRow). if_there o false (λ j. is_host_in r.vlans j.vlan y.addr.family y.addr) ≡ true) row (holds (is_host_at r.vlans (map bare r.interfaces) i.number y.addr) h)) x)

  pub interfaces_valid : ValidInterfaces r.members r.ports r.vlans r.interfaces
  interfaces_valid =
      let is = r.interfaces in
      let named = all_hold (λ i. has_member r.members i.member && has_port r.ports i.port && has_vlan r.vlans i.vlan) is (all_mapped (λ i. not (has_member r.members i.member && has_port r.ports i.port && has_vlan r.vlans i.vlan) ≡ false) bare is (first_all (interfaces_at w) (λ i. not (has_member r.members i.member && has_port r.ports i.port && has_vlan r.vlans i.vlan)) (map bare is) s.two.1.1.1.0)) in
      let ports = all_hold (λ i. is_port_of r.ports i.port i.member) is (all_mapped (λ i. not (is_port_of r.ports i.port i.member) ≡ false) bare is (first_all (interfaces_at w) (λ i. not (is_port_of r.ports i.port i.member)) (map bare is) s.eight)) in
      let stays = all_mapped (λ i. has_left r.members i.member ≡ false) bare is (first_all (interfaces_at w) (λ i. has_left r.members i.member) (map bare is) s.fourteen) in
      let numbers = all_mapped (λ i. (i.number == 0) ≡ false) bare is (first_all (interfaces_at w) (λ i. i.number == 0) (map bare is) s.one.1.1.1.1.1.1.1.0) in
      let secrets = all_flat (λ a. is_session_secret a.address.secret ≡ true) addresses_of is (all_hold (λ a. is_session_secret a.address.secret) (flat_map addresses_of is) (first_all (addresses_at w) (λ a. not (is_session_secret a.address.secret)) (flat_map addresses_of is) s.three.1.1.1.1.1.1.1.0)) in
      let few = over_within 8000 (interfaces_at w) (map bare is) s.network.1.1.1.0 in
      let each = beyond_often 16 (interfaces_at w) (λ i. i.member ∷ []) (map bare is) s.network.1.1.1.1.0 in
      record {
        order = f.ordered.interfaces;
        each = zip4 is f.fit.interfaces numbers f.listed.interfaces secrets (λ i a b c d. record { fits = a; number = b; columns = c; secrets = d });
        named = zip4 is named ports stays hosts_each
            (λ i x p y h.
            let a = and_parts (has_member r.members i.member && has_port r.ports i.port) (has_vlan r.vlans i.vlan) x in
            let b = and_parts (has_member r.members i.member) (has_port r.ports i.port) a.0 in
            record { member = b.0; stays = y; port = p; vlan = a.1; hosts = h });
        few = let m = length_map bare is in omega (arith, few, m);
        per_member = λ k. let a = each k in let m = total_map (λ i. one_if (same k (i.member ∷ []))) bare is in omega (arith, a, m);
      }

  unheld : (b : Addr) (n : ℕ) (x y : Option IfAddr) → AllByRecursion (λ a. same_addr a.address.addr b ≡ false) (address_rows n x ++ address_rows n y) → (is_at b x || is_at b y) ≡ false
  unheld b n None None all = refl
  unheld b n None (Some y) all = all.0
  unheld b n (Some x) None all = neither (same_addr x.addr b) false all.0 refl
  unheld b n (Some x) (Some y) all = neither (same_addr x.addr b) (same_addr y.addr b) all.0 all.1.0

  free : (b : Addr) → is_assigned (flat_map addresses_of r.interfaces) b ≡ false → AllByRecursion (λ i. has_addr b i ≡ false) r.interfaces
  free b none =
      all_weaker (λ i. AllByRecursion (λ a. same_addr a.address.addr b ≡ false) (addresses_of i)) (λ i. has_addr b i ≡ false) (λ i all. unheld b i.number i.v4 i.v6 all) r.interfaces
      (all_flat (λ a. same_addr a.address.addr b ≡ false) addresses_of r.interfaces (none_any (λ a. same_addr a.address.addr b) (flat_map addresses_of r.interfaces) none))

  -- what the rule says of a router's blackhole
  pub record Hole (q : Router) (o : Option Addr) : Type 0 where
    lawful : if_there o true (λ b. same_family b.family q.family && not (q.asn.0 == 65535)) ≡ true
    hosted : if_there o true (λ b. is_host_in r.vlans q.vlan q.family b) ≡ true
    apart : AllByRecursion (λ i. if_there o false (λ b. has_addr b i) ≡ false) r.interfaces

  hole : (q : Router) (o : Option Addr) → if_there o true (may_be_blackhole w q) ≡ true → Hole q o
  hole q None e = record { lawful = refl; hosted = refl; apart = all_true (λ i. ◌≡◌ {A = Bool} false false) (λ i. refl) r.interfaces }
  hole q (Some b) e =
      let x = and_parts (same_family b.family q.family && is_host_in r.vlans q.vlan q.family b && not (is_assigned (flat_map addresses_of r.interfaces) b)) (not (q.asn.0 == 65535)) e in
      let y = and_parts (same_family b.family q.family && is_host_in r.vlans q.vlan q.family b) (not (is_assigned (flat_map addresses_of r.interfaces) b)) x.0 in
      let z = and_parts (same_family b.family q.family) (is_host_in r.vlans q.vlan q.family b) y.0 in
      record { lawful = both_true (same_family b.family q.family) (not (q.asn.0 == 65535)) z.0 x.1; hosted = z.1; apart = free b (not_there (is_assigned (flat_map addresses_of r.interfaces) b) y.1) }
    where
      not_there : (b : Bool) → not b ≡ true → b ≡ false
      not_there true e = absurd (let bad : ⊥ = cc in bad)
      not_there false e = refl

  shared : (k : List ℕ) → total (times_held k) r.interfaces + total (times_answered k) r.routers ≤ 1
  shared k =
      let g : AddressRow → List ℕ = λ a. addr_numbers a.address.addr in
      let h : Router → List ℕ = λ q. addr_numbers q.addr in
      let most : 0 + times k (map g (flat_map addresses_of r.interfaces) ++ map h r.routers) ≤ 1 = few 1 [] (addresses_at w) (map g (flat_map addresses_of r.interfaces) ++ map h r.routers) s.seven.1.0 k (omega arith) in
      let both = times_both k (map g (flat_map addresses_of r.interfaces)) (map h r.routers) in
      let a = times_count k g (flat_map addresses_of r.interfaces) in
      let b = times_count k h r.routers in
      let c = total_flat (λ a. one_if (same k (g a))) addresses_of r.interfaces in
      omega (arith, most, both, a, b, c)

  pub routers_valid : ValidRouters r.members r.vlans r.interfaces r.routers
  routers_valid =
      let qs = r.routers in
      let asns = first_all (routers_at w) (λ q. is_reserved q.asn.0 || list_any (λ m. m.asn.0 == q.asn.0) r.members) qs s.four.1.0 in
      let holes = all_hold (λ q. if_there q.blackhole true (may_be_blackhole w q) && nat_le q.max_comms 1000) qs (first_all (routers_at w) (λ q. not (if_there q.blackhole true (may_be_blackhole w q) && nat_le q.max_comms 1000)) qs s.fifteen.1.0) in
      let pairs = earlier_pairs (λ p q. has_blackhole q p.addr || has_blackhole p q.addr) (λ q. has_blackhole q q.addr) [] (routers_at w) qs s.fifteen.0 in
      let own : AllByRecursion (λ q. RouterFits q × (is_handle q.handle ≡ true)) qs = all_both RouterFits (λ q. is_handle q.handle ≡ true) qs f.fit.routers (all_hold (λ q. is_handle q.handle) qs (first_all (routers_at w) (λ q. not (is_handle q.handle)) qs s.three.1.1.1.1.1.1.1.1.0)) in
      record {
        order = f.ordered.routers;
        each = zip5 qs own asns (all_hold has_bounds qs (first_all (routers_at w) (λ q. not (has_bounds q)) qs s.nine)) holes pairs.2
            (λ q a b c d e.
            let reserved = or_parts (is_reserved q.asn.0) (list_any (λ m. m.asn.0 == q.asn.0) r.members) b in
            let parts = and_parts (if_there q.blackhole true (may_be_blackhole w q)) (nat_le q.max_comms 1000) d in
            record { fits = a.0; handle = a.1; asn = reserved.0; bounds = c; communities = parts.1; blackhole = (hole q q.blackhole parts.0).lawful; other = e });
        named = zip4 qs asns (all_hold (λ q. has_vlan r.vlans q.vlan) qs (first_all (routers_at w) (λ q. not (has_vlan r.vlans q.vlan)) qs s.two.1.1.1.1.1.0))
            (all_hold (λ q. is_host_in r.vlans q.vlan q.family q.addr) qs (first_all (routers_at w) (λ q. not (is_host_in r.vlans q.vlan q.family q.addr)) qs s.six.1.0)) holes
            (λ q a b c d.
            let reserved = or_parts (is_reserved q.asn.0) (list_any (λ m. m.asn.0 == q.asn.0) r.members) a in
            let parts = and_parts (if_there q.blackhole true (may_be_blackhole w q)) (nat_le q.max_comms 1000) d in
            let h = hole q q.blackhole parts.0 in
            record { asn = none_any (λ m. m.asn.0 == q.asn.0) r.members reserved.1; vlan = b; host = c; blackhole = h.hosted; free = h.apart });
        apart = pairs.1;
        few = over_within 16 (routers_at w) qs s.network.1.1.1.1.1.0;
        addresses = shared;
      }

  -- the lists of members
  irr_named : (l : IrrList) (ps : List Prefix) → ps ≢ [] → AllByRecursion (λ p. not (has_member r.members p.member) ≡ false) (map (λ p. let row : MemberPrefix = record { member = l.member; prefix = p } in row) ps) → has_member r.members l.member ≡ true
  irr_named l [] some all = absurd (some refl)
  irr_named l (p ∷ ps) some all = holds (has_member r.members l.member) all.0

  pub irr_valid : ValidIrr r.members r.irr
  irr_valid =
      let ls = r.irr in
      let alike : AllByRecursion (λ l. AllByRecursion (λ p. p.member ∷ version_of p.prefix.family ∷ [] ≡ irr_key l) (prefixes_of l)) ls =
      all_weaker IsPrefixList (λ l. AllByRecursion (λ p. p.member ∷ version_of p.prefix.family ∷ [] ≡ irr_key l) (prefixes_of l))
      (λ l is. mapped_all (λ p. p.member ∷ version_of p.prefix.family ∷ [] ≡ irr_key l) (λ p. record { member = l.member; prefix = p }) l.prefixes (all_weaker (λ p. p.family ≡ l.family) (λ p. l.member ∷ version_of p.family ∷ [] ≡ irr_key l) (λ p e. ap (λ g. l.member ∷ version_of g ∷ []) e) l.prefixes is.2)) ls f.listed.irr in
      let short = listed_few prefixes_of irr_key (λ p. p.member ∷ version_of p.prefix.family ∷ []) 300000 ls alike (beyond_often 300000 (prefixes_at w) (λ p. p.member ∷ version_of p.prefix.family ∷ []) (flat_map prefixes_of ls) s.lists.1.0) in
      let all = all_flat (λ p. not (has_member r.members p.member) ≡ false) prefixes_of ls (first_all (prefixes_at w) (λ p. not (has_member r.members p.member)) (flat_map prefixes_of ls) s.two.1.1.1.1.1.1.0) in
      let most = over_within 4000000 (prefixes_at w) (flat_map prefixes_of ls) s.lists.0 in
      record {
        order = f.ordered.irr;
        each = zip3 ls f.fit.irr f.listed.irr short (λ l a b c. let e = length_map (λ p. let row : MemberPrefix = record { member = l.member; prefix = p } in row) l.prefixes in record { fits = a; some = b.0; order = b.1; family = b.2; few = omega (arith, c, e) });
        members = zip ls f.listed.irr all (λ l a b. irr_named l l.prefixes a.0 b);
        few = let e = length_flat prefixes_of ls in let same = lengths_same ls in omega (arith, most, e, same);
      }

  origins_named : (l : OriginList) (xs : List Asn) → xs ≢ [] → AllByRecursion (λ o. not (has_member r.members o.member) ≡ false) (map (λ a. let row : MemberOrigin = record { member = l.member; family = l.family; asn = a } in row) xs) → has_member r.members l.member ≡ true
  origins_named l [] some all = absurd (some refl)
  origins_named l (a ∷ rest) some all = holds (has_member r.members l.member) all.0

  pub origins_valid : ValidOrigins r.members r.origins
  origins_valid =
      let ls = r.origins in
      let alike : AllByRecursion (λ l. AllByRecursion (λ o. o.member ∷ version_of o.family ∷ [] ≡ origins_key l) (origins_of l)) ls =
      all_true (λ l. AllByRecursion (λ o. o.member ∷ version_of o.family ∷ [] ≡ origins_key l) (origins_of l))
      (λ l. mapped_all (λ o. o.member ∷ version_of o.family ∷ [] ≡ origins_key l) (λ a. record { member = l.member; family = l.family; asn = a }) l.asns (all_true (λ a. origins_key l ≡ origins_key l) (λ a. refl) l.asns)) ls in
      let short = listed_few origins_of origins_key (λ o. o.member ∷ version_of o.family ∷ []) 300000 ls alike (beyond_often 300000 (origins_at w) (λ o. o.member ∷ version_of o.family ∷ []) (flat_map origins_of ls) s.lists.1.1.0) in
      let all = all_flat (λ o. not (has_member r.members o.member) ≡ false) origins_of ls (first_all (origins_at w) (λ o. not (has_member r.members o.member)) (flat_map origins_of ls) s.two.1.1.1.1.1.1.1.0) in
      record {
        order = f.ordered.origins;
        each = zip3 ls f.fit.origins f.listed.origins short (λ l a b c. let e = length_map (λ x. let row : MemberOrigin = record { member = l.member; family = l.family; asn = x } in row) l.asns in record { fits = a; some = b.0; order = b.1; few = omega (arith, c, e) });
        members = zip ls f.listed.origins all (λ l a b. origins_named l l.asns a.0 b);
      }

  rules_named : (l : RuleList) (xs : List MemberRule) → xs ≢ [] → AllByRecursion (λ x. x.member ≡ l.member) xs → AllByRecursion (λ x. not (has_member r.members x.member) ≡ false) xs → has_member r.members l.member ≡ true
  rules_named l [] some own all = absurd (some refl)
  rules_named l (x ∷ xs) some own all = ap (has_member r.members) (sym own.0) ∙ holds (has_member r.members x.member) all.0

  pub rules_valid : ValidRules r.members r.rules
  rules_valid =
      let ls = r.rules in
      let alike : AllByRecursion (λ l. AllByRecursion (λ x. x.member ∷ [] ≡ rules_key l) (rules_in l)) ls =
      all_weaker IsRuleList (λ l. AllByRecursion (λ x. x.member ∷ [] ≡ rules_key l) (rules_in l)) (λ l is. all_weaker (λ x. x.member ≡ l.member) (λ x. x.member ∷ [] ≡ rules_key l) (λ x e. ap (λ n. n ∷ []) e) l.rules is.1) ls f.listed.rules in
      let short = listed_few rules_in rules_key (λ x. x.member ∷ []) 64 ls alike (beyond_often 64 (rules_at w) (λ x. x.member ∷ []) (flat_map rules_in ls) s.lists.1.1.1.0) in
      let all = all_flat (λ x. not (has_member r.members x.member) ≡ false) rules_in ls (first_all (rules_at w) (λ x. not (has_member r.members x.member)) (flat_map rules_in ls) s.two.1.1.1.1.1.1.1.1.0) in
      let lawful = all_flat (λ x. is_lawful x ≡ true) rules_in ls (all_hold is_lawful (flat_map rules_in ls) (first_all (rules_at w) (λ x. not (is_lawful x)) (flat_map rules_in ls) s.eleven.1.0)) in
      let placed = follow_placed None ls f.ordered.rules f.listed.rules (all_true (λ l. ◌≡◌ {A = ℕ} 1 1) (λ l. refl) ls) (beside_follow None (rules_at w) (flat_map rules_in ls) s.eleven.0) in
      record {
        order = f.ordered.rules;
        each = zip5 ls f.fit.rules f.listed.rules placed lawful short (λ l a b c d e. record { fits = a; some = b.0; member = b.1; places = c; lawful = d; few = e });
        members = zip ls f.listed.rules all (λ l a b. rules_named l l.rules a.0 a.1 b);
      }

  pub public_valid : ValidPublic r.public
  public_valid =
      let p = r.public in
      record {
        bogons = f.ordered.bogons;
        bogon_as = f.ordered.bogon_as;
        transit = f.ordered.transit;
        roas = f.ordered.roas;
        fits = (f.fit.bogon_as, f.fit.transit, f.fit.roas);
        patterns = all_hold pattern_has_bounds p.bogons (first_all (bogons_at w) (λ b. not (pattern_has_bounds b)) p.bogons s.twelve.0);
        ranges = all_hold range_ascends p.bogon_as (first_all (bogon_as_at w) (λ x. not (range_ascends x)) p.bogon_as s.twelve.1.0);
        lengths = all_hold roa_has_bounds p.roas (first_all (roas_at w) (λ x. not (roa_has_bounds x)) p.roas s.twelve.1.1.0);
        few = (over_within 10000 (bogons_at w) p.bogons s.public.0, over_within 10000 (bogon_as_at w) p.bogon_as s.public.1.0, over_within 10000 (transit_at w) p.transit s.public.1.1.0, over_within 1000000 (roas_at w) p.roas s.public.1.1.1.0);
      }

  light : weight r.members r.interfaces r.routers r.irr ≤ 8000000
  light =
      let most = heavy_within 0 (λ p. list_weight w p.member p.prefix.family) 8000000 (prefixes_at w) (flat_map prefixes_of r.irr) (omega arith) s.light in
      let same = one_weight r f.ordered.interfaces f.ordered.irr f.listed.irr in
      omega (arith, most, same)

  pub all_valid : Valid r
  all_valid = record {
    site = record { fits = f.fit.site; shortname = holds (is_note r.site.shortname) (first_all site_at (λ x. not (is_note x.shortname)) (r.site ∷ []) s.three.0).0 };
    members = members_valid;
    contacts = contacts_valid;
    keys = keys_valid;
    switches = switches_valid;
    ports = ports_valid;
    vlans = vlans_valid;
    interfaces = interfaces_valid;
    routers = routers_valid;
    irr = irr_valid;
    origins = origins_valid;
    rules = rules_valid;
    public = public_valid;
    light = light;
  }
