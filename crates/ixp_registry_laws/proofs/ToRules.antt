-- Where a registry is valid, it is well formed, and its rows keep each sentence of the rules.
use Rattle.std.proofs.Common.{◌≡◌, ℕ, ◌≤◌, Bool, true, false, not, ◌&&◌, ◌||◌, ◌==◌, nat_le, List, [], ◌∷◌, ◌++◌, length, map, flat_map, Option, Some, None, option_map, refl, ap, ◌∙◌, arith}
use Rattle.std.specs.List.{AllByRecursion, list_any, list_all}
use Rattle.std.specs.Option.{is_some}
use Rattle.std.proofs.lemmas.Bool.{and_parts, or_parts}
use Rattle.ixp_num.specs.declared.addr.Addr.{Addr}
use Rattle.ixp_num.specs.declared.family.Family.TheVariants.{V4, V6}
use Rattle.ixp_num.specs.AddressForms.{version_of}
use Rattle.ixp_num.specs.Families.{same_family}
use Rattle.ixp_num_tables.specs.Tables.{find, if_there, same}
use Rattle.ixp_num_tables.specs.Sums.{one_if}
use Rattle.ixp_num_tables.proofs.AllItems.{all_true, zip, mapped_all, flat_all, any_none}
use Rattle.ixp_num_tables.proofs.Looking.{all_found_there}
use Rattle.ixp_num_tables.proofs.Orders.{all_weaker}
use Rattle.ixp_num_tables.proofs.SumLaws.{total_flat, total_map}
use Rattle.ixp_registry.specs.declared.network.Interface.{Interface}
use Rattle.ixp_registry.specs.declared.network.Port.{Port}
use Rattle.ixp_registry.specs.declared.network.IfAddr.{IfAddr}
use Rattle.ixp_registry.specs.declared.network.AddressRow.{AddressRow}
use Rattle.ixp_registry.specs.declared.network.InterfaceRow.{InterfaceRow}
use Rattle.ixp_registry.specs.declared.router.Router.{Router}
use Rattle.ixp_registry.specs.declared.lists.MemberPrefix.{MemberPrefix}
use Rattle.ixp_registry.specs.declared.lists.MemberOrigin.{MemberOrigin}
use Rattle.ixp_registry.specs.declared.rules.MemberRule.{MemberRule}
use Rattle.ixp_registry.specs.declared.registry.Registry.{Registry}
use Rattle.ixp_registry.specs.declared.rows.Rows.{Rows}
use Rattle.ixp_registry.specs.Alphabets.{is_label, is_note, is_macro, is_session_secret, is_key_secret, is_handle}
use Rattle.ixp_registry.specs.Keys.{port_key, interface_key, interface_row_key, irr_key, origins_key, rules_key}
use Rattle.ixp_registry.specs.Lines.{site_at, members_at, contacts_at, keys_at, switches_at, ports_at, vlans_at, interfaces_at, addresses_at, routers_at, prefixes_at, origins_at, rules_at, bogons_at, bogon_as_at, transit_at, roas_at}
use Rattle.ixp_registry.specs.Lookups.{has_member, has_switch, has_port, has_vlan, has_interface, has_owner, is_port_of, has_left, listed, vlan_prefixes, is_host_in, is_host_at, is_at, has_addr, has_blackhole}
use Rattle.ixp_num.specs.Prefixes.{same_addr}
use Rattle.ixp_registry.specs.Places.{first, first_beyond, first_over, first_heavy, first_beside_from}
use Rattle.ixp_registry.specs.Registries.{rows_of, bare, address_rows, addresses_of, prefixes_of, origins_of, rules_in}
use Rattle.ixp_registry.specs.Rules.{list_weight, is_assigned, may_be_blackhole, addresses_differ, place_after}
use Rattle.ixp_registry.specs.Valid.{Valid, ValidMember, ValidContact, ValidKey, ValidSwitch, ValidPort, ValidVlan, ValidInterface, NamesOfInterface, ValidRouter, NamesOfRouter, ValidIrrList, ValidOriginList, ValidRuleList, ArePlaced}
use Rattle.ixp_registry.specs.Widths.{IsNumber, MemberFits, ContactFits, KeyFits, SwitchFits, PortFits, VlanFits, InterfaceFits, RouterFits, RuleFits, AsnFits}
use Rattle.ixp_registry.specs.Words.{is_reserved, is_vlan_length, overlaps_any, is_of, addr_numbers, owner_numbers, is_staff_number, is_lawful, has_bounds, pattern_has_bounds, range_ascends, roa_has_bounds}
use Rattle.ixp_registry_laws.specs.WellFormed.{IsWellFormed, HasColumns, IsPrefixList, IsOriginList, IsRuleList}
use Rattle.ixp_registry_laws.proofs.Bare.{find_bare, own_addresses}
use Rattle.ixp_registry_laws.proofs.LineForms.{all_first, often_beyond, within_over, within_heavy, pairs_earlier, follow_beside, seldom, times_both, times_count}
use Rattle.ixp_registry_laws.proofs.Lists.{length_flat, length_map, lengths_same, few_listed, placed_follow}
use Rattle.ixp_registry_laws.proofs.OneWeight.{one_weight}
use Rattle.ixp_registry_laws.proofs.Sentences.{Sentences}
use Rattle.ixp_registry_laws.proofs.Truths.{all_held, both_true, neither}

pub well_formed : (r : Registry) → Valid r → IsWellFormed r
well_formed r v = record {
  ordered = record {
    members = v.members.order;
    contacts = v.contacts.order;
    keys = v.keys.order;
    switches = v.switches.order;
    ports = v.ports.order;
    vlans = v.vlans.order;
    interfaces = v.interfaces.order;
    routers = v.routers.order;
    irr = v.irr.order;
    origins = v.origins.order;
    rules = v.rules.order;
    bogons = v.public.bogons;
    bogon_as = v.public.bogon_as;
    transit = v.public.transit;
    roas = v.public.roas;
  };
  fit = record {
    site = v.site.fits;
    members = all_weaker ValidMember MemberFits (λ x a. a.fits) r.members v.members.each;
    contacts = all_weaker ValidContact ContactFits (λ x a. a.fits) r.contacts v.contacts.each;
    keys = all_weaker ValidKey KeyFits (λ x a. a.fits) r.keys v.keys.each;
    switches = all_weaker ValidSwitch SwitchFits (λ x a. a.fits) r.switches v.switches.each;
    ports = all_weaker ValidPort PortFits (λ x a. a.fits) r.ports v.ports.each;
    vlans = all_weaker ValidVlan VlanFits (λ x a. a.fits) r.vlans v.vlans.each;
    interfaces = all_weaker ValidInterface InterfaceFits (λ x a. a.fits) r.interfaces v.interfaces.each;
    routers = all_weaker ValidRouter RouterFits (λ x a. a.fits) r.routers v.routers.each;
    irr = all_weaker ValidIrrList (λ l. IsNumber l.member) (λ x a. a.fits) r.irr v.irr.each;
    origins = all_weaker ValidOriginList (λ l. IsNumber l.member × AllByRecursion AsnFits l.asns) (λ x a. a.fits) r.origins v.origins.each;
    rules = all_weaker ValidRuleList (λ l. IsNumber l.member × AllByRecursion RuleFits l.rules) (λ x a. a.fits) r.rules v.rules.each;
    bogon_as = v.public.fits.0;
    transit = v.public.fits.1;
    roas = v.public.fits.2;
  };
  listed = record {
    interfaces = all_weaker ValidInterface HasColumns (λ x a. a.columns) r.interfaces v.interfaces.each;
    irr = all_weaker ValidIrrList IsPrefixList (λ x a. (a.some, a.order, a.family)) r.irr v.irr.each;
    origins = all_weaker ValidOriginList IsOriginList (λ x a. (a.some, a.order)) r.origins v.origins.each;
    rules = all_weaker ValidRuleList IsRuleList (λ x a. (a.some, a.member)) r.rules v.rules.each;
  };
}

module _ (r : Registry) (v : Valid r) where
  abbrev w : Rows
  w = rows_of r

  -- a fact on each row, where the sentence asks for the test's negation
  kept : {X : Type 0} (at : ℕ) (p : X → Bool) (xs : List X) → AllByRecursion (λ x. p x ≡ true) xs → first at (λ x. not (p x)) xs ≡ None
  kept at p xs all = all_first at (λ x. not (p x)) xs (all_held p xs all)

  interfaces_kept : (p : InterfaceRow → Bool) → AllByRecursion (λ i. p (bare i) ≡ true) r.interfaces → first (interfaces_at w) (λ i. not (p i)) (map bare r.interfaces) ≡ None
  interfaces_kept p all = kept (interfaces_at w) p (map bare r.interfaces) (mapped_all (λ i. p i ≡ true) bare r.interfaces all)

  addresses_kept : (p : AddressRow → Bool) → AllByRecursion (λ i. AllByRecursion (λ a. p a ≡ true) (addresses_of i)) r.interfaces → first (addresses_at w) (λ a. not (p a)) (flat_map addresses_of r.interfaces) ≡ None
  addresses_kept p all = kept (addresses_at w) p (flat_map addresses_of r.interfaces) (flat_all (λ a. p a ≡ true) addresses_of r.interfaces all)

  row_of : (i : Interface) → find interface_key (interface_key i) r.interfaces ≡ Some i → find interface_row_key (i.number ∷ []) (map bare r.interfaces) ≡ Some (bare i)
  row_of i there = find_bare (i.number ∷ []) r.interfaces ∙ ap (option_map bare) there

  all_rows : AllByRecursion (λ i. find interface_key (interface_key i) r.interfaces ≡ Some i) r.interfaces
  all_rows = all_found_there interface_key r.interfaces v.interfaces.order

  -- each address names an interface that is there
  addresses_there : AllByRecursion (λ i. AllByRecursion (λ a. has_interface (map bare r.interfaces) a.interface ≡ true) (addresses_of i)) r.interfaces
  addresses_there =
      all_weaker (λ i. find interface_key (interface_key i) r.interfaces ≡ Some i) (λ i. AllByRecursion (λ a. has_interface (map bare r.interfaces) a.interface ≡ true) (addresses_of i))
      (λ i there. own_addresses (λ a. ◌≡◌ {A = Bool} true true) (λ a. has_interface (map bare r.interfaces) a.interface ≡ true) i (λ y h. ap is_some (row_of i there)) (all_true (λ a. ◌≡◌ {A = Bool} true true) (λ a. refl) (addresses_of i))) r.interfaces all_rows

  addresses_hosted : AllByRecursion (λ i. AllByRecursion (λ a. is_host_at r.vlans (map bare r.interfaces) a.interface a.address.addr ≡ true) (addresses_of i)) r.interfaces
  addresses_hosted =
      zip r.interfaces all_rows v.interfaces.named
      (λ i there n. own_addresses (λ a. is_host_in r.vlans i.vlan a.address.addr.family a.address.addr ≡ true) (λ a. is_host_at r.vlans (map bare r.interfaces) a.interface a.address.addr ≡ true) i
      (λ y h. ap (λ (o : Option InterfaceRow). if_there o false (λ j. is_host_in r.vlans j.vlan y.addr.family y.addr)) (row_of i there) ∙ h) n.hosts)

  addresses_apart : addresses_differ w ≡ None
  addresses_apart =
      let g : AddressRow → List ℕ = λ a. addr_numbers a.address.addr in
      let h : Router → List ℕ = λ q. addr_numbers q.addr in
      seldom 1 [] (addresses_at w) (map g (flat_map addresses_of r.interfaces) ++ map h r.routers)
      (λ k.
      let both = times_both k (map g (flat_map addresses_of r.interfaces)) (map h r.routers) in
      let a = times_count k g (flat_map addresses_of r.interfaces) in
      let b = times_count k h r.routers in
      let c = total_flat (λ a. one_if (same k (g a))) addresses_of r.interfaces in
      let most = v.routers.addresses k in
      omega (arith, most, both, a, b, c))

  held_not : (b : Addr) (n : ℕ) (x y : Option IfAddr) → (is_at b x || is_at b y) ≡ false → AllByRecursion (λ a. same_addr a.address.addr b ≡ false) (address_rows n x ++ address_rows n y)
  held_not b n None None e = tt
  held_not b n None (Some y) e = (e, tt)
  held_not b n (Some x) None e = ((or_parts (same_addr x.addr b) false e).0, tt)
  held_not b n (Some x) (Some y) e = let p = or_parts (same_addr x.addr b) (same_addr y.addr b) e in (p.0, (p.1, tt))

  unassigned : (b : Addr) → AllByRecursion (λ i. has_addr b i ≡ false) r.interfaces → is_assigned (flat_map addresses_of r.interfaces) b ≡ false
  unassigned b all =
      any_none (λ a. same_addr a.address.addr b) (flat_map addresses_of r.interfaces)
      (flat_all (λ a. same_addr a.address.addr b ≡ false) addresses_of r.interfaces (all_weaker (λ i. has_addr b i ≡ false) (λ i. AllByRecursion (λ a. same_addr a.address.addr b ≡ false) (addresses_of i)) (λ i e. held_not b i.number i.v4 i.v6 e) r.interfaces all))

  lawful_hole : (q : Router) (o : Option Addr) → if_there o true (λ b. same_family b.family q.family && not (q.asn.0 == 65535)) ≡ true → if_there o true (λ b. is_host_in r.vlans q.vlan q.family b) ≡ true
      → AllByRecursion (λ i. if_there o false (λ b. has_addr b i) ≡ false) r.interfaces → if_there o true (may_be_blackhole w q) ≡ true
  lawful_hole q None lawful hosted apart = refl
  lawful_hole q (Some b) lawful hosted apart =
      let x = and_parts (same_family b.family q.family) (not (q.asn.0 == 65535)) lawful in
      both_true (same_family b.family q.family && is_host_in r.vlans q.vlan q.family b && not (is_assigned (flat_map addresses_of r.interfaces) b)) (not (q.asn.0 == 65535))
      (both_true (same_family b.family q.family && is_host_in r.vlans q.vlan q.family b) (not (is_assigned (flat_map addresses_of r.interfaces) b))
      (both_true (same_family b.family q.family) (is_host_in r.vlans q.vlan q.family b) x.0 hosted) (ap not (unassigned b apart))) x.1

  routers_reserved : first (routers_at w) (λ q. is_reserved q.asn.0 || list_any (λ m. m.asn.0 == q.asn.0) r.members) r.routers ≡ None
  routers_reserved =
      all_first (routers_at w) (λ q. is_reserved q.asn.0 || list_any (λ m. m.asn.0 == q.asn.0) r.members) r.routers
      (zip r.routers v.routers.each v.routers.named (λ q a n. neither (is_reserved q.asn.0) (list_any (λ m. m.asn.0 == q.asn.0) r.members) a.asn (any_none (λ m. m.asn.0 == q.asn.0) r.members n.asn)))

  routers_hold : first (routers_at w) (λ q. not (if_there q.blackhole true (may_be_blackhole w q) && nat_le q.max_comms 1000)) r.routers ≡ None
  routers_hold =
      kept (routers_at w) (λ q. if_there q.blackhole true (may_be_blackhole w q) && nat_le q.max_comms 1000) r.routers
      (zip r.routers v.routers.each v.routers.named (λ q a n. both_true (if_there q.blackhole true (may_be_blackhole w q)) (nat_le q.max_comms 1000) (lawful_hole q q.blackhole a.blackhole n.blackhole n.free) a.communities))

  -- what holds of the members of lists holds of their rows
  prefixes_kept : first (prefixes_at w) (λ p. not (has_member r.members p.member)) (flat_map prefixes_of r.irr) ≡ None
  prefixes_kept =
      kept (prefixes_at w) (λ p. has_member r.members p.member) (flat_map prefixes_of r.irr)
      (flat_all (λ p. has_member r.members p.member ≡ true) prefixes_of r.irr (all_weaker (λ l. has_member r.members l.member ≡ true) (λ l. AllByRecursion (λ p. has_member r.members p.member ≡ true) (prefixes_of l))
      (λ l e. mapped_all (λ p. has_member r.members p.member ≡ true) (λ p. record { member = l.member; prefix = p }) l.prefixes (all_true (λ p. has_member r.members l.member ≡ true) (λ p. e) l.prefixes)) r.irr v.irr.members))

  origins_kept : first (origins_at w) (λ o. not (has_member r.members o.member)) (flat_map origins_of r.origins) ≡ None
  origins_kept =
      kept (origins_at w) (λ o. has_member r.members o.member) (flat_map origins_of r.origins)
      (flat_all (λ o. has_member r.members o.member ≡ true) origins_of r.origins (all_weaker (λ l. has_member r.members l.member ≡ true) (λ l. AllByRecursion (λ o. has_member r.members o.member ≡ true) (origins_of l))
      (λ l e. mapped_all (λ o. has_member r.members o.member ≡ true) (λ a. record { member = l.member; family = l.family; asn = a }) l.asns (all_true (λ a. has_member r.members l.member ≡ true) (λ a. e) l.asns)) r.origins v.origins.members))

  rules_kept : first (rules_at w) (λ x. not (has_member r.members x.member)) (flat_map rules_in r.rules) ≡ None
  rules_kept =
      kept (rules_at w) (λ x. has_member r.members x.member) (flat_map rules_in r.rules)
      (flat_all (λ x. has_member r.members x.member ≡ true) rules_in r.rules (zip r.rules v.rules.each v.rules.members
      (λ l a e. all_weaker (λ x. x.member ≡ l.member) (λ x. has_member r.members x.member ≡ true) (λ x is. ap (has_member r.members) is ∙ e) l.rules a.member)))

  prefixes_few : first_beyond 300000 (prefixes_at w) (map (λ p. p.member ∷ version_of p.prefix.family ∷ []) (flat_map prefixes_of r.irr)) ≡ None
  prefixes_few =
      let ls = r.irr in
      let f : MemberPrefix → List ℕ = λ p. p.member ∷ version_of p.prefix.family ∷ [] in
      often_beyond 300000 (prefixes_at w) f (flat_map prefixes_of ls)
      (few_listed prefixes_of irr_key f 300000 ls v.irr.order
      (all_weaker ValidIrrList (λ l. AllByRecursion (λ p. f p ≡ irr_key l) (prefixes_of l))
      (λ l is. mapped_all (λ p. f p ≡ irr_key l) (λ p. record { member = l.member; prefix = p }) l.prefixes (all_weaker (λ p. p.family ≡ l.family) (λ p. l.member ∷ version_of p.family ∷ [] ≡ irr_key l) (λ p e. ap (λ g. l.member ∷ version_of g ∷ []) e) l.prefixes is.family)) ls v.irr.each)
      (all_weaker ValidIrrList (λ l. length (prefixes_of l) ≤ 300000) (λ l a. let few = a.few in let e = length_map (λ p. let row : MemberPrefix = record { member = l.member; prefix = p } in row) l.prefixes in omega (arith, few, e)) ls v.irr.each))

  origins_few : first_beyond 300000 (origins_at w) (map (λ o. o.member ∷ version_of o.family ∷ []) (flat_map origins_of r.origins)) ≡ None
  origins_few =
      let ls = r.origins in
      let f : MemberOrigin → List ℕ = λ o. o.member ∷ version_of o.family ∷ [] in
      often_beyond 300000 (origins_at w) f (flat_map origins_of ls)
      (few_listed origins_of origins_key f 300000 ls v.origins.order
      (all_true (λ l. AllByRecursion (λ o. f o ≡ origins_key l) (origins_of l)) (λ l. mapped_all (λ o. f o ≡ origins_key l) (λ a. record { member = l.member; family = l.family; asn = a }) l.asns (all_true (λ a. origins_key l ≡ origins_key l) (λ a. refl) l.asns)) ls)
      (all_weaker ValidOriginList (λ l. length (origins_of l) ≤ 300000) (λ l a. let few = a.few in let e = length_map (λ x. let row : MemberOrigin = record { member = l.member; family = l.family; asn = x } in row) l.asns in omega (arith, few, e)) ls v.origins.each))

  rules_few : first_beyond 64 (rules_at w) (map (λ x. x.member ∷ []) (flat_map rules_in r.rules)) ≡ None
  rules_few =
      let ls = r.rules in
      let f : MemberRule → List ℕ = λ x. x.member ∷ [] in
      often_beyond 64 (rules_at w) f (flat_map rules_in ls)
      (few_listed rules_in rules_key f 64 ls v.rules.order
      (all_weaker ValidRuleList (λ l. AllByRecursion (λ x. f x ≡ rules_key l) (rules_in l)) (λ l a. all_weaker (λ x. x.member ≡ l.member) (λ x. f x ≡ rules_key l) (λ x e. ap (λ n. n ∷ []) e) l.rules a.member) ls v.rules.each)
      (all_weaker ValidRuleList (λ l. length (rules_in l) ≤ 64) (λ l a. a.few) ls v.rules.each))

  prefixes_in_all : first_over 4000000 (prefixes_at w) (flat_map prefixes_of r.irr) ≡ None
  prefixes_in_all =
      within_over 4000000 (prefixes_at w) (flat_map prefixes_of r.irr)
      (let most = v.irr.few in let e = length_flat prefixes_of r.irr in let alike = lengths_same r.irr in omega (arith, most, e, alike))

  rules_placed : first_beside_from None (rules_at w) (λ last x. not (x.place == place_after last x.member)) (flat_map rules_in r.rules) ≡ None
  rules_placed =
      let ls = r.rules in
      follow_beside None (rules_at w) (flat_map rules_in ls)
      (placed_follow None ls v.rules.order (all_weaker ValidRuleList IsRuleList (λ l a. (a.some, a.member)) ls v.rules.each) (all_true (λ l. ◌≡◌ {A = ℕ} 1 1) (λ l. refl) ls) (all_weaker ValidRuleList (λ l. ArePlaced 1 l.rules) (λ l a. a.places) ls v.rules.each))

  light_kept : first_heavy (λ p. list_weight w p.member p.prefix.family) 8000000 (prefixes_at w) (flat_map prefixes_of r.irr) ≡ None
  light_kept =
      let f = well_formed r v in
      within_heavy 0 (λ p. list_weight w p.member p.prefix.family) 8000000 (prefixes_at w) (flat_map prefixes_of r.irr)
      (let alike = one_weight r f.ordered.interfaces f.ordered.irr f.listed.irr in let most = v.light in omega (arith, alike, most))

  interfaces_short : first_over 8000 (interfaces_at w) (map bare r.interfaces) ≡ None
  interfaces_short = within_over 8000 (interfaces_at w) (map bare r.interfaces) (let most = v.interfaces.few in let e = length_map bare r.interfaces in omega (arith, most, e))

  interfaces_each : first_beyond 16 (interfaces_at w) (map (λ i. i.member ∷ []) (map bare r.interfaces)) ≡ None
  interfaces_each =
      often_beyond 16 (interfaces_at w) (λ i. i.member ∷ []) (map bare r.interfaces)
      (λ k. let most = v.interfaces.per_member k in let e = total_map (λ i. one_if (same k (i.member ∷ []))) bare r.interfaces in omega (arith, most, e))

  pub all_kept : Sentences (rows_of r)
  all_kept = record {
    one = (
      all_first members_at (λ m. m.number == 0) r.members (all_weaker ValidMember (λ m. (m.number == 0) ≡ false) (λ x a. a.number) r.members v.members.each),
      (
        often_beyond 1 members_at (λ m. m.asn.0 ∷ []) r.members v.members.asns,
        (
          all_first (contacts_at w) (λ c. c.place == 0) r.contacts (all_weaker ValidContact (λ c. (c.place == 0) ≡ false) (λ x a. a.place) r.contacts v.contacts.each),
          (
            all_first (keys_at w) (λ k. k.number == 0) r.keys (all_weaker ValidKey (λ k. (k.number == 0) ≡ false) (λ x a. a.number) r.keys v.keys.each),
            (
              all_first (switches_at w) (λ x. x.number == 0) r.switches (all_weaker ValidSwitch (λ x. (x.number == 0) ≡ false) (λ x a. a.number) r.switches v.switches.each),
              (
                all_first (ports_at w) (λ p. p.number == 0 || p.speed == 0) r.ports (all_weaker ValidPort (λ p. (p.number == 0 || p.speed == 0) ≡ false) (λ x a. a.number) r.ports v.ports.each),
                (
                  all_first (vlans_at w) (λ x. x.number == 0) r.vlans (all_weaker ValidVlan (λ x. (x.number == 0) ≡ false) (λ x a. a.number) r.vlans v.vlans.each),
                  (
                    all_first (interfaces_at w) (λ i. i.number == 0) (map bare r.interfaces) (mapped_all (λ i. (i.number == 0) ≡ false) bare r.interfaces (all_weaker ValidInterface (λ i. (i.number == 0) ≡ false) (λ x a. a.number) r.interfaces v.interfaces.each)),
                    tt,
                  ),
                ),
              ),
            ),
          ),
        ),
      ),
    );
    two = (
      kept (contacts_at w) (λ c. has_member r.members c.member) r.contacts v.contacts.members,
      (
        kept (keys_at w) (λ k. has_owner r.members k.owner) r.keys v.keys.owners,
        (
          kept (ports_at w) (λ p. has_switch r.switches p.switch && (p.member == 0 || has_member r.members p.member)) r.ports (zip r.ports v.ports.switches v.ports.members (λ p a b. both_true (has_switch r.switches p.switch) (p.member == 0 || has_member r.members p.member) a b)),
          (
            interfaces_kept (λ i. has_member r.members i.member && has_port r.ports i.port && has_vlan r.vlans i.vlan) (all_weaker (NamesOfInterface r.members r.ports r.vlans) (λ i. (has_member r.members i.member && has_port r.ports i.port && has_vlan r.vlans i.vlan) ≡ true)
                (λ i n. both_true (has_member r.members i.member && has_port r.ports i.port) (has_vlan r.vlans i.vlan) (both_true (has_member r.members i.member) (has_port r.ports i.port) n.member (port_there i n.port)) n.vlan) r.interfaces v.interfaces.named),
            (
              addresses_kept (λ a. has_interface (map bare r.interfaces) a.interface) addresses_there,
              (
                kept (routers_at w) (λ q. has_vlan r.vlans q.vlan) r.routers (all_weaker (NamesOfRouter r.members r.vlans r.interfaces) (λ q. has_vlan r.vlans q.vlan ≡ true) (λ q n. n.vlan) r.routers v.routers.named),
                (prefixes_kept, (origins_kept, (rules_kept, tt))),
              ),
            ),
          ),
        ),
      ),
    );
    three = (
      kept site_at (λ x. is_note x.shortname) (r.site ∷ []) (v.site.shortname, tt),
      (
        kept members_at (λ m. is_macro m.as_macro && is_label m.name) r.members (all_weaker ValidMember (λ m. (is_macro m.as_macro && is_label m.name) ≡ true) (λ x a. a.texts) r.members v.members.each),
        (
          kept (contacts_at w) (λ c. is_note c.role && is_note c.mail && is_label c.name) r.contacts (all_weaker ValidContact (λ c. (is_note c.role && is_note c.mail && is_label c.name) ≡ true) (λ x a. a.texts) r.contacts v.contacts.each),
          (
            kept (keys_at w) (λ k. is_key_secret k.secret) r.keys (all_weaker ValidKey (λ k. is_key_secret k.secret ≡ true) (λ x a. a.secret) r.keys v.keys.each),
            (
              kept (switches_at w) (λ x. is_label x.name) r.switches (all_weaker ValidSwitch (λ x. is_label x.name ≡ true) (λ x a. a.name) r.switches v.switches.each),
              (
                kept (ports_at w) (λ x. is_label x.name) r.ports (all_weaker ValidPort (λ x. is_label x.name ≡ true) (λ x a. a.name) r.ports v.ports.each),
                (
                  kept (vlans_at w) (λ x. is_label x.name) r.vlans (all_weaker ValidVlan (λ x. is_label x.name ≡ true) (λ x a. a.name) r.vlans v.vlans.each),
                  (
                    addresses_kept (λ a. is_session_secret a.address.secret) (all_weaker ValidInterface (λ i. AllByRecursion (λ a. is_session_secret a.address.secret ≡ true) (addresses_of i)) (λ x a. a.secrets) r.interfaces v.interfaces.each),
                    (
                      kept (routers_at w) (λ q. is_handle q.handle) r.routers (all_weaker ValidRouter (λ q. is_handle q.handle ≡ true) (λ x a. a.handle) r.routers v.routers.each),
                      tt,
                    ),
                  ),
                ),
              ),
            ),
          ),
        ),
      ),
    );
    four = (all_first members_at (λ m. is_reserved m.asn.0) r.members (all_weaker ValidMember (λ m. is_reserved m.asn.0 ≡ false) (λ x a. a.asn) r.members v.members.each), (routers_reserved, tt));
    five = (
      pairs_earlier (λ u v. list_any (overlaps_any (vlan_prefixes u)) (vlan_prefixes v)) (λ v. list_any (overlaps_any (listed v.v4)) (listed v.v6)) [] (vlans_at w) r.vlans (all_true (λ x. AllByRecursion (λ u. list_any (overlaps_any (vlan_prefixes u)) (vlan_prefixes x) ≡ false) []) (λ x. tt) r.vlans) v.vlans.apart (all_weaker ValidVlan (λ x. list_any (overlaps_any (listed x.v4)) (listed x.v6) ≡ false) (λ x a. a.apart) r.vlans v.vlans.each),
      (kept (vlans_at w) (λ x. list_all is_vlan_length (vlan_prefixes x) && nat_le 1 x.tag && nat_le x.tag 4094) r.vlans (all_weaker ValidVlan (λ x. (list_all is_vlan_length (vlan_prefixes x) && nat_le 1 x.tag && nat_le x.tag 4094) ≡ true) (λ x a. a.bounds) r.vlans v.vlans.each), tt),
    );
    six = (
      addresses_kept (λ a. is_host_at r.vlans (map bare r.interfaces) a.interface a.address.addr) addresses_hosted,
      (kept (routers_at w) (λ q. is_host_in r.vlans q.vlan q.family q.addr) r.routers (all_weaker (NamesOfRouter r.members r.vlans r.interfaces) (λ q. is_host_in r.vlans q.vlan q.family q.addr ≡ true) (λ q n. n.host) r.routers v.routers.named), tt),
    );
    seven = (often_beyond 1 (keys_at w) (λ k. k.secret) r.keys v.keys.secrets, (addresses_apart, tt));
    eight = interfaces_kept (λ i. is_port_of r.ports i.port i.member) (all_weaker (NamesOfInterface r.members r.ports r.vlans) (λ i. is_port_of r.ports i.port i.member ≡ true) (λ i n. n.port) r.interfaces v.interfaces.named);
    nine = kept (routers_at w) has_bounds r.routers (all_weaker ValidRouter (λ q. has_bounds q ≡ true) (λ q a. a.bounds) r.routers v.routers.each);
    ten = kept (vlans_at w) (λ x. is_of V4 x.v4 && is_of V6 x.v6) r.vlans (all_weaker ValidVlan (λ x. (is_of V4 x.v4 && is_of V6 x.v6) ≡ true) (λ x a. a.families) r.vlans v.vlans.each);
    eleven = (rules_placed, (kept (rules_at w) is_lawful (flat_map rules_in r.rules) (flat_all (λ x. is_lawful x ≡ true) rules_in r.rules (all_weaker ValidRuleList (λ l. AllByRecursion (λ x. is_lawful x ≡ true) l.rules) (λ l a. a.lawful) r.rules v.rules.each)), tt));
    twelve = (kept (bogons_at w) pattern_has_bounds r.public.bogons v.public.patterns, (kept (bogon_as_at w) range_ascends r.public.bogon_as v.public.ranges, (kept (roas_at w) roa_has_bounds r.public.roas v.public.lengths, tt)));
    owners = (
      within_over 4000 members_at r.members v.members.few,
      (
        kept (keys_at w) (λ k. is_staff_number k.owner) r.keys (all_weaker ValidKey (λ k. is_staff_number k.owner ≡ true) (λ k a. a.staff) r.keys v.keys.each),
        (often_beyond 8 (keys_at w) (λ k. owner_numbers k.owner) r.keys v.keys.few, (often_beyond 16 (contacts_at w) (λ c. c.member ∷ []) r.contacts v.contacts.few, tt)),
      ),
    );
    network = (within_over 256 (switches_at w) r.switches v.switches.few, (within_over 16384 (ports_at w) r.ports v.ports.few, (within_over 64 (vlans_at w) r.vlans v.vlans.few, (interfaces_short, (interfaces_each, (within_over 16 (routers_at w) r.routers v.routers.few, tt))))));
    lists = (prefixes_in_all, (prefixes_few, (origins_few, (rules_few, tt))));
    public = (within_over 10000 (bogons_at w) r.public.bogons v.public.few.0, (within_over 10000 (bogon_as_at w) r.public.bogon_as v.public.few.1, (within_over 10000 (transit_at w) r.public.transit v.public.few.2, (within_over 1000000 (roas_at w) r.public.roas v.public.few.3, tt))));
    light = light_kept;
    fourteen = all_first (interfaces_at w) (λ i. has_left r.members i.member) (map bare r.interfaces) (mapped_all (λ i. has_left r.members i.member ≡ false) bare r.interfaces (all_weaker (NamesOfInterface r.members r.ports r.vlans) (λ i. has_left r.members i.member ≡ false) (λ i n. n.stays) r.interfaces v.interfaces.named));
    fifteen = (
      pairs_earlier (λ p q. has_blackhole q p.addr || has_blackhole p q.addr) (λ q. has_blackhole q q.addr) [] (routers_at w) r.routers (all_true (λ x. AllByRecursion (λ p. (has_blackhole x p.addr || has_blackhole p x.addr) ≡ false) []) (λ x. tt) r.routers) v.routers.apart (all_weaker ValidRouter (λ q. has_blackhole q q.addr ≡ false) (λ q a. a.other) r.routers v.routers.each),
      (routers_hold, tt),
    );
  }
    where
      port_there : (i : Interface) → is_port_of r.ports i.port i.member ≡ true → has_port r.ports i.port ≡ true
      port_there i e = by_port (find port_key (i.port ∷ []) r.ports) e where
        by_port : (o : Option Port) → if_there o false (λ p. p.member == i.member) ≡ true → is_some o ≡ true
        by_port None e = absurd (let bad : ⊥ = cc in bad)
        by_port (Some p) e = refl
