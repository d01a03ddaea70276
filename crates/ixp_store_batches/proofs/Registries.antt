-- What becomes of the rows of a registry by a change of it.
use Rattle.std.proofs.Common.{◌≡◌, ℕ, List, [], ◌∷◌, ◌++◌, map, flat_map, Option, Some, None, refl, subst}
use Rattle.ixp_num.specs.AddressForms.{version_of}
use Rattle.ixp_num.specs.declared.family.Family.{Family}
use Rattle.ixp_registry.specs.declared.lists.IrrList.{IrrList}
use Rattle.ixp_registry.specs.declared.lists.OriginList.{OriginList}
use Rattle.ixp_registry.specs.declared.members.ApiKey.{ApiKey}
use Rattle.ixp_registry.specs.declared.members.Contact.{Contact}
use Rattle.ixp_registry.specs.declared.members.Member.{Member}
use Rattle.ixp_registry.specs.declared.network.Port.{Port}
use Rattle.ixp_registry.specs.declared.network.Switch.{Switch}
use Rattle.ixp_registry.specs.declared.network.Vlan.{Vlan}
use Rattle.ixp_registry.specs.declared.router.Router.{Router}
use Rattle.ixp_registry.specs.declared.rules.RuleList.{RuleList}
use Rattle.ixp_registry.specs.declared.network.Interface.{Interface}
use Rattle.ixp_registry.specs.declared.registry.Registry.{Registry}
use Rattle.ixp_registry.specs.Keys.{member_key, contact_key, api_key_key, switch_key, port_key, vlan_key, interface_key, router_key, irr_key, origins_key, rules_key}
use Rattle.ixp_registry.specs.Registries.{bare}
use Rattle.ixp_registry.specs.Valid.{Valid}
use Rattle.ixp_registry_change.specs.declared.change.PublicList.{PublicList}
use Rattle.ixp_registry_change.specs.declared.change.PublicList.TheVariants as list
use Rattle.ixp_registry_change.specs.Changes.{with_public}
use Rattle.ixp_registry_change.specs.declared.change.TableChange.{TableChange}
use Rattle.ixp_registry_change.specs.declared.change.RegistryChange.{RegistryChange}
use Rattle.ixp_registry_change.specs.declared.change.RegistryChange.TheVariants as of
use Rattle.ixp_registry_change.specs.Changes.{changed_rows, with_change}
use Rattle.ixp_rows_lines.specs.declared.version.Version.TheVariants.{Two}
use Rattle.ixp_rows_lines.specs.Lines.{site_line, member_line, contact_line, key_line, switch_line, port_line, vlan_line, interface_line, router_line, bogon_line, bogon_as_line, transit_line, roa_line}
use Rattle.ixp_store_rows.specs.Names.{Entry, line_row, irr_row, origins_row}
use Rattle.ixp_store_rows.specs.States.{address_rows, rule_rows, people_rows, port_rows, interface_rows, list_rows, bogon_rows, origin_rows, registry_rows}
use Rattle.ixp_store_batches.specs.Batches.{old_row, new_row, entries_of, interface_entries, old_public, new_public, old_entries, new_entries}
use Rattle.ixp_store_batches.proofs.Scripts.{Script, stays, unchanged, in_front, before, joined, replaced}
use Rattle.ixp_store_batches.proofs.Tables.{script_change, script_change_one}

-- a change in one of the six groups of rows
module _ (people ports interfaces lists bogons origins : List Entry) (now old new : List Entry) where
  in_people : Script people now old new → Script (people ++ (ports ++ (interfaces ++ (lists ++ (bogons ++ origins))))) (now ++ (ports ++ (interfaces ++ (lists ++ (bogons ++ origins))))) old new
  in_people = before people now old new (ports ++ (interfaces ++ (lists ++ (bogons ++ origins))))

  in_ports : Script ports now old new → Script (people ++ (ports ++ (interfaces ++ (lists ++ (bogons ++ origins))))) (people ++ (now ++ (interfaces ++ (lists ++ (bogons ++ origins))))) old new
  in_ports s = in_front people (ports ++ (interfaces ++ (lists ++ (bogons ++ origins)))) (now ++ (interfaces ++ (lists ++ (bogons ++ origins)))) old new (before ports now old new (interfaces ++ (lists ++ (bogons ++ origins))) s)

  in_interfaces : Script interfaces now old new → Script (people ++ (ports ++ (interfaces ++ (lists ++ (bogons ++ origins))))) (people ++ (ports ++ (now ++ (lists ++ (bogons ++ origins))))) old new
  in_interfaces s =
      in_front people (ports ++ (interfaces ++ (lists ++ (bogons ++ origins)))) (ports ++ (now ++ (lists ++ (bogons ++ origins)))) old new
      (in_front ports (interfaces ++ (lists ++ (bogons ++ origins))) (now ++ (lists ++ (bogons ++ origins))) old new (before interfaces now old new (lists ++ (bogons ++ origins)) s))

  in_lists : Script lists now old new → Script (people ++ (ports ++ (interfaces ++ (lists ++ (bogons ++ origins))))) (people ++ (ports ++ (interfaces ++ (now ++ (bogons ++ origins))))) old new
  in_lists s =
      in_front people (ports ++ (interfaces ++ (lists ++ (bogons ++ origins)))) (ports ++ (interfaces ++ (now ++ (bogons ++ origins)))) old new
      (in_front ports (interfaces ++ (lists ++ (bogons ++ origins))) (interfaces ++ (now ++ (bogons ++ origins))) old new
      (in_front interfaces (lists ++ (bogons ++ origins)) (now ++ (bogons ++ origins)) old new (before lists now old new (bogons ++ origins) s)))

  in_bogons : Script bogons now old new → Script (people ++ (ports ++ (interfaces ++ (lists ++ (bogons ++ origins))))) (people ++ (ports ++ (interfaces ++ (lists ++ (now ++ origins))))) old new
  in_bogons s =
      in_front people (ports ++ (interfaces ++ (lists ++ (bogons ++ origins)))) (ports ++ (interfaces ++ (lists ++ (now ++ origins)))) old new
      (in_front ports (interfaces ++ (lists ++ (bogons ++ origins))) (interfaces ++ (lists ++ (now ++ origins))) old new
      (in_front interfaces (lists ++ (bogons ++ origins)) (lists ++ (now ++ origins)) old new
      (in_front lists (bogons ++ origins) (now ++ origins) old new (before bogons now old new origins s))))

  in_origins : Script origins now old new → Script (people ++ (ports ++ (interfaces ++ (lists ++ (bogons ++ origins))))) (people ++ (ports ++ (interfaces ++ (lists ++ (bogons ++ now))))) old new
  in_origins s =
      in_front people (ports ++ (interfaces ++ (lists ++ (bogons ++ origins)))) (ports ++ (interfaces ++ (lists ++ (bogons ++ now)))) old new
      (in_front ports (interfaces ++ (lists ++ (bogons ++ origins))) (interfaces ++ (lists ++ (bogons ++ now))) old new
      (in_front interfaces (lists ++ (bogons ++ origins)) (lists ++ (bogons ++ now)) old new
      (in_front lists (bogons ++ origins) (bogons ++ now) old new (in_front bogons origins now old new s))))

-- the first, the second or the third of three lists
first_of : (a b c now old new : List Entry) → Script a now old new → Script (a ++ (b ++ c)) (now ++ (b ++ c)) old new
first_of a b c now old new s = before a now old new (b ++ c) s

second_of : (a b c now old new : List Entry) → Script b now old new → Script (a ++ (b ++ c)) (a ++ (now ++ c)) old new
second_of a b c now old new s = in_front a (b ++ c) (now ++ c) old new (before b now old new c s)

third_of : (a b c now old new : List Entry) → Script c now old new → Script (a ++ (b ++ c)) (a ++ (b ++ now)) old new
third_of a b c now old new s = in_front a (b ++ c) (b ++ now) old new (in_front b c now old new s)

-- the rows of an interface: its own, and those of its addresses
parted : (o : Option Interface) → entries_of (λ i. line_row (interface_line (bare i)) ∷ []) o ++ entries_of address_rows o ≡ entries_of interface_entries o
parted None = refl
parted (Some i) = refl

-- the parts of a registry's rows
module _ (r : Registry) (valid : Valid r) where
  abbrev Changes : RegistryChange → Type 0
  Changes d = Script (registry_rows r) (registry_rows (with_change r d)) (old_entries r d) (new_entries d)

  members_change : (d : TableChange Member ℕ) → Changes (of.Members d)
  members_change d =
      in_people (people_rows r) (port_rows r) (interface_rows r) (list_rows r) (bogon_rows r.public) (origin_rows r.public) (people_rows (with_change r (of.Members d))) (old_entries r (of.Members d)) (new_entries (of.Members d))
      (stays (line_row (site_line r.site)) ((map (λ m. line_row (member_line m)) r.members) ++ ((map (λ c. line_row (contact_line c)) r.contacts) ++ (map (λ k. line_row (key_line k)) r.keys))) ((map (λ m. line_row (member_line m)) (changed_rows member_key (λ k. k ∷ []) d r.members)) ++ ((map (λ c. line_row (contact_line c)) r.contacts) ++ (map (λ k. line_row (key_line k)) r.keys))) (old_entries r (of.Members d)) (new_entries (of.Members d))
      (first_of (map (λ m. line_row (member_line m)) r.members) (map (λ c. line_row (contact_line c)) r.contacts) (map (λ k. line_row (key_line k)) r.keys) (map (λ m. line_row (member_line m)) (changed_rows member_key (λ k. k ∷ []) d r.members)) (old_entries r (of.Members d)) (new_entries (of.Members d))
      (script_change_one member_key (λ m. line_row (member_line m)) (λ k. k ∷ []) d r.members valid.members.order)))

  contacts_change : (d : TableChange Contact (ℕ × ℕ)) → Changes (of.Contacts d)
  contacts_change d =
      in_people (people_rows r) (port_rows r) (interface_rows r) (list_rows r) (bogon_rows r.public) (origin_rows r.public) (people_rows (with_change r (of.Contacts d))) (old_entries r (of.Contacts d)) (new_entries (of.Contacts d))
      (stays (line_row (site_line r.site)) ((map (λ m. line_row (member_line m)) r.members) ++ ((map (λ c. line_row (contact_line c)) r.contacts) ++ (map (λ k. line_row (key_line k)) r.keys))) ((map (λ m. line_row (member_line m)) r.members) ++ ((map (λ c. line_row (contact_line c)) (changed_rows contact_key (λ k. k.0 ∷ k.1 ∷ []) d r.contacts)) ++ (map (λ k. line_row (key_line k)) r.keys))) (old_entries r (of.Contacts d)) (new_entries (of.Contacts d))
      (second_of (map (λ m. line_row (member_line m)) r.members) (map (λ c. line_row (contact_line c)) r.contacts) (map (λ k. line_row (key_line k)) r.keys) (map (λ c. line_row (contact_line c)) (changed_rows contact_key (λ k. k.0 ∷ k.1 ∷ []) d r.contacts)) (old_entries r (of.Contacts d)) (new_entries (of.Contacts d))
      (script_change_one contact_key (λ c. line_row (contact_line c)) (λ k. k.0 ∷ k.1 ∷ []) d r.contacts valid.contacts.order)))

  keys_change : (d : TableChange ApiKey ℕ) → Changes (of.Keys d)
  keys_change d =
      in_people (people_rows r) (port_rows r) (interface_rows r) (list_rows r) (bogon_rows r.public) (origin_rows r.public) (people_rows (with_change r (of.Keys d))) (old_entries r (of.Keys d)) (new_entries (of.Keys d))
      (stays (line_row (site_line r.site)) ((map (λ m. line_row (member_line m)) r.members) ++ ((map (λ c. line_row (contact_line c)) r.contacts) ++ (map (λ k. line_row (key_line k)) r.keys))) ((map (λ m. line_row (member_line m)) r.members) ++ ((map (λ c. line_row (contact_line c)) r.contacts) ++ (map (λ k. line_row (key_line k)) (changed_rows api_key_key (λ k. k ∷ []) d r.keys)))) (old_entries r (of.Keys d)) (new_entries (of.Keys d))
      (third_of (map (λ m. line_row (member_line m)) r.members) (map (λ c. line_row (contact_line c)) r.contacts) (map (λ k. line_row (key_line k)) r.keys) (map (λ k. line_row (key_line k)) (changed_rows api_key_key (λ k. k ∷ []) d r.keys)) (old_entries r (of.Keys d)) (new_entries (of.Keys d))
      (script_change_one api_key_key (λ k. line_row (key_line k)) (λ k. k ∷ []) d r.keys valid.keys.order)))

  switches_change : (d : TableChange Switch ℕ) → Changes (of.Switches d)
  switches_change d =
      in_ports (people_rows r) (port_rows r) (interface_rows r) (list_rows r) (bogon_rows r.public) (origin_rows r.public) (port_rows (with_change r (of.Switches d))) (old_entries r (of.Switches d)) (new_entries (of.Switches d))
      (first_of (map (λ s. line_row (switch_line s)) r.switches) (map (λ p. line_row (port_line p)) r.ports) (map (λ v. line_row (vlan_line v)) r.vlans) (map (λ s. line_row (switch_line s)) (changed_rows switch_key (λ k. k ∷ []) d r.switches)) (old_entries r (of.Switches d)) (new_entries (of.Switches d))
      (script_change_one switch_key (λ s. line_row (switch_line s)) (λ k. k ∷ []) d r.switches valid.switches.order))

  ports_change : (d : TableChange Port ℕ) → Changes (of.Ports d)
  ports_change d =
      in_ports (people_rows r) (port_rows r) (interface_rows r) (list_rows r) (bogon_rows r.public) (origin_rows r.public) (port_rows (with_change r (of.Ports d))) (old_entries r (of.Ports d)) (new_entries (of.Ports d))
      (second_of (map (λ s. line_row (switch_line s)) r.switches) (map (λ p. line_row (port_line p)) r.ports) (map (λ v. line_row (vlan_line v)) r.vlans) (map (λ p. line_row (port_line p)) (changed_rows port_key (λ k. k ∷ []) d r.ports)) (old_entries r (of.Ports d)) (new_entries (of.Ports d))
      (script_change_one port_key (λ p. line_row (port_line p)) (λ k. k ∷ []) d r.ports valid.ports.order))

  vlans_change : (d : TableChange Vlan ℕ) → Changes (of.Vlans d)
  vlans_change d =
      in_ports (people_rows r) (port_rows r) (interface_rows r) (list_rows r) (bogon_rows r.public) (origin_rows r.public) (port_rows (with_change r (of.Vlans d))) (old_entries r (of.Vlans d)) (new_entries (of.Vlans d))
      (third_of (map (λ s. line_row (switch_line s)) r.switches) (map (λ p. line_row (port_line p)) r.ports) (map (λ v. line_row (vlan_line v)) r.vlans) (map (λ v. line_row (vlan_line v)) (changed_rows vlan_key (λ k. k ∷ []) d r.vlans)) (old_entries r (of.Vlans d)) (new_entries (of.Vlans d))
      (script_change_one vlan_key (λ v. line_row (vlan_line v)) (λ k. k ∷ []) d r.vlans valid.vlans.order))

  routers_change : (d : TableChange Router (List ℕ)) → Changes (of.Routers d)
  routers_change d =
      in_interfaces (people_rows r) (port_rows r) (interface_rows r) (list_rows r) (bogon_rows r.public) (origin_rows r.public) (interface_rows (with_change r (of.Routers d))) (old_entries r (of.Routers d)) (new_entries (of.Routers d))
      (third_of (map (λ i. line_row (interface_line (bare i))) r.interfaces) (flat_map address_rows r.interfaces) (map (λ q. line_row (router_line Two q)) r.routers) (map (λ q. line_row (router_line Two q)) (changed_rows router_key (λ k. k) d r.routers)) (old_entries r (of.Routers d)) (new_entries (of.Routers d))
      (script_change_one router_key (λ q. line_row (router_line Two q)) (λ k. k) d r.routers valid.routers.order))

  irr_change : (d : TableChange IrrList (ℕ × Family)) → Changes (of.Irr d)
  irr_change d =
      in_lists (people_rows r) (port_rows r) (interface_rows r) (list_rows r) (bogon_rows r.public) (origin_rows r.public) (list_rows (with_change r (of.Irr d))) (old_entries r (of.Irr d)) (new_entries (of.Irr d))
      (first_of (map irr_row r.irr) (map origins_row r.origins) (flat_map rule_rows r.rules) (map irr_row (changed_rows irr_key (λ k. k.0 ∷ version_of k.1 ∷ []) d r.irr)) (old_entries r (of.Irr d)) (new_entries (of.Irr d))
      (script_change_one irr_key irr_row (λ k. k.0 ∷ version_of k.1 ∷ []) d r.irr valid.irr.order))

  origins_change : (d : TableChange OriginList (ℕ × Family)) → Changes (of.Origins d)
  origins_change d =
      in_lists (people_rows r) (port_rows r) (interface_rows r) (list_rows r) (bogon_rows r.public) (origin_rows r.public) (list_rows (with_change r (of.Origins d))) (old_entries r (of.Origins d)) (new_entries (of.Origins d))
      (second_of (map irr_row r.irr) (map origins_row r.origins) (flat_map rule_rows r.rules) (map origins_row (changed_rows origins_key (λ k. k.0 ∷ version_of k.1 ∷ []) d r.origins)) (old_entries r (of.Origins d)) (new_entries (of.Origins d))
      (script_change_one origins_key origins_row (λ k. k.0 ∷ version_of k.1 ∷ []) d r.origins valid.origins.order))

  interfaces_change : (d : TableChange Interface ℕ) → Changes (of.Interfaces d)
  interfaces_change d = subst (λ es. Script (registry_rows r) (registry_rows (with_change r (of.Interfaces d))) es (new_entries (of.Interfaces d))) (parted (old_row interface_key (λ k. k ∷ []) d r.interfaces))
      (subst (λ es. Script (registry_rows r) (registry_rows (with_change r (of.Interfaces d))) (own old ++ addresses old) es) (parted (new_row d)) parts)
    where
      rows : List Interface
      rows = changed_rows interface_key (λ k. k ∷ []) d r.interfaces

      own : Option Interface → List Entry
      own o = entries_of (λ i. line_row (interface_line (bare i)) ∷ []) o

      addresses : Option Interface → List Entry
      addresses o = entries_of address_rows o

      old : Option Interface
      old = old_row interface_key (λ k. k ∷ []) d r.interfaces

      parts : Script (registry_rows r) (registry_rows (with_change r (of.Interfaces d))) (own old ++ addresses old) (own (new_row d) ++ addresses (new_row d))
      parts =
          in_interfaces (people_rows r) (port_rows r) (interface_rows r) (list_rows r) (bogon_rows r.public) (origin_rows r.public) (interface_rows (with_change r (of.Interfaces d))) (own old ++ addresses old) (own (new_row d) ++ addresses (new_row d))
          (joined (map (λ i. line_row (interface_line (bare i))) r.interfaces) (map (λ i. line_row (interface_line (bare i))) rows) (own old) (own (new_row d))
          ((flat_map address_rows r.interfaces) ++ (map (λ q. line_row (router_line Two q)) r.routers)) (flat_map address_rows rows ++ (map (λ q. line_row (router_line Two q)) r.routers)) (addresses old) (addresses (new_row d))
          (script_change_one interface_key (λ i. line_row (interface_line (bare i))) (λ k. k ∷ []) d r.interfaces valid.interfaces.order)
          (before (flat_map address_rows r.interfaces) (flat_map address_rows rows) (addresses old) (addresses (new_row d)) (map (λ q. line_row (router_line Two q)) r.routers)
          (script_change interface_key address_rows (λ k. k ∷ []) d r.interfaces valid.interfaces.order)))

  rules_change : (d : TableChange RuleList ℕ) → Changes (of.Rules d)
  rules_change d =
      in_lists (people_rows r) (port_rows r) (interface_rows r) (list_rows r) (bogon_rows r.public) (origin_rows r.public) (list_rows (with_change r (of.Rules d))) (old_entries r (of.Rules d)) (new_entries (of.Rules d))
      (third_of (map irr_row r.irr) (map origins_row r.origins) (flat_map rule_rows r.rules) (flat_map rule_rows (changed_rows rules_key (λ k. k ∷ []) d r.rules)) (old_entries r (of.Rules d)) (new_entries (of.Rules d))
      (script_change rules_key rule_rows (λ k. k ∷ []) d r.rules valid.rules.order))

  public_change : (l : PublicList) → Changes (of.Public l)
  public_change (list.Bogons xs) =
      in_bogons (people_rows r) (port_rows r) (interface_rows r) (list_rows r) (bogon_rows r.public) (origin_rows r.public) (bogon_rows (with_public (list.Bogons xs) r.public)) (old_public r.public (list.Bogons xs)) (new_public (list.Bogons xs))
      (before (map (λ b. line_row (bogon_line b)) r.public.bogons) (map (λ b. line_row (bogon_line b)) xs) (old_public r.public (list.Bogons xs)) (new_public (list.Bogons xs)) (map (λ b. line_row (bogon_as_line b)) r.public.bogon_as) (replaced (map (λ b. line_row (bogon_line b)) r.public.bogons) (map (λ b. line_row (bogon_line b)) xs)))
  public_change (list.BogonAs xs) =
      in_bogons (people_rows r) (port_rows r) (interface_rows r) (list_rows r) (bogon_rows r.public) (origin_rows r.public) (bogon_rows (with_public (list.BogonAs xs) r.public)) (old_public r.public (list.BogonAs xs)) (new_public (list.BogonAs xs))
      (in_front (map (λ b. line_row (bogon_line b)) r.public.bogons) (map (λ b. line_row (bogon_as_line b)) r.public.bogon_as) (map (λ b. line_row (bogon_as_line b)) xs) (old_public r.public (list.BogonAs xs)) (new_public (list.BogonAs xs)) (replaced (map (λ b. line_row (bogon_as_line b)) r.public.bogon_as) (map (λ b. line_row (bogon_as_line b)) xs)))
  public_change (list.Transit xs) =
      in_origins (people_rows r) (port_rows r) (interface_rows r) (list_rows r) (bogon_rows r.public) (origin_rows r.public) (origin_rows (with_public (list.Transit xs) r.public)) (old_public r.public (list.Transit xs)) (new_public (list.Transit xs))
      (before (map (λ a. line_row (transit_line a)) r.public.transit) (map (λ a. line_row (transit_line a)) xs) (old_public r.public (list.Transit xs)) (new_public (list.Transit xs)) (map (λ x. line_row (roa_line x)) r.public.roas) (replaced (map (λ a. line_row (transit_line a)) r.public.transit) (map (λ a. line_row (transit_line a)) xs)))
  public_change (list.Roas xs) =
      in_origins (people_rows r) (port_rows r) (interface_rows r) (list_rows r) (bogon_rows r.public) (origin_rows r.public) (origin_rows (with_public (list.Roas xs) r.public)) (old_public r.public (list.Roas xs)) (new_public (list.Roas xs))
      (in_front (map (λ a. line_row (transit_line a)) r.public.transit) (map (λ x. line_row (roa_line x)) r.public.roas) (map (λ x. line_row (roa_line x)) xs) (old_public r.public (list.Roas xs)) (new_public (list.Roas xs)) (replaced (map (λ x. line_row (roa_line x)) r.public.roas) (map (λ x. line_row (roa_line x)) xs)))

  pub registry_script : (c : RegistryChange) → Changes c
  registry_script (of.Members d) = members_change d
  registry_script (of.Contacts d) = contacts_change d
  registry_script (of.Keys d) = keys_change d
  registry_script (of.Switches d) = switches_change d
  registry_script (of.Ports d) = ports_change d
  registry_script (of.Vlans d) = vlans_change d
  registry_script (of.Interfaces d) = interfaces_change d
  registry_script (of.Routers d) = routers_change d
  registry_script (of.Irr d) = irr_change d
  registry_script (of.Origins d) = origins_change d
  registry_script (of.Rules d) = rules_change d
  registry_script (of.Public l) = public_change l
