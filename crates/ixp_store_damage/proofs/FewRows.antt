-- A valid state has at most 8,000,000 rows.
use Rattle.std.proofs.Common.{◌≡◌, ◌≤◌, ◌==◌, Bool, true, false, [], ◌∷◌, ◌++◌, map, flat_map, length, length-append, if◌then◌else◌, ap, ◌∙◌, arith}
use Rattle.ixp_num_tables.proofs.AllItems.{all_true, all_both}
use Rattle.ixp_num_tables.proofs.Orders.{all_weaker}
use Rattle.ixp_registry.specs.declared.registry.Registry.{Registry}
use Rattle.ixp_registry.specs.Lookups.{has_owner}
use Rattle.ixp_registry.specs.Registries.{bare, addresses_of, rules_in}
use Rattle.ixp_registry.specs.Valid.{Valid}
use Rattle.ixp_registry.specs.Words.{is_staff_number}
use Rattle.ixp_rows_lines.specs.declared.version.Version.TheVariants.{Two}
use Rattle.ixp_rows_lines.specs.Lines.{member_line, contact_line, key_line, switch_line, port_line, vlan_line, interface_line, address_line, router_line, rule_line, bogon_line, bogon_as_line, transit_line, roa_line}
use Rattle.ixp_machine_steps.specs.declared.kept.KeptOwner.{KeptOwner}
use Rattle.ixp_machine_steps.specs.declared.state.State.{State}
use Rattle.ixp_machine_steps.specs.Kept.{kept_owner_key, ValidKept}
use Rattle.ixp_machine_steps.specs.States.{ValidState}
use Rattle.ixp_store_rows.specs.Names.{line_row, irr_row, origins_row, floor_row, floor_rows, kept_row, kept_rows, count_row}
use Rattle.ixp_store_rows.specs.States.{address_rows, rule_rows, people_rows, port_rows, interface_rows, list_rows, bogon_rows, origin_rows, registry_rows, stored_rows}
use Rattle.ixp_store_words.specs.Sorting.{Has}
use Rattle.ixp_store_rows.proofs.NamesOnce.{flat_mapped}
use Rattle.ixp_store_damage.proofs.FewItems.{tables_few}
use Rattle.ixp_store_damage.proofs.Spread.{spread, once, length_mapped, length_flat, owner_keys, owner_there, owners_long}

module _ (r : Registry) (v : Valid r) where
  people_few : length (people_rows r) ≤ 100129
  people_few =
      let few = tables_few r v in
      let members = v.members.few in
      let contacts = few.contacts in
      let keys = few.keys in
      let a = length_mapped (λ m. line_row (member_line m)) r.members in
      let b = length_mapped (λ c. line_row (contact_line c)) r.contacts in
      let c = length_mapped (λ k. line_row (key_line k)) r.keys in
      let j = length-append (map (λ m. line_row (member_line m)) r.members) (map (λ c. line_row (contact_line c)) r.contacts ++ map (λ k. line_row (key_line k)) r.keys) in
      let k = length-append (map (λ c. line_row (contact_line c)) r.contacts) (map (λ k. line_row (key_line k)) r.keys) in
      omega (arith, members, contacts, keys, a, b, c, j, k)

  ports_few : length (port_rows r) ≤ 16704
  ports_few =
      let switches = v.switches.few in
      let ports = v.ports.few in
      let vlans = v.vlans.few in
      let a = length_mapped (λ s. line_row (switch_line s)) r.switches in
      let b = length_mapped (λ p. line_row (port_line p)) r.ports in
      let c = length_mapped (λ v. line_row (vlan_line v)) r.vlans in
      let j = length-append (map (λ s. line_row (switch_line s)) r.switches) (map (λ p. line_row (port_line p)) r.ports ++ map (λ v. line_row (vlan_line v)) r.vlans) in
      let k = length-append (map (λ p. line_row (port_line p)) r.ports) (map (λ v. line_row (vlan_line v)) r.vlans) in
      omega (arith, switches, ports, vlans, a, b, c, j, k)

  interfaces_few : length (interface_rows r) ≤ 24016
  interfaces_few =
      let few = tables_few r v in
      let interfaces = v.interfaces.few in
      let addresses = few.addresses in
      let routers = v.routers.few in
      let a = length_mapped (λ i. line_row (interface_line (bare i))) r.interfaces in
      let b : length (flat_map address_rows r.interfaces) ≡ length (flat_map addresses_of r.interfaces) =
      ap length (flat_mapped (λ a. line_row (address_line a)) addresses_of r.interfaces) ∙ length_mapped (λ a. line_row (address_line a)) (flat_map addresses_of r.interfaces) in
      let c = length_mapped (λ q. line_row (router_line Two q)) r.routers in
      let j = length-append (map (λ i. line_row (interface_line (bare i))) r.interfaces) (flat_map address_rows r.interfaces ++ map (λ q. line_row (router_line Two q)) r.routers) in
      let k = length-append (flat_map address_rows r.interfaces) (map (λ q. line_row (router_line Two q)) r.routers) in
      omega (arith, interfaces, addresses, routers, a, b, c, j, k)

  lists_few : length (list_rows r) ≤ 272000
  lists_few =
      let few = tables_few r v in
      let irr = few.irr in
      let origins = few.origins in
      let rules = few.rules in
      let a = length_mapped irr_row r.irr in
      let b = length_mapped origins_row r.origins in
      let c : length (flat_map rule_rows r.rules) ≡ length (flat_map rules_in r.rules) =
      ap length (flat_mapped (λ x. line_row (rule_line x)) rules_in r.rules) ∙ length_mapped (λ x. line_row (rule_line x)) (flat_map rules_in r.rules) in
      let j = length-append (map irr_row r.irr) (map origins_row r.origins ++ flat_map rule_rows r.rules) in
      let k = length-append (map origins_row r.origins) (flat_map rule_rows r.rules) in
      omega (arith, irr, origins, rules, a, b, c, j, k)

  public_few : length (bogon_rows r.public ++ origin_rows r.public) ≤ 1030000
  public_few =
      let few = v.public.few in
      let bogons = few.0 in
      let ranges = few.1 in
      let transit = few.2 in
      let roas = few.3 in
      let a = length_mapped (λ b. line_row (bogon_line b)) r.public.bogons in
      let b = length_mapped (λ b. line_row (bogon_as_line b)) r.public.bogon_as in
      let c = length_mapped (λ a. line_row (transit_line a)) r.public.transit in
      let d = length_mapped (λ x. line_row (roa_line x)) r.public.roas in
      let j = length-append (bogon_rows r.public) (origin_rows r.public) in
      let k = length-append (map (λ b. line_row (bogon_line b)) r.public.bogons) (map (λ b. line_row (bogon_as_line b)) r.public.bogon_as) in
      let l = length-append (map (λ a. line_row (transit_line a)) r.public.transit) (map (λ x. line_row (roa_line x)) r.public.roas) in
      omega (arith, bogons, ranges, transit, roas, a, b, c, d, j, k, l)

  registry_few : length (registry_rows r) ≤ 1442849
  registry_few =
      let a = people_few in
      let b = ports_few in
      let c = interfaces_few in
      let d = lists_few in
      let e = public_few in
      let j = length-append (people_rows r) (port_rows r ++ (interface_rows r ++ (list_rows r ++ (bogon_rows r.public ++ origin_rows r.public)))) in
      let k = length-append (port_rows r) (interface_rows r ++ (list_rows r ++ (bogon_rows r.public ++ origin_rows r.public))) in
      let l = length-append (interface_rows r) (list_rows r ++ (bogon_rows r.public ++ origin_rows r.public)) in
      let m = length-append (list_rows r) (bogon_rows r.public ++ origin_rows r.public) in
      omega (arith, a, b, c, d, e, j, k, l, m)

one_floor : (o : KeptOwner) → length (floor_rows o) ≤ 1
one_floor o = by_floor (o.floor == 0)
  where
    by_floor : (b : Bool) → length (if b then [] else floor_row o ∷ []) ≤ 1
    by_floor true = omega arith
    by_floor false = omega arith

module _ (s : State) (v : ValidState s) where
  owners_few : length s.kept ≤ 4016
  owners_few =
      let members = v.registry.members.few in
      let there = all_weaker (λ (o : KeptOwner). (is_staff_number o.owner ≡ true) × (has_owner s.registry.members o.owner ≡ true)) (λ o. Has (owner_keys s.registry.members) (kept_owner_key o))
      (λ o both. owner_there s.registry.members o.owner both.0 both.1) s.kept
      (all_both (λ (o : KeptOwner). is_staff_number o.owner ≡ true) (λ (o : KeptOwner). has_owner s.registry.members o.owner ≡ true) s.kept v.staff v.owners) in
      let few = spread 1 kept_owner_key s.kept (owner_keys s.registry.members) there (once kept_owner_key s.kept v.order) in
      let long = owners_long s.registry.members in
      omega (arith, members, few, long)

  pub few_rows : length (stored_rows s) ≤ 8000000
  few_rows =
      let owners = owners_few in
      let registry = registry_few s.registry v.registry in
      let floors = length_flat 1 floor_rows s.kept (all_true (λ o. length (floor_rows o) ≤ 1) one_floor s.kept) in
      let kept = length_flat 1024 kept_rows s.kept
      (all_weaker (ValidKept s.accepted) (λ o. length (kept_rows o) ≤ 1024) (λ o one. let few = one.few in let long = length_mapped (kept_row o.owner) o.numbers in omega (arith, few, long)) s.kept v.each) in
      let j = length-append (registry_rows s.registry) (flat_map floor_rows s.kept ++ (flat_map kept_rows s.kept ++ count_row s.accepted ∷ [])) in
      let k = length-append (flat_map floor_rows s.kept) (flat_map kept_rows s.kept ++ count_row s.accepted ∷ []) in
      let l = length-append (flat_map kept_rows s.kept) (count_row s.accepted ∷ []) in
      omega (arith, owners, registry, floors, kept, j, k, l)
