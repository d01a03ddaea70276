-- The rows that a store holds of a state.
use Rattle.std.specs.Prelude.{List, [], ◌∷◌, ◌++◌, None, Some, map, flat_map}
use Rattle.std.specs.FinMap.{empty}
use Rattle.ixp_io.specs.declared.keeper.Change.{Change}
use Rattle.ixp_io.specs.Tables.{Table, changed}
use Rattle.ixp_registry.specs.declared.lists.PublicLists.{PublicLists}
use Rattle.ixp_registry.specs.declared.network.Interface.{Interface}
use Rattle.ixp_registry.specs.declared.registry.Registry.{Registry}
use Rattle.ixp_registry.specs.declared.rules.RuleList.{RuleList}
use Rattle.ixp_registry.specs.Registries.{bare, addresses_of}
use Rattle.ixp_rows_lines.specs.declared.version.Version.TheVariants.{Two}
use Rattle.ixp_rows_lines.specs.Lines.{site_line, member_line, contact_line, key_line, switch_line, port_line, vlan_line, interface_line, address_line, router_line, rule_line, bogon_line, bogon_as_line, transit_line, roa_line}
use Rattle.ixp_machine_steps.specs.declared.state.State.{State}
use Rattle.ixp_store_rows.specs.Names.{Entry, line_row, irr_row, origins_row, floor_rows, kept_rows, version_row, count_row}

-- the rows of an interface's addresses
abbrev pub address_rows : Interface → List Entry
address_rows i = map (λ a. line_row (address_line a)) (addresses_of i)

-- the rows of a member's rules
abbrev pub rule_rows : RuleList → List Entry
rule_rows l = map (λ x. line_row (rule_line x)) l.rules

abbrev pub people_rows : Registry → List Entry
people_rows r =
    line_row (site_line r.site)
    ∷ (map (λ m. line_row (member_line m)) r.members ++ (map (λ c. line_row (contact_line c)) r.contacts
    ++ map (λ k. line_row (key_line k)) r.keys))

abbrev pub port_rows : Registry → List Entry
port_rows r = map (λ s. line_row (switch_line s)) r.switches
    ++ (map (λ p. line_row (port_line p)) r.ports ++ map (λ v. line_row (vlan_line v)) r.vlans)

abbrev pub interface_rows : Registry → List Entry
interface_rows r =
    map (λ i. line_row (interface_line (bare i))) r.interfaces
    ++ (flat_map address_rows r.interfaces ++ map (λ q. line_row (router_line Two q)) r.routers)

abbrev pub list_rows : Registry → List Entry
list_rows r = map irr_row r.irr ++ (map origins_row r.origins ++ flat_map rule_rows r.rules)

abbrev pub bogon_rows : PublicLists → List Entry
bogon_rows p = map (λ b. line_row (bogon_line b)) p.bogons ++ map (λ b. line_row (bogon_as_line b)) p.bogon_as

abbrev pub origin_rows : PublicLists → List Entry
origin_rows p = map (λ a. line_row (transit_line a)) p.transit ++ map (λ x. line_row (roa_line x)) p.roas

abbrev pub registry_rows : Registry → List Entry
registry_rows r = people_rows r ++ (port_rows r
    ++ (interface_rows r ++ (list_rows r ++ (bogon_rows r.public ++ origin_rows r.public))))

-- all rows: the version, the registry's, what is kept of requests, and the count
abbrev pub stored_rows : State → List Entry
stored_rows s = version_row ∷ (registry_rows s.registry
    ++ (flat_map floor_rows s.kept ++ (flat_map kept_rows s.kept ++ count_row s.accepted ∷ [])))

-- a row is put in
abbrev pub set_row : Entry → Change
set_row e = record { name = e.0; body = Some e.1 }

-- a row goes
abbrev pub drop_row : Entry → Change
drop_row e = record { name = e.0; body = None }

-- what a store holds of a state: the finite map of its rows
abbrev pub tables : State → Table
tables s = changed empty (map set_row (stored_rows s))
