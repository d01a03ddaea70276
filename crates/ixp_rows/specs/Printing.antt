-- The lines of rows, kind by kind.
use Rattle.std.specs.Prelude.{ℕ, List, [], ◌∷◌, length}
use Rattle.ixp_registry.specs.declared.rows.Rows.{Rows}
use Rattle.ixp_registry.specs.declared.kind.Kind.{Kind}
use Rattle.ixp_registry.specs.declared.kind.Kind.TheVariants.{Sites, Members, Contacts, Keys, Switches, Ports, Vlans, Interfaces, Addresses, Routers, Prefixes, Origins, Rules, Bogons, BogonAs, Transit, Roas}
use Rattle.ixp_rows_lines.specs.declared.version.Version.{Version}
use Rattle.ixp_rows_lines.specs.Lines.{line_text, site_line, member_line, contact_line, key_line, switch_line, port_line, vlan_line, interface_line, address_line, router_line, prefix_line, origin_line, rule_line, bogon_line, bogon_as_line, transit_line, roa_line}
use Rattle.ixp_rows.specs.Texts.{lines_by}

abbrev pub all_kinds : List Kind
all_kinds =
    Sites ∷ Members ∷ Contacts ∷ Keys ∷ Switches ∷ Ports ∷ Vlans ∷ Interfaces ∷ Addresses ∷ Routers ∷ Prefixes
    ∷ Origins ∷ Rules ∷ Bogons
    ∷ BogonAs ∷ Transit ∷ Roas ∷ []

-- the lines of the rows of a kind
abbrev pub kind_lines : Version → Rows → Kind → List ℕ
kind_lines version w Sites = line_text (site_line w.site)
kind_lines version w Members = lines_by member_line w.members
kind_lines version w Contacts = lines_by contact_line w.contacts
kind_lines version w Keys = lines_by key_line w.keys
kind_lines version w Switches = lines_by switch_line w.switches
kind_lines version w Ports = lines_by port_line w.ports
kind_lines version w Vlans = lines_by vlan_line w.vlans
kind_lines version w Interfaces = lines_by interface_line w.interfaces
kind_lines version w Addresses = lines_by address_line w.addresses
kind_lines version w Routers = lines_by (router_line version) w.routers
kind_lines version w Prefixes = lines_by prefix_line w.prefixes
kind_lines version w Origins = lines_by origin_line w.origins
kind_lines version w Rules = lines_by rule_line w.rules
kind_lines version w Bogons = lines_by bogon_line w.public.bogons
kind_lines version w BogonAs = lines_by bogon_as_line w.public.bogon_as
kind_lines version w Transit = lines_by transit_line w.public.transit
kind_lines version w Roas = lines_by roa_line w.public.roas

-- how many rows of a kind there are
abbrev pub kind_count : Rows → Kind → ℕ
kind_count w Sites = 1
kind_count w Members = length w.members
kind_count w Contacts = length w.contacts
kind_count w Keys = length w.keys
kind_count w Switches = length w.switches
kind_count w Ports = length w.ports
kind_count w Vlans = length w.vlans
kind_count w Interfaces = length w.interfaces
kind_count w Addresses = length w.addresses
kind_count w Routers = length w.routers
kind_count w Prefixes = length w.prefixes
kind_count w Origins = length w.origins
kind_count w Rules = length w.rules
kind_count w Bogons = length w.public.bogons
kind_count w BogonAs = length w.public.bogon_as
kind_count w Transit = length w.public.transit
kind_count w Roas = length w.public.roas
