-- The fields of rows that are read together, a list for each kind.
use Rattle.std.specs.Prelude.{◌≡◌, ℕ, List, [], ◌∷◌, map, Result, Ok, Err}
use Rattle.ixp_rows_lines.specs.declared.version.Version.{Version}
use Rattle.ixp_rows_lines.specs.Fields.{Field}
use Rattle.ixp_rows_lines.specs.Lines.{Line, site_line, member_line, contact_line, key_line, switch_line, port_line, vlan_line, interface_line, address_line, router_line, prefix_line, origin_line, rule_line, bogon_line, bogon_as_line, transit_line, roa_line}
use Rattle.ixp_registry.specs.declared.lists.PublicLists.{PublicLists}
use Rattle.ixp_registry.specs.declared.rows.Rows.{Rows}
use Rattle.ixp_rows.specs.declared.fault.DumpFault.{DumpFault}
use Rattle.ixp_rows.specs.declared.misread.Misread.{Misread}
use Rattle.ixp_rows.specs.Reading.{Fails, fault_of, dump_at}
use Rattle.ixp_rows.specs.declared.groups.Owners.{Owners}
use Rattle.ixp_rows.specs.declared.groups.Network.{Network}
use Rattle.ixp_rows.specs.declared.groups.Steering.{Steering}

abbrev pub fields_by : {R : Type 0} → (R → Line) → List R → List (List Field)
fields_by line rows = map (λ row. (line row).fields) rows

abbrev pub owner_fields : Owners → List (List (List Field))
owner_fields o = fields_by member_line o.members ∷ fields_by contact_line o.contacts
    ∷ fields_by key_line o.keys ∷ []

abbrev pub network_fields : Network → List (List (List Field))
network_fields n =
    fields_by switch_line n.switches ∷ fields_by port_line n.ports ∷ fields_by vlan_line n.vlans
    ∷ fields_by interface_line n.interfaces
    ∷ fields_by address_line n.addresses ∷ []

abbrev pub steering_fields : Version → Steering → List (List (List Field))
steering_fields version s =
    fields_by (router_line version) s.routers ∷ fields_by prefix_line s.prefixes
    ∷ fields_by origin_line s.origins ∷ fields_by rule_line s.rules ∷ []

abbrev pub public_fields : PublicLists → List (List (List Field))
public_fields p = fields_by bogon_line p.bogons ∷ fields_by bogon_as_line p.bogon_as
    ∷ fields_by transit_line p.transit ∷ fields_by roa_line p.roas ∷ []

-- the fields of all rows
abbrev pub row_fields : Version → Rows → List (List (List Field))
row_fields version w =
    ((site_line w.site).fields ∷ [])
    ∷ fields_by member_line w.members ∷ fields_by contact_line w.contacts ∷ fields_by key_line w.keys
    ∷ fields_by switch_line w.switches ∷ fields_by port_line w.ports ∷ fields_by vlan_line w.vlans
    ∷ fields_by interface_line w.interfaces
    ∷ fields_by address_line w.addresses
    ∷ fields_by (router_line version) w.routers ∷ fields_by prefix_line w.prefixes
    ∷ fields_by origin_line w.origins ∷ fields_by rule_line w.rules
    ∷ fields_by bogon_line w.public.bogons ∷ fields_by bogon_as_line w.public.bogon_as
    ∷ fields_by transit_line w.public.transit
    ∷ fields_by roa_line w.public.roas ∷ []

-- the rows of a dump are read, or its first fault is named by its line
abbrev pub IsRead : Version → List ℕ → Result Rows DumpFault → Type 0
IsRead version t (Ok w) = dump_at version t ≡ Ok (row_fields version w)
IsRead version t (Err fault) =
    (misread : Misread) × Fails misread (dump_at version t) × (fault ≡ fault_of t misread)
