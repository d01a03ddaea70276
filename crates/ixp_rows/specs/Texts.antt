-- The text of a dump.
use Rattle.std.specs.Prelude.{ℕ, List, [], ◌∷◌, ◌++◌, length, flat_map}
use Rattle.ixp_registry.specs.declared.rows.Rows.{Rows}
use Rattle.ixp_rows_lines.specs.declared.version.Version.{Version}
use Rattle.ixp_rows_lines.specs.Lines.{Line, line_text, site_line, member_line, contact_line, key_line, switch_line, port_line, vlan_line, interface_line, address_line, router_line, prefix_line, origin_line, rule_line, bogon_line, bogon_as_line, transit_line, roa_line}
use Rattle.ixp_rows.specs.Reading.{sum, head_text, end_text}

abbrev pub lines_by : {R : Type 0} → (R → Line) → List R → List ℕ
lines_by line rows = flat_map (λ row. line_text (line row)) rows

-- the lines of the rows, kind by kind
abbrev pub lines_text : Version → Rows → List ℕ
lines_text version w =
    line_text (site_line w.site)
    ++ (lines_by member_line w.members ++
    (lines_by contact_line w.contacts ++ (lines_by key_line w.keys ++ (lines_by switch_line w.switches
    ++ (lines_by port_line w.ports ++ (lines_by vlan_line w.vlans
    ++ (lines_by interface_line w.interfaces ++ (lines_by address_line w.addresses
    ++ (lines_by (router_line version) w.routers
    ++ (lines_by prefix_line w.prefixes ++ (lines_by origin_line w.origins ++ (lines_by rule_line w.rules
    ++ (lines_by bogon_line w.public.bogons
    ++ (lines_by bogon_as_line w.public.bogon_as ++ (lines_by transit_line w.public.transit
    ++ lines_by roa_line w.public.roas)))))))))))))))

-- how many lines that is
abbrev pub rows_count : Rows → ℕ
rows_count w =
    sum (1 ∷ length w.members ∷ length w.contacts ∷ length w.keys ∷ length w.switches ∷ length w.ports
    ∷ length w.vlans ∷ length w.interfaces
    ∷ length w.addresses ∷ length w.routers ∷ length w.prefixes ∷ length w.origins ∷ length w.rules
    ∷ length w.public.bogons
    ∷ length w.public.bogon_as ∷ length w.public.transit ∷ length w.public.roas ∷ [])

-- the head with the version, the lines, and the end with their number
abbrev pub dump_text : Version → Rows → List ℕ
dump_text version w = head_text version ++ (lines_text version w ++ end_text (rows_count w))
