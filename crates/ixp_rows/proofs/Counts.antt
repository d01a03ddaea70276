-- How many rows there are.
use Rattle.std.proofs.Common.{◌≡◌, ℕ, List, [], ◌∷◌, length, refl, sym, ◌∙◌, Option, Some, None, IfSome}
use Rattle.std.proofs.lemmas.List.{length-map}
use Rattle.ixp_registry.specs.declared.rows.Rows.{Rows}
use Rattle.ixp_rows_lines.specs.declared.version.Version.{Version}
use Rattle.ixp_rows_lines.specs.Lines.{Line, member_line, contact_line, key_line, switch_line, port_line, vlan_line, interface_line, address_line, router_line, prefix_line, origin_line, rule_line, bogon_line, bogon_as_line, transit_line, roa_line}
use Rattle.ixp_rows.specs.Reading.{sum, total}
use Rattle.ixp_rows.specs.Groups.{fields_by, row_fields}

each : {R : Type 0} (line : R → Line) (rows : List R) → length (fields_by line rows) ≡ length rows
each line rows = length-map rows (λ row. (line row).fields)

pub total_rows : (version : Version) (w : Rows) → total (row_fields version w) ≡ sum (1 ∷ length w.members ∷ length w.contacts ∷ length w.keys ∷ length w.switches ∷ length w.ports ∷ length w.vlans ∷ length w.interfaces ∷ length w.addresses ∷ length w.routers ∷ length w.prefixes ∷ length w.origins ∷ length w.rules ∷ length w.public.bogons ∷ length w.public.bogon_as ∷ length w.public.transit ∷ length w.public.roas ∷ [])
total_rows version w = rw (each member_line w.members, each contact_line w.contacts, each key_line w.keys, each switch_line w.switches, each port_line w.ports, each vlan_line w.vlans, each interface_line w.interfaces, each address_line w.addresses, each (router_line version) w.routers, each prefix_line w.prefixes, each origin_line w.origins, each rule_line w.rules, each bogon_line w.public.bogons, each bogon_as_line w.public.bogon_as, each transit_line w.public.transit, each roa_line w.public.roas) refl

-- the same of a sum
pub counted : (version : Version) (w : Rows) (o : Option ℕ) → IfSome o (λ n. n ≡ sum (1 ∷ length w.members ∷ length w.contacts ∷ length w.keys ∷ length w.switches ∷ length w.ports ∷ length w.vlans ∷ length w.interfaces ∷ length w.addresses ∷ length w.routers ∷ length w.prefixes ∷ length w.origins ∷ length w.rules ∷ length w.public.bogons ∷ length w.public.bogon_as ∷ length w.public.transit ∷ length w.public.roas ∷ [])) → IfSome o (λ n. n ≡ total (row_fields version w))
counted version w None e = tt
counted version w (Some n) e = e ∙ sym (total_rows version w)
