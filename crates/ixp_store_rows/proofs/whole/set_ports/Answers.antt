use Rattle.std.proofs.Common.{map, ◌++◌, ap, ◌∙◌}
use Rattle.ixp_rows_lines.specs.Lines.{switch_line, port_line, vlan_line}
use Rattle.ixp_store_rows.specs.Names.{line_row}
use Rattle.ixp_store_rows.specs.States.{set_row}
use Rattle.ixp_store_rows.proofs.Empty.{three}
use Rattle.ixp_store_rows.proofs.whole.set_ports.Goals as goal

pub returns : goal.returns
returns c =
    three (map (λ s. line_row (switch_line s)) c.args.registry.now.switches) (map (λ p. line_row (port_line p)) c.args.registry.now.ports) (map (λ v. line_row (vlan_line v)) c.args.registry.now.vlans)
    c.args.batch.now.items c.set_rows.new.batch.items c.set_rows-2.new.batch.items c.set_rows-3.new.batch.items
    (c.in_ok-set_rows.ensures ∙ ap (λ rs. c.args.batch.now.items ++ map set_row (map (λ s. line_row (switch_line s)) rs)) c.as_slice.ensures.rows)
    (c.in_ok-set_rows-2.ensures ∙ ap (λ rs. c.set_rows.new.batch.items ++ map set_row (map (λ p. line_row (port_line p)) rs)) c.as_slice-2.ensures.rows)
    (c.in_ok-set_rows-3.ensures ∙ ap (λ rs. c.set_rows-2.new.batch.items ++ map set_row (map (λ v. line_row (vlan_line v)) rs)) c.as_slice-3.ensures.rows)
