use Rattle.std.proofs.Common.{◌∷◌, not, ◌&&◌, sym, ◌∙◌}
use Rattle.std.specs.Option.{is_some}
use Rattle.ixp_num.specs.Families.{same_family}
use Rattle.ixp_registry.specs.declared.refusal.Refusal.TheVariants.{AsnReserved, Family, Outside}
use Rattle.ixp_registry.specs.Lookups.{is_host_in, prefix_in}
use Rattle.ixp_machine_edits.specs.Routers.{is_no_router_asn, blackhole_has_family, blackhole_is_host}
use Rattle.ixp_machine_edits.specs.Tests.{refused}
use Rattle.ixp_machine_refusals.specs.Columns.{address_tests}
use Rattle.ixp_machine_refusals.proofs.Columning.{passed_by, held_by}
use Rattle.ixp_machine_refusals.proofs.routers.new_refusal.Goals as goal

pub returns : goal.returns
returns c =
    let r = c.args.registry.now in
    let q = c.args.router.now in
    let family = same_family q.addr.family q.family && is_some (prefix_in r.vlans q.vlan q.family) && blackhole_has_family q in
    let inside = is_host_in r.vlans q.vlan q.family q.addr && blackhole_is_host r q in
    let rest = address_tests r q in
    c.address_refusal.ensures
    ∙ sym (passed_by (is_no_router_asn r q.asn.0) (AsnReserved q.asn) (refused (not family) (Family q.family) ∷ refused (not inside) (Outside q.vlan) ∷ rest) (sym (c.if-is_no_router_asn.ensures))
    ∙ (held_by family (Family q.family) (refused (not inside) (Outside q.vlan) ∷ rest) (sym (c.if-not-has_its_family.ensures))
    ∙ held_by inside (Outside q.vlan) rest (sym (c.if-not-lies_inside.ensures))))
