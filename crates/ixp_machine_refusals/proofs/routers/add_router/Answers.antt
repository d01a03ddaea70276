use Rattle.std.proofs.Common.{rules, ◌≡◌, ℕ, List, [], ◌∷◌, not, true, sym, ap, ◌∙◌}
use Rattle.std.specs.Option.{is_some}
use Rattle.ixp_num_tables.specs.Tables.{find}
use Rattle.ixp_registry.specs.declared.kind.Kind.TheVariants.{Vlans}
use Rattle.ixp_registry.specs.declared.refusal.Refusal.TheVariants.{BadText, Unknown}
use Rattle.ixp_registry.specs.declared.refusal.RowKey.TheVariants.{Number}
use Rattle.ixp_registry.specs.declared.refusal.TextField.TheVariants.{Handle}
use Rattle.ixp_registry.specs.Alphabets.{is_handle}
use Rattle.ixp_registry.specs.Keys.{vlan_key}
use Rattle.ixp_machine_edits.specs.Routers.{new_router}
use Rattle.ixp_machine_edits.specs.Tests.{first_refused, refused}
use Rattle.ixp_registry.proofs.HandleNames.{handle_is_name}
use Rattle.ixp_machine_refusals.specs.Columns.{placed_tests}
use Rattle.ixp_machine_refusals.proofs.Columning.{held_by}
use Rattle.ixp_machine_refusals.proofs.routers.add_router.Goals as goal

pub new-requires : goal.new-requires
new-requires c =
    let good : is_handle c.args.handle.now ≡ true = search rules in
    handle_is_name c.args.handle.now good

pub returns : goal.returns
returns c =
    let r = c.args.registry.now in
    let a = c.args in
    let q = new_router a.handle.now a.vlan a.family a.address.now a.settings.now in
    let name : c.in_ok-name.name ≡ a.handle.now = search rules in
    let there = is_some (find vlan_key (a.vlan ∷ []) r.vlans) in
    let rest = placed_tests r q in
    c.named_refusal.ensures
    ∙ (ap (λ (h : List ℕ). first_refused (placed_tests r (new_router h a.vlan a.family a.address.now a.settings.now))) name
    ∙ sym (held_by there (Unknown Vlans (Number a.vlan)) (refused (not (is_handle a.handle.now)) (BadText Handle) ∷ rest) (sym (c.if-not-has_vlan.ensures))
    ∙ held_by (is_handle a.handle.now) (BadText Handle) rest (sym (c.if-not-is_handle.ensures))))
