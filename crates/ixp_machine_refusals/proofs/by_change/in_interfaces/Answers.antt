use Rattle.std.proofs.Common.{◌≡◌, ℕ, [], ◌∷◌, ap, arith, sym, ◌∙◌}
use Rattle.ixp_num_tables.specs.Tables.{put, without}
use Rattle.ixp_registry.specs.declared.network.Interface.{Interface}
use Rattle.ixp_registry.specs.Keys.{interface_key}
use Rattle.ixp_registry.specs.Weight.{weight}
use Rattle.ixp_registry_change.specs.declared.change.TableChange.{TableChange}
use Rattle.ixp_registry_change.specs.Changes.{changed_rows}
use Rattle.ixp_machine_refusals.proofs.Afters.{interface_put, interface_gone}
use Rattle.ixp_machine_refusals.proofs.by_change.in_interfaces.Goals as goal

pub overflow_sub-result : goal.overflow_sub-result
overflow_sub-result c =
    let e = interface_put c.args.registry.now c.in-Put.row c.requires.valid.interfaces.order in
    let more = c.interface_weight-more.ensures.weight in
    let old = c.weight_at.ensures.weight in
    let was = c.requires.weight in
    omega (arith, e, more, old, was)

pub overflow_sub-result-in-Take : goal.overflow_sub-result-in-Take
overflow_sub-result-in-Take c =
    let e = interface_gone c.args.registry.now c.in-Take.number c.requires.valid.interfaces.order in
    let old = c.weight_at-in-Take.ensures.weight in
    let was = c.requires.weight in
    omega (arith, e, old, was)

pub returns-in-Put : goal.returns-in-Put
returns-in-Put c =
    let r = c.args.registry.now in
    let i = c.in-Put in
    let e = interface_put r i.row c.requires.valid.interfaces.order in
    let more = c.interface_weight-more.ensures.weight in
    let old = c.weight_at.ensures.weight in
    let was = c.requires.weight in
    let is = ap (λ (x : TableChange Interface ℕ). weight r.members (changed_rows interface_key (λ k. k ∷ []) x r.interfaces) r.routers r.irr) i.is in
    omega (arith, e, more, old, was, is)

pub returns-in-Take : goal.returns-in-Take
returns-in-Take c =
    let r = c.args.registry.now in
    let i = c.in-Take in
    let e = interface_gone r i.number c.requires.valid.interfaces.order in
    let old = c.weight_at-in-Take.ensures.weight in
    let was = c.requires.weight in
    let is = ap (λ (x : TableChange Interface ℕ). weight r.members (changed_rows interface_key (λ k. k ∷ []) x r.interfaces) r.routers r.irr) i.is in
    omega (arith, e, old, was, is)
