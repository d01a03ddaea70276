use Rattle.std.proofs.Common.{rules, ◌≡◌, ℕ, [], ◌∷◌, Some, None, ap, sym, ◌∙◌, subst}
use Rattle.ixp_registry_change.specs.declared.change.RegistryChange.{RegistryChange}
use Rattle.ixp_members.specs.Owners.{owner_of}
use Rattle.ixp_num_tables.specs.Tables.{find}
use Rattle.ixp_machine_edits.specs.Edits.{change}
use Rattle.ixp_machine_refusals.specs.ByTable.{IsSmallChange}
use Rattle.ixp_machine_refusals.proofs.SmallChanges.{small_change}
use Rattle.ixp_machine_effects.specs.Names.{has_name}
use Rattle.ixp_machine_steps.specs.Kept.{kept_key, kept_of}
use Rattle.ixp_machine.proofs.Making.{fresh, named, steps, unrefused}
use Rattle.ixp_machine.proofs.preparing.prepare.Goals as goal

pub kept_entry-requires : goal.kept_entry-requires
kept_entry-requires c =
    let s = c.args.state.now in
    let e = c.args.entry in
    let found : owner_of s.registry e.secret ≡ Some c.args.owner = c.requires.owner in
    named s.registry e.edit (unrefused s e c.args.owner found c.requires.accepted)

pub change_of-requires-clause-name : goal.change_of-requires-clause-name
change_of-requires-clause-name c =
    let s = c.args.state.now in
    let e = c.args.entry in
    let found : owner_of s.registry e.secret ≡ Some c.args.owner = c.requires.owner in
    ap has_name c.into_edit.ensures ∙ named s.registry e.edit (unrefused s e c.args.owner found c.requires.accepted)

pub returns-clause-fresh : goal.returns-clause-fresh
returns-clause-fresh c =
    let s = c.args.state.now in
    let e = c.args.entry in
    let found : owner_of s.registry e.secret ≡ Some c.args.owner = c.requires.owner in
    let number : c.in_ok-kept.kept.number ≡ e.number = search rules in
    subst (λ (n : ℕ). find kept_key (n ∷ []) (kept_of s.kept c.args.owner).numbers ≡ None) (sym number) (fresh s e c.args.owner found c.requires.accepted)

pub weight_after-weight-requires-clause-small : goal.weight_after-weight-requires-clause-small
weight_after-weight-requires-clause-small c =
    let s = c.args.state.now in
    let e = c.args.entry in
    let found : owner_of s.registry e.secret ≡ Some c.args.owner = c.requires.owner in
    subst (λ (x : RegistryChange). IsSmallChange s.registry x) (sym (c.in_ok-change.ensures ∙ ap (change s.registry) c.into_edit.ensures))
    (small_change s.registry e.edit (unrefused s e c.args.owner found c.requires.accepted))

pub returns-clause-step : goal.returns-clause-step
returns-clause-step c =
    steps c.args.state.now c.args.owner c.args.entry c.in_ok-kept.kept c.in_ok-change.change c.weight_after-weight.result c.prefixes_after-prefixes.result
    c.requires.owner c.requires.accepted c.in_ok-kept.ensures (c.in_ok-change.ensures ∙ ap (change c.args.state.now.registry) c.into_edit.ensures)
    c.weight_after-weight.ensures c.prefixes_after-prefixes.ensures
