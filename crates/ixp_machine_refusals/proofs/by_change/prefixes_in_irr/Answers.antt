use Rattle.std.proofs.Common.{◌≡◌, ℕ, [], ◌∷◌, length, ap, arith, sym, ◌∙◌}
use Rattle.ixp_num.specs.declared.family.Family.{Family}
use Rattle.ixp_num.specs.AddressForms.{version_of}
use Rattle.ixp_registry.specs.declared.lists.IrrList.{IrrList}
use Rattle.ixp_registry.specs.Keys.{irr_key}
use Rattle.ixp_registry_change.specs.declared.change.TableChange.{TableChange}
use Rattle.ixp_registry_change.specs.Changes.{changed_rows}
use Rattle.ixp_machine_edits.specs.Lists.{prefixes_in}
use Rattle.ixp_machine_refusals.proofs.Afters.{prefixes_put, prefixes_gone}
use Rattle.ixp_machine_refusals.proofs.by_change.prefixes_in_irr.Goals as goal

pub overflow_sub-result : goal.overflow_sub-result
overflow_sub-result c =
    let e = prefixes_put c.args.registry.now c.in-Put.row c.requires.valid.irr.order in
    let old = c.list_length.ensures.length in
    let more = ap length c.as_slice.ensures in
    let was = c.requires.prefixes in
    omega (arith, e, old, more, was)

pub overflow_sub-result-in-Take : goal.overflow_sub-result-in-Take
overflow_sub-result-in-Take c =
    let e = prefixes_gone c.args.registry.now c.in-Take.key.0 c.in-Take.key.1 c.requires.valid.irr.order in
    let old = c.list_length-in-Take.ensures.length in
    let was = c.requires.prefixes in
    omega (arith, e, old, was)

pub returns-in-Put : goal.returns-in-Put
returns-in-Put c =
    let r = c.args.registry.now in
    let i = c.in-Put in
    let e = prefixes_put r i.row c.requires.valid.irr.order in
    let old = c.list_length.ensures.length in
    let more = ap length c.as_slice.ensures in
    let was = c.requires.prefixes in
    let is = ap (λ (x : TableChange IrrList (ℕ × Family)). prefixes_in (changed_rows irr_key (λ k. k.0 ∷ version_of k.1 ∷ []) x r.irr)) i.is in
    omega (arith, e, old, more, was, is)

pub returns-in-Take : goal.returns-in-Take
returns-in-Take c =
    let r = c.args.registry.now in
    let i = c.in-Take in
    let e = prefixes_gone r i.key.0 i.key.1 c.requires.valid.irr.order in
    let old = c.list_length-in-Take.ensures.length in
    let was = c.requires.prefixes in
    let is = ap (λ (x : TableChange IrrList (ℕ × Family)). prefixes_in (changed_rows irr_key (λ k. k.0 ∷ version_of k.1 ∷ []) x r.irr)) i.is in
    omega (arith, e, old, was, is)
