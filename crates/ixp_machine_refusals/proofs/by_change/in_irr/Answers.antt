use Rattle.std.proofs.Common.{rules, ◌≡◌, ℕ, [], ◌∷◌, length, ap, sym, subst, ◌∙◌}
use Rattle.ixp_num.specs.declared.family.Family.{Family}
use Rattle.ixp_num.specs.AddressForms.{version_of}
use Rattle.ixp_num_tables.specs.Tables.{put, without}
use Rattle.ixp_registry.specs.declared.lists.IrrList.{IrrList}
use Rattle.ixp_registry.specs.Keys.{irr_key}
use Rattle.ixp_registry.specs.Weight.{weight}
use Rattle.ixp_registry_change.specs.declared.change.TableChange.{TableChange}
use Rattle.ixp_registry_change.specs.Changes.{changed_rows}
use Rattle.ixp_machine_refusals.specs.ByTable.{HasLength}
use Rattle.ixp_machine_refusals.proofs.Lookings.{length_put, length_gone}
use Rattle.ixp_machine_refusals.proofs.by_change.in_irr.Goals as goal

pub with_length-requires-clause-some : goal.with_length-requires-clause-some
with_length-requires-clause-some c =
    let r = c.args.registry.now in
    let l = c.in-Put.row in
    (put irr_key l r.irr, subst (λ (n : ℕ). HasLength r.irr l.member l.family n (put irr_key l r.irr)) (sym (ap length c.as_slice.ensures)) (λ n f. length_put l r.irr n f))

pub with_length-requires-in-Take-clause-some : goal.with_length-requires-in-Take-clause-some
with_length-requires-in-Take-clause-some c =
    let r = c.args.registry.now in
    let k = c.in-Take.key in
    (without irr_key (k.0 ∷ version_of k.1 ∷ []) r.irr, λ n f. length_gone k.0 k.1 r.irr n f)

pub returns-in-Put : goal.returns-in-Put
returns-in-Put c =
    let r = c.args.registry.now in
    let l = c.in-Put.row in
    c.with_length.ensures (put irr_key l r.irr) (subst (λ (n : ℕ). HasLength r.irr l.member l.family n (put irr_key l r.irr)) (sym (ap length c.as_slice.ensures)) (λ n f. length_put l r.irr n f))
    ∙ ap (λ (x : TableChange IrrList (ℕ × Family)). weight r.members r.interfaces r.routers (changed_rows irr_key (λ k. k.0 ∷ version_of k.1 ∷ []) x r.irr)) (sym c.in-Put.is)

pub returns-in-Take : goal.returns-in-Take
returns-in-Take c =
    let r = c.args.registry.now in
    let k = c.in-Take.key in
    c.with_length-in-Take.ensures (without irr_key (k.0 ∷ version_of k.1 ∷ []) r.irr) (λ n f. length_gone k.0 k.1 r.irr n f)
    ∙ ap (λ (x : TableChange IrrList (ℕ × Family)). weight r.members r.interfaces r.routers (changed_rows irr_key (λ k. k.0 ∷ version_of k.1 ∷ []) x r.irr)) (sym c.in-Take.is)
