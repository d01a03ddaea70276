-- Accepted edits are changes that leave valid registries.
use Rattle.std.proofs.Common.{◌≡◌, ℕ, List, [], ◌∷◌, refl, sym, ap, ◌∙◌, subst}
use Rattle.ixp_registry.specs.declared.registry.Registry.{Registry}
use Rattle.ixp_registry.specs.Valid.{Valid}
use Rattle.ixp_registry_change.specs.Changes.{with_change}
use Rattle.ixp_machine_edits.specs.declared.edit.Edit.{Edit}
use Rattle.ixp_machine_edits.specs.Edits.{change, next}
use Rattle.ixp_machine_edits.proofs.AllEdits.{still_valid}
use Rattle.ixp_machine_edits.proofs.EditChanges.{change_is_next}
use Rattle.ixp_machine_steps.specs.Runs.{after_all}
use Rattle.ixp_build.specs.declared.bundle.Bundle.{Bundle}
use Rattle.ixp_build.specs.Bundles.{IsOf, full_text, text_of, untouched}
use Rattle.ixp_build.specs.Laws.{after_changes, AllValid, pending}
use Rattle.ixp_build.specs.Orders.{installed, made_from, order_of}
use Rattle.ixp_build.proofs.AfterEdits.{incremental}
use Rattle.ixp_build_demo.specs.Edits.{AllAccepted, changes_of}

same_after : (r : Registry) (es : List Edit) → after_changes r (changes_of r es) ≡ after_all r es
same_after r [] = refl
same_after r (e ∷ es) = ap (λ (s : Registry). after_changes s (changes_of (next r e) es)) (change_is_next r e) ∙ same_after (next r e) es

all_valid : (r : Registry) (es : List Edit) → Valid r → AllAccepted r es → AllValid r (changes_of r es)
all_valid r [] valid all = tt
all_valid r (e ∷ es) valid all =
    let next_valid = still_valid r e valid all.0 all.1 in
    subst (λ (s : Registry). Valid s × AllValid s (changes_of (next r e) es)) (sym (change_is_next r e))
    (next_valid, all_valid (next r e) es next_valid all.2)

pub edits_built :
    (b : Bundle) (r : Registry) (es : List Edit) (upto : ℕ) (h : List ℕ) → Valid r → AllAccepted r es → IsOf b r
    → text_of (installed b (made_from (order_of b.built upto (after_all r es) (pending untouched r (changes_of r es))))) h ≡ full_text (after_all r es) h
edits_built b r es upto h valid all whole =
    subst (λ (s : Registry). text_of (installed b (made_from (order_of b.built upto s (pending untouched r (changes_of r es))))) h ≡ full_text s h)
    (same_after r es) (incremental b r (changes_of r es) upto h valid (all_valid r es valid all) whole)
