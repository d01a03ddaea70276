-- An accepted request is made.
use Rattle.std.proofs.Common.{◌≡◌, ℕ, ◌+◌, true, [], ◌∷◌, Some, None, refl, sym, ap, ◌∙◌}
use Rattle.ixp_num_tables.specs.Tables.{find, if_there}
use Rattle.ixp_registry.specs.Alphabets.{is_handle}
use Rattle.ixp_registry.specs.declared.members.Owner.{Owner}
use Rattle.ixp_registry.specs.declared.refusal.Refusal.TheVariants.{NoKey, BadText}
use Rattle.ixp_registry.specs.declared.refusal.TextField.TheVariants.{Handle}
use Rattle.ixp_registry.specs.declared.registry.Registry.{Registry}
use Rattle.ixp_registry.specs.Weight.{weight_of}
use Rattle.ixp_registry_change.specs.declared.change.RegistryChange.{RegistryChange}
use Rattle.ixp_registry_change.specs.Changes.{with_change}
use Rattle.ixp_members.specs.Owners.{owner_of}
use Rattle.ixp_machine_edits.specs.declared.edit.Edit.{Edit}
use Rattle.ixp_machine_edits.specs.declared.edit.Edit.TheVariants.{AddRouter}
use Rattle.ixp_machine_edits.specs.Edits.{change, next, refusal}
use Rattle.ixp_machine_edits.specs.Lists.{prefixes_in}
use Rattle.ixp_machine_edits.specs.Routers.{new_router, add_router_tests}
use Rattle.ixp_registry.proofs.HandleNames.{handle_is_name}
use Rattle.ixp_machine_edits.proofs.EditChanges.{change_is_next}
use Rattle.ixp_machine_edits.proofs.Passing.{no_refusal, holds}
use Rattle.ixp_machine_effects.specs.Names.{has_name}
use Rattle.ixp_machine_steps.specs.declared.state.Entry.{Entry}
use Rattle.ixp_machine_steps.specs.declared.state.State.{State}
use Rattle.ixp_machine_steps.specs.declared.kept.KeptNumber.{KeptNumber}
use Rattle.ixp_machine_steps.specs.Kept.{kept_key, kept_of, noted_for}
use Rattle.ixp_machine_steps.specs.Steps.{Accepted, Refused, kept_entry, step, verdict, verdict_of}
use Rattle.ixp_machine_steps.proofs.Accepting.{accepted_parts, accepted_step}
use Rattle.ixp_machine.specs.Prepared.{prepared}

-- the handle of a new router is a name, where the edit isn't refused
pub named : (r : Registry) (e : Edit) → refusal r e ≡ None → has_name e ≡ true
named r (AddRouter handle vlan family address x) ok =
    let t = no_refusal (add_router_tests r (new_router handle vlan family address x)) ok in
    handle_is_name handle (holds (is_handle handle) (BadText Handle) t.1.0)
named r e ok = refl

pub owners : (s : State) (e : Entry) (owner : Owner) → owner_of s.registry e.secret ≡ Some owner → verdict s e ≡ Accepted → verdict_of s owner e.number e.edit ≡ Accepted
owners s e owner found h = sym (ap (λ o. if_there o (Refused NoKey) (λ owner. verdict_of s owner e.number e.edit)) found) ∙ h

pub unrefused : (s : State) (e : Entry) (owner : Owner) → owner_of s.registry e.secret ≡ Some owner → verdict s e ≡ Accepted → refusal s.registry e.edit ≡ None
unrefused s e owner found h = (accepted_parts s.registry (kept_of s.kept owner) owner e.number e.edit (owners s e owner found h)).lawful

-- its number isn't kept
pub fresh : (s : State) (e : Entry) (owner : Owner) → owner_of s.registry e.secret ≡ Some owner → verdict s e ≡ Accepted → find kept_key (e.number ∷ []) (kept_of s.kept owner).numbers ≡ None
fresh s e owner found h = (accepted_parts s.registry (kept_of s.kept owner) owner e.number e.edit (owners s e owner found h)).new

-- The state after a request that was made ready, by the change that its edit comes to.
module _ (s : State) (owner : Owner) where
  abbrev made_of : Registry → KeptNumber → ℕ → ℕ → State
  made_of r k weight prefixes = record { registry = r; kept = noted_for owner k s.kept; accepted = s.accepted + 1; weight = weight; prefixes = prefixes }

  pub steps : (e : Entry) (k : KeptNumber) (c : RegistryChange) (w n : ℕ) → owner_of s.registry e.secret ≡ Some owner → verdict s e ≡ Accepted
      → k ≡ kept_entry e (s.accepted + 1) → c ≡ change s.registry e.edit → w ≡ weight_of (with_change s.registry c) → n ≡ prefixes_in (with_change s.registry c).irr
      → prepared s (record { owner = owner; kept = k; change = c; weight = w; prefixes = n }) ≡ step s e
  steps e k c w n found accepted keeps makes weighs counts =
      let r = next s.registry e.edit in
      let made : with_change s.registry c ≡ r = ap (with_change s.registry) makes ∙ change_is_next s.registry e.edit in
      ap (λ (x : Registry). made_of x k w n) made
      ∙ (ap (λ (x : KeptNumber). made_of r x w n) keeps
      ∙ (ap (λ (x : ℕ). made_of r (kept_entry e (s.accepted + 1)) x n) (weighs ∙ ap weight_of made)
      ∙ (ap (λ (x : ℕ). made_of r (kept_entry e (s.accepted + 1)) (weight_of r) x) (counts ∙ ap (λ (x : Registry). prefixes_in x.irr) made)
      ∙ sym (accepted_step s owner e found (owners s e owner found accepted)))))
