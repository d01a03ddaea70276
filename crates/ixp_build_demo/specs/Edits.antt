-- Edits, one after the other, and the changes that they come to.
use Rattle.std.specs.Prelude.{◌≡◌, ⊤, List, [], ◌∷◌, None}
use Rattle.ixp_registry.specs.declared.registry.Registry.{Registry}
use Rattle.ixp_registry_change.specs.declared.change.RegistryChange.{RegistryChange}
use Rattle.ixp_machine_edits.specs.declared.edit.Edit.{Edit}
use Rattle.ixp_machine_edits.specs.Edits.{change, next, refusal, IsLawful}

-- each was accepted on the registry that it met
abbrev pub AllAccepted : Registry → List Edit → Type 0
AllAccepted r [] = ⊤
AllAccepted r (e ∷ es) = IsLawful e × (refusal r e ≡ None) × AllAccepted (next r e) es

-- the change of each, on the registry that it met
abbrev pub changes_of : Registry → List Edit → List RegistryChange
changes_of r [] = []
changes_of r (e ∷ es) = change r e ∷ changes_of (next r e) es
