-- The API keys after a change.
use Rattle.std.proofs.Common.{◌≡◌, List, Result, Ok, Err, IfOk, refl, ap, ◌∙◌}
use Rattle.std.specs.declared.alloc.AllocError.{AllocError}
use Rattle.ixp_registry.specs.declared.members.ApiKey.{ApiKey}
use Rattle.ixp_registry.specs.declared.registry.Registry.{Registry}
use Rattle.ixp_registry_change.specs.declared.change.RegistryChange.{RegistryChange}
use Rattle.ixp_registry_change.specs.declared.change.RegistryChange.TheVariants as of
use Rattle.ixp_registry_change.specs.Changes.{with_change}
use Rattle.ixp_desk_commits.specs.Keys.{keys_next}

one : (r : Registry) (c : RegistryChange) → keys_next c r.keys ≡ (with_change r c).keys
one r (of.Keys c) = refl
one r c = refl

pub keys_are : (keys : List ApiKey) (c : RegistryChange) (k : Result (List ApiKey) AllocError)
    → IfOk k (λ x. x ≡ keys_next c keys)
    → IfOk k (λ x. (r : Registry) → keys ≡ r.keys → x ≡ (with_change r c).keys)
keys_are keys c (Ok x) is = λ r same. is ∙ (ap (keys_next c) same ∙ one r c)
keys_are keys c (Err fault) is = tt
