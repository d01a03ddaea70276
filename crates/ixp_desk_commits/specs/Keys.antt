-- The API keys after a change. Nobody needs to believe this: it serves proofs.
use Rattle.std.specs.Prelude.{List, [], ◌∷◌}
use Rattle.ixp_registry.specs.declared.members.ApiKey.{ApiKey}
use Rattle.ixp_registry.specs.Keys.{api_key_key}
use Rattle.ixp_registry_change.specs.declared.change.RegistryChange.{RegistryChange}
use Rattle.ixp_registry_change.specs.declared.change.RegistryChange.TheVariants as of
use Rattle.ixp_registry_change.specs.Changes.{changed_rows}

abbrev pub keys_next : RegistryChange → List ApiKey → List ApiKey
keys_next (of.Keys c) ks = changed_rows api_key_key (λ k. k ∷ []) c ks
keys_next c ks = ks
