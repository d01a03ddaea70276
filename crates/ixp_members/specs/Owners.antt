-- Who acts with a secret.
use Rattle.std.specs.Prelude.{ℕ, List, Option, option_map, find}
use Rattle.ixp_registry.specs.declared.members.ApiKey.{ApiKey}
use Rattle.ixp_registry.specs.declared.members.Owner.{Owner}
use Rattle.ixp_registry.specs.declared.registry.Registry.{Registry}
use Rattle.ixp_num_tables.specs.Tables.{same}

-- the owner of the API key that has the secret, the first one by number; a valid registry has no other
abbrev pub owner_in : List ApiKey → List ℕ → Option Owner
owner_in keys secret = option_map (λ k. k.owner) (find (λ k. same k.secret secret) keys)

abbrev pub owner_of : Registry → List ℕ → Option Owner
owner_of r secret = owner_in r.keys secret
