-- What `ixf` makes of an input.
use Rattle.std.specs.Prelude.{◌≡◌, ℕ, List, Ok}
use Rattle.ixp_ixf.specs.Views.{ixf_text_of}
use Rattle.ixp_registry.specs.declared.registry.Registry.{Registry}
use Rattle.ixp_rows.specs.Dumps.{RegistryAnswer, version_in}

-- the input is the dump of a valid registry, and the output is its member export at this second
pub record Exports (second : ℕ) (input output : List ℕ) : Type 0 where
  pub registry : Registry
  pub is_dump : RegistryAnswer (version_in input) input (Ok registry)
  pub is_output : output ≡ ixf_text_of registry second
