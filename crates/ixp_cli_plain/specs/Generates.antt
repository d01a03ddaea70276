-- What `generate` makes of an input.
use Rattle.std.specs.Prelude.{◌≡◌, ℕ, List, None, Some, Ok}
use Rattle.ixp_num_tables.specs.Tables.{find}
use Rattle.ixp_registry.specs.declared.registry.Registry.{Registry}
use Rattle.ixp_registry.specs.declared.router.Router.{Router}
use Rattle.ixp_registry.specs.Keys.{router_key}
use Rattle.ixp_rows.specs.Dumps.{RegistryAnswer, version_in}
use Rattle.ixp_compile_laws.specs.Right.{Gen, Right}

-- The input is the dump of a valid registry, and a router of it has the handle. The output is that router's
-- text, which does what the rules say.
pub record Generates (handle input output : List ℕ) : Type 0 where
  pub registry : Registry
  pub is_dump : RegistryAnswer (version_in input) input (Ok registry)
  pub router : Router
  pub is_there : find router_key handle registry.routers ≡ Some router
  pub is_text : output ≡ Gen registry router
  pub is_right : Right output registry router

-- the input is the dump of a valid registry, no router of which has the handle
pub record IsUnknown (handle input : List ℕ) : Type 0 where
  pub registry : Registry
  pub is_dump : RegistryAnswer (version_in input) input (Ok registry)
  pub is_away : find router_key handle registry.routers ≡ None
