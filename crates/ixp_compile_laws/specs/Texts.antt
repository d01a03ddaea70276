-- The text of a route server, by its handle.
use Rattle.std.specs.Prelude.{◌≡◌, ℕ, List, Option, None, Some}
use Rattle.ixp_num_tables.specs.Tables.{find}
use Rattle.ixp_registry.specs.declared.registry.Registry.{Registry}
use Rattle.ixp_registry.specs.declared.router.Router.{Router}
use Rattle.ixp_registry.specs.Keys.{router_key}
use Rattle.ixp_compile_laws.specs.Right.{Gen}

-- the text of the router with the handle, or nothing where there is no such router
abbrev pub IsTextOf : Registry → List ℕ → Option (List ℕ) → Type 0
IsTextOf registry handle (Some text) =
    (router : Router) × (find router_key handle registry.routers ≡ Some router) × (text ≡ Gen registry router)
IsTextOf registry handle None = find router_key handle registry.routers ≡ None
