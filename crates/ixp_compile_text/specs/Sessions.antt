-- The texts of a router's sessions, one after the other.
use Rattle.std.specs.Prelude.{ℕ, List, [], filter_map, flat_map}
use Rattle.ixp_num_tables.specs.Tables.{if_there}
use Rattle.ixp_print.specs.Texts.{config_text}
use Rattle.ixp_registry.specs.Sessions.{session_at}
use Rattle.ixp_registry.specs.declared.network.Interface.{Interface}
use Rattle.ixp_registry.specs.declared.registry.Registry.{Registry}
use Rattle.ixp_registry.specs.declared.router.Router.{Router}
use Rattle.ixp_compile.specs.Generated.{inputs, session_part}

-- the part of the interface's session with the router, where it has one
unfoldable pub part_text : Registry → Router → Interface → List ℕ
part_text r router i = if_there (session_at r router i) []
    (λ s. config_text (session_part (inputs r router s)))

-- the parts of the sessions at these interfaces
unfoldable pub sessions_text : Registry → Router → List Interface → List ℕ
sessions_text r router is =
    config_text (flat_map (λ s. session_part (inputs r router s)) (filter_map (session_at r router) is))
