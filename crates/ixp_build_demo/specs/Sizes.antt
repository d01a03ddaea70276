-- How the program counts: by the rows of a session, and interface by interface. Nobody needs to believe it,
-- since the counts are proved to be those of Counts.
use Rattle.std.specs.Prelude.{ℕ, ◌+◌, List, length, is_none, if◌then◌else◌}
use Rattle.ixp_num.specs.declared.prefix.Prefix.{Prefix}
use Rattle.ixp_num.specs.Families.{bits_of}
use Rattle.ixp_num_tables.specs.Tables.{if_there}
use Rattle.ixp_registry.specs.declared.network.Interface.{Interface}
use Rattle.ixp_registry.specs.declared.registry.Registry.{Registry}
use Rattle.ixp_registry.specs.declared.router.Router.{Router}
use Rattle.ixp_registry.specs.Sessions.{Session, session_at}
use Rattle.ixp_pfxset.specs.BlockList.{blocks}
use Rattle.ixp_pfxset.specs.declared.mode.Mode.TheVariants.{More}
use Rattle.ixp_compile.specs.Generated.{mode_of}

-- the set of the nets that the prefixes cover, where the router has a next hop of routes to be dropped
abbrev pub covered_size : Router → List Prefix → ℕ
covered_size router prefixes =
    if is_none router.blackhole then 0 else length (blocks prefixes More (bits_of router.family))

-- both sets of a session whose address is held to its member's lists
abbrev pub set_sizes : Router → Session → ℕ
set_sizes router s =
    if s.address.irr then length (blocks s.prefixes (mode_of s.address.more) router.high)
    + covered_size router s.prefixes else 0

abbrev pub sessions_at : Registry → Router → Interface → ℕ
sessions_at r router i = if_there (session_at r router i) 0 (λ s. 1)

abbrev pub patterns_at : Registry → Router → Interface → ℕ
patterns_at r router i = if_there (session_at r router i) 0 (set_sizes router)
