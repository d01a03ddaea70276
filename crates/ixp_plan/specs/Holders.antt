-- Which addresses are taken, and who has them.
use Rattle.std.specs.Prelude.{Bool, ◌||◌}
use Rattle.std.specs.List.{list_any}
use Rattle.ixp_num.specs.declared.addr.Addr.{Addr}
use Rattle.ixp_registry.specs.declared.router.Router.{Router}
use Rattle.ixp_registry.specs.declared.registry.Registry.{Registry}
use Rattle.ixp_registry.specs.Lookups.{has_blackhole, has_addr}
use Rattle.ixp_num.specs.Prefixes.{same_addr}

-- the address is the router's own
abbrev pub answers_at : Addr → Router → Bool
answers_at a q = same_addr q.addr a

-- the address is the router's own, or the one to which it sends what is to be dropped
abbrev pub uses : Addr → Router → Bool
uses a q = answers_at a q || has_blackhole q a

-- somebody has the address
abbrev pub is_taken : Registry → Addr → Bool
is_taken r a = list_any (has_addr a) r.interfaces || list_any (uses a) r.routers
