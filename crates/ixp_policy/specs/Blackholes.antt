-- Routes whose traffic is to be dropped (RFC 7999).
use Rattle.std.specs.Prelude.{Bool, ◌&&◌, ◌==◌}
use Rattle.std.specs.Option.{is_some}
use Rattle.ixp_num.specs.declared.prefix.Prefix.{Prefix}
use Rattle.ixp_num.specs.Families.{bits_of}
use Rattle.ixp_lang.specs.declared.route.Route.{Route}
use Rattle.ixp_lang.specs.Steering.{has_pair}
use Rattle.ixp_lang.specs.declared.communities.TheConstants.{BLACKHOLE}
use Rattle.ixp_registry.specs.declared.router.Router.{Router}

-- the prefix is a single address
abbrev pub is_host_net : Prefix → Bool
is_host_net net = net.len == bits_of net.family

-- a blackhole route of a router: the router has an address for what is to be dropped, the net is a single
-- address, and the route has the community BLACKHOLE, 65535:666 (RFC 7999 section 5)
abbrev pub is_blackhole : Router → Route → Bool
is_blackhole router route = is_some router.blackhole && is_host_net route.net
    && has_pair route BLACKHOLE.0 BLACKHOLE.1
