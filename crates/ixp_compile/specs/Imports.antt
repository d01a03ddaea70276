-- What a session's import filter rests on, beside the functions of the head.
use Rattle.std.specs.Prelude.{◌≡◌, true, nat_le, List}
use Rattle.std.specs.Option.{is_some}
use Rattle.ixp_num.specs.declared.pattern.Pattern.{Pattern}
use Rattle.ixp_num.specs.Prefixes.{is_in_set}
use Rattle.ixp_lang.specs.declared.route.Route.{Route}
use Rattle.ixp_lang.specs.declared.value.SetLit.TheVariants as set
use Rattle.ixp_lang.specs.Meaning.{Environment, Known, roas_named}
use Rattle.ixp_registry.specs.declared.registry.Registry.{Registry}
use Rattle.ixp_registry.specs.declared.router.Router.{Router}
use Rattle.ixp_registry.specs.Sessions.{Session}
use Rattle.ixp_policy.specs.Blackholes.{is_host_net}
use Rattle.ixp_policy.specs.Import.{is_registered, is_covered_by}
use Rattle.ixp_compile.specs.Fragment.{irr_name, origins_name, blackhole_name}
use Rattle.ixp_compile.specs.Pieces.{numbers, roas}
use Rattle.ixp_compile.specs.Shared.{IsNamed}

-- the neighbour's address and the ROAs of the router's family are the registry's
pub record Sees (r : Registry) (router : Router) (s : Session) (env : Environment) : Type 0 where
  pub from : env.from ≡ s.address.addr
  pub roas : roas_named env.roas (roas router.family) ≡ r.public.roas

-- The sets of nets match what the member's prefixes allow: `irr` the nets that the router takes, `blackholes`
-- single addresses.
pub record Allows (router : Router) (s : Session) (irr blackholes : List Pattern) : Type 0 where
  pub registered : (route : Route) → route.net.family ≡ router.family
      → nat_le route.net.len router.high ≡ true
      → is_in_set irr route.net ≡ is_registered s route
  pub covered : (route : Route) → route.net.family ≡ router.family → is_host_net route.net ≡ true
      → is_in_set blackholes route.net ≡ is_covered_by route.net s.prefixes

-- the session's sets have their names, where the member is held to its lists
pub record Names (router : Router) (s : Session) (irr blackholes : List Pattern) (k : Known) : Type 0 where
  pub registered : s.address.irr ≡ true → IsNamed k (irr_name s.interface.number) set.Prefixes irr
  pub origins : s.address.irr ≡ true → IsNamed k (origins_name s.interface.number) numbers s.origins
  pub covered : s.address.irr ≡ true → is_some router.blackhole ≡ true
      → IsNamed k (blackhole_name s.interface.number) set.Prefixes blackholes
