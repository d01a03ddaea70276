-- The whole text of a route server, by the rows of a registry.
use Rattle.std.specs.Prelude.{ℕ, Bool, true, false, List, [], ◌∷◌, None, filter_map, flat_map}
use Rattle.ixp_num.specs.declared.family.Family.TheVariants.{V4, V6}
use Rattle.ixp_num.specs.declared.pattern.Pattern.{Pattern}
use Rattle.ixp_num.specs.declared.roa.Roa.{Roa}
use Rattle.ixp_num.specs.Families.{bits_of}
use Rattle.ixp_lang.specs.Trees.{ItemTree, device_item}
use Rattle.ixp_registry.specs.declared.registry.Registry.{Registry}
use Rattle.ixp_registry.specs.declared.router.Router.{Router}
use Rattle.ixp_registry.specs.Sessions.{Session, session_at, member_addresses}
use Rattle.ixp_pfxset.specs.BlockList.{blocks}
use Rattle.ixp_pfxset.specs.declared.mode.Mode.{Mode}
use Rattle.ixp_pfxset.specs.declared.mode.Mode.TheVariants.{Exact, More}
use Rattle.ixp_policy.specs.Import.{is_listed}
use Rattle.ixp_compile.specs.declared.inputs.HeaderInputs.{HeaderInputs}
use Rattle.ixp_compile.specs.declared.inputs.Inputs.{Inputs}
use Rattle.ixp_compile.specs.Pieces.{in_turn, roas}
use Rattle.ixp_compile.specs.Header.{header}
use Rattle.ixp_compile.specs.Fragment.{fragment}

-- What the parts depend on.

abbrev pub header_inputs : Registry → Router → HeaderInputs
header_inputs r router =
    record { router = router; bogons = r.public.bogons; bogon_as = r.public.bogon_as; transit = r.public.transit }

abbrev pub inputs : Registry → Router → Session → Inputs
inputs r router s = record {
  rs = router.asn;
  family = router.family;
  high = router.high;
  rpki = router.rpki;
  blackhole = router.blackhole;
  local = router.addr;
  interface = s.interface.number;
  address = s.address;
  asn = s.member.asn;
  addresses = member_addresses r router s;
  transit_free = is_listed r.public.transit s.member.asn.0;
  prefixes = s.prefixes;
  origins = s.origins;
  rules = s.rules;
}

-- the sessions of a router, by number of interface
abbrev pub router_sessions : Registry → Router → List Session
router_sessions r router = filter_map (session_at r router) r.interfaces

-- the ROAs by the names of the tables that filters ask: those of both families stand for each
abbrev pub roa_tables : Registry → List (List ℕ × List Roa)
roa_tables r = (roas V4, r.public.roas) ∷ (roas V6, r.public.roas) ∷ []

abbrev pub footer : List ItemTree
footer = device_item None ∷ []

-- Merged sets of nets (`IsBlock` says of what patterns they are).

abbrev pub mode_of : Bool → Mode
mode_of true = More
mode_of false = Exact

-- the nets that the member's prefixes allow, of the lengths that the router takes
abbrev pub allowed_set : Inputs → List Pattern
allowed_set i = blocks i.prefixes (mode_of i.address.more) i.high

-- all nets that they cover, single addresses included
abbrev pub covered_set : Inputs → List Pattern
covered_set i = blocks i.prefixes More (bits_of i.family)

-- The text.

abbrev pub session_part : Inputs → List ItemTree
session_part i = fragment i (allowed_set i) (covered_set i)

-- the text of a router: the head, its sessions' parts and the foot
abbrev pub generated : Registry → Router → List ItemTree
generated r router =
    in_turn
    (header (header_inputs r router)
    ∷ flat_map (λ s. session_part (inputs r router s)) (router_sessions r router)
    ∷ footer
    ∷ [])

-- a session's own text: the head, its part and the foot
abbrev pub own_part : Registry → Router → Session → List ItemTree
own_part r router s = in_turn (header (header_inputs r router) ∷ session_part (inputs r router s) ∷ footer
    ∷ [])
