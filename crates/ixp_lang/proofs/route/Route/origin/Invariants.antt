use Rattle.std.proofs.Common.{◌≡◌, take}
use Rattle.ixp_lang.specs.Attributes.{last_of}
use Rattle.ixp_lang.proofs.route.Route.origin.Given as goal

abbrev pub invariant-each : goal.invariant-each
invariant-each l = l.last ≡ last_of (take l.asn-index l.asn-items)
