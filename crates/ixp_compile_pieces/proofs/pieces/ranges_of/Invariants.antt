use Rattle.std.proofs.Common.{◌≡◌, map, take}
use Rattle.ixp_num.specs.declared.asn.Asn.{Asn}
use Rattle.ixp_compile_pieces.proofs.pieces.ranges_of.Given as goal

abbrev pub invariant-each : goal.invariant-each
invariant-each l = l.ranges ≡ map (λ (a : Asn). (a.0, a.0)) (take l.asn-index l.asns)
