use Rattle.ixp_compile.specs.Pieces.{numbers}
use Rattle.ixp_compile_pieces.proofs.Bodies.{set_made}
use Rattle.ixp_compile_head.proofs.head.add_transit_set.Goals as goal

pub returns : goal.returns
returns c = set_made _ _ _ _ numbers _ c.args.h.now.transit c.in_ok-name.ensures c.as_slice-transit.ensures c.in_ok-add_numbers.ensures
