use Rattle.ixp_compile_pieces.proofs.Bodies.{three_added}
use Rattle.ixp_compile_head.proofs.head.add_public_sets.Goals as goal

pub returns : goal.returns
returns c = three_added _ _ _ _ _ _ _ c.in_ok-add_bogons.ensures c.in_ok-add_bogon_ranges.ensures c.in_ok-add_transit_set.ensures
