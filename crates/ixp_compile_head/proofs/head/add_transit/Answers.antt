use Rattle.ixp_compile_pieces.specs.Items.{transit_item}
use Rattle.ixp_compile_pieces.proofs.Bodies.{function_made}
use Rattle.ixp_compile_head.proofs.head.add_transit.Goals as goal

pub returns : goal.returns
unfolding transit_item
returns c = function_made _ _ _ _ _ _ _ c.in_ok-name.ensures c.in_ok-body.ensures c.in_ok-add_function.ensures
