use Rattle.std.proofs.Common.{refl}
use Rattle.ixp_compile_pieces.specs.Items.{pad_item}
use Rattle.ixp_compile_pieces.proofs.Bodies.{function_made}
use Rattle.ixp_compile_head.proofs.head.add_pads.Goals as goal

pub returns : goal.returns
unfolding pad_item
returns c = function_made _ _ _ _ _ _ _ refl c.in_ok-body.ensures c.in_ok-add_function_with.ensures
