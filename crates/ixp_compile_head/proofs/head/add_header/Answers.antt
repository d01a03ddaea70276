use Rattle.ixp_compile_pieces.proofs.WholeParts.{head_is}
use Rattle.ixp_compile_head.proofs.head.add_header.Goals as goal

pub returns : goal.returns
returns c = head_is c.args.h.now _ _ _ _ c.in_ok-add_tables.ensures c.in_ok-add_public_sets.ensures c.in_ok-add_shared_functions.ensures
