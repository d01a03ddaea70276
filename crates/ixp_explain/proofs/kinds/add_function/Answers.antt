use Rattle.ixp_explain.proofs.kinds.add_function.Goals as goal

pub returns : goal.returns
returns c = rw (c.is_one_int.ensures, c.returned_in-returned.ensures, c.as_slice.ensures) at c.add.ensures
