use Rattle.std.proofs.Common.{ap, ◌∙◌}
use Rattle.ixp_compile_text.proofs.Ascending.{plain, plain_put}
use Rattle.ixp_compile_text.proofs.addresses.put_addr.Goals as goal

pub returns : goal.returns
returns c = ap plain c.in_ok-put.ensures.ok ∙ plain_put (record { addr = c.args.addr }) c.args.addresses.now
