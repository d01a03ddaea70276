use Rattle.ixp_lang.specs.declared.value.SetLit.TheVariants as set
use Rattle.ixp_compile.specs.Header.{bogons_of}
use Rattle.ixp_compile_pieces.proofs.Bodies.{set_made}
use Rattle.ixp_compile_head.proofs.head.add_bogons.Goals as goal

pub returns : goal.returns
returns c = set_made _ _ _ _ (λ ts. set.Prefixes ts) _ (bogons_of c.args.h.now) c.in_ok-name.ensures c.in_ok-bogons.ensures c.in_ok-add_nets.ensures
