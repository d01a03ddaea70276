use Rattle.ixp_api_bodies.proofs.ReadValues.{value-there, no-value}
use Rattle.ixp_api_bodies.proofs.json.value_of.Goals as goal

pub returns-in-Ok : goal.returns-in-Ok
returns-in-Ok c = value-there c.args.body.now _ c.in-Ok.ensures.ok.0 c.in-Ok.ensures.ok.1

pub returns-else-is_memory : goal.returns-else-is_memory
returns-else-is_memory c =
    λ free. rw c.whole.ensures (no-value c.args.body.now (c.in-Err.ensures.err (λ memory. let yes_ = c.is_memory.ensures.1 memory in let no_ = c.if-is_memory.false in cc)))
