use Rattle.std.proofs.Common.{rules}
use Rattle.ixp_lang_exprs.proofs.env.Env.get.Goals as goal

pub returns : goal.returns
returns c = rw (← c.as_bytes.ensures.bytes) c.get.ensures.value
