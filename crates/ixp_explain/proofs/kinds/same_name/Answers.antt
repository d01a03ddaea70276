use Rattle.std.proofs.Common.{◌∙◌}
use Rattle.ixp_lang.proofs.SameNames.{same_bytes}
use Rattle.ixp_explain.proofs.kinds.same_name.Goals as goal

pub returns : goal.returns
returns c = c.eq.ensures ∙ rw (c.as_bytes.ensures.bytes, c.as_bytes-2.ensures.bytes) (same_bytes c.args.a.now c.args.b.now)
