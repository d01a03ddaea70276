use Rattle.std.proofs.Common.{rules}
use Rattle.ixp_ixf.proofs.Compact.{export_same}
use Rattle.ixp_ixf.proofs.export.ixf_text.Goals as goal

pub returns-clause-ok : goal.returns-clause-ok
returns-clause-ok c = rw (← export_same c.args.registry.now c.args.second) (search rules)
