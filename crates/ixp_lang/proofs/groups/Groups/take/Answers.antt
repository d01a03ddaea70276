use Rattle.std.proofs.Common.{None}
use Rattle.ixp_lang.proofs.Grouping.{values_after}
use Rattle.ixp_lang.proofs.groups.Groups.take.Goals as goal

pub returns-in-Some-clause-others : goal.returns-in-Some-clause-others
returns-in-Some-clause-others g c = values_after c.args.self.now.by_name c.remove.new.self c.args.name.now None c.in-Some.ensures.updates

pub returns-in-None-clause-others : goal.returns-in-None-clause-others
returns-in-None-clause-others g c = values_after c.args.self.now.by_name c.remove.new.self c.args.name.now None c.in-None.ensures.updates
