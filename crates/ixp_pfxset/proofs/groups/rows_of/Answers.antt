use Rattle.ixp_pfxset.proofs.Grouping.{rows_are, values_up}
use Rattle.ixp_pfxset.proofs.groups.rows_of.Goals as goal

pub returns-clause-rows : goal.returns-clause-rows
returns-clause-rows c = rows_are c.args.family c.args.l c.requires.short c.args.list.now _ _ _ _ _ c.group-own.ensures c.parted.ensures.both c.parted-2.ensures.both c.parted.ensures.below c.parted.ensures.above c.parted-2.ensures.below c.parted-2.ensures.above

pub returns-clause-sorted : goal.returns-clause-sorted
returns-clause-sorted c = values_up c.args.family c.args.l c.requires.short c.args.list.now _ _ _ _ _ c.group-own.ensures c.parted.ensures.both c.parted-2.ensures.both c.parted.ensures.below c.parted.ensures.above c.parted-2.ensures.below c.parted-2.ensures.above c.parted-2.ensures.first
