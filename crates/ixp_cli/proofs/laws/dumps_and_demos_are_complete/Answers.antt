use Rattle.ixp_cli.proofs.Told.{whole_dump, whole_demo}
use Rattle.ixp_cli.proofs.laws.dumps_and_demos_are_complete.Goals as goal

pub returns-clause-dump : goal.returns-clause-dump
returns-clause-dump c = whole_dump

pub returns-clause-demo : goal.returns-clause-demo
returns-clause-demo c = whole_demo
