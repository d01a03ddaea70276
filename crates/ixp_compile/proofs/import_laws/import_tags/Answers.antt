use Rattle.ixp_compile.proofs.Importing.{in_runs}
use Rattle.ixp_compile.proofs.import_laws.import_tags.Goals as goal

pub returns : goal.returns
returns c = in_runs
