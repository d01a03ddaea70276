use Rattle.std.proofs.Common.{◌≡◌, drop}
use Rattle.ixp_api_paths.specs.Paths as spec
use Rattle.ixp_api_paths.proofs.reading.find.Given as goal

abbrev pub invariant-loop-entry : goal.invariant-loop-entry
invariant-loop-entry l = spec.find l.table l.path ≡ spec.find (drop l.entry-index l.table) l.path
