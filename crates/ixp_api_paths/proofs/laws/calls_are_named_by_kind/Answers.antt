use Rattle.ixp_api_paths.proofs.ByKind.{calls_by_kind, paths_by_kind}
use Rattle.ixp_api_paths.proofs.laws.calls_are_named_by_kind.Goals as goal

pub returns-clause-calls : goal.returns-clause-calls
returns-clause-calls c = calls_by_kind

pub returns-clause-paths : goal.returns-clause-paths
returns-clause-paths c = paths_by_kind
