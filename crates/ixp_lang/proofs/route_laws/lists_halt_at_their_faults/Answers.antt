use Rattle.ixp_lang.proofs.ListDeadEnds.{path_halts_at, pairs_halt_at, triples_halt_at}
use Rattle.ixp_lang.proofs.route_laws.lists_halt_at_their_faults.Goals as goal

pub returns-clause-path : goal.returns-clause-path
returns-clause-path c = path_halts_at

pub returns-clause-pairs : goal.returns-clause-pairs
returns-clause-pairs c = pairs_halt_at

pub returns-clause-triples : goal.returns-clause-triples
returns-clause-triples c = triples_halt_at
