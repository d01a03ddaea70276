use Rattle.ixp_lang.proofs.ListDeadEnds.{path_field_halts_at, pairs_field_halts_at, triples_field_halts_at}
use Rattle.ixp_lang.proofs.route_laws.fields_halt_at_their_faults.Goals as goal

pub returns-clause-path : goal.returns-clause-path
returns-clause-path c = path_field_halts_at

pub returns-clause-pairs : goal.returns-clause-pairs
returns-clause-pairs c = pairs_field_halts_at

pub returns-clause-triples : goal.returns-clause-triples
returns-clause-triples c = triples_field_halts_at
