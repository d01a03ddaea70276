use Rattle.ixp_lang.proofs.RouteStops.{path_halts, pairs_halt, triples_halt}
use Rattle.ixp_lang.proofs.route_laws.lists_go_on_before_their_faults.Goals as goal

pub returns-clause-path : goal.returns-clause-path
returns-clause-path c = path_halts

pub returns-clause-pairs : goal.returns-clause-pairs
returns-clause-pairs c = pairs_halt

pub returns-clause-triples : goal.returns-clause-triples
returns-clause-triples c = triples_halt
