use Rattle.ixp_lang.proofs.LongLists.{long_path, long_pairs, long_triples}
use Rattle.ixp_lang.proofs.route_laws.long_lists_have_a_thousand_items_before.Goals as goal

pub returns-clause-path : goal.returns-clause-path
returns-clause-path c = long_path

pub returns-clause-pairs : goal.returns-clause-pairs
returns-clause-pairs c = long_pairs

pub returns-clause-triples : goal.returns-clause-triples
returns-clause-triples c = long_triples
