use Rattle.ixp_lang.proofs.PathSets.{set_stops, text_halts}
use Rattle.ixp_lang.proofs.route_laws.paths_halt_at_their_sets.Goals as goal

pub returns-clause-set : goal.returns-clause-set
returns-clause-set c = set_stops

pub returns-clause-text : goal.returns-clause-text
returns-clause-text c = text_halts
