use Rattle.ixp_pfxset.proofs.Least.{within_none, first_met}
use Rattle.ixp_pfxset.proofs.Filling.{first_part}
use Rattle.ixp_pfxset.proofs.laws.no_pattern_within_another.Goals as goal

pub returns-clause-another : goal.returns-clause-another
returns-clause-another c = λ rows mode high s t is_s is_t other. within_none rows high mode s t is_s is_t other

pub returns-clause-some : goal.returns-clause-some
returns-clause-some c = λ rows mode high t is. let q = first_part rows mode high t.low t.prefix is.0 in (q.0, first_met rows high mode t q.0 is q.1 q.2)
