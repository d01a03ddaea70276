use Rattle.ixp_pfxset.proofs.Halves.{first_is_prefix}
use Rattle.ixp_pfxset.proofs.full.first_half.Goals as goal

pub invariant_of-result : goal.invariant_of-result
invariant_of-result c = let is = first_is_prefix c.args.n.now c.requires in record { short = is.0; fits = is.1; no_host_bits = is.2 }
