use Rattle.ixp_desk_laws.proofs.Sending.{registry_made}
use Rattle.ixp_desk_laws.proofs.repeats.edits_made_give_the_registry.Goals as goal

pub returns : goal.returns
returns c = registry_made
