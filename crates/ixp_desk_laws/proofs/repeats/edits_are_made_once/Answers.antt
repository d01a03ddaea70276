use Rattle.ixp_desk_laws.proofs.Sending.{never_again}
use Rattle.ixp_desk_laws.proofs.repeats.edits_are_made_once.Goals as goal

pub returns : goal.returns
returns c = λ f before between after t u owner n legal. never_again f before between after t u legal owner n
