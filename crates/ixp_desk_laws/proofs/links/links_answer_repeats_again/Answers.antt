use Rattle.ixp_desk_laws.proofs.OwnReplies.{repeats_replied}
use Rattle.ixp_desk_laws.proofs.links.links_answer_repeats_again.Goals as goal

pub returns : goal.returns
returns c = repeats_replied
