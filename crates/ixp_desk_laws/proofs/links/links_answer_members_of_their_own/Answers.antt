use Rattle.ixp_desk_laws.proofs.OwnGlass.{routes_told}
use Rattle.ixp_desk_laws.proofs.OwnLooks.{explained_own}
use Rattle.ixp_desk_laws.proofs.OwnReplies.{edits_told, questions_told}
use Rattle.ixp_desk_laws.proofs.links.links_answer_members_of_their_own.Goals as goal

pub returns : goal.returns
returns c = record { edit = edits_told; ask = questions_told; explain = explained_own; glass = routes_told }
