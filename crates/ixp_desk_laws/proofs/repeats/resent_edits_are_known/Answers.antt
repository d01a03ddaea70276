use Rattle.ixp_desk_laws.proofs.Sending.{resent_left, resent_told}
use Rattle.ixp_desk_laws.proofs.repeats.resent_edits_are_known.Goals as goal

pub returns : goal.returns
returns c = record { answer = resent_told; state = resent_left }
