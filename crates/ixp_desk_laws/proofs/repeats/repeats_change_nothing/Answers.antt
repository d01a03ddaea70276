use Rattle.ixp_desk_laws.proofs.Sending.{answered_again, nothing_changed}
use Rattle.ixp_desk_laws.proofs.repeats.repeats_change_nothing.Goals as goal

pub returns : goal.returns
returns c = record { answer = answered_again; state = nothing_changed }
