use Rattle.ixp_desk_history.proofs.Snocs.{legal_snoc}
use Rattle.ixp_desk_history.proofs.Versions.{state_valid}
use Rattle.ixp_desk_history.proofs.laws.legal_histories_go_on.Goals as goal

pub returns : goal.returns
returns c = record { next = legal_snoc; valid = state_valid }
