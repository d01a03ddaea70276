use Rattle.ixp_desk_history.proofs.Installing.{install_right}
use Rattle.ixp_desk_history.proofs.laws.ordered_texts_may_be_installed.Goals as goal

pub returns : goal.returns
returns c = install_right
