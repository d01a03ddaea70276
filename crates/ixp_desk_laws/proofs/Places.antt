-- Places of a legal history.
use Rattle.std.proofs.Common.{List, [], ◌∷◌, ◌++◌}
use Rattle.ixp_desk_history.specs.declared.turn.First.{First}
use Rattle.ixp_desk_history.specs.declared.turn.Turn.{Turn}
use Rattle.ixp_desk_history.specs.Legal.{Legal, MayFollow}
use Rattle.ixp_desk_history.proofs.Versions.{goes_parts}

-- each turn may follow those before it
pub comes : (f : First) (before after : List Turn) (t : Turn) → Legal f (before ++ t ∷ after) → MayFollow f before t
comes f before after t legal = (goes_parts f [] before (t ∷ after) legal.goes).1.0
