-- What is gathered line by line. Nobody has to believe this: what an object says is in Objects.antt.
use Rattle.std.specs.Prelude.{◌≡◌, ℕ, ◌++◌, List, ◌∷◌}
use Rattle.ixp_rpsl.specs.Lines.{Line}
use Rattle.ixp_rpsl.specs.Attributes.{attributes, bad_line, earlier, past_object}
use Rattle.ixp_rpsl.specs.declared.gathered.Gathered.{Gathered}

-- what was gathered before a line, with all that is ahead there, is what is gathered after it, with the rest
pub record Gathers (word : List ℕ) (l : Line) (ls rest : List Line) (old new : Gathered) : Type 0 where
  pub found : new.found ++ attributes word rest ≡ old.found ++ attributes word (l ∷ ls)
  pub fault : earlier new.fault (bad_line rest) ≡ earlier old.fault (bad_line (l ∷ ls))
  pub past : past_object rest ≡ past_object (l ∷ ls)
