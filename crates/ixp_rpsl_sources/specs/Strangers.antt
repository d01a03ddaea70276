-- Objects that say nothing that counts.
use Rattle.std.specs.Prelude.{ℕ, List, []}
use Rattle.ixp_rpsl.specs.Lines.{Line}
use Rattle.ixp_rpsl_sources.specs.Said.{ObjectSays}

-- An object says no route, no set and no claim, whatever is passed by: one that is passed by whole, one of a
-- source that isn't in the list, or one of a kind that isn't wanted.
abbrev pub SaysNothing : List (List ℕ) → Line × List Line → Type 0
SaysNothing sources o = (lines : List ℕ)
    × ObjectSays sources o.0 o.1 (record { routes = []; sets = []; claims = []; passed = lines })
