-- What a worker's turn does.
use Rattle.std.specs.Prelude.{◌≡◌, ◌≢◌, ◌≤◌, ◌<◌, ℕ}
use mathlib.Core.List.{IsPrefix}
use Rattle.ixp_build.specs.declared.making.Made.{Made}
use Rattle.ixp_desk_lock.specs.Calls.{InstallsOver, MakesNone}
use Rattle.ixp_desk_lock.specs.Facts.{HasAccepted, HasBuilt, Log}
use Rattle.ixp_desk_lock.specs.Sights.{Sight}
use Rattle.ixp_desk.specs.declared.working.WorkTurn.{WorkTurn}
use Rattle.ixp_desk.specs.declared.working.WorkTurn.TheVariants.{Built, Nothing, Late}

-- no fewer than the accepted edits of the history
abbrev pub HasAll : Log → ℕ → Type 0
HasAll log n = (k : ℕ) → HasAccepted log k → k ≤ n

-- the texts of this version were shown at a history between the two
abbrev pub WasBuilt : Log → Log → ℕ → Type 0
WasBuilt before now n = (at : Log) × IsPrefix before at × IsPrefix at now × HasBuilt at n

-- Built: one turn installs a later version than the one that was shown just before it, with no fewer edits
-- than the seat had seen. Nothing: one turn installs the present version, which was shown. Late: no turn;
-- other texts are shown than when the order was taken.
abbrev pub Works : WorkTurn → Sight → Sight → Type 0
Works (Built upto) s t = (from : ℕ) × (from < upto) × InstallsOver from upto s t × HasAll s.2 upto
Works (Nothing built) s t = InstallsOver built built s t × HasAccepted t.2 built
Works (Late current asked) s t =
    MakesNone s t × (current ≢ asked) × HasBuilt t.2 current × WasBuilt s.2 t.2 asked

-- the part of it after texts were made
abbrev pub Finishes : Made → WorkTurn → Sight → Sight → Type 0
Finishes m (Built upto) s t = (upto ≡ m.upto) × InstallsOver m.from upto s t
Finishes m (Nothing built) s t = ⊥
Finishes m (Late current asked) s t =
    MakesNone s t × (asked ≡ m.from) × (current ≢ asked) × HasBuilt t.2 current
