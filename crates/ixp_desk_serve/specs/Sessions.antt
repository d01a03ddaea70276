-- How a session ends, and what became of its objects.
use Rattle.std.specs.Prelude.{◌≡◌, ◌⊎◌, ℕ, List, [], Option, Some, None, Ok, Err}
use mathlib.Core.List.{IsPrefix}
use Rattle.ixp_io.specs.Faults.{Rose}
use Rattle.ixp_io.specs.Tables.{Table}
use Rattle.ixp_board.specs.Histories.{entries}
use Rattle.ixp_http_link.specs.declared.ends.LinkEnd.TheVariants as link
use Rattle.ixp_http_link.specs.declared.ends.Served.{Served}
use Rattle.ixp_store_words.specs.declared.fault.LoadFault.TheVariants as load
use Rattle.ixp_desk_history.specs.declared.turn.First.{First}
use Rattle.ixp_desk_history.specs.declared.turn.Turn.{Turn}
use Rattle.ixp_desk_lock.specs.Facts.{KeepsStore, Log}
use Rattle.ixp_desk_lock.specs.Sights.{Sight}
use Rattle.ixp_desk_explain.specs.Glass.{Sights}
use Rattle.ixp_desk.specs.Openings.{Loads}
use Rattle.ixp_desk_link.specs.Serving.{IsServed}
use Rattle.ixp_desk_serve.specs.declared.session.SessionEnd.{SessionEnd}
use Rattle.ixp_desk_serve.specs.declared.session.SessionEnd.TheVariants.{Unopened, NoMemory, Served as Answered}

-- the link had so many requests, and memory ran out
abbrev pub without_memory : Served → Served
without_memory served = record { end = link.NoMemory; requests = served.requests }

-- A link was served by seats that had seen this before. The store has the rows of the state after a history
-- that begins with all that the desk's seat has seen. Where it can't be shown that the history does, the link
-- ends as out of memory.
pub record ServesLink (seats : Sights) (given given' : Option ℕ)
    (left left' written written' : Option (List ℕ)) (unread unwritten : Type 0)
    (rows : Option Table) (faults : ℕ) (served : Served) : Type 0 where
  pub sees : Sights
  pub link : Served
  pub is_served : IsServed (seats, given) (sees, given') left left' written written' unread unwritten link
  pub after : Log × Option Turn
  pub store : KeepsStore after rows faults
  pub is : ((served ≡ link) × IsPrefix sees.0.2 after.0) ⊎ (served ≡ without_memory link)

-- A desk of one seat serves a link, with a looking glass of which nothing is held. Where memory runs out
-- before, the store has the rows of the state after the desk's history, and nothing is read or written.
abbrev pub ServesAlone : Log × Option Turn → Sight → Option ℕ → Option ℕ → Option (List ℕ) → Option (List ℕ)
    → Option (List ℕ) → Option (List ℕ) → ℕ → ℕ → ℕ → ℕ
    → Option Table → ℕ → Option Served → Type 0
ServesAlone desk seat given given' left left' written written' reads reads' writes writes' rows faults None =
    KeepsStore desk rows faults × (given' ≡ given) × (left' ≡ left) × (written' ≡ written) × (reads' ≡ reads)
    × (writes' ≡ writes)
ServesAlone desk seat given given' left left' written written' reads reads' writes writes' rows faults
    (Some served) =
    ServesLink (seat, entries tt []) given given' left left' written written' (Rose reads reads')
    (Rose writes writes') rows faults served

-- What is told of the objects of a session at a moment: the store's rows and its count of faults, the bytes
-- that are left to read and how many reads failed, the bytes that were written and how many writes failed,
-- and what the clock gave last.
pub record Objects : Type 0 where
  pub rows : Option Table
  pub faults : ℕ
  pub left : Option (List ℕ)
  pub reads : ℕ
  pub written : Option (List ℕ)
  pub writes : ℕ
  pub given : Option ℕ

-- nothing was read or written, and the clock wasn't asked
pub record IsUnused (before after : Objects) : Type 0 where
  pub left : after.left ≡ before.left
  pub reads : after.reads ≡ before.reads
  pub written : after.written ≡ before.written
  pub writes : after.writes ≡ before.writes
  pub given : after.given ≡ before.given

-- How a session ends. The store couldn't be loaded, and has its rows. Or it was loaded as a state, with which
-- the desk's history begins; then memory ran out and the store has that state's rows, or the link was served.
abbrev pub SessionEnds : Objects → Objects → SessionEnd → Type 0
SessionEnds before after (Unopened fault) =
    IsUnused before after × Loads before.rows (Err fault) × (after.rows ≡ before.rows)
    × (fault ≡ load.KeeperFault → Rose before.faults after.faults)
SessionEnds before after NoMemory =
    IsUnused before after × ((first : First) × Loads before.rows (Ok first.state)
    × (first.faults ≡ before.faults)
    × KeepsStore (entries first [], None) after.rows after.faults)
SessionEnds before after (Answered served) =
    (first : First) × Loads before.rows (Ok first.state) × (first.faults ≡ before.faults)
    × ServesLink ((0, 0, entries first []), entries tt []) before.given after.given before.left after.left before.written after.written
    (Rose before.reads after.reads) (Rose before.writes after.writes) after.rows after.faults served
