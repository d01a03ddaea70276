-- How a server ends, and what became of its store and its door.
use Rattle.std.specs.Prelude.{◌≡◌, ℕ, Bool, List, Option, is_some, Result, Ok, Err}
use Rattle.std.specs.declared.alloc.AllocError.{AllocError}
use Rattle.ixp_io.specs.declared.stream.Failed.{Failed}
use Rattle.ixp_io.specs.Faults.{Rose}
use Rattle.ixp_io.specs.Tables.{Table}
use Rattle.ixp_io_workers.specs.Doors.{Gave}
use Rattle.ixp_machine_steps.specs.declared.state.State.{State}
use Rattle.ixp_store_words.specs.declared.fault.LoadFault.TheVariants as load
use Rattle.ixp_desk_history.specs.declared.turn.Turn.{Turn}
use Rattle.ixp_desk_lock.specs.Facts.{KeepsStore, Log}
use Rattle.ixp_desk_explain.specs.Glass.{Sights}
use Rattle.ixp_desk.specs.Openings.{Loads}
use Rattle.ixp_http_link.specs.declared.ends.Served.{Served as Link}
use Rattle.ixp_desk_link.specs.Serving.{IsServed}
use Rattle.ixp_desk_rtr.specs.declared.link.RtrEnd.{RtrEnd}
use Rattle.ixp_desk_rtr.specs.Routers.{Serves}
use Rattle.ixp_desk_serve.specs.declared.server.ServerEnd.{ServerEnd}
use Rattle.ixp_desk_serve.specs.declared.server.ServerEnd.TheVariants.{Unopened, NoMemory, DoorFault, Served}

-- A worker's seats served a link of the door, and the clock gave whatever it gave.
abbrev pub IsHosted : Sights → Sights → Option (List ℕ) → Option (List ℕ) → Option (List ℕ) → Option (List ℕ)
    → Type 0 → Type 0 → Type 0
IsHosted s t left left' written written' unread unwritten =
    (given : Option ℕ) × (given' : Option ℕ) × (served : Link)
    × IsServed (s, given) (t, given') left left' written written' unread unwritten served

-- A router's link was served by the desk's cache of ROAs.
abbrev pub IsRouted : Option (List ℕ) → Option (List ℕ) → Option (List ℕ) → Option (List ℕ) → Type 0 → Type 0
    → Type 0
IsRouted left left' written written' unread unwritten =
    (end : RtrEnd) × Serves left left' written written' unread unwritten end

-- the store has the rows of the state after some legal history
abbrev pub KeepsSome : Option Table → ℕ → Type 0
KeepsSome rows faults = (v : Log × Option Turn) × KeepsStore v rows faults

-- how a server ends by what became of the door's links
abbrev pub end_of : Result (Result (Unit {0}) Failed) AllocError → Option ℕ → ServerEnd
end_of (Err short) routers = NoMemory
end_of (Ok (Err failed)) routers = DoorFault
end_of (Ok (Ok done)) routers = Served routers

-- How the links of a door end: served, the door gave as many as were asked for, where it tells that, and how
-- many routers' links a further door gave is told where routers were to be served. A fault comes only where
-- the door's count rose, by a further door that couldn't be opened, too.
abbrev pub DoorEnds : Bool → Option ℕ → Option ℕ → ℕ → ℕ → ℕ → ServerEnd → Type 0
DoorEnds further links links' doors doors' n (Served routers) =
    Gave links links' n × (is_some routers ≡ further)
DoorEnds further links links' doors doors' n DoorFault = Rose doors doors'
DoorEnds further links links' doors doors' n NoMemory = Unit {0}
DoorEnds further links links' doors doors' n (Unopened fault) = ⊥

-- How a server ends. The store couldn't be loaded: it has its rows, and the door wasn't touched. Or it was
-- loaded, and the door's links ended so; the store has the rows of the state after some legal history then.
abbrev pub ServerEnds : Bool → Option Table → Option Table → ℕ → ℕ → Option ℕ → Option ℕ → ℕ → ℕ → ℕ
    → ServerEnd → Type 0
ServerEnds further rows rows' faults faults' links links' doors doors' n (Unopened fault) =
    Loads rows (Err fault) × (rows' ≡ rows) × (fault ≡ load.KeeperFault → Rose faults faults')
    × (links' ≡ links) × (doors' ≡ doors)
ServerEnds further rows rows' faults faults' links links' doors doors' n end =
    (s : State) × Loads rows (Ok s) × DoorEnds further links links' doors doors' n end
    × KeepsSome rows' faults'
