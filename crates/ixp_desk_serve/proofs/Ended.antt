-- How a server ends whose store was loaded.
use Rattle.std.proofs.Common.{◌≡◌, ℕ, Bool, Option, Result, Ok, Err}
use Rattle.ixp_io.specs.Tables.{Table}
use Rattle.ixp_machine_steps.specs.declared.state.State.{State}
use Rattle.ixp_store_words.specs.declared.fault.LoadFault.{LoadFault}
use Rattle.ixp_desk_lock.specs.Facts.{Log}
use Rattle.ixp_desk.specs.Openings.{Comes, Loads, Opens}
use Rattle.ixp_desk_serve.specs.declared.server.ServerEnd.{ServerEnd}
use Rattle.ixp_desk_serve.specs.declared.server.ServerEnd.TheVariants.{Unopened, NoMemory, DoorFault, Served}
use Rattle.ixp_desk_serve.specs.Servers.{DoorEnds, KeepsSome, ServerEnds}

-- a desk that was opened was loaded as some state
pub loaded : {D P : Type 0} (history : D → Log) (rows : P → Option Table) (faults : P → ℕ) (keeper : P) (d : D) → Opens history rows faults keeper (Ok d) → (s : State) × Loads (rows keeper) (Ok s)
loaded {D} {P} history rows faults keeper d o = by_load o.loaded o.loads o.comes
  where
    by_load : (r : Result State LoadFault) → Loads (rows keeper) r → Comes history rows faults keeper r (Ok d) → (s : State) × Loads (rows keeper) (Ok s)
    by_load (Ok s) loads comes = (s, loads)
    by_load (Err x) loads comes = absurd comes

pub served : (further : Bool) (rows rows' : Option Table) (faults faults' : ℕ) (links links' : Option ℕ) (doors doors' n : ℕ) (end : ServerEnd) → ((s : State) × Loads rows (Ok s))
    → DoorEnds further links links' doors doors' n end → KeepsSome rows' faults' → ServerEnds further rows rows' faults faults' links links' doors doors' n end
served further rows rows' faults faults' links links' doors doors' n (Served routers) s ends keeps = (s.0, s.1, ends, keeps)
served further rows rows' faults faults' links links' doors doors' n DoorFault s ends keeps = (s.0, s.1, ends, keeps)
served further rows rows' faults faults' links links' doors doors' n NoMemory s ends keeps = (s.0, s.1, ends, keeps)
served further rows rows' faults faults' links links' doors doors' n (Unopened fault) s ends keeps = absurd ends
