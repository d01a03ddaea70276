-- What a store is the store of.
use Rattle.std.specs.Prelude.{◌≡◌, ◌≢◌, ◌⊎◌, [], Option, Some, codes, Result, Ok, Err}
use Rattle.std.specs.FinMap.{empty, get}
use Rattle.ixp_io.specs.Tables.{Table}
use Rattle.ixp_registry.specs.declared.registry.Registry.{Registry}
use Rattle.ixp_machine_steps.specs.Openings.{first_state}
use Rattle.ixp_machine_steps.specs.declared.state.State.{State}
use Rattle.ixp_machine_steps.specs.States.{ValidState}
use Rattle.ixp_store_rows.specs.Names.{version_name}
use Rattle.ixp_store_rows.specs.States.{tables}
use Rattle.ixp_store_words.specs.declared.fault.LoadFault.{LoadFault}
use Rattle.ixp_store_words.specs.declared.fault.LoadFault.TheVariants.{KeeperFault, Damaged, OldVersion, NoMemory}
use Rattle.ixp_store_words.specs.Storing.{IsStorable}

-- the registry without rows; its site has the numbers 0 and no name
abbrev pub empty_registry : Registry
empty_registry = record {
  site = record { ixp_id = 0; ixf_id = 0; shortname = [] };
  members = [];
  contacts = [];
  keys = [];
  switches = [];
  ports = [];
  vlans = [];
  interfaces = [];
  routers = [];
  irr = [];
  origins = [];
  rules = [];
  public = record { bogons = []; bogon_as = []; transit = []; roas = [] };
}

-- a store has the rows of the state; one without rows is that of the first state of the registry without rows
abbrev pub IsStoreOf : State → Table → Type 0
IsStoreOf s rows = (rows ≡ tables s) ⊎ ((rows ≡ empty) × (s ≡ first_state empty_registry))

-- a store of version 1 is told to be old, and no other one
abbrev pub TellsVersion : Result State LoadFault → Table → Type 0
TellsVersion (Ok s) rows = get rows version_name ≢ Some (codes "1")
TellsVersion (Err KeeperFault) rows = Unit {0}
TellsVersion (Err (Damaged name damage)) rows = get rows version_name ≢ Some (codes "1")
TellsVersion (Err (OldVersion found)) rows = (found ≡ 1) × (get rows version_name ≡ Some (codes "1"))
TellsVersion (Err NoMemory) rows = Unit {0}

-- The state is the answer, but that memory may run out and the keeper may fail.
abbrev pub IsLoaded : State → Result State LoadFault → Type 0
IsLoaded s (Ok r) = r ≡ s
IsLoaded s (Err KeeperFault) = Unit {0}
IsLoaded s (Err NoMemory) = Unit {0}
IsLoaded s (Err fault) = ⊥

-- What can be loaded is: the rows of a state that requests lead to as that state, and no row as the first
-- state of the registry without rows.
pub record LoadsAll (rows : Option Table) (r : Result State LoadFault) : Type 0 where
  pub whole : (s : State) → ValidState s → IsStorable s → rows ≡ Some (tables s) → IsLoaded s r
  pub nothing : rows ≡ Some empty → IsLoaded (first_state empty_registry) r
