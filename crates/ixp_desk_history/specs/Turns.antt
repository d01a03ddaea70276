-- What turns make of what a history begins with. All are by recursion on the turns, the oldest first.
use Rattle.std.specs.Prelude.{◌≡◌, ℕ, ◌+◌, ◌==◌, List, [], ◌∷◌, ◌++◌, if◌then◌else◌}
use Rattle.ixp_registry.specs.declared.registry.Registry.{Registry}
use Rattle.ixp_machine_steps.specs.declared.state.Entry.{Entry}
use Rattle.ixp_machine_steps.specs.declared.state.State.{State}
use Rattle.ixp_machine_steps.specs.Runs.{run}
use Rattle.ixp_desk_history.specs.declared.turn.First.{First}
use Rattle.ixp_desk_history.specs.declared.turn.Shown.{Shown}
use Rattle.ixp_desk_history.specs.declared.turn.Turn.{Turn}
use Rattle.ixp_desk_history.specs.declared.turn.Event.{Event}
use Rattle.ixp_desk_history.specs.declared.turn.Event.TheVariants.{Edit, Question, Install, Fault}

-- the request of an event
abbrev pub entry_in : Event → List Entry
entry_in (Edit e d) = e.value ∷ []
entry_in (Question q a) = []
entry_in (Install upto) = []
entry_in (Fault count) = []

-- the requests of turns, whatever was decided of them
abbrev pub entries_of : List Turn → List Entry
entries_of [] = []
entries_of (t ∷ ts) = entry_in t.event ++ entries_of ts

-- the state after the turns
abbrev pub state_of : First → List Turn → State
state_of f ts = run f.state (entries_of ts)

abbrev pub registry_of : First → List Turn → Registry
registry_of f ts = (state_of f ts).registry

-- the store's count of faults after the turns: that of the last fault
abbrev pub fault_in : ℕ → Event → ℕ
fault_in n (Fault count) = count
fault_in n (Edit e d) = n
fault_in n (Question q a) = n
fault_in n (Install upto) = n

abbrev pub faults_from : ℕ → List Turn → ℕ
faults_from n [] = n
faults_from n (t ∷ ts) = faults_from (fault_in n t.event) ts

abbrev pub faults_of : First → List Turn → ℕ
faults_of f ts = faults_from f.faults ts

-- the version whose texts were installed last
abbrev pub built_in : ℕ → Event → ℕ
built_in n (Install upto) = upto
built_in n (Edit e d) = n
built_in n (Question q a) = n
built_in n (Fault count) = n

abbrev pub built_from : ℕ → List Turn → ℕ
built_from n [] = n
built_from n (t ∷ ts) = built_from (built_in n t.event) ts

abbrev pub built_after : First → List Turn → ℕ
built_after f ts = built_from f.state.accepted ts

-- how many turns a seat has made
abbrev pub turns_by : ℕ → List Turn → ℕ
turns_by seat [] = 0
turns_by seat (t ∷ ts) = (if t.seat == seat then 1 else 0) + turns_by seat ts

-- what readers see after the turns
abbrev pub shown_from : Shown → List Turn → Shown
shown_from v [] = v
shown_from v (t ∷ ts) = shown_from t.view ts

abbrev pub shown_after : First → List Turn → Shown
shown_after f ts = shown_from f.view ts

-- the version with a count: the registry when so many edits had been accepted
pub record IsVersion (f : First) (ts : List Turn) (k : ℕ) (r : Registry) : Type 0 where
  pub before : List Turn
  pub rest : List Turn
  pub is : ts ≡ before ++ rest
  pub count : (state_of f before).accepted ≡ k
  pub registry : r ≡ registry_of f before
