-- What a call that stores a batch does to the store.
use Rattle.std.specs.Prelude.{◌≡◌, ℕ, List, Option, Result, Ok, Err}
use Rattle.ixp_io.specs.declared.keeper.Change.{Change}
use Rattle.ixp_io.specs.declared.keeper.KeepFault.{KeepFault}
use Rattle.ixp_io.specs.declared.keeper.KeepFault.TheVariants.{Failed, NoMemory}
use Rattle.ixp_io.specs.Faults.{Rose}
use Rattle.ixp_io.specs.Tables.{Table, changed}
use Rattle.ixp_io.specs.Told.{Told}

-- All changes of the batch were made, or none. The store's count of faults rose exactly where a fault of the
-- store is answered.
abbrev pub Saves : {A : Type 0} → List Change → Option Table → Option Table → ℕ → ℕ → Result A KeepFault
    → Type 0
Saves batch rows rows' faults faults' (Ok a) =
    Told rows rows' (λ before now. now ≡ changed before batch) × (faults' ≡ faults)
Saves batch rows rows' faults faults' (Err Failed) = (rows' ≡ rows) × Rose faults faults'
Saves batch rows rows' faults faults' (Err NoMemory) = (rows' ≡ rows) × (faults' ≡ faults)
