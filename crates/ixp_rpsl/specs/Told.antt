-- What functions that may run out of memory tell of an object. Nobody has to believe this: what it says is in
-- Objects.antt.
use Rattle.std.specs.Prelude.{◌≡◌, ◌++◌, ℕ, List, Result, Ok, Err}
use Rattle.ixp_rpsl.specs.declared.fault.ObjectFault.{ObjectFault}
use Rattle.ixp_rpsl.specs.declared.objects.Item.{Item}
use Rattle.ixp_rpsl.specs.declared.fault.ObjectFault.TheVariants as fault

-- the answer is this one, but that memory may run out
abbrev pub Tells : {A : Type 0} → Result A ℕ → Result A ObjectFault → Type 0
Tells {A} said (Ok x) = said ≡ Ok x
Tells {A} said (Err (fault.Line n)) = said ≡ Err n
Tells {A} said (Err fault.NoMemory) = Unit {0}

-- items are added as this says, but that memory may run out
abbrev pub Adds : Result (List Item) ℕ → List Item → List Item → Result (Unit {0}) ObjectFault → Type 0
Adds said old new (Ok x) = (items : List Item) × (said ≡ Ok items) × (new ≡ old ++ items)
Adds said old new (Err (fault.Line n)) = said ≡ Err n
Adds said old new (Err fault.NoMemory) = Unit {0}
