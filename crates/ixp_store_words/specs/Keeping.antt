-- What is kept of requests while it is loaded. Nobody needs to believe this: it serves proofs.
use Rattle.std.specs.Prelude.{◌≡◌, ◌≤◌, ◌<◌, ℕ, List, true}
use Rattle.std.specs.List.{AllByRecursion}
use Rattle.ixp_registry.specs.Words.{is_staff_number}
use Rattle.ixp_machine_steps.specs.declared.kept.KeptNumber.{KeptNumber}
use Rattle.ixp_machine_steps.specs.declared.kept.KeptOwner.{KeptOwner}
use Rattle.ixp_machine_steps.specs.Kept.{ValidKept}

-- what is kept is valid where so many requests were accepted, and staff owners are lawful
abbrev pub AreKept : ℕ → List KeptOwner → Type 0
AreKept accepted ks = AllByRecursion (λ k. ValidKept accepted k × (is_staff_number k.owner ≡ true)) ks

-- the number may be kept under this floor
abbrev pub MayBeKept : ℕ → ℕ → KeptNumber → Type 0
MayBeKept accepted floor k = (floor ≤ k.number) × (0 < k.number) × (k.place ≤ accepted)
