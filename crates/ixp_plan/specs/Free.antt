-- The least address that is free.
use Rattle.std.specs.Prelude.{◌≡◌, ◌≤◌, ℕ, true, false, Option, Some, None}
use Rattle.ixp_num.specs.declared.family.Family.{Family}
use Rattle.ixp_num.specs.declared.addr.Addr.{Addr}
use Rattle.ixp_registry.specs.declared.registry.Registry.{Registry}
use Rattle.ixp_registry.specs.Lookups.{is_host_in}
use Rattle.ixp_plan.specs.Holders.{is_taken}

-- an interface or a router in the VLAN may have the address, and nobody has it
abbrev pub IsFree : Registry → ℕ → Family → Addr → Type 0
IsFree r vlan f a = (is_host_in r.vlans vlan f a ≡ true) × (is_taken r a ≡ false)

-- the least of these addresses; None where there is none
abbrev pub IsFirstFree : Registry → ℕ → Family → Option Addr → Type 0
IsFirstFree r vlan f (Some a) = IsFree r vlan f a × ((b : Addr) → IsFree r vlan f b → a.value ≤ b.value)
IsFirstFree r vlan f None = (b : Addr) → ¬ (IsFree r vlan f b)
