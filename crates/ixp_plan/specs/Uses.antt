-- The report on who has which addresses of a VLAN.
use Rattle.std.specs.Prelude.{◌≡◌, ℕ, Bool, List, [], ◌∷◌, ◌++◌, ◌&&◌, false, Option, Some, None, find, flat_map, decimal, codes}
use Rattle.std.specs.Option.{is_some}
use Rattle.ixp_num.specs.declared.family.Family.{Family}
use Rattle.ixp_num.specs.declared.addr.Addr.{Addr}
use Rattle.ixp_num.specs.Prefixes.{contains}
use Rattle.ixp_num.specs.Printing.{addr_text}
use Rattle.ixp_num_tables.specs.Tables.{Ascends, find as row_of, if_there}
use Rattle.ixp_registry.specs.declared.network.Interface.{Interface}
use Rattle.ixp_registry.specs.declared.router.Router.{Router}
use Rattle.ixp_registry.specs.declared.registry.Registry.{Registry}
use Rattle.ixp_registry.specs.Lookups.{has_blackhole, prefix_in, has_addr}
use Rattle.ixp_registry.specs.Words.{addr_numbers}
use Rattle.ixp_plan.specs.declared.uses.UsedAddr.{UsedAddr}
use Rattle.ixp_plan.specs.Holders.{answers_at, is_taken}
use Rattle.ixp_plan.specs.Free.{IsFirstFree}

-- the address is taken, and lies in the VLAN's prefix of the family
abbrev pub is_used : Registry → ℕ → Family → Addr → Bool
is_used r vlan f a = if_there (prefix_in r.vlans vlan f) false (λ p. contains p a) && is_taken r a

abbrev pub used_key : UsedAddr → List ℕ
used_key u = addr_numbers u.addr

-- the address is one of the list's
abbrev pub is_in : Addr → List UsedAddr → Bool
is_in a us = is_some (row_of used_key (addr_numbers a) us)

-- all such addresses, ascending, each once
abbrev pub AreUsed : Registry → ℕ → Family → List UsedAddr → Type 0
AreUsed r vlan f us = Ascends used_key us × ((a : Addr) → is_in a us ≡ is_used r vlan f a)

abbrev pub interface_text : Interface → List ℕ
interface_text i = codes " interface " ++ decimal i.number

-- who has it: an interface, a router, or a router as its blackhole, the first one by number or handle
abbrev pub holder_text : Option Interface → Option Router → Option Router → List ℕ
holder_text (Some i) q b = interface_text i
holder_text None (Some q) b = codes " router " ++ q.handle
holder_text None None (Some b) = codes " blackhole " ++ b.handle
holder_text None None None = []

-- `<addr> interface <n>`, `<addr> router <handle>` or `<addr> blackhole <handle>`
abbrev pub use_line : Registry → Addr → List ℕ
use_line r a =
    addr_text a
    ++ holder_text (find (has_addr a) r.interfaces) (find (answers_at a) r.routers)
    (find (λ q. has_blackhole q a) r.routers)
    ++ 10 ∷ []

abbrev pub addr_or_none : Option Addr → List ℕ
addr_or_none None = codes "none"
addr_or_none (Some a) = addr_text a

-- `free <addr>`, or `free none`
abbrev pub free_line : Option Addr → List ℕ
free_line a = codes "free " ++ addr_or_none a ++ 10 ∷ []

-- a line for each address of the VLAN that is taken, then one for the least that is free
abbrev pub IsReport : Registry → ℕ → Family → List ℕ → Type 0
IsReport r vlan f t =
    (us : List UsedAddr) × (a : Option Addr) × AreUsed r vlan f us × IsFirstFree r vlan f a
    × (t ≡ flat_map (λ u. use_line r u.addr) us ++ free_line a)
