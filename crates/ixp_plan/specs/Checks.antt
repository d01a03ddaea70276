-- Whether an interface may get an address.
use Rattle.std.specs.Prelude.{ℕ, Bool, [], ◌∷◌, ◌&&◌, ◌==◌, not, Option, Some, None, Result, Ok, Err, if◌then◌else◌, find}
use Rattle.std.specs.Option.{is_some}
use Rattle.ixp_num.specs.declared.family.Family.{Family}
use Rattle.ixp_num.specs.declared.addr.Addr.{Addr}
use Rattle.ixp_num.specs.Families.{same_family}
use Rattle.ixp_num_tables.specs.Tables.{find as row_of, if_there}
use Rattle.ixp_registry.specs.declared.kind.Kind.TheVariants.{Interfaces, Routers}
use Rattle.ixp_registry.specs.declared.network.Interface.{Interface}
use Rattle.ixp_registry.specs.declared.router.Router.{Router}
use Rattle.ixp_registry.specs.declared.registry.Registry.{Registry}
use Rattle.ixp_registry.specs.declared.refusal.RowKey.TheVariants.{Number, Handle}
use Rattle.ixp_registry.specs.declared.refusal.Refusal.{Refusal}
use Rattle.ixp_registry.specs.declared.refusal.Refusal.TheVariants.{Unknown, Family as OtherFamily, Outside, Taken}
use Rattle.ixp_registry.specs.Keys.{interface_key}
use Rattle.ixp_registry.specs.Lookups.{is_host_in, prefix_in, has_addr}
use Rattle.ixp_plan.specs.Holders.{uses}

-- another interface than this one that has the address
abbrev pub other_interface : Registry → ℕ → Addr → Option Interface
other_interface r interface a = find (λ i. not (i.number == interface) && has_addr a i) r.interfaces

-- the first router by handle that has it
abbrev pub router_with : Registry → Addr → Option Router
router_with r a = find (uses a) r.routers

-- X9: nobody else may have the address
abbrev pub unless_taken : Option Interface → Option Router → Result Unit Refusal
unless_taken (Some i) q = Err (Taken Interfaces (Number i.number))
unless_taken None (Some q) = Err (Taken Routers (Handle q.handle))
unless_taken None None = Ok tt

-- the address is of the family, and the VLAN has a prefix of it
abbrev pub fits_family : Registry → ℕ → Family → Addr → Bool
fits_family r vlan f a = same_family a.family f && is_some (prefix_in r.vlans vlan f)

-- X7, X8 and X9 of an interface that is there
abbrev pub checked : Registry → Family → Addr → Interface → Result Unit Refusal
checked r f a i =
    if not (fits_family r i.vlan f a) then Err (OtherFamily f)
    else (if not (is_host_in r.vlans i.vlan f a) then Err (Outside i.vlan)
    else unless_taken (other_interface r i.number a) (router_with r a))

-- The lowest refusal that stands against the address as the interface's one of the family: X4 where there is
-- no such interface, X7 where the address isn't of the family or the VLAN has no prefix of it, X8 where no
-- interface may have it there, X9 where another interface or a router has it. The address that the interface
-- has now is replaced, and so stands against nothing.
abbrev pub address_check : Registry → ℕ → Family → Addr → Result Unit Refusal
address_check r interface f a =
    if_there (row_of interface_key (interface ∷ []) r.interfaces)
    (Err (Unknown Interfaces (Number interface))) (checked r f a)
