-- Interfaces and their rows.
use Rattle.std.proofs.Common.{◌≡◌, ℕ, List, [], ◌∷◌, ◌++◌, map, Option, Some, None, option_map, refl}
use Rattle.std.specs.declared.cmp.Ordering.{Ordering}
use Rattle.std.specs.declared.cmp.Ordering.TheVariants.{Less, Equal, Greater}
use Rattle.std.specs.Ordering.{match_ordering}
use Rattle.std.specs.List.{AllByRecursion}
use Rattle.ixp_num_tables.specs.Tables.{order, find}
use Rattle.ixp_registry.specs.declared.network.Interface.{Interface}
use Rattle.ixp_registry.specs.declared.network.IfAddr.{IfAddr}
use Rattle.ixp_registry.specs.declared.network.AddressRow.{AddressRow}
use Rattle.ixp_registry.specs.Keys.{interface_key, interface_row_key}
use Rattle.ixp_registry.specs.Registries.{bare, address_rows, addresses_of}

pub find_bare : (k : List ℕ) (is : List Interface) → find interface_row_key k (map bare is) ≡ option_map bare (find interface_key k is)
find_bare k [] = refl
find_bare k (i ∷ is) = by_order (find_bare k is) (order (interface_key i) k) where
  by_order : find interface_row_key k (map bare is) ≡ option_map bare (find interface_key k is) → (o : Ordering)
      → match_ordering o (find interface_row_key k (map bare is)) (Some (bare i)) (find interface_row_key k (map bare is)) ≡ option_map bare (match_ordering o (find interface_key k is) (Some i) (find interface_key k is))
  by_order again Less = again
  by_order again Equal = refl
  by_order again Greater = again

-- the rows of an interface's addresses name it
own_rows : (P Q : AddressRow → Type 0) (n : ℕ) (o : Option IfAddr) → ((x : IfAddr) → P (record { interface = n; address = x }) → Q (record { interface = n; address = x })) → AllByRecursion P (address_rows n o) → AllByRecursion Q (address_rows n o)
own_rows P Q n None step all = tt
own_rows P Q n (Some x) step all = (step x all.0, tt)

own_joined : (P Q : AddressRow → Type 0) (n : ℕ) (o : Option IfAddr) (more : List AddressRow) → ((x : IfAddr) → P (record { interface = n; address = x }) → Q (record { interface = n; address = x })) → (AllByRecursion P more → AllByRecursion Q more) → AllByRecursion P (address_rows n o ++ more) → AllByRecursion Q (address_rows n o ++ more)
own_joined P Q n None more step rest all = rest all
own_joined P Q n (Some x) more step rest all = (step x all.0, rest all.1)

pub own_addresses : (P Q : AddressRow → Type 0) (i : Interface) → ((x : IfAddr) → P (record { interface = i.number; address = x }) → Q (record { interface = i.number; address = x })) → AllByRecursion P (addresses_of i) → AllByRecursion Q (addresses_of i)
own_addresses P Q i step = own_joined P Q i.number i.v4 (address_rows i.number i.v6) step (own_rows P Q i.number i.v6 step)
