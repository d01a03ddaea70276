-- Addresses of interfaces, looked at interface by interface.
use Rattle.std.proofs.Common.{◌≡◌, ℕ, Bool, ◌||◌, List, [], ◌∷◌, flat_map, Option, Some, None, refl, ap, ◌∙◌}
use Rattle.std.specs.List.{list_any}
use Rattle.std.proofs.Math.Bool.{or-false}
use Rattle.std.proofs.lemmas.List.Folds.{list_any-append}
use Rattle.ixp_num.specs.declared.addr.Addr.{Addr}
use Rattle.ixp_registry.specs.declared.network.IfAddr.{IfAddr}
use Rattle.ixp_registry.specs.declared.network.Interface.{Interface}
use Rattle.ixp_registry.specs.declared.network.AddressRow.{AddressRow}
use Rattle.ixp_registry.specs.Lookups.{is_at, has_addr}
use Rattle.ixp_num.specs.Prefixes.{same_addr}
use Rattle.ixp_registry.specs.Registries.{address_rows, addresses_of}

abbrev pub is_of : Addr → AddressRow → Bool
is_of a x = same_addr x.address.addr a

at_rows : (a : Addr) (n : ℕ) (x : Option IfAddr) → list_any (is_of a) (address_rows n x) ≡ is_at a x
at_rows a n None = refl
at_rows a n (Some y) = or-false (same_addr y.addr a)

pub by_interface : (a : Addr) (i : Interface) → list_any (is_of a) (addresses_of i) ≡ has_addr a i
by_interface a i =
    list_any-append (is_of a) (address_rows i.number i.v4) (address_rows i.number i.v6)
    ∙ (ap (λ b. b || list_any (is_of a) (address_rows i.number i.v6)) (at_rows a i.number i.v4) ∙ ap (λ b. is_at a i.v4 || b) (at_rows a i.number i.v6))

pub by_interfaces : (a : Addr) (is : List Interface) → list_any (is_of a) (flat_map addresses_of is) ≡ list_any (has_addr a) is
by_interfaces a [] = refl
by_interfaces a (i ∷ is) =
    list_any-append (is_of a) (addresses_of i) (flat_map addresses_of is)
    ∙ (ap (λ b. b || list_any (is_of a) (flat_map addresses_of is)) (by_interface a i) ∙ ap (λ b. has_addr a i || b) (by_interfaces a is))
