-- Interfaces are added and dropped.
use Rattle.std.proofs.Common.{◌≡◌, ℕ, ◌<◌, Bool, true, false, not, ◌==◌, [], ◌∷◌, length, Option, Some, None, refl, arith, if◌then◌else◌}
use Rattle.std.specs.List.{AllByRecursion}
use Rattle.std.specs.Option.{is_some}
use Rattle.ixp_num.specs.declared.addr.Addr.{Addr}
use Rattle.ixp_num_tables.specs.Tables.{find, put, without, if_there}
use Rattle.ixp_num_tables.proofs.Orders.{all_weaker}
use Rattle.ixp_num_tables.proofs.TableLaws.{all_put, all_without, Ascends-put, Ascends-without}
use Rattle.ixp_num_tables.proofs.SumLaws.{total_put_new, total_fewer}
use Rattle.ixp_num_tables.proofs.Counts.{length_put, length_fewer, often_put, often_fewer}
use Rattle.ixp_registry.specs.declared.kind.Kind.TheVariants.{Members, Ports, Vlans, Interfaces}
use Rattle.ixp_registry.specs.declared.members.Status.TheVariants.{Connected, Left}
use Rattle.ixp_registry.specs.declared.network.Interface.{Interface}
use Rattle.ixp_registry.specs.declared.network.Port.{Port}
use Rattle.ixp_registry.specs.declared.registry.Registry.{Registry}
use Rattle.ixp_registry.specs.declared.refusal.Refusal.TheVariants.{PortTaken, StatusMove, BadRule}
use Rattle.ixp_registry.specs.declared.refusal.RowKey.TheVariants.{Number}
use Rattle.ixp_registry.specs.Keys.{member_key, port_key, vlan_key, interface_key}
use Rattle.ixp_registry.specs.Lookups.{has_left, is_member_connected}
use Rattle.ixp_registry.specs.Valid.{Valid, ValidInterface, NamesOfInterface, NamesOfRouter, holds as holds_address}
use Rattle.ixp_registry.specs.Weight.{interface_weight}
use Rattle.ixp_registry.specs.Widths.{IsNumber}
use Rattle.ixp_machine_edits.specs.Tests.{first_refused, refused}
use Rattle.ixp_machine_edits.specs.Interfaces.{new_interface, with_interface, holder_of, interfaces_of, add_interface_tests, without_interface}
use Rattle.ixp_machine_edits.specs.Routers.{holds_blackhole}
use Rattle.ixp_machine_edits.proofs.Passing.{no_refusal, passed, holds, is_there, has_room}
use Rattle.ixp_machine_edits.proofs.Numbers.{counted}
use Rattle.ixp_machine_edits.proofs.Frames.{interfaces_on}

-- an interface that is taken out
pub interface_dropped : (r : Registry) (n : ℕ) → Valid r → Valid (record r { interfaces = without_interface n r.interfaces })
interface_dropped r n s =
    let is = r.interfaces in
    let k = n ∷ [] in
    let up = s.interfaces.order in
    let fewer = length_fewer interface_key k is up in
    let few = s.interfaces.few in
    interfaces_on r (without interface_key k is)
    (record {
      order = Ascends-without interface_key k is up;
      each = all_without interface_key ValidInterface k is s.interfaces.each;
      named = all_without interface_key (NamesOfInterface r.members r.ports r.vlans) k is s.interfaces.named;
      few = omega (arith, fewer, few);
      per_member = often_fewer interface_key 16 (λ i. i.member ∷ []) k is up s.interfaces.per_member;
    })
    (all_weaker (NamesOfRouter r.members r.vlans is) (λ q. AllByRecursion (λ i. holds_blackhole q i ≡ false) (without interface_key k is))
    (λ q x. all_without interface_key (λ i. holds_blackhole q i ≡ false) k is x.free) r.routers s.routers.named)
    (λ a. let f = total_fewer interface_key (holds_address a) k is up in let was = s.routers.addresses a in omega (arith, f, was))
    (let f = total_fewer interface_key (interface_weight r.members r.routers r.irr) k is up in let was = s.light in omega (arith, f, was))
    s

no_blackhole : (o : Option Addr) → if_there o false (λ b. false) ≡ false
no_blackhole None = refl
no_blackhole (Some b) = refl

nothing : (b : Bool) → ◌≡◌ {A = ℕ} (if b then 0 else 0) 0
nothing true = refl
nothing false = refl

on_port : (o : Option Port) (member : ℕ) → is_some o ≡ true → if_there o None (λ p. refused (not (p.member == member)) (PortTaken (holder_of p))) ≡ None → if_there o false (λ p. p.member == member) ≡ true
on_port None member e t = absurd (let bad : ⊥ = cc in bad)
on_port (Some p) member e t = holds (p.member == member) (PortTaken (holder_of p)) t

-- an interface without addresses is put in
pub interface_added : (r : Registry) (number member port vlan : ℕ) → IsNumber number × IsNumber member × IsNumber port × IsNumber vlan → Valid r → first_refused (add_interface_tests r number member port vlan) ≡ None
    → Valid (record r { interfaces = with_interface number member port vlan r.interfaces })
interface_added r number member port vlan fits s ok =
    let is = r.interfaces in
    let i : Interface = new_interface number member port vlan in
    let js = put interface_key i is in
    let up = s.interfaces.order in
    let t = no_refusal (add_interface_tests r number member port vlan) ok in
    let few : length is < 8000 = has_room Interfaces (length is) 8000 t.1.1.1.1.1.1.1.0 in
    let own : interfaces_of member is < 16 = has_room Interfaces (interfaces_of member is) 16 t.1.1.1.1.1.1.1.1.0 in
    let same_count = counted (λ (j : Interface). j.member) member is in
    let grown = length_put interface_key i is up in
    interfaces_on r js
    (record {
      order = Ascends-put interface_key i is up;
      each = all_put interface_key ValidInterface i is (record { fits = (fits.0, fits.1, fits.2, fits.3, tt, tt); number = passed (number == 0) (BadRule 0) t.1.1.1.1.1.1.0; columns = (tt, tt); secrets = tt }) s.interfaces.each;
      named = all_put interface_key (NamesOfInterface r.members r.ports r.vlans) i is
          (record {
            member = is_there (find member_key (member ∷ []) r.members) Members (Number member) t.0;
            stays = passed (has_left r.members member) (StatusMove Left Connected) t.1.1.1.1.1.0;
            port = on_port (find port_key (port ∷ []) r.ports) member (is_there (find port_key (port ∷ []) r.ports) Ports (Number port) t.1.0) t.1.1.1.0;
            vlan = is_there (find vlan_key (vlan ∷ []) r.vlans) Vlans (Number vlan) t.1.1.0;
            hosts = tt;
          }) s.interfaces.named;
      few = omega (arith, few, grown);
      per_member = often_put interface_key 16 (λ j. j.member ∷ []) i is up (omega (arith, own, same_count)) s.interfaces.per_member;
    })
    (all_weaker (NamesOfRouter r.members r.vlans is) (λ q. AllByRecursion (λ j. holds_blackhole q j ≡ false) js)
    (λ q x. all_put interface_key (λ j. holds_blackhole q j ≡ false) i is (no_blackhole q.blackhole) x.free) r.routers s.routers.named)
    (λ a. let g = total_put_new interface_key (holds_address a) i is up in let was = s.routers.addresses a in omega (arith, g, was))
    (let g = total_put_new interface_key (interface_weight r.members r.routers r.irr) i is up in let z = nothing (is_member_connected r.members member) in let was = s.light in omega (arith, g, z, was))
    s
