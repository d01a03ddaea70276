-- An interface's address is set.
use Rattle.std.proofs.Common.{◌≡◌, ℕ, ◌≤◌, ◌+◌, Bool, true, false, not, ◌&&◌, ◌==◌, List, [], ◌∷◌, Option, Some, None, Result, Ok, Err, refl, sym, ap, ◌∙◌, subst, arith, if◌then◌else◌}
use Rattle.std.specs.declared.cmp.Ordering.TheVariants.{Equal}
use Rattle.std.specs.List.{AllByRecursion}
use Rattle.std.specs.Option.{is_some}
use Rattle.std.proofs.lemmas.Bool.{or_parts, and_parts}
use Rattle.ixp_num.specs.declared.family.Family.{Family}
use Rattle.ixp_num.specs.declared.family.Family.TheVariants.{V4, V6}
use Rattle.ixp_num.specs.Families.{same_family}
use Rattle.ixp_num.specs.Prefixes.{same_addr}
use Rattle.ixp_num_tables.specs.Tables.{order, find, put, without, if_there, same}
use Rattle.ixp_num_tables.specs.Sums.{one_if, total}
use Rattle.ixp_num_tables.proofs.Orders.{all_weaker}
use Rattle.ixp_num_tables.proofs.AllItems.{all_both}
use Rattle.ixp_num_tables.proofs.TableLaws.{all_put, Ascends-put, find-key, find-equal-key}
use Rattle.ixp_num_tables.proofs.SumLaws.{total_put, total_put_same, total_without, total_none}
use Rattle.ixp_num_tables.proofs.Counts.{length_same, often_same, same_is}
use Rattle.ixp_num_tables.proofs.Looking.{all_found, all_others}
use Rattle.ixp_registry.specs.declared.kind.Kind.TheVariants.{Interfaces}
use Rattle.ixp_registry.specs.declared.network.Interface.{Interface}
use Rattle.ixp_registry.specs.declared.network.IfAddr.{IfAddr}
use Rattle.ixp_registry.specs.declared.router.Router.{Router}
use Rattle.ixp_registry.specs.declared.registry.Registry.{Registry}
use Rattle.ixp_registry.specs.declared.refusal.Refusal.{Refusal}
use Rattle.ixp_registry.specs.declared.refusal.Refusal.TheVariants.{Unknown, BadText, Family as OtherFamily, Outside}
use Rattle.ixp_registry.specs.declared.refusal.RowKey.TheVariants.{Number}
use Rattle.ixp_registry.specs.declared.refusal.TextField.TheVariants.{Secret}
use Rattle.ixp_registry.specs.Alphabets.{is_session_secret}
use Rattle.ixp_registry.specs.Keys.{interface_key}
use Rattle.ixp_registry.specs.Lookups.{has_addr, has_blackhole, is_host_in, prefix_in}
use Rattle.ixp_registry.specs.Valid.{Valid, ValidInterface, NamesOfInterface, NamesOfRouter, IsIn, holds, answers}
use Rattle.ixp_registry.specs.Weight.{weight}
use Rattle.ixp_registry.specs.Widths.{AddressFits, InterfaceFits}
use Rattle.ixp_registry.specs.Words.{addr_numbers}
use Rattle.ixp_plan.specs.Holders.{answers_at, uses}
use Rattle.ixp_plan.specs.Checks.{other_interface, router_with, unless_taken, fits_family, checked, address_check}
use Rattle.ixp_plan.proofs.Prefixes.{one_family}
use Rattle.ixp_machine_edits.specs.Tests.{first_refused}
use Rattle.ixp_machine_edits.specs.Interfaces.{addressed, with_address, if_err, set_address_tests}
use Rattle.ixp_machine_edits.specs.Routers.{holds_blackhole}
use Rattle.ixp_machine_edits.proofs.Passing.{no_refusal, holds as allowed, is_there, found, none_first, is_light, changed_there}
use Rattle.ixp_machine_edits.proofs.Numbers.{differ, never}
use Rattle.ixp_machine_edits.proofs.Addresses.{all_set, columns_set, holds_set, holds_once, holds_none, blackhole_set}
use Rattle.ixp_machine_edits.proofs.Frames.{Shared, interfaces_on}

-- what the tests say of an address that is accepted
record Accepted (r : Registry) (f : Family) (x : IfAddr) (i : Interface) : Type 0 where
  secret : is_session_secret x.secret ≡ true
  family : x.addr.family ≡ f
  host : is_host_in r.vlans i.vlan x.addr.family x.addr ≡ true
  others : AllByRecursion (λ j. (not (j.number == i.number) && has_addr x.addr j) ≡ false) r.interfaces
  routers : AllByRecursion (λ q. uses x.addr q ≡ false) r.routers
  light : weight r.members (put interface_key (addressed f x i) r.interfaces) r.routers r.irr ≤ 8000000

one_off : (a b : Bool) → (not a && b) ≡ false → a ≡ false → b ≡ false
one_off true b e h = absurd (let bad : ⊥ = cc in bad)
one_off false b e h = e

set_shared : (r : Registry) (f : Family) (x : IfAddr) (i : Interface) → find interface_key (i.number ∷ []) r.interfaces ≡ Some i → Valid r → IsIn V4 i.v4 × IsIn V6 i.v6 → Accepted r f x i
    → Shared (put interface_key (addressed f x i) r.interfaces) r.routers
set_shared r f x i here s columns a k = by_test (same k (addr_numbers x.addr)) refl where
  by_test : (b : Bool) → same k (addr_numbers x.addr) ≡ b → total (holds k) (put interface_key (addressed f x i) r.interfaces) + total (answers k) r.routers ≤ 1
  by_test false e =
      let h = holds_set k f x i in
      let z : one_if (same k (addr_numbers x.addr)) ≡ 0 = ap one_if e in
      let c = total_put_same interface_key (holds k) (addressed f x i) i r.interfaces s.interfaces.order here (omega (arith, h, z)) in
      let was = s.routers.addresses k in
      omega (arith, c, was)
  by_test true e =
      let kx = addr_numbers x.addr in
      let is = r.interfaces in
      let now = total_put interface_key (holds kx) (addressed f x i) is s.interfaces.order in
      let now' : total (holds kx) (put interface_key (addressed f x i) is) + holds kx i ≡ total (holds kx) is + holds kx (addressed f x i) =
      subst (λ (o : Option Interface). total (holds kx) (put interface_key (addressed f x i) is) + if_there o 0 (holds kx) ≡ total (holds kx) is + holds kx (addressed f x i)) here now in
      let rest = total_without interface_key (holds kx) (i.number ∷ []) is s.interfaces.order in
      let rest' : total (holds kx) (without interface_key (i.number ∷ []) is) + holds kx i ≡ total (holds kx) is =
      subst (λ (o : Option Interface). total (holds kx) (without interface_key (i.number ∷ []) is) + if_there o 0 (holds kx) ≡ total (holds kx) is) here rest in
      let none : total (holds kx) (without interface_key (i.number ∷ []) is) ≡ 0 =
      total_none (holds kx) (without interface_key (i.number ∷ []) is)
      (all_others interface_key (λ j. holds kx j ≡ 0) (i.number ∷ []) is
      (all_weaker (λ j. (not (j.number == i.number) && has_addr x.addr j) ≡ false) (λ j. (order (interface_key j) (i.number ∷ []) ≡ Equal → ⊥) → holds kx j ≡ 0)
      (λ j free apart. holds_none x.addr j (one_off (j.number == i.number) (has_addr x.addr j) free (differ j.number i.number apart))) is a.others)) in
      let once = holds_once f x i a.family columns in
      let no_router : total (answers kx) r.routers ≡ 0 =
      never (λ q. q.addr) x.addr r.routers (all_weaker (λ q. uses x.addr q ≡ false) (λ q. same_addr q.addr x.addr ≡ false) (λ q y. (or_parts (answers_at x.addr q) (has_blackhole q x.addr) y).0) r.routers a.routers) in
      let all : total (holds kx) (put interface_key (addressed f x i) is) + total (answers kx) r.routers ≤ 1 = omega (arith, now', rest', none, once, no_router) in
      subst (λ (q : List ℕ). total (holds q) (put interface_key (addressed f x i) is) + total (answers q) r.routers ≤ 1) (sym (same_is k kx e)) all

columns_fit : (f : Family) (x : IfAddr) (i : Interface) → AddressFits x → InterfaceFits i → InterfaceFits (addressed f x i)
columns_fit V4 x i new old = (old.0, old.1, old.2, old.3, new, old.5)
columns_fit V6 x i new old = (old.0, old.1, old.2, old.3, old.4, new)

set_there : (r : Registry) (f : Family) (x : IfAddr) (i : Interface) → AddressFits x → find interface_key (i.number ∷ []) r.interfaces ≡ Some i → Valid r → Accepted r f x i → Valid (record r { interfaces = put interface_key (addressed f x i) r.interfaces })
set_there r f x i fits here s a =
    let is = r.interfaces in
    let i' = addressed f x i in
    let js = put interface_key i' is in
    let up = s.interfaces.order in
    let own : ValidInterface i = all_found interface_key ValidInterface (i.number ∷ []) i is s.interfaces.each here in
    let names : NamesOfInterface r.members r.ports r.vlans i = all_found interface_key (NamesOfInterface r.members r.ports r.vlans) (i.number ∷ []) i is s.interfaces.named here in
    let grown = length_same interface_key i' i is up here in
    let few = s.interfaces.few in
    interfaces_on r js
    (record {
      order = Ascends-put interface_key i' is up;
      each = all_put interface_key ValidInterface i' is
          (record {
            fits = columns_fit f x i fits own.fits;
            number = own.number;
            columns = columns_set f x i a.family own.columns;
            secrets = all_set (λ y. is_session_secret y.address.secret ≡ true) f x i own.secrets a.secret;
          }) s.interfaces.each;
      named = all_put interface_key (NamesOfInterface r.members r.ports r.vlans) i' is
          (record {
            member = names.member;
            stays = names.stays;
            port = names.port;
            vlan = names.vlan;
            hosts = all_set (λ y. is_host_in r.vlans i.vlan y.address.addr.family y.address.addr ≡ true) f x i names.hosts a.host;
          }) s.interfaces.named;
      few = omega (arith, few, grown);
      per_member = often_same interface_key 16 (λ j. j.member ∷ []) i' i is up here refl s.interfaces.per_member;
    })
    (all_weaker (λ q. NamesOfRouter r.members r.vlans is q × (uses x.addr q ≡ false)) (λ q. AllByRecursion (λ j. holds_blackhole q j ≡ false) js)
    (λ q y. all_put interface_key (λ j. holds_blackhole q j ≡ false) i' is
    (blackhole_set q f x i (or_parts (answers_at x.addr q) (has_blackhole q x.addr) y.1).1 (all_found interface_key (λ j. holds_blackhole q j ≡ false) (i.number ∷ []) i is y.0.free here)) y.0.free)
    r.routers (all_both (NamesOfRouter r.members r.vlans is) (λ q. uses x.addr q ≡ false) r.routers s.routers.named a.routers))
    (set_shared r f x i here s own.columns a)
    a.light
    s

-- what the address plan says of an address that is accepted
no_error : (x : Result Unit Refusal) → if_err x ≡ None → x ≡ Ok tt
no_error (Ok u) e = refl
no_error (Err x) e = absurd (let bad : ⊥ = cc in bad)

ok_parts : (a b : Bool) (e g : Refusal) (z : Result Unit Refusal) → (if not a then Err e else (if not b then Err g else z)) ≡ Ok tt → (a ≡ true) × (b ≡ true) × (z ≡ Ok tt)
ok_parts false b e g z h = absurd (let bad : ⊥ = cc in bad)
ok_parts true false e g z h = absurd (let bad : ⊥ = cc in bad)
ok_parts true true e g z h = (refl, refl, h)

nobody : (o : Option Interface) (q : Option Router) → unless_taken o q ≡ Ok tt → (o ≡ None) × (q ≡ None)
nobody (Some i) q h = absurd (let bad : ⊥ = cc in bad)
nobody None (Some q) h = absurd (let bad : ⊥ = cc in bad)
nobody None None h = (refl, refl)

pub address_set : (r : Registry) (n : ℕ) (f : Family) (x : IfAddr) → AddressFits x → Valid r → first_refused (set_address_tests r n f x) ≡ None → Valid (record r { interfaces = with_address n f x r.interfaces })
address_set r n f x fits s ok =
    let is = r.interfaces in
    let o = find interface_key (n ∷ []) is in
    let t = no_refusal (set_address_tests r n f x) ok in
    let at = found o (is_there o Interfaces (Number n) t.0) in
    let i = at.0 in
    let e : with_address n f x is ≡ put interface_key (addressed f x i) is = changed_there interface_key (n ∷ []) (addressed f x) is i at.1 in
    let here : find interface_key (i.number ∷ []) is ≡ Some i = find-equal-key interface_key (i.number ∷ []) (n ∷ []) is (find-key interface_key (n ∷ []) i is at.1) ∙ at.1 in
    let ok' : checked r f x.addr i ≡ Ok tt = subst (λ (p : Option Interface). if_there p (Err (Unknown Interfaces (Number n))) (checked r f x.addr) ≡ Ok tt) at.1 (no_error (address_check r n f x.addr) t.1.1.0) in
    let parts = ok_parts (fits_family r i.vlan f x.addr) (is_host_in r.vlans i.vlan f x.addr) (OtherFamily f) (Outside i.vlan) (unless_taken (other_interface r i.number x.addr) (router_with r x.addr)) ok' in
    let clear = nobody (other_interface r i.number x.addr) (router_with r x.addr) parts.2 in
    let family : x.addr.family ≡ f = one_family x.addr.family f (and_parts (same_family x.addr.family f) (is_some (prefix_in r.vlans i.vlan f)) parts.0).0 in
    let light = is_light (weight r.members (with_address n f x is) r.routers r.irr) t.1.1.1.0 in
    let a : Accepted r f x i = record {
      secret = allowed (is_session_secret x.secret) (BadText Secret) t.1.0;
      family = family;
      host = subst (λ (g : Family). is_host_in r.vlans i.vlan g x.addr ≡ true) (sym family) parts.1;
      others = none_first (λ j. not (j.number == i.number) && has_addr x.addr j) is clear.0;
      routers = none_first (uses x.addr) r.routers clear.1;
      light = subst (λ (js : List Interface). weight r.members js r.routers r.irr ≤ 8000000) e light;
    } in
    subst (λ (js : List Interface). Valid (record r { interfaces = js })) (sym e) (set_there r f x i fits here s a)
