-- Edits of switches and ports.
use Rattle.std.proofs.Common.{◌≡◌, ℕ, ◌<◌, Bool, true, false, not, ◌||◌, ◌==◌, List, [], ◌∷◌, length, Option, Some, None, refl, sym, ◌∙◌, subst, arith}
use Rattle.std.specs.declared.cmp.Ordering.TheVariants.{Equal}
use Rattle.std.specs.List.{AllByRecursion}
use Rattle.std.specs.Option.{is_some}
use Rattle.std.proofs.lemmas.Bool.{eqb-true, eqb-false}
use Rattle.ixp_num_tables.specs.Tables.{order, find, put, without, if_there}
use Rattle.ixp_num_tables.proofs.Orders.{all_weaker, head_same}
use Rattle.ixp_num_tables.proofs.AllItems.{all_both}
use Rattle.ixp_num_tables.proofs.TableLaws.{all_put, all_without, Ascends-put, Ascends-without, find-key, find-equal-key}
use Rattle.ixp_num_tables.proofs.Counts.{length_put, length_same, length_fewer}
use Rattle.ixp_num_tables.proofs.Looking.{look_put, look_without, all_found}
use Rattle.ixp_registry.specs.declared.kind.Kind.TheVariants.{Members, Switches, Ports, Interfaces}
use Rattle.ixp_registry.specs.declared.members.Member.{Member}
use Rattle.ixp_registry.specs.declared.network.Interface.{Interface}
use Rattle.ixp_registry.specs.declared.network.Port.{Port}
use Rattle.ixp_registry.specs.declared.network.Switch.{Switch}
use Rattle.ixp_registry.specs.declared.registry.Registry.{Registry}
use Rattle.ixp_registry.specs.declared.refusal.Refusal.TheVariants.{BadText, PortTaken, BadRule}
use Rattle.ixp_registry.specs.declared.refusal.RowKey.TheVariants.{Number}
use Rattle.ixp_registry.specs.declared.refusal.TextField.TheVariants.{Name}
use Rattle.ixp_registry.specs.Alphabets.{is_label}
use Rattle.ixp_registry.specs.Keys.{member_key, switch_key, port_key}
use Rattle.ixp_registry.specs.Lookups.{has_member, has_switch, is_port_of}
use Rattle.ixp_registry.specs.Valid.{Valid, ValidMember, ValidSwitch, ValidPort, NamesOfInterface}
use Rattle.ixp_registry.specs.Widths.{IsNumber, AreBytes}
use Rattle.ixp_machine_edits.specs.Tests.{first_refused, refused, unless_there, of_there}
use Rattle.ixp_machine_edits.specs.Ports.{with_switch, add_switch_tests, without_switch, drop_switch_tests, new_port, with_port, add_port_tests, assigned, assign_port_tests, freed, idle_port_tests, without_port}
use Rattle.ixp_machine_edits.proofs.Passing.{no_refusal, after_first, passed, holds, is_there, there, found, is_new, nobody_uses, has_room, changed_there}
use Rattle.ixp_machine_edits.proofs.Numbers.{apart}
use Rattle.ixp_machine_edits.proofs.Frames.{switches_on, ports_on}

pub switch_added : (r : Registry) (number : ℕ) (name : List ℕ) → IsNumber number × AreBytes name → Valid r → first_refused (add_switch_tests r number name) ≡ None → Valid (record r { switches = with_switch number name r.switches })
switch_added r number name fits s ok =
    let ss = r.switches in
    let n : Switch = record { number = number; name = name } in
    let t = no_refusal (add_switch_tests r number name) ok in
    let few : length ss < 256 = has_room Switches (length ss) 256 t.1.1.1.0 in
    let grown = length_put switch_key n ss s.switches.order in
    switches_on r (put switch_key n ss)
    (record {
      order = Ascends-put switch_key n ss s.switches.order;
      each = all_put switch_key ValidSwitch n ss (record { fits = fits; number = passed (number == 0) (BadRule 0) t.1.1.0; name = holds (is_label name) (BadText Name) t.0 }) s.switches.each;
      few = omega (arith, few, grown);
    })
    (all_weaker (λ p. has_switch ss p.switch ≡ true) (λ p. has_switch (put switch_key n ss) p.switch ≡ true) (λ p was. look_put switch_key is_some true n (p.switch ∷ []) ss (λ e now. refl) was) r.ports s.ports.switches) s

pub switch_dropped : (r : Registry) (switch : ℕ) → Valid r → first_refused (drop_switch_tests r switch) ≡ None → Valid (record r { switches = without_switch switch r.switches })
switch_dropped r switch s ok =
    let ss = r.switches in
    let k = switch ∷ [] in
    let t = no_refusal (drop_switch_tests r switch) ok in
    let free = nobody_uses Ports (λ p. Number p.number) (λ p. p.switch == switch) r.ports t.1.0 in
    let few = s.switches.few in
    let fewer = length_fewer switch_key k ss s.switches.order in
    switches_on r (without switch_key k ss)
    (record {
      order = Ascends-without switch_key k ss s.switches.order;
      each = all_without switch_key ValidSwitch k ss s.switches.each;
      few = omega (arith, few, fewer);
    })
    (all_weaker (λ p. (has_switch ss p.switch ≡ true) × ((p.switch == switch) ≡ false)) (λ p. has_switch (without switch_key k ss) p.switch ≡ true)
    (λ p x. look_without switch_key is_some true (p.switch ∷ []) k ss (apart p.switch switch x.1) x.0) r.ports
    (all_both (λ p. has_switch ss p.switch ≡ true) (λ p. (p.switch == switch) ≡ false) r.ports s.ports.switches free)) s

abbrev port_row_of : ℕ → Option Port → Bool
port_row_of member o = if_there o false (λ p. p.member == member)

pub port_added : (r : Registry) (number switch : ℕ) (name : List ℕ) (speed : ℕ) → IsNumber number × IsNumber switch × IsNumber speed × AreBytes name → Valid r → first_refused (add_port_tests r number switch name speed) ≡ None
    → Valid (record r { ports = with_port number switch name speed r.ports })
port_added r number switch name speed fits s ok =
    let ps = r.ports in
    let p : Port = new_port number switch name speed in
    let t = no_refusal (add_port_tests r number switch name speed) ok in
    let fresh : find port_key (number ∷ []) ps ≡ None = is_new (λ p. Number p.number) (find port_key (number ∷ []) ps) t.1.1.0 in
    let few : length ps < 16384 = has_room Ports (length ps) 16384 t.1.1.1.1.0 in
    let grown = length_put port_key p ps s.ports.order in
    ports_on r (put port_key p ps)
    (record {
      order = Ascends-put port_key p ps s.ports.order;
      each = all_put port_key ValidPort p ps (record { fits = (fits.0, fits.1, fits.2, zero_fits, fits.3); number = passed (number == 0 || speed == 0) (BadRule 0) t.1.1.1.0; name = holds (is_label name) (BadText Name) t.1.0 }) s.ports.each;
      switches = all_put port_key (λ p. has_switch r.switches p.switch ≡ true) p ps (is_there (find switch_key (switch ∷ []) r.switches) Switches (Number switch) t.0) s.ports.switches;
      members = all_put port_key (λ p. (p.member == 0 || has_member r.members p.member) ≡ true) p ps refl s.ports.members;
      few = omega (arith, few, grown);
    })
    (all_weaker (NamesOfInterface r.members ps r.vlans) (λ i. is_port_of (put port_key p ps) i.port i.member ≡ true)
    (λ i x. look_put port_key (port_row_of i.member) true p (i.port ∷ []) ps (λ e now. absurd (
    let gone : find port_key (i.port ∷ []) ps ≡ None = sym (find-equal-key port_key (number ∷ []) (i.port ∷ []) ps e) ∙ fresh in
    let no : port_row_of i.member None ≡ true = subst (λ (o : Option Port). port_row_of i.member o ≡ true) gone now in
    let bad : ⊥ = cc in bad)) x.port) r.interfaces s.interfaces.named) s
  where
    zero_fits : IsNumber 0
    zero_fits = omega arith

-- a port is replaced by one that has its number, and of which all interfaces on it may be
port_set : (r : Registry) (port : ℕ) (p : Port) (member : ℕ) → find port_key (port ∷ []) r.ports ≡ Some p → IsNumber member → (member == 0 || has_member r.members member) ≡ true
    → AllByRecursion (λ i. is_port_of (put port_key (record p { member = member }) r.ports) i.port i.member ≡ true) r.interfaces → Valid r → Valid (record r { ports = put port_key (record p { member = member }) r.ports })
port_set r port p member at fits has named s =
    let ps = r.ports in
    let p' : Port = record p { member = member } in
    let here : find port_key (p.number ∷ []) ps ≡ Some p = find-equal-key port_key (p.number ∷ []) (port ∷ []) ps (find-key port_key (port ∷ []) p ps at) ∙ at in
    let was : ValidPort p = all_found port_key ValidPort (port ∷ []) p ps s.ports.each at in
    let few = s.ports.few in
    let grown = length_same port_key p' p ps s.ports.order here in
    ports_on r (put port_key p' ps)
    (record {
      order = Ascends-put port_key p' ps s.ports.order;
      each = all_put port_key ValidPort p' ps (record { fits = (was.fits.0, was.fits.1, was.fits.2, fits, was.fits.4); number = was.number; name = was.name }) s.ports.each;
      switches = all_put port_key (λ p. has_switch r.switches p.switch ≡ true) p' ps (all_found port_key (λ p. has_switch r.switches p.switch ≡ true) (port ∷ []) p ps s.ports.switches at) s.ports.switches;
      members = all_put port_key (λ p. (p.member == 0 || has_member r.members p.member) ≡ true) p' ps has s.ports.members;
      few = omega (arith, few, grown);
    })
    named s

no_member_zero : (ms : List Member) → AllByRecursion ValidMember ms → has_member ms 0 ≡ true → ⊥
no_member_zero ms each e =
    let at = found (find member_key (0 ∷ []) ms) e in
    let was : ValidMember at.0 = all_found member_key ValidMember (0 ∷ []) at.0 ms each at.1 in
    let zero : at.0.number ≡ 0 = head_same at.0.number 0 [] [] (find-key member_key (0 ∷ []) at.0 ms at.1) in
    let no : (0 == 0) ≡ false = subst (λ (n : ℕ). (n == 0) ≡ false) zero was.number in
    let bad : ⊥ = cc in bad

or_true : (a b : Bool) → b ≡ true → (a || b) ≡ true
or_true true b e = refl
or_true false b e = e

-- the port that an interface is on, which is free or the member's, is the interface's member's
same_member : (r : Registry) (i : Interface) (held member : ℕ) → Valid r → has_member r.members i.member ≡ true → (held == i.member) ≡ true → (held == 0 || held == member) ≡ true → (member == i.member) ≡ true
same_member r i held member s has on free = by_test (held == 0) refl (held == member) refl free where
  by_test : (a : Bool) → (held == 0) ≡ a → (b : Bool) → (held == member) ≡ b → (a || b) ≡ true → (member == i.member) ≡ true
  by_test true e b f o = absurd (no_member_zero r.members s.members.each (subst (λ (n : ℕ). has_member r.members n ≡ true) (sym (eqb-true held i.member on) ∙ eqb-true held 0 e) has))
  by_test false e true f o = subst (λ (n : ℕ). (n == i.member) ≡ true) (eqb-true held member f) on
  by_test false e false f o = absurd (let bad : ⊥ = cc in bad)

pub port_assigned : (r : Registry) (port member : ℕ) → IsNumber member → Valid r → first_refused (assign_port_tests r port member) ≡ None → Valid (record r { ports = assigned port member r.ports })
port_assigned r port member fits s ok =
    let ps = r.ports in
    let rest = λ (p : Port). refused (not (p.member == 0 || p.member == member)) (PortTaken (Some p.member)) ∷ [] in
    let begin = after_first (unless_there (find member_key (member ∷ []) r.members) Members (Number member)) (of_there (find port_key (port ∷ []) ps) Ports (Number port) rest) ok in
    let has : has_member r.members member ≡ true = is_there (find member_key (member ∷ []) r.members) Members (Number member) begin.0 in
    let at = there (find port_key (port ∷ []) ps) Ports (Number port) rest begin.1 in
    let p = at.0 in
    let t = no_refusal (rest p) at.2 in
    let free : (p.member == 0 || p.member == member) ≡ true = holds (p.member == 0 || p.member == member) (PortTaken (Some p.member)) t.0 in
    let p' : Port = record p { member = member } in
    let key : order (p.number ∷ []) (port ∷ []) ≡ Equal = find-key port_key (port ∷ []) p ps at.1 in
    subst (λ (xs : List Port). Valid (record r { ports = xs })) (sym (changed_there port_key (port ∷ []) (λ p. record p { member = member }) ps p at.1))
    (port_set r port p member at.1 fits (or_true (member == 0) (has_member r.members member) has)
    (all_weaker (NamesOfInterface r.members ps r.vlans) (λ i. is_port_of (put port_key p' ps) i.port i.member ≡ true)
    (λ i x. look_put port_key (port_row_of i.member) true p' (i.port ∷ []) ps (λ e now.
    let same : find port_key (i.port ∷ []) ps ≡ Some p = sym (find-equal-key port_key (p.number ∷ []) (i.port ∷ []) ps e) ∙ (find-equal-key port_key (p.number ∷ []) (port ∷ []) ps key ∙ at.1) in
    let on : (p.member == i.member) ≡ true = subst (λ (o : Option Port). port_row_of i.member o ≡ true) same now in
    same_member r i p.member member s x.member on free) x.port) r.interfaces s.interfaces.named) s)

pub port_freed : (r : Registry) (port : ℕ) → Valid r → first_refused (idle_port_tests r port) ≡ None → Valid (record r { ports = freed port r.ports })
port_freed r port s ok =
    let ps = r.ports in
    let t = no_refusal (idle_port_tests r port) ok in
    let at = found (find port_key (port ∷ []) ps) (is_there (find port_key (port ∷ []) ps) Ports (Number port) t.0) in
    let p = at.0 in
    let p' : Port = record p { member = 0 } in
    let free = nobody_uses Interfaces (λ i. Number i.number) (λ i. i.port == port) r.interfaces t.1.0 in
    let number : p.number ≡ port = head_same p.number port [] [] (find-key port_key (port ∷ []) p ps at.1) in
    subst (λ (xs : List Port). Valid (record r { ports = xs })) (sym (changed_there port_key (port ∷ []) (λ p. record p { member = 0 }) ps p at.1))
    (port_set r port p 0 at.1 zero_fits refl
    (all_weaker (λ i. NamesOfInterface r.members ps r.vlans i × ((i.port == port) ≡ false)) (λ i. is_port_of (put port_key p' ps) i.port i.member ≡ true)
    (λ i x. look_put port_key (port_row_of i.member) true p' (i.port ∷ []) ps (λ e now. absurd (
    let same : i.port ≡ port = sym (head_same p.number i.port [] [] e) ∙ number in
    let no : (port == port) ≡ false = subst (λ (n : ℕ). (n == port) ≡ false) same x.1 in
    eqb-false port port no refl)) x.0.port) r.interfaces
    (all_both (NamesOfInterface r.members ps r.vlans) (λ i. (i.port == port) ≡ false) r.interfaces s.interfaces.named free)) s)
  where
    zero_fits : IsNumber 0
    zero_fits = omega arith

pub port_dropped : (r : Registry) (port : ℕ) → Valid r → first_refused (idle_port_tests r port) ≡ None → Valid (record r { ports = without_port port r.ports })
port_dropped r port s ok =
    let ps = r.ports in
    let k = port ∷ [] in
    let t = no_refusal (idle_port_tests r port) ok in
    let free = nobody_uses Interfaces (λ i. Number i.number) (λ i. i.port == port) r.interfaces t.1.0 in
    let fewer = length_fewer port_key k ps s.ports.order in
    let few = s.ports.few in
    ports_on r (without port_key k ps)
    (record {
      order = Ascends-without port_key k ps s.ports.order;
      each = all_without port_key ValidPort k ps s.ports.each;
      switches = all_without port_key (λ p. has_switch r.switches p.switch ≡ true) k ps s.ports.switches;
      members = all_without port_key (λ p. (p.member == 0 || has_member r.members p.member) ≡ true) k ps s.ports.members;
      few = omega (arith, fewer, few);
    })
    (all_weaker (λ i. NamesOfInterface r.members ps r.vlans i × ((i.port == port) ≡ false)) (λ i. is_port_of (without port_key k ps) i.port i.member ≡ true)
    (λ i x. look_without port_key (port_row_of i.member) true (i.port ∷ []) k ps (apart i.port port x.1) x.0.port) r.interfaces
    (all_both (NamesOfInterface r.members ps r.vlans) (λ i. (i.port == port) ≡ false) r.interfaces s.interfaces.named free)) s
