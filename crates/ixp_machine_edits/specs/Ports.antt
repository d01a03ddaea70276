-- Edits of switches and ports: the tests of each, and what it makes of the table.
use Rattle.std.specs.Prelude.{ℕ, List, [], ◌∷◌, length, Some, not, ◌||◌, ◌==◌, find as first_with}
use Rattle.ixp_num_tables.specs.Tables.{find, put, without}
use Rattle.ixp_registry.specs.declared.kind.Kind.TheVariants.{Members, Switches, Ports, Interfaces}
use Rattle.ixp_registry.specs.declared.network.Switch.{Switch}
use Rattle.ixp_registry.specs.declared.network.Port.{Port}
use Rattle.ixp_registry.specs.declared.refusal.Refusal.TheVariants.{BadText, PortTaken, BadRule}
use Rattle.ixp_registry.specs.declared.refusal.RowKey.TheVariants.{Number}
use Rattle.ixp_registry.specs.declared.refusal.TextField.TheVariants.{Name}
use Rattle.ixp_registry.specs.declared.registry.Registry.{Registry}
use Rattle.ixp_registry.specs.Alphabets.{is_label}
use Rattle.ixp_registry.specs.Keys.{member_key, switch_key, port_key}
use Rattle.ixp_machine_edits.specs.Tests.{Tests, refused, unless_there, of_there, exists, in_use_by, full, changed}

-- AddSwitch
abbrev pub with_switch : ℕ → List ℕ → List Switch → List Switch
with_switch number name ss = put switch_key (record { number = number; name = name }) ss

abbrev pub add_switch_tests : Registry → ℕ → List ℕ → Tests
add_switch_tests r number name =
    refused (not (is_label name)) (BadText Name)
    ∷ exists (λ s. Number s.number) (find switch_key (number ∷ []) r.switches)
    ∷ refused (number == 0) (BadRule 0)
    ∷ full Switches (length r.switches) 256 ∷ []

-- DropSwitch
abbrev pub without_switch : ℕ → List Switch → List Switch
without_switch switch ss = without switch_key (switch ∷ []) ss

abbrev pub drop_switch_tests : Registry → ℕ → Tests
drop_switch_tests r switch =
    unless_there (find switch_key (switch ∷ []) r.switches) Switches (Number switch)
    ∷ in_use_by Ports (λ p. Number p.number) (first_with (λ p. p.switch == switch) r.ports) ∷ []

-- AddPort
abbrev pub new_port : ℕ → ℕ → List ℕ → ℕ → Port
new_port number switch name speed =
    record { number = number; switch = switch; speed = speed; member = 0; name = name }

abbrev pub with_port : ℕ → ℕ → List ℕ → ℕ → List Port → List Port
with_port number switch name speed ps = put port_key (new_port number switch name speed) ps

abbrev pub add_port_tests : Registry → ℕ → ℕ → List ℕ → ℕ → Tests
add_port_tests r number switch name speed =
    unless_there (find switch_key (switch ∷ []) r.switches) Switches (Number switch)
    ∷ refused (not (is_label name)) (BadText Name)
    ∷ exists (λ p. Number p.number) (find port_key (number ∷ []) r.ports)
    ∷ refused (number == 0 || speed == 0) (BadRule 0)
    ∷ full Ports (length r.ports) 16384 ∷ []

-- AssignPort. A port that the member has already stays its own.
abbrev pub assigned : ℕ → ℕ → List Port → List Port
assigned port member ps = changed port_key (port ∷ []) (λ p. record p { member = member }) ps

abbrev pub assign_port_tests : Registry → ℕ → ℕ → Tests
assign_port_tests r port member =
    unless_there (find member_key (member ∷ []) r.members) Members (Number member)
    ∷ of_there (find port_key (port ∷ []) r.ports) Ports (Number port)
    (λ p. refused (not (p.member == 0 || p.member == member)) (PortTaken (Some p.member)) ∷ [])

-- FreePort
abbrev pub freed : ℕ → List Port → List Port
freed port ps = changed port_key (port ∷ []) (λ p. record p { member = 0 }) ps

-- X4 where the port isn't there, and X14 where an interface is on it: the tests of FreePort and of DropPort
abbrev pub idle_port_tests : Registry → ℕ → Tests
idle_port_tests r port =
    unless_there (find port_key (port ∷ []) r.ports) Ports (Number port)
    ∷ in_use_by Interfaces (λ i. Number i.number) (first_with (λ i. i.port == port) r.interfaces) ∷ []

-- DropPort
abbrev pub without_port : ℕ → List Port → List Port
without_port port ps = without port_key (port ∷ []) ps
