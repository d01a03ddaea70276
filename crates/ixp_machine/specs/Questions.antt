-- What a question is answered.
use Rattle.std.specs.Prelude.{◌≡◌, ℕ, List, [], ◌∷◌, ◌==◌, Option, Some, None, filter, if◌then◌else◌}
use Rattle.ixp_num_tables.specs.Tables.{find, if_there}
use Rattle.ixp_registry.specs.declared.kind.Kind.TheVariants.{Members, Vlans}
use Rattle.ixp_registry.specs.declared.members.Member.{Member}
use Rattle.ixp_registry.specs.declared.refusal.Refusal.{Refusal}
use Rattle.ixp_registry.specs.declared.refusal.Refusal.TheVariants.{NoKey, Denied}
use Rattle.ixp_registry.specs.declared.refusal.Right.{Right}
use Rattle.ixp_registry.specs.declared.refusal.Right.TheVariants as right
use Rattle.ixp_registry.specs.declared.refusal.RowKey.TheVariants.{Number}
use Rattle.ixp_registry.specs.declared.registry.Registry.{Registry}
use Rattle.ixp_registry.specs.Keys.{member_key, vlan_key, rules_key}
use Rattle.ixp_registry.specs.Registries.{rows_of}
use Rattle.ixp_rows_lines.specs.declared.version.Version.TheVariants.{Two}
use Rattle.ixp_rows.specs.Texts.{dump_text}
use Rattle.ixp_ixf.specs.Views.{ixf_text_of}
use Rattle.ixp_members.specs.Owners.{owner_of}
use Rattle.ixp_plan.specs.Uses.{IsReport}
use Rattle.ixp_machine_edits.specs.Tests.{unless_there}
use Rattle.ixp_machine_steps.specs.Rights.{has_right}
use Rattle.ixp_machine.specs.declared.question.Answer.{Answer}
use Rattle.ixp_machine.specs.declared.question.Answer.TheVariants as answer
use Rattle.ixp_machine.specs.declared.question.AskFault.{AskFault}
use Rattle.ixp_machine.specs.declared.question.AskFault.TheVariants as fault
use Rattle.ixp_machine.specs.declared.question.Query.{Query}
use Rattle.ixp_machine.specs.declared.question.Query.TheVariants.{Member as OfMember, Contacts, Rules, Use, Ixf, Dump}

-- A member's own rows are shown to it and to the staff, the use of addresses and the dump to the staff alone.
-- The export is for everybody, and asks for no key.
abbrev pub right_asked : Query → Option Right
right_asked (OfMember m) = Some (right.Member m)
right_asked (Contacts m) = Some (right.Member m)
right_asked (Rules m) = Some (right.Member m)
right_asked (Use vlan f) = Some right.Staff
right_asked (Ixf second) = None
right_asked Dump = Some right.Staff

-- X4: the member or the VLAN has to be there
abbrev pub unless_known : Registry → Query → Option Refusal
unless_known r (OfMember m) = unless_there (find member_key (m ∷ []) r.members) Members (Number m)
unless_known r (Contacts m) = unless_there (find member_key (m ∷ []) r.members) Members (Number m)
unless_known r (Rules m) = unless_there (find member_key (m ∷ []) r.members) Members (Number m)
unless_known r (Use vlan f) = unless_there (find vlan_key (vlan ∷ []) r.vlans) Vlans (Number vlan)
unless_known r (Ixf second) = None
unless_known r Dump = None

-- why a question is refused that asks for a right: X0, X1 or X4
abbrev pub refusal_without : Registry → List ℕ → Query → Right → Option Refusal
refusal_without r secret q right = if_there (owner_of r secret) (Some NoKey)
    (λ owner. if has_right owner right then unless_known r q else Some (Denied right))

-- why a question is refused
abbrev pub ask_refusal : Registry → List ℕ → Query → Option Refusal
ask_refusal r secret q = if_there (right_asked q) None (refusal_without r secret q)

-- what a question that isn't refused is answered
abbrev pub IsAnswer : Registry → Query → Answer → Type 0
IsAnswer r (OfMember m) a = (row : Member) × (find member_key (m ∷ []) r.members ≡ Some row)
    × (a ≡ answer.Member row)
IsAnswer r (Contacts m) a = a ≡ answer.Contacts (filter (λ c. c.member == m) r.contacts)
IsAnswer r (Rules m) a = a ≡ answer.Rules (if_there (find rules_key (m ∷ []) r.rules) [] (λ l. l.rules))
IsAnswer r (Use vlan f) a = (t : List ℕ) × IsReport r vlan f t × (a ≡ answer.Text t)
IsAnswer r (Ixf second) a = a ≡ answer.Json (ixf_text_of r second)
IsAnswer r Dump a = a ≡ answer.Text (dump_text Two (rows_of r))

-- it is refused so, or memory ran out
abbrev pub IsFault : Option Refusal → AskFault → Type 0
IsFault o (fault.Refused x) = o ≡ Some x
IsFault o fault.NoMemory = Unit {0}
