-- Edits of members and their contacts: the tests of each, and what it makes of the table.
use Rattle.std.specs.Prelude.{ℕ, List, [], ◌∷◌, length, None, not, ◌&&◌, ◌||◌, ◌==◌, find as first_with}
use Rattle.std.specs.List.{list_any}
use Rattle.ixp_num.specs.declared.asn.Asn.{Asn}
use Rattle.ixp_num_tables.specs.Tables.{find, put, without, if_there}
use Rattle.ixp_num_tables.specs.Sums.{count}
use Rattle.ixp_registry.specs.declared.kind.Kind.TheVariants.{Members, Contacts, Interfaces}
use Rattle.ixp_registry.specs.declared.members.Member.{Member}
use Rattle.ixp_registry.specs.declared.members.Contact.{Contact}
use Rattle.ixp_registry.specs.declared.members.Status.{Status}
use Rattle.ixp_registry.specs.declared.members.Status.TheVariants.{Noted}
use Rattle.ixp_registry.specs.declared.refusal.Refusal.TheVariants.{BadText, AsnReserved, StatusMove, BadRule}
use Rattle.ixp_registry.specs.declared.refusal.RowKey.TheVariants.{Number, Pair}
use Rattle.ixp_registry.specs.declared.refusal.TextField.TheVariants.{Name, Macro, Mail, Role}
use Rattle.ixp_registry.specs.declared.registry.Registry.{Registry}
use Rattle.ixp_registry.specs.Alphabets.{is_label, is_note, is_macro}
use Rattle.ixp_registry.specs.Keys.{member_key, contact_key}
use Rattle.ixp_registry.specs.Lookups.{is_left}
use Rattle.ixp_registry.specs.Weight.{weight}
use Rattle.ixp_registry.specs.Words.{is_reserved}
use Rattle.ixp_members.specs.Statuses.{may_move}
use Rattle.ixp_machine_edits.specs.Tests.{Tests, refused, unless_there, of_there, exists, in_use_by, full, too_heavy, changed}

-- AddMember
abbrev pub new_member : ℕ → Asn → List ℕ → Member
new_member number asn name = record { number = number; asn = asn; status = Noted; as_macro = []; name = name }

abbrev pub with_member : ℕ → Asn → List ℕ → List Member → List Member
with_member number asn name ms = put member_key (new_member number asn name) ms

abbrev pub add_member_tests : Registry → ℕ → Asn → List ℕ → Tests
add_member_tests r number asn name =
    refused (not (is_label name)) (BadText Name)
    ∷ refused (is_reserved asn.0 || list_any (λ q. asn.0 == q.asn.0) r.routers) (AsnReserved asn)
    ∷ exists (λ m. Number m.number) (find member_key (number ∷ []) r.members)
    ∷ exists (λ m. Number m.number) (first_with (λ m. m.asn.0 == asn.0) r.members)
    ∷ refused (number == 0) (BadRule 0)
    ∷ full Members (length r.members) 4000 ∷ []

-- RenameMember
abbrev pub renamed : ℕ → List ℕ → List Member → List Member
renamed member name ms = changed member_key (member ∷ []) (λ m. record m { name = name }) ms

abbrev pub rename_member_tests : Registry → ℕ → List ℕ → Tests
rename_member_tests r member name =
    unless_there (find member_key (member ∷ []) r.members) Members (Number member)
    ∷ refused (not (is_label name)) (BadText Name) ∷ []

-- MoveStatus
abbrev pub with_status : ℕ → Status → List Member → List Member
with_status member to ms = changed member_key (member ∷ []) (λ m. record m { status = to }) ms

abbrev pub move_status_tests : Registry → ℕ → Status → Tests
move_status_tests r member to =
    of_there (find member_key (member ∷ []) r.members) Members (Number member)
    (λ m. refused (not (may_move m.status to)) (StatusMove m.status to)
    ∷ in_use_by Interfaces (λ i. Number i.number)
    (first_with (λ i. is_left to && i.member == member) r.interfaces)
    ∷ too_heavy (weight (with_status member to r.members) r.interfaces r.routers r.irr) ∷ [])

-- SetMacro
abbrev pub with_macro : ℕ → List ℕ → List Member → List Member
with_macro member as_macro ms = changed member_key (member ∷ []) (λ m. record m { as_macro = as_macro }) ms

abbrev pub set_macro_tests : Registry → ℕ → List ℕ → Tests
set_macro_tests r member as_macro =
    unless_there (find member_key (member ∷ []) r.members) Members (Number member)
    ∷ refused (not (is_macro as_macro)) (BadText Macro) ∷ []

-- PutContact. A contact that is there is replaced, and takes no more room.
abbrev pub new_contact : ℕ → ℕ → List ℕ → List ℕ → List ℕ → Contact
new_contact member place name mail role =
    record { member = member; place = place; role = role; mail = mail; name = name }

abbrev pub with_contact : ℕ → ℕ → List ℕ → List ℕ → List ℕ → List Contact → List Contact
with_contact member place name mail role cs = put contact_key (new_contact member place name mail role) cs

abbrev pub contacts_of : ℕ → List Contact → ℕ
contacts_of member cs = count (λ c. c.member == member) cs

abbrev pub put_contact_tests : Registry → ℕ → ℕ → List ℕ → List ℕ → List ℕ → Tests
put_contact_tests r member place name mail role =
    unless_there (find member_key (member ∷ []) r.members) Members (Number member)
    ∷ refused (not (is_label name)) (BadText Name)
    ∷ refused (not (is_note mail)) (BadText Mail)
    ∷ refused (not (is_note role)) (BadText Role)
    ∷ refused (place == 0) (BadRule 0)
    ∷ if_there (find contact_key (member ∷ place ∷ []) r.contacts)
    (full Contacts (contacts_of member r.contacts) 16) (λ c. None) ∷ []

-- DropContact
abbrev pub without_contact : ℕ → ℕ → List Contact → List Contact
without_contact member place cs = without contact_key (member ∷ place ∷ []) cs

abbrev pub drop_contact_tests : Registry → ℕ → ℕ → Tests
drop_contact_tests r member place =
    unless_there (find member_key (member ∷ []) r.members) Members (Number member)
    ∷ unless_there (find contact_key (member ∷ place ∷ []) r.contacts) Contacts (Pair member place) ∷ []
