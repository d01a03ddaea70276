-- What a request is: the kind of its edit, and what the edit is about.
use Rattle.std.specs.Prelude.{ℕ, Bool, List, [], ◌∷◌}
use Rattle.ixp_num.specs.AddressForms.{version_of}
use Rattle.ixp_num_tables.specs.Tables.{same}
use Rattle.ixp_registry.specs.declared.edit_kind.EditKind.{EditKind}
use Rattle.ixp_registry.specs.declared.edit_kind.EditKind.TheVariants as kind
use Rattle.ixp_registry.specs.Codes.{edit_word}
use Rattle.ixp_machine_edits.specs.declared.edit.Edit.{Edit}
use Rattle.ixp_machine_edits.specs.declared.edit.Edit.TheVariants.{AddMember, RenameMember, MoveStatus, SetMacro, PutContact, DropContact, AddKey, DropKey, AddSwitch, DropSwitch, AddPort, AssignPort, FreePort, DropPort, AddVlan, DropVlan, AddInterface, SetAddress, DropInterface, AddRouter, SetRouter, DropRouter, PutIrr, PutOrigins, SetRules, PutPublic}
use Rattle.ixp_registry_change.specs.declared.change.PublicList.{PublicList}
use Rattle.ixp_registry_change.specs.declared.change.PublicList.TheVariants as list
use Rattle.ixp_registry.specs.declared.public_kind.PublicKind.{PublicKind}
use Rattle.ixp_registry.specs.declared.public_kind.PublicKind.TheVariants.{Bogons, BogonAs, Transit, Roas}
use Rattle.ixp_machine_steps.specs.declared.subject.Subject.{Subject}
use Rattle.ixp_machine_steps.specs.declared.subject.Subject.TheVariants.{Number, Pair, Handle, Public}

abbrev pub kind_of : Edit → EditKind
kind_of (AddMember number asn name) = kind.AddMember
kind_of (RenameMember member name) = kind.RenameMember
kind_of (MoveStatus member to) = kind.MoveStatus
kind_of (SetMacro member as_macro) = kind.SetMacro
kind_of (PutContact member place name mail role) = kind.PutContact
kind_of (DropContact member place) = kind.DropContact
kind_of (AddKey number secret owner) = kind.AddKey
kind_of (DropKey key) = kind.DropKey
kind_of (AddSwitch number name) = kind.AddSwitch
kind_of (DropSwitch switch) = kind.DropSwitch
kind_of (AddPort number switch name speed) = kind.AddPort
kind_of (AssignPort port member) = kind.AssignPort
kind_of (FreePort port) = kind.FreePort
kind_of (DropPort port) = kind.DropPort
kind_of (AddVlan number name tag v4 v6) = kind.AddVlan
kind_of (DropVlan vlan) = kind.DropVlan
kind_of (AddInterface number member port vlan) = kind.AddInterface
kind_of (SetAddress interface family address) = kind.SetAddress
kind_of (DropInterface interface) = kind.DropInterface
kind_of (AddRouter handle vlan family address settings) = kind.AddRouter
kind_of (SetRouter handle settings) = kind.SetRouter
kind_of (DropRouter handle) = kind.DropRouter
kind_of (PutIrr member family prefixes) = kind.PutIrr
kind_of (PutOrigins member family asns) = kind.PutOrigins
kind_of (SetRules member rules) = kind.SetRules
kind_of (PutPublic list) = kind.PutPublic

abbrev pub public_kind : PublicList → PublicKind
public_kind (list.Bogons xs) = Bogons
public_kind (list.BogonAs xs) = BogonAs
public_kind (list.Transit xs) = Transit
public_kind (list.Roas xs) = Roas

-- what names the row or the list that the edit is about
abbrev pub subject_of : Edit → Subject
subject_of (AddMember number asn name) = Number number
subject_of (RenameMember member name) = Number member
subject_of (MoveStatus member to) = Number member
subject_of (SetMacro member as_macro) = Number member
subject_of (PutContact member place name mail role) = Pair member place
subject_of (DropContact member place) = Pair member place
subject_of (AddKey number secret owner) = Number number
subject_of (DropKey key) = Number key
subject_of (AddSwitch number name) = Number number
subject_of (DropSwitch switch) = Number switch
subject_of (AddPort number switch name speed) = Number number
subject_of (AssignPort port member) = Number port
subject_of (FreePort port) = Number port
subject_of (DropPort port) = Number port
subject_of (AddVlan number name tag v4 v6) = Number number
subject_of (DropVlan vlan) = Number vlan
subject_of (AddInterface number member port vlan) = Number number
subject_of (SetAddress interface family address) = Pair interface (version_of family)
subject_of (DropInterface interface) = Number interface
subject_of (AddRouter handle vlan family address settings) = Handle handle
subject_of (SetRouter handle settings) = Handle handle
subject_of (DropRouter handle) = Handle handle
subject_of (PutIrr member family prefixes) = Pair member (version_of family)
subject_of (PutOrigins member family asns) = Pair member (version_of family)
subject_of (SetRules member rules) = Number member
subject_of (PutPublic list) = Public (public_kind list)

abbrev pub public_place : PublicKind → ℕ
public_place Bogons = 0
public_place BogonAs = 1
public_place Transit = 2
public_place Roas = 3

-- subjects by their form and what they say
abbrev pub subject_numbers : Subject → List ℕ
subject_numbers (Number n) = 0 ∷ n ∷ []
subject_numbers (Pair m n) = 1 ∷ m ∷ n ∷ []
subject_numbers (Handle h) = 2 ∷ h
subject_numbers (Public p) = 3 ∷ public_place p ∷ []

-- kinds by their words
abbrev pub same_kind : EditKind → EditKind → Bool
same_kind a b = same (edit_word a) (edit_word b)

abbrev pub same_subject : Subject → Subject → Bool
same_subject a b = same (subject_numbers a) (subject_numbers b)
