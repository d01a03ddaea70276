-- The words that are printed of refusals, and of the lists that all route servers share.
use Rattle.std.specs.Prelude.{ℕ, List, codes}
use Rattle.ixp_registry.specs.declared.edit_kind.EditKind.{EditKind}
use Rattle.ixp_registry.specs.declared.edit_kind.EditKind.TheVariants as edit
use Rattle.ixp_registry.specs.declared.public_kind.PublicKind.{PublicKind}
use Rattle.ixp_registry.specs.declared.public_kind.PublicKind.TheVariants as public
use Rattle.ixp_registry.specs.declared.refusal.Limited.{Limited}
use Rattle.ixp_registry.specs.declared.refusal.Limited.TheVariants.{Rows, Weight}
use Rattle.ixp_registry.specs.declared.refusal.Refusal.{Refusal}
use Rattle.ixp_registry.specs.declared.refusal.Refusal.TheVariants as refusal
use Rattle.ixp_registry.specs.declared.refusal.TextField.{TextField}
use Rattle.ixp_registry.specs.declared.refusal.TextField.TheVariants as field
use Rattle.ixp_registry.specs.Kinds.{word_of}

-- a kind of edits
abbrev pub edit_word : EditKind → List ℕ
edit_word edit.AddMember = codes "AddMember"
edit_word edit.RenameMember = codes "RenameMember"
edit_word edit.MoveStatus = codes "MoveStatus"
edit_word edit.SetMacro = codes "SetMacro"
edit_word edit.PutContact = codes "PutContact"
edit_word edit.DropContact = codes "DropContact"
edit_word edit.AddKey = codes "AddKey"
edit_word edit.DropKey = codes "DropKey"
edit_word edit.AddSwitch = codes "AddSwitch"
edit_word edit.DropSwitch = codes "DropSwitch"
edit_word edit.AddPort = codes "AddPort"
edit_word edit.AssignPort = codes "AssignPort"
edit_word edit.FreePort = codes "FreePort"
edit_word edit.DropPort = codes "DropPort"
edit_word edit.AddVlan = codes "AddVlan"
edit_word edit.DropVlan = codes "DropVlan"
edit_word edit.AddInterface = codes "AddInterface"
edit_word edit.SetAddress = codes "SetAddress"
edit_word edit.DropInterface = codes "DropInterface"
edit_word edit.AddRouter = codes "AddRouter"
edit_word edit.SetRouter = codes "SetRouter"
edit_word edit.DropRouter = codes "DropRouter"
edit_word edit.PutIrr = codes "PutIrr"
edit_word edit.PutOrigins = codes "PutOrigins"
edit_word edit.SetRules = codes "SetRules"
edit_word edit.PutPublic = codes "PutPublic"

-- the name of a text in an edit's body
abbrev pub field_word : TextField → List ℕ
field_word field.Name = codes "name"
field_word field.Macro = codes "macro"
field_word field.Mail = codes "mail"
field_word field.Role = codes "role"
field_word field.Secret = codes "secret"
field_word field.Handle = codes "handle"

-- a list that all route servers share
abbrev pub public_word : PublicKind → List ℕ
public_word public.Bogons = codes "bogons"
public_word public.BogonAs = codes "bogon_as"
public_word public.Transit = codes "transit"
public_word public.Roas = codes "roas"

-- of what there are too many
abbrev pub limited_word : Limited → List ℕ
limited_word (Rows kind) = word_of kind
limited_word Weight = codes "weight"

-- the code of a refusal
abbrev pub refusal_code : Refusal → List ℕ
refusal_code refusal.NoKey = codes "X0"
refusal_code (refusal.Denied right) = codes "X1"
refusal_code (refusal.KeyReused kind subject) = codes "X2"
refusal_code (refusal.KeyOld floor) = codes "X3"
refusal_code (refusal.Unknown table key) = codes "X4"
refusal_code (refusal.BadText f) = codes "X5"
refusal_code (refusal.AsnReserved asn) = codes "X6"
refusal_code (refusal.Family family) = codes "X7"
refusal_code (refusal.Outside vlan) = codes "X8"
refusal_code (refusal.Taken table key) = codes "X9"
refusal_code (refusal.PortTaken member) = codes "X10"
refusal_code (refusal.Exists key) = codes "X11"
refusal_code (refusal.Overlap vlan) = codes "X12"
refusal_code (refusal.StatusMove from to) = codes "X13"
refusal_code (refusal.InUse table key) = codes "X14"
refusal_code (refusal.BadRule place) = codes "X15"
refusal_code (refusal.TooMany table have limit) = codes "X16"
