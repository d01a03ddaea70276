-- Who may ask for which edit.
use Rattle.std.specs.Prelude.{ℕ, Bool, ◌==◌, true, false, Option, Some, None}
use Rattle.ixp_num_tables.specs.Tables.{if_there}
use Rattle.ixp_registry.specs.declared.members.Owner.{Owner}
use Rattle.ixp_registry.specs.declared.members.Owner.TheVariants.{Staff, Member as Of}
use Rattle.ixp_registry.specs.declared.refusal.Right.{Right}
use Rattle.ixp_registry.specs.declared.refusal.Right.TheVariants as right
use Rattle.ixp_machine_edits.specs.declared.edit.Edit.{Edit}
use Rattle.ixp_machine_edits.specs.declared.edit.Edit.TheVariants.{SetMacro, PutContact, DropContact, SetRules}

-- the member that may ask for the edit itself; all other edits are the staff's alone
abbrev pub own_member : Edit → Option ℕ
own_member (SetMacro member as_macro) = Some member
own_member (PutContact member place name mail role) = Some member
own_member (DropContact member place) = Some member
own_member (SetRules member rules) = Some member
own_member e = None

-- the right that the edit asks for
abbrev pub right_of : Edit → Right
right_of e = if_there (own_member e) right.Staff right.Member

-- staff has every right
abbrev pub has_right : Owner → Right → Bool
has_right (Staff n) r = true
has_right (Of m) right.Staff = false
has_right (Of m) (right.Member n) = m == n
