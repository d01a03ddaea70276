-- The handle of a new router can be a name.
use Rattle.std.specs.Prelude.{Bool, true}
use Rattle.ixp_num.specs.Names.{is_name}
use Rattle.ixp_machine_edits.specs.declared.edit.Edit.{Edit}
use Rattle.ixp_machine_edits.specs.declared.edit.Edit.TheVariants.{AddRouter}

abbrev pub has_name : Edit → Bool
has_name (AddRouter handle vlan family address settings) = is_name handle
has_name e = true
