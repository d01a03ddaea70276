-- What the type of a request keeps of its edit.
use Rattle.std.specs.Prelude.{Bool, ◌&&◌}
use Rattle.ixp_machine_edits.specs.declared.edit.Edit.{Edit}
use Rattle.ixp_machine_edits.specs.Lists.{has_few_rules}
use Rattle.ixp_machine_steps.specs.Requests.{has_family}

abbrev pub is_lawful : Edit → Bool
is_lawful e = has_family e && has_few_rules e
