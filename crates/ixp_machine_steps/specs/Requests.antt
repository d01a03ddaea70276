-- What the type of a request keeps.
use Rattle.std.specs.Prelude.{Bool, true}
use Rattle.std.specs.List.{list_all}
use Rattle.ixp_num.specs.Families.{same_family}
use Rattle.ixp_machine_edits.specs.declared.edit.Edit.{Edit}
use Rattle.ixp_machine_edits.specs.declared.edit.Edit.TheVariants.{PutIrr}

-- the prefixes of a list are of its family
abbrev pub has_family : Edit → Bool
has_family (PutIrr member family prefixes) = list_all (λ p. same_family p.family family) prefixes
has_family e = true
