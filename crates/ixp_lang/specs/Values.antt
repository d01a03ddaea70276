-- Values by their names, in an ordered map in memory.
use Rattle.std.specs.Prelude.{ℕ, List, [], Option, Some, None}
use Rattle.std.specs.BTreeMap.{BTreeMap, get_by}
use Rattle.std.specs.Cmp.Lexicographic.{slice_cmp}
use Rattle.std.specs.Global.{Vec}
use Rattle.std.specs.Ordering.{nat_cmp}
use Rattle.std.proofs.Common.{Bor}
use Rattle.ixp_lang.specs.declared.groups.Groups.{Groups}

abbrev pub values_or_none : {T : Type 0} → Option (Vec T) → List T
values_or_none None = []
values_or_none (Some values) = values.items

-- the values that a map has under a name
abbrev pub values_in : {T : Type 0} → BTreeMap (Bor (List ℕ)) (Vec T) → List ℕ → List T
values_in map name = values_or_none (get_by (λ key. slice_cmp nat_cmp name key.now) map)

-- those of the groups
abbrev pub values_of : {T : Type 0} → Groups T → List ℕ → List T
values_of groups name = values_in groups.by_name name
