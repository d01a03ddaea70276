-- Rows by their owners' numbers, in an ordered map in memory.
use Rattle.std.specs.Prelude.{ℕ, List, [], Option, Some, None, map}
use Rattle.std.specs.BTreeMap.{BTreeMap, get_by}
use Rattle.std.specs.Global.{Vec}
use Rattle.std.specs.Ordering.{nat_cmp}
use Rattle.std.proofs.Common.{Bor}
use Rattle.ixp_ixf.specs.declared.index.Index.{Index}

-- the rows that references show
abbrev pub shown : {T : Type 0} → List (Bor T) → List T
shown rows = map (λ row. row.now) rows

abbrev pub rows_or_none : {T : Type 0} → Option (Vec (Bor T)) → List T
rows_or_none None = []
rows_or_none (Some rows) = shown rows.items

-- what a map has of an owner
abbrev pub rows_in : {T : Type 0} → BTreeMap ℕ (Vec (Bor T)) → ℕ → List T
rows_in map owner = rows_or_none (get_by (nat_cmp owner) map)

-- the rows of an owner
abbrev pub rows_of : {T : Type 0} → Index T → ℕ → List T
rows_of index owner = rows_in index.by_owner owner
