-- What a list in order is.
use Rattle.std.specs.Prelude.{ℕ, List}
use Rattle.std.specs.List.{Contains}
use Rattle.ixp_num_tables.specs.Tables.{Ascends}

-- the items of one list, in the order of their keys and each once
pub record IsInOrder {A : Type 0} (key : A → List ℕ) (items sorted : List A) : Type 0 where
  pub ascends : Ascends key sorted
  pub keeps : (x : A) → Contains items x → Contains sorted x
  pub adds_none : (x : A) → Contains sorted x → Contains items x
