-- Rows in the order of their keys. A key is a list of numbers, and a table has each key once.
use Rattle.std.specs.Prelude.{◌≡◌, ◌==◌, ℕ, suc, ⊤, Bool, List, [], ◌∷◌, Option, Some, None, Result, Ok, Err}
use Rattle.std.specs.declared.cmp.Ordering.{Ordering}
use Rattle.std.specs.declared.cmp.Ordering.TheVariants.{Less}
use Rattle.std.specs.Ordering.{nat_cmp, match_ordering}
use Rattle.std.specs.Cmp.Lexicographic.{slice_cmp, pointwise}
use Rattle.std.specs.List.{AllByRecursion}
use Rattle.std.specs.Option.{option_map_or}

-- how two keys compare: as words of a dictionary, number by number
abbrev pub order : List ℕ → List ℕ → Ordering
order = slice_cmp nat_cmp

-- whether two keys are the same
abbrev pub same : List ℕ → List ℕ → Bool
same = pointwise (λ a b. a == b)

-- what `f` says of what is there, else `d`
abbrev pub if_there : {T U : Type 0} → Option T → U → (T → U) → U
if_there x d f = option_map_or f x d

-- the same place, one row further on
abbrev pub further : Result ℕ ℕ → Result ℕ ℕ
further (Ok i) = Ok (suc i)
further (Err i) = Err (suc i)

module _ {R : Type 0} (key : R → List ℕ) where
  -- the key of each row is below the keys of all rows behind it
  abbrev pub Ascends : List R → Type 0
  Ascends [] = ⊤
  Ascends (r ∷ rs) = AllByRecursion (λ s. order (key r) (key s) ≡ Less) rs × Ascends rs

  -- the row that has the key
  abbrev pub find : List ℕ → List R → Option R
  find k [] = None
  find k (r ∷ rs) = match_ordering (order (key r) k) (find k rs) (Some r) (find k rs)

  -- the rows with this one in its place: instead of the row that has its key, else before the first row above
  -- it
  abbrev pub put : R → List R → List R
  put r [] = r ∷ []
  put r (s ∷ rs) = match_ordering (order (key s) (key r)) (s ∷ put r rs) (r ∷ rs) (r ∷ s ∷ rs)

  -- the rows but for that which has the key
  abbrev pub without : List ℕ → List R → List R
  without k [] = []
  without k (r ∷ rs) = match_ordering (order (key r) k) (r ∷ without k rs) (without k rs) (r ∷ without k rs)

  -- where a search ends: at the row that has the key, else where such a row would stand
  abbrev pub place : List ℕ → List R → Result ℕ ℕ
  place k [] = Err 0
  place k (r ∷ rs) = match_ordering (order (key r) k) (further (place k rs)) (Ok 0) (Err 0)
