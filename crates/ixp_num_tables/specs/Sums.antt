-- Sums over rows. Counts, limits and keys that stand at most so often are sums.
use Rattle.std.specs.Prelude.{ℕ, ◌≤◌, ◌+◌, Bool, ⊤, List, [], ◌∷◌, if◌then◌else◌}
use Rattle.std.specs.List.{AllByRecursion}
use Rattle.ixp_num_tables.specs.Tables.{same}

-- the sum of what the rows weigh
abbrev pub total : {R : Type 0} → (R → ℕ) → List R → ℕ
total weight [] = 0
total weight (r ∷ rs) = weight r + total weight rs

abbrev pub one_if : Bool → ℕ
one_if b = if b then 1 else 0

-- how many rows pass a test
abbrev pub count : {R : Type 0} → (R → Bool) → List R → ℕ
count test = total (λ r. one_if (test r))

-- no key stands more than `most` times
abbrev pub Often : {R : Type 0} → ℕ → (R → List ℕ) → List R → Type 0
Often most key rs = (k : List ℕ) → count (λ r. same k (key r)) rs ≤ most

-- each two of the rows, the one that stands first before the other
abbrev pub Pairs : {R : Type 0} → (R → R → Type 0) → List R → Type 0
Pairs P [] = ⊤
Pairs P (r ∷ rs) = AllByRecursion (P r) rs × Pairs P rs
