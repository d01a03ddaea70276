-- Rows of which those that have one member and family make a list.
use Rattle.std.specs.Prelude.{◌≡◌, ◌≢◌, ⊤, ℕ, List, [], ◌∷◌, map}
use Rattle.std.specs.List.{AllByRecursion}
use Rattle.std.specs.declared.cmp.Ordering.TheVariants.{Less}
use Rattle.ixp_num_tables.specs.Tables.{order, Ascends}
use Rattle.ixp_num.specs.AddressForms.{version_of}
use Rattle.ixp_num.specs.declared.family.Family.{Family}
use Rattle.ixp_registry.specs.declared.network.AddressRow.{AddressRow}
use Rattle.ixp_registry.specs.Keys.{address_key}

-- the first address, if there is one, isn't the one of the interface and family
abbrev pub Misses : ℕ → Family → List AddressRow → Type 0
Misses interface family [] = ⊤
Misses interface family (a ∷ others) = address_key a ≢ interface ∷ version_of family ∷ []

-- What is said of rows `R` with the key `key`, each with an item in the list of its group; `made` is the list
-- of a group's first row with these items, and `rows_in` are a list's rows.
pub record AreListed {R I L : Type 0} (key group : R → List ℕ) (item : R → I) (made : R → List I
    → L) (list_key : L → List ℕ) (rows_in : L → List R) (IsList : L → Type 0) : Type 0 where
  -- a list has the rows that it was made of
  pub again : (r : R) (rs : List R) → AllByRecursion (λ s. group s ≡ group r) rs
      → rows_in (made r (map item (r ∷ rs))) ≡ r ∷ rs
  pub keyed : (r : R) (items : List I) → list_key (made r items) ≡ group r
  -- rows that ascend go from group to group upwards
  pub apart : (r s : R) → order (key r) (key s) ≡ Less → (group r ≢ group s)
      → order (group r) (group s) ≡ Less
  pub stands : (r : R) (rs : List R) → Ascends key (r ∷ rs) → AllByRecursion (λ s. group s ≡ group r) rs
      → IsList (made r (map item (r ∷ rs)))
