-- Tests of an edit, and what each says where it fails.
use Rattle.std.specs.Prelude.{ℕ, ◌+◌, Bool, List, [], ◌∷◌, Option, Some, None, not, nat_le, option_map, if◌then◌else◌}
use Rattle.std.specs.Option.{is_some}
use Rattle.ixp_num_tables.specs.Tables.{find, put, if_there}
use Rattle.ixp_registry.specs.declared.kind.Kind.{Kind}
use Rattle.ixp_registry.specs.declared.refusal.Limited.TheVariants.{Rows, Weight}
use Rattle.ixp_registry.specs.declared.refusal.RowKey.{RowKey}
use Rattle.ixp_registry.specs.declared.refusal.Refusal.{Refusal}
use Rattle.ixp_registry.specs.declared.refusal.Refusal.TheVariants.{Unknown, Taken, Exists, InUse, TooMany}

-- what each test says, in the order of their codes
abbrev pub Tests : Type 0
Tests = List (Option Refusal)

-- the first that says something
abbrev pub first_refused : Tests → Option Refusal
first_refused [] = None
first_refused (None ∷ ts) = first_refused ts
first_refused (Some x ∷ ts) = Some x

abbrev pub refused : Bool → Refusal → Option Refusal
refused b x = if b then Some x else None

-- X4: the row that is named has to be there
abbrev pub unless_there : {R : Type 0} → Option R → Kind → RowKey → Option Refusal
unless_there row table key = refused (not (is_some row)) (Unknown table key)

-- X4, and then the tests that ask the row itself
abbrev pub of_there : {R : Type 0} → Option R → Kind → RowKey → (R → Tests) → Tests
of_there row table key ts = if_there row (Some (Unknown table key) ∷ []) ts

-- X9: this row has it
abbrev pub taken_by : {R : Type 0} → Kind → (R → RowKey) → Option R → Option Refusal
taken_by table key = option_map (λ r. Taken table (key r))

-- X11: this row is there already
abbrev pub exists : {R : Type 0} → (R → RowKey) → Option R → Option Refusal
exists key = option_map (λ r. Exists (key r))

-- X14: this row names the one that is to go
abbrev pub in_use_by : {R : Type 0} → Kind → (R → RowKey) → Option R → Option Refusal
in_use_by table key = option_map (λ r. InUse table (key r))

-- X16: with one row more there would be too many
abbrev pub full : Kind → ℕ → ℕ → Option Refusal
full table have most = refused (nat_le most have) (TooMany (Rows table) (have + 1) most)

-- X16: so many rows are too many
abbrev pub beyond : Kind → ℕ → ℕ → Option Refusal
beyond table have most = refused (not (nat_le have most)) (TooMany (Rows table) have most)

-- X16: the sessions would read too many rows of prefix lists
abbrev pub too_heavy : ℕ → Option Refusal
too_heavy weight = refused (not (nat_le weight 8000000)) (TooMany Weight weight 8000000)

-- the rows with the one that has the key changed, if it is there
abbrev pub changed : {R : Type 0} → (R → List ℕ) → List ℕ → (R → R) → List R → List R
changed key k change rs = if_there (find key k rs) rs (λ r. put key (change r) rs)
