-- What is kept of requests, while rows that say so are gathered in any order. Nobody needs to believe these:
-- they serve proofs.
use Rattle.std.specs.Prelude.{◌≡◌, ◌≢◌, ◌⊎◌, ◌<◌, ◌^◌, ℕ, Bool, IsTrue, List, [], ◌∷◌, Option, Some, None}
use Rattle.std.specs.List.{AllByRecursion}
use Rattle.ixp_registry.specs.declared.members.Owner.{Owner}
use Rattle.ixp_registry.specs.Widths.{IsNumber, owner_number}
use Rattle.ixp_registry.specs.Words.{owner_numbers}
use Rattle.ixp_num_tables.specs.Tables.{Ascends, find, put, without}
use Rattle.ixp_machine_steps.specs.declared.kept.KeptNumber.{KeptNumber}
use Rattle.ixp_machine_steps.specs.declared.kept.KeptOwner.{KeptOwner}
use Rattle.ixp_machine_steps.specs.declared.state.State.{State}
use Rattle.ixp_machine_steps.specs.Kept.{kept_key, kept_owner_key, kept_of}
use Rattle.ixp_store_rows.specs.Names.{Entry, floor_row, kept_row}
use Rattle.ixp_store_rows.specs.States.{stored_rows}
use Rattle.ixp_store_words.specs.declared.gathering.Collected.{Collected}
use Rattle.ixp_store_words.specs.Sorting.{Has}
use Rattle.ixp_store_words.specs.Storing.{HasSubject, KeepsSome}

-- with this row for the owner
abbrev pub with_row : Owner → KeptOwner → List KeptOwner → List KeptOwner
with_row owner row ks = put kept_owner_key row (without kept_owner_key (owner_numbers owner) ks)

-- with this floor of the owner, and with one number more
abbrev pub with_floor : Owner → ℕ → List KeptOwner → List KeptOwner
with_floor owner floor ks = with_row owner (record (kept_of ks owner) { floor = floor }) ks

abbrev pub with_number : Owner → KeptNumber → List KeptOwner → List KeptOwner
with_number owner k ks =
    with_row owner (record (kept_of ks owner) { numbers = put kept_key k (kept_of ks owner).numbers }) ks

-- all that was gathered: the owners, and the one whose rows come now
abbrev pub all_of : List KeptOwner → Option KeptOwner → List KeptOwner
all_of ks None = ks
all_of ks (Some row) = with_row row.owner row ks

abbrev pub all_in : Collected → List KeptOwner
all_in g = all_of g.kept g.current

-- what a row did to what was gathered
pub record IsNoted (e : Entry) (done : Bool) (old new : List KeptOwner) : Type 0 where
  pub floor : (o : KeptOwner) → IsNumber (owner_number o.owner) → o.floor < 2 ^ 64 → e ≡ floor_row o
      → IsTrue done × (new ≡ with_floor o.owner o.floor old)
  pub number : (w : Owner) (k : KeptNumber) → IsNumber (owner_number w) → HasSubject k → k.place < 2 ^ 64
      → e ≡ kept_row w k → IsTrue done × (new ≡ with_number w k old)
  pub other : e.0.kind ≢ 18 → e.0.kind ≢ 19 → IsTrue done × (new ≡ old)

-- what is kept for an owner: its floor, and the number
abbrev pub floor_at : List KeptOwner → Owner → ℕ
floor_at ks owner = (kept_of ks owner).floor

abbrev pub number_at : List KeptOwner → Owner → ℕ → Option KeptNumber
number_at ks owner n = find kept_key (n ∷ []) (kept_of ks owner).numbers

-- What was gathered is what the state keeps, but for what these rows say.
pub record IsGathered (s : State) (ks : List KeptOwner) (left : List Entry) : Type 0 where
  pub rows : AllByRecursion (Has (stored_rows s)) left
  pub order : Ascends kept_owner_key ks
  pub each : AllByRecursion (λ o. KeepsSome o × Ascends kept_key o.numbers) ks
  pub floor : (w : Owner) → (floor_at ks w ≡ 0) ⊎ (floor_at ks w ≡ floor_at s.kept w)
  pub number : (w : Owner) (n : ℕ) → (number_at ks w n ≡ None) ⊎ (number_at ks w n ≡ number_at s.kept w n)
  pub floors : (o : KeptOwner) → Has s.kept o → (floor_at ks o.owner ≡ o.floor) ⊎ Has left (floor_row o)
  pub numbers : (o : KeptOwner) (k : KeptNumber) → Has s.kept o → Has o.numbers k
      → (number_at ks o.owner k.number ≡ Some k) ⊎ Has left (kept_row o.owner k)
