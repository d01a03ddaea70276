-- The numbers of requests that are kept for an owner: at most 1,024, and a floor below which each number
-- counts as used.
use Rattle.std.specs.Prelude.{◌≡◌, ℕ, ◌+◌, ◌≤◌, ◌<◌, ◌^◌, ◌⊎◌, true, List, [], ◌∷◌, length, nat_le, if◌then◌else◌}
use Rattle.std.specs.List.{AllByRecursion}
use Rattle.std.specs.Option.{is_some}
use Rattle.ixp_num_tables.specs.Tables.{Ascends, find, put, without, if_there}
use Rattle.ixp_registry.specs.declared.members.Owner.{Owner}
use Rattle.ixp_registry.specs.Words.{owner_numbers}
use Rattle.ixp_machine_steps.specs.declared.kept.KeptNumber.{KeptNumber}
use Rattle.ixp_machine_steps.specs.declared.kept.KeptOwner.{KeptOwner}

abbrev pub kept_key : KeptNumber → List ℕ
kept_key k = k.number ∷ []

abbrev pub kept_owner_key : KeptOwner → List ℕ
kept_owner_key o = owner_numbers o.owner

-- what is kept for an owner; at first nothing
abbrev pub kept_of : List KeptOwner → Owner → KeptOwner
kept_of ks owner = if_there (find kept_owner_key (owner_numbers owner) ks)
    (record { owner = owner; floor = 0; numbers = [] }) (λ o. o)

-- without the least of these numbers, above which the floor is then
abbrev pub without_least : KeptOwner → List KeptNumber → KeptOwner
without_least o [] = o
without_least o (k ∷ ks) = record o { floor = k.number + 1; numbers = without kept_key (kept_key k) (k ∷ ks) }

-- with one number more; where there would be more than 1,024, without the least
abbrev pub noted : KeptNumber → KeptOwner → KeptOwner
noted k o =
    if nat_le (length (put kept_key k o.numbers)) 1024 then record o { numbers = put kept_key k o.numbers }
    else without_least o (put kept_key k o.numbers)

-- with one number more for this owner
abbrev pub noted_for : Owner → KeptNumber → List KeptOwner → List KeptOwner
noted_for owner k ks = put kept_owner_key (noted k (kept_of ks owner)) ks

-- What may be kept of an owner: numbers that ascend, none below the floor, at most 1,024, each with its place
-- among those that were accepted.
pub record ValidKept (accepted : ℕ) (o : KeptOwner) : Type 0 where
  pub order : Ascends kept_key o.numbers
  pub above : AllByRecursion (λ k. o.floor ≤ k.number) o.numbers
  pub counted : AllByRecursion (λ k. 0 < k.number) o.numbers
  pub few : length o.numbers ≤ 1024
  pub floor : o.floor ≤ 10 ^ 16
  pub places : AllByRecursion (λ k. k.place ≤ accepted) o.numbers

-- the number was used: it is kept, or below the floor
abbrev pub IsSpent : ℕ → KeptOwner → Type 0
IsSpent n o = (is_some (find kept_key (n ∷ []) o.numbers) ≡ true) ⊎ (n < o.floor)
