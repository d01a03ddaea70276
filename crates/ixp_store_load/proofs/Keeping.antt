-- What is kept of requests stays valid while it is loaded.
use Rattle.std.proofs.Common.{◌≡◌, ◌≤◌, ◌<◌, ◌^◌, ℕ, length, true}
use Rattle.std.specs.List.{AllByRecursion}
use Rattle.ixp_registry.specs.Words.{is_staff_number}
use Rattle.ixp_machine_steps.specs.declared.kept.KeptOwner.{KeptOwner}
use Rattle.ixp_machine_steps.specs.Kept.{kept_key, kept_owner_key, ValidKept}
use Rattle.ixp_num_tables.specs.Tables.{Ascends}
use Rattle.ixp_num_tables.proofs.AllItems.{zip3}
use Rattle.ixp_store_words.specs.Keeping.{AreKept, MayBeKept}
use Rattle.ixp_registry.specs.Lookups.{has_owner}
use Rattle.ixp_registry.specs.Valid.{Valid}
use Rattle.ixp_machine_edits.specs.Lists.{prefixes_in}
use Rattle.ixp_machine_steps.specs.declared.state.State.{State}
use Rattle.ixp_machine_steps.specs.States.{ValidState}
use Rattle.ixp_registry.specs.Weight.{weight_of}
use Rattle.ixp_num_tables.proofs.Orders.{all_weaker}

-- what may be kept for an owner, by each of its numbers
pub kept_from : (a : ℕ) (o : KeptOwner) → Ascends kept_key o.numbers → o.floor ≤ 10 ^ 16 → length o.numbers ≤ 1024 → AllByRecursion (MayBeKept a o.floor) o.numbers → ValidKept a o
kept_from a o order floor few all = record {
  order = order;
  above = all_weaker (MayBeKept a o.floor) (λ k. o.floor ≤ k.number) (λ k may. may.0) o.numbers all;
  counted = all_weaker (MayBeKept a o.floor) (λ k. 0 < k.number) (λ k may. may.1) o.numbers all;
  few = few;
  floor = floor;
  places = all_weaker (MayBeKept a o.floor) (λ k. k.place ≤ a) (λ k may. may.2) o.numbers all;
}

pub kept_to : (a : ℕ) (o : KeptOwner) → ValidKept a o → AllByRecursion (MayBeKept a o.floor) o.numbers
kept_to a o v = zip3 o.numbers v.above v.counted v.places (λ k above counted place. (above, counted, place))

-- a registry and what is kept make a valid state
pub joined_valid :
    (s : State) → Valid s.registry → AreKept s.accepted s.kept → Ascends kept_owner_key s.kept → AllByRecursion (λ k. has_owner s.registry.members k.owner ≡ true) s.kept → s.weight ≡ weight_of s.registry
    → s.prefixes ≡ prefixes_in s.registry.irr → ValidState s
joined_valid s valid kept order owners weight prefixes = record {
  registry = valid;
  order = order;
  each = all_weaker (λ k. ValidKept s.accepted k × (is_staff_number k.owner ≡ true)) (ValidKept s.accepted) (λ k both. both.0) s.kept kept;
  staff = all_weaker (λ k. ValidKept s.accepted k × (is_staff_number k.owner ≡ true)) (λ k. is_staff_number k.owner ≡ true) (λ k both. both.1) s.kept kept;
  owners = owners;
  weight = weight;
  prefixes = prefixes;
}
