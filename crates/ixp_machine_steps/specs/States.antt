-- Which states are valid.
use Rattle.std.specs.Prelude.{◌≡◌, true}
use Rattle.std.specs.List.{AllByRecursion}
use Rattle.ixp_num_tables.specs.Tables.{Ascends}
use Rattle.ixp_registry.specs.Lookups.{has_owner}
use Rattle.ixp_registry.specs.Valid.{Valid}
use Rattle.ixp_registry.specs.Words.{is_staff_number}
use Rattle.ixp_machine_edits.specs.Lists.{prefixes_in}
use Rattle.ixp_machine_steps.specs.declared.state.State.{State}
use Rattle.ixp_machine_steps.specs.Kept.{kept_owner_key, ValidKept}
use Rattle.ixp_registry.specs.Weight.{weight_of}

pub record ValidState (s : State) : Type 0 where
  pub registry : Valid s.registry
  -- what is kept is kept for staff or for members that are there
  pub order : Ascends kept_owner_key s.kept
  pub each : AllByRecursion (ValidKept s.accepted) s.kept
  pub staff : AllByRecursion (λ o. is_staff_number o.owner ≡ true) s.kept
  pub owners : AllByRecursion (λ o. has_owner s.registry.members o.owner ≡ true) s.kept
  -- the counts are those of the registry
  pub weight : s.weight ≡ weight_of s.registry
  pub prefixes : s.prefixes ≡ prefixes_in s.registry.irr
