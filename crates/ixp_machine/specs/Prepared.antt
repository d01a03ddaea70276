-- What becomes of a state by a request that is accepted.
use Rattle.std.specs.Prelude.{◌≡◌, ◌+◌, None}
use Rattle.ixp_num_tables.specs.Tables.{find}
use Rattle.ixp_registry_change.specs.Changes.{with_change}
use Rattle.ixp_machine_steps.specs.declared.state.State.{State}
use Rattle.ixp_machine_steps.specs.Kept.{kept_key, kept_of, noted_for}
use Rattle.ixp_machine.specs.declared.preparing.Prepared.{Prepared}

-- the state after it
abbrev pub prepared : State → Prepared → State
prepared s p = record {
  registry = with_change s.registry p.change;
  kept = noted_for p.owner p.kept s.kept;
  accepted = s.accepted + 1;
  weight = p.weight;
  prefixes = p.prefixes;
}

-- its number isn't kept yet
abbrev pub IsFresh : State → Prepared → Type 0
IsFresh s p = find kept_key (kept_key p.kept) (kept_of s.kept p.owner).numbers ≡ None
