-- What a member's edit leaves as it is.
use Rattle.std.specs.Prelude.{◌≡◌, ℕ, ◌==◌, false}
use Rattle.ixp_registry.specs.declared.members.Owner.TheVariants.{Staff}
use Rattle.ixp_registry.specs.declared.registry.Registry.{Registry}
use Rattle.ixp_machine_steps.specs.declared.state.State.{State}
use Rattle.ixp_machine_steps.specs.Kept.{kept_of}
use Rattle.ixp_machine_steps.specs.Views.{view}

-- Every row that isn't the member's, and every number that is kept for somebody else: those of other members,
-- those of the staff, and the tables that have no row of a member's own making.
pub record LeavesOthers (m : ℕ) (s t : State) : Type 0 where
  pub members : (n : ℕ) → (n == m) ≡ false → view t n ≡ view s n
  pub staff : (n : ℕ) → kept_of t.kept (Staff n) ≡ kept_of s.kept (Staff n)
  pub rest : ◌≡◌ {A = Registry}
      (record t.registry { members = s.registry.members; contacts = s.registry.contacts; rules = s.registry.rules }) s.registry
