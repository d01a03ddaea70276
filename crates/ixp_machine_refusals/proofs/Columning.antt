-- A test that says nothing is passed by.
use Rattle.std.proofs.Common.{◌≡◌, ℕ, Bool, true, false, not, ◌&&◌, ◌==◌, [], ◌∷◌, Some, find as first_with, refl, ap, ◌∙◌}
use Rattle.ixp_num_tables.specs.Tables.{find}
use Rattle.ixp_registry.specs.declared.kind.Kind.TheVariants.{Members, Interfaces}
use Rattle.ixp_registry.specs.declared.members.Member.{Member}
use Rattle.ixp_registry.specs.declared.members.Status.{Status}
use Rattle.ixp_registry.specs.declared.refusal.Refusal.{Refusal}
use Rattle.ixp_registry.specs.declared.refusal.Refusal.TheVariants.{StatusMove}
use Rattle.ixp_registry.specs.declared.refusal.RowKey.TheVariants.{Number}
use Rattle.ixp_registry.specs.declared.registry.Registry.{Registry}
use Rattle.ixp_registry.specs.Keys.{member_key}
use Rattle.ixp_registry.specs.Lookups.{is_left}
use Rattle.ixp_registry.specs.Weight.{weight}
use Rattle.ixp_members.specs.Statuses.{may_move}
use Rattle.ixp_machine_edits.specs.Members.{with_status, move_status_tests}
use Rattle.ixp_machine_edits.specs.Tests.{Tests, first_refused, refused, of_there, in_use_by, too_heavy}

pub passed_by : (b : Bool) (x : Refusal) (ts : Tests) → b ≡ false → first_refused (refused b x ∷ ts) ≡ first_refused ts
passed_by false x ts e = refl
passed_by true x ts e = absurd (let bad : ⊥ = cc in bad)

pub held_by : (b : Bool) (x : Refusal) (ts : Tests) → b ≡ true → first_refused (refused (not b) x ∷ ts) ≡ first_refused ts
held_by true x ts e = refl
held_by false x ts e = absurd (let bad : ⊥ = cc in bad)

-- a member that may leave still has an interface
pub left_says : (r : Registry) (member : ℕ) (to : Status) (m : Member) (x : Refusal) → find member_key (member ∷ []) r.members ≡ Some m → may_move m.status to ≡ true
    → in_use_by Interfaces (λ i. Number i.number) (first_with (λ i. is_left to && i.member == member) r.interfaces) ≡ Some x → first_refused (move_status_tests r member to) ≡ Some x
left_says r member to m x found may uses =
    let use_ = in_use_by Interfaces (λ i. Number i.number) (first_with (λ i. is_left to && i.member == member) r.interfaces) in
    let heavy = too_heavy (weight (with_status member to r.members) r.interfaces r.routers r.irr) in
    ap (λ o. first_refused (of_there o Members (Number member) (λ m. refused (not (may_move m.status to)) (StatusMove m.status to) ∷ use_ ∷ heavy ∷ []))) found
    ∙ (held_by (may_move m.status to) (StatusMove m.status to) (use_ ∷ heavy ∷ []) may ∙ ap (λ o. first_refused (o ∷ heavy ∷ [])) uses)
