use Rattle.std.proofs.Common.{rules, ◌≡◌, Some, sym, ap, ◌∙◌, subst, true, false}
use Rattle.std.specs.List.{AllByRecursion}
use Rattle.ixp_registry.specs.declared.registry.Registry.{Registry}
use Rattle.ixp_registry.specs.Lookups.{has_owner}
use Rattle.ixp_machine_steps.specs.declared.state.State.{State}
use Rattle.ixp_store_load.proofs.Keeping.{joined_valid}
use Rattle.ixp_store_damage.proofs.WholeStates.{same_state}
use Rattle.ixp_store_load.proofs.opened.joined.Goals as goal

pub returns-clause-valid : goal.returns-clause-valid
returns-clause-valid c =
    let same = ap (λ (s : State). s.registry) c.first_state-first.ensures.state in
    let owners : AllByRecursion (λ k. has_owner c.args.registry.members k.owner ≡ true) c.args.kept = search rules in
    let valid = c.first_state-first.ensures.valid in
    joined_valid _ valid.registry c.requires.kept c.have_owners.ensures.order
    (subst (λ (r : Registry). AllByRecursion (λ k. has_owner r.members k.owner ≡ true) c.args.kept) (sym same) owners) valid.weight valid.prefixes

pub returns-clause-complete : goal.returns-clause-complete
returns-clause-complete c = λ s v r k a.
    ap (λ (x : State). Some x)
    ((λ i. record (c.first_state-first.ensures.state i) { kept = c.args.kept; accepted = c.args.accepted }) ∙ same_state s v c.args.registry c.args.kept c.args.accepted r k a)

pub returns-then-not-have_owners-clause-complete : goal.returns-then-not-have_owners-clause-complete
returns-then-not-have_owners-clause-complete c = λ s v r k a.
    let kept : AllByRecursion (λ o. has_owner s.registry.members o.owner ≡ true) c.args.kept = subst (AllByRecursion (λ o. has_owner s.registry.members o.owner ≡ true)) (sym k) v.owners in
    let owners : AllByRecursion (λ o. has_owner c.args.registry.members o.owner ≡ true) c.args.kept =
    subst (λ (x : Registry). AllByRecursion (λ o. has_owner x.members o.owner ≡ true) c.args.kept) (sym r) kept in
    absurd (let bad : true ≡ false = sym (c.have_owners.ensures.owners.1 owners) ∙ c.if-not-have_owners.true in cc)
