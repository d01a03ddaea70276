-- A member's edit leaves what isn't its own.
use Rattle.std.proofs.Common.{◌≡◌, ℕ, ◌⊎◌, inl, inr, ◌==◌, Bool, true, false, ◌+◌, [], ◌∷◌, Some, refl, sym, ap, ◌∙◌, subst}
use Rattle.ixp_num_tables.proofs.Orders.{head_same}
use Rattle.ixp_registry.specs.declared.members.Owner.{Owner}
use Rattle.ixp_registry.specs.declared.members.Owner.TheVariants.{Staff, Member as Of}
use Rattle.ixp_registry.specs.declared.registry.Registry.{Registry}
use Rattle.ixp_members.specs.Owners.{owner_of}
use Rattle.ixp_machine_edits.specs.declared.edit.Edit.{Edit}
use Rattle.ixp_machine_edits.specs.declared.edit.Edit.TheVariants.{SetMacro, PutContact, DropContact, SetRules}
use Rattle.ixp_machine_edits.specs.Edits.{next}
use Rattle.ixp_machine_steps.specs.declared.state.Entry.{Entry}
use Rattle.ixp_machine_steps.specs.declared.state.State.{State}
use Rattle.ixp_machine_steps.specs.Kept.{kept_of}
use Rattle.ixp_machine_steps.specs.Rights.{right_of, has_right}
use Rattle.ixp_machine_steps.specs.Steps.{after, kept_entry, step}
use Rattle.ixp_machine_steps.proofs.Accepting.{Acts, Rests, accepted_parts, either}
use Rattle.ixp_machine_steps.proofs.Isolating.{own_alone}
use Rattle.ixp_machine_steps.proofs.KeptOwners.{kept_other}
use Rattle.ixp_machine.specs.Others.{LeavesOthers}

-- a registry but for the three tables in which members have rows
abbrev beside : Registry → Registry → Registry
beside r t = record t { members = r.members; contacts = r.contacts; rules = r.rules }

own_tables : (r : Registry) (e : Edit) (m : ℕ) → has_right (Of m) (right_of e) ≡ true → beside r (next r e) ≡ r
own_tables r (SetMacro member as_macro) m h = refl
own_tables r (PutContact member place name mail role) m h = refl
own_tables r (DropContact member place) m h = refl
own_tables r (SetRules member xs) m h = refl
own_tables r e m h = absurd (let bad : ⊥ = cc in bad)

pub others_kept : (s : State) (e : Entry) (m : ℕ) → owner_of s.registry e.secret ≡ Some (Of m) → LeavesOthers m s (step s e)
others_kept s e m found = record {
  members = λ n far. own_alone s e m n found far;
  staff = λ n. by_case_staff n (either s e);
  rest = by_case_rest (either s e);
} where
  owner_is : (a : Acts s e) → a.0 ≡ Of m
  owner_is a = let owner : a.0 ≡ Of m = cc in owner

  by_case_staff : (n : ℕ) → Acts s e ⊎ Rests s e → kept_of (step s e).kept (Staff n) ≡ kept_of s.kept (Staff n)
  by_case_staff n (inr r) = ap (λ (t : State). kept_of t.kept (Staff n)) r.0
  by_case_staff n (inl a) =
      ap (λ (t : State). kept_of t.kept (Staff n)) a.3
      ∙ subst (λ (o : Owner). kept_of (after s o e).kept (Staff n) ≡ kept_of s.kept (Staff n)) (sym (owner_is a))
      (kept_other (kept_entry e (s.accepted + 1)) s.kept (Of m) (Staff n) (λ h. let bad : 1 ≡ 0 = head_same 1 0 (m ∷ []) (n ∷ []) h in let none : ⊥ = cc in none))

  by_case_rest : Acts s e ⊎ Rests s e → beside s.registry (step s e).registry ≡ s.registry
  by_case_rest (inr r) = ap (λ (t : State). beside s.registry t.registry) r.0
  by_case_rest (inl a) =
      let right : has_right (Of m) (right_of e.edit) ≡ true =
      subst (λ (o : Owner). has_right o (right_of e.edit) ≡ true) (owner_is a) (accepted_parts s.registry (kept_of s.kept a.0) a.0 e.number e.edit a.2).right in
      ap (λ (t : State). beside s.registry t.registry) a.3 ∙ own_tables s.registry e.edit m right
