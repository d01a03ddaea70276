-- Every request leaves a valid state valid.
use Rattle.std.proofs.Common.{◌≡◌, ℕ, ◌+◌, ◌⊎◌, inl, inr, Bool, true, false, List, [], ◌∷◌, Option, Some, None, option_map, find as first_with, cond, refl, sym, subst}
use Rattle.std.specs.List.{AllByRecursion}
use Rattle.std.specs.Option.{is_some}
use Rattle.ixp_num_tables.specs.Tables.{find, put, if_there, same}
use Rattle.ixp_num_tables.proofs.Orders.{all_weaker}
use Rattle.ixp_num_tables.proofs.TableLaws.{all_put}
use Rattle.ixp_num_tables.proofs.Looking.{look_put}
use Rattle.ixp_registry.specs.declared.members.ApiKey.{ApiKey}
use Rattle.ixp_registry.specs.declared.members.Member.{Member}
use Rattle.ixp_registry.specs.declared.members.Owner.{Owner}
use Rattle.ixp_registry.specs.declared.members.Owner.TheVariants.{Staff, Member as Of}
use Rattle.ixp_registry.specs.declared.registry.Registry.{Registry}
use Rattle.ixp_registry.specs.Keys.{member_key}
use Rattle.ixp_registry.specs.Lookups.{has_owner}
use Rattle.ixp_registry.specs.Valid.{Valid, ValidKey}
use Rattle.ixp_registry.specs.Words.{is_staff_number}
use Rattle.ixp_members.specs.Owners.{owner_of}
use Rattle.ixp_machine_edits.specs.declared.edit.Edit.{Edit}
use Rattle.ixp_machine_edits.specs.declared.edit.Edit.TheVariants.{AddMember, RenameMember, MoveStatus, SetMacro}
use Rattle.ixp_machine_edits.specs.Edits.{next, IsLawful}
use Rattle.ixp_machine_edits.specs.Members.{new_member}
use Rattle.ixp_machine_edits.specs.Tests.{changed}
use Rattle.ixp_machine_edits.proofs.AllEdits.{still_valid}
use Rattle.ixp_machine_edits.proofs.Frames.{More}
use Rattle.ixp_machine_steps.specs.declared.state.Entry.{Entry}
use Rattle.ixp_machine_steps.specs.declared.state.State.{State}
use Rattle.ixp_machine_steps.specs.Kept.{kept_owner_key, kept_of, noted}
use Rattle.ixp_machine_steps.specs.States.{ValidState}
use Rattle.ixp_machine_steps.specs.Steps.{Accepted, verdict_of, kept_entry, after, step}
use Rattle.ixp_machine_steps.proofs.KeptOwners.{noted_is}
use Rattle.ixp_machine_steps.proofs.Accepting.{accepted_parts, Acts, Rests, either}
use Rattle.ixp_machine_steps.proofs.Once.{after_stands}

-- members stay
changed_more : (k : List ℕ) (f : Member → Member) (ms : List Member) → More ms (changed member_key k f ms)
changed_more k f ms = by_row (find member_key k ms) where
  by_row : (o : Option Member) → More ms (if_there o ms (λ m. put member_key (f m) ms))
  by_row None n has = has
  by_row (Some m) n has = look_put member_key is_some true (f m) (n ∷ []) ms (λ e was. refl) has

members_stay : (r : Registry) (e : Edit) → More r.members (next r e).members
members_stay r (AddMember number asn name) n has = look_put member_key is_some true (new_member number asn name) (n ∷ []) r.members (λ e was. refl) has
members_stay r (RenameMember member name) n has = changed_more (member ∷ []) (λ m. record m { name = name }) r.members n has
members_stay r (MoveStatus member to) n has = changed_more (member ∷ []) (λ m. record m { status = to }) r.members n has
members_stay r (SetMacro member as_macro) n has = changed_more (member ∷ []) (λ m. record m { as_macro = as_macro }) r.members n has
members_stay r e n has = has

owners_stay : (ms ns : List Member) → More ms ns → (o : Owner) → has_owner ms o ≡ true → has_owner ns o ≡ true
owners_stay ms ns more (Staff n) e = refl
owners_stay ms ns more (Of n) e = more n e

-- the owner of an API key is one of the staff, or a member that is there
first_has : {R : Type 0} (P : R → Type 0) (p : R → Bool) (r : R) (rs : List R) → AllByRecursion P rs → first_with p rs ≡ Some r → P r
first_has P p r [] all e = absurd (let bad : ⊥ = cc in bad)
first_has P p r (x ∷ xs) all e = by_test (p x) e (first_has P p r xs all.1) where
  by_test : (b : Bool) → cond b (Some x) (first_with p xs) ≡ Some r → (first_with p xs ≡ Some r → P r) → P r
  by_test true h rest = let is : x ≡ r = cc in subst P is all.0
  by_test false h rest = rest h

abbrev IsOwner : Registry → Owner → Type 0
IsOwner r o = (is_staff_number o ≡ true) × (has_owner r.members o ≡ true)

owner_is : (r : Registry) (secret : List ℕ) (owner : Owner) → Valid r → owner_of r secret ≡ Some owner → IsOwner r owner
owner_is r secret owner s e = by_key (first_with (λ k. same k.secret secret) r.keys) refl e where
  by_key : (o : Option ApiKey) → first_with (λ k. same k.secret secret) r.keys ≡ o → option_map (λ k. k.owner) o ≡ Some owner → IsOwner r owner
  by_key None found h = absurd (let bad : ⊥ = cc in bad)
  by_key (Some k) found h =
      let is : k.owner ≡ owner = cc in
      let each : ValidKey k = first_has ValidKey (λ k. same k.secret secret) k r.keys s.keys.each found in
      let there : has_owner r.members k.owner ≡ true = first_has (λ k. has_owner r.members k.owner ≡ true) (λ k. same k.secret secret) k r.keys s.keys.owners found in
      subst (IsOwner r) is (each.staff, there)

after_valid : (s : State) (owner : Owner) (e : Entry) → owner_of s.registry e.secret ≡ Some owner → verdict_of s owner e.number e.edit ≡ Accepted → ValidState s → IsLawful e.edit → ValidState (after s owner e)
after_valid s owner e found h v lawful =
    let a = accepted_parts s.registry (kept_of s.kept owner) owner e.number e.edit h in
    let k = kept_entry e (s.accepted + 1) in
    let new = noted k (kept_of s.kept owner) in
    let is : new.owner ≡ owner = noted_is k s.kept owner in
    let stands = after_stands s owner e h (record { order = v.order; each = v.each }) in
    let here = owner_is s.registry e.secret owner v.registry found in
    let ms = s.registry.members in
    let ns = (next s.registry e.edit).members in
    record {
      registry = still_valid s.registry e.edit v.registry lawful a.lawful;
      order = stands.order;
      each = stands.each;
      staff = all_put kept_owner_key (λ o. is_staff_number o.owner ≡ true) new s.kept (subst (λ (o : Owner). is_staff_number o ≡ true) (sym is) here.0) v.staff;
      owners = all_put kept_owner_key (λ o. has_owner ns o.owner ≡ true) new s.kept (subst (λ (o : Owner). has_owner ns o ≡ true) (sym is) (owners_stay ms ns (members_stay s.registry e.edit) owner here.1))
          (all_weaker (λ o. has_owner ms o.owner ≡ true) (λ o. has_owner ns o.owner ≡ true) (λ o was. owners_stay ms ns (members_stay s.registry e.edit) o.owner was) s.kept v.owners);
      weight = refl;
      prefixes = refl;
    }

pub still_a_state : (s : State) (e : Entry) → ValidState s → IsLawful e.edit → ValidState (step s e)
still_a_state s e v lawful = by_case (either s e) where
  by_case : Acts s e ⊎ Rests s e → ValidState (step s e)
  by_case (inl a) = subst ValidState (sym a.3) (after_valid s a.0 e a.1 a.2 v lawful)
  by_case (inr r) = subst ValidState (sym r.0) v
