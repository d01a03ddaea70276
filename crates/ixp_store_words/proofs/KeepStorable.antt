-- Requests lead to states that can be loaded again.
use Rattle.std.proofs.Common.{◌≡◌, ◌≢◌, ◌⊎◌, inl, inr, ◌+◌, ◌-◌, ◌<◌, ◌^◌, Bool, true, false, nat_le, List, [], ◌∷◌, length, Option, Some, None, if◌then◌else◌, refl, sym, ap, ◌∙◌, subst, arith}
use Rattle.std.specs.List.{AllByRecursion}
use Rattle.ixp_num_tables.specs.Tables.{find, put, if_there}
use Rattle.ixp_num_tables.proofs.Looking.{all_found}
use Rattle.ixp_num_tables.proofs.Orders.{order_same}
use Rattle.ixp_num_tables.proofs.TableLaws.{all_put, all_without, find-put-same-key}
use Rattle.ixp_registry.specs.declared.members.Owner.{Owner}
use Rattle.ixp_registry.specs.declared.registry.Registry.{Registry}
use Rattle.ixp_registry.specs.Words.{owner_numbers}
use Rattle.ixp_machine_edits.specs.Edits.{IsLawful}
use Rattle.ixp_machine_steps.specs.Openings.{first_state}
use Rattle.ixp_machine_steps.specs.declared.kept.KeptNumber.{KeptNumber}
use Rattle.ixp_machine_steps.specs.declared.kept.KeptOwner.{KeptOwner}
use Rattle.ixp_machine_steps.specs.declared.state.Entry.{Entry}
use Rattle.ixp_machine_steps.specs.declared.state.State.{State}
use Rattle.ixp_machine_steps.specs.Kept.{kept_key, kept_owner_key, kept_of, without_least, noted}
use Rattle.ixp_machine_steps.specs.States.{ValidState}
use Rattle.ixp_machine_steps.specs.Steps.{Accepted, verdict_of, kept_entry, after, step}
use Rattle.ixp_machine_steps.proofs.Accepting.{accepted_parts, Acts, Rests, either}
use Rattle.ixp_store_words.specs.Storing.{HasSubject, KeepsSome, IsStorable}
use Rattle.ixp_store_words.proofs.Subjects.{has_subject}

pub first_storable : (r : Registry) → IsStorable (first_state r)
first_storable r = record { accepted = omega arith; some = tt; subjects = tt }

never_none : (k : KeptNumber) (ns : List KeptNumber) → put kept_key k ns ≢ []
never_none k ns e =
    let bad : ◌≡◌ {A = Option KeptNumber} (Some k) None = sym (find-put-same-key kept_key (k.number ∷ []) k ns (order_same (k.number ∷ []))) ∙ ap (find kept_key (k.number ∷ [])) e in
    let no : ⊥ = cc in
    no

-- something is kept once a number is
least_some : (o : KeptOwner) (ns : List KeptNumber) → ns ≢ [] → KeepsSome (without_least o ns)
least_some o [] some = absurd (some refl)
least_some o (k ∷ ks) some = inl (λ zero. omega (arith, zero))

noted_some : (k : KeptNumber) (o : KeptOwner) → KeepsSome (noted k o)
noted_some k o = by_room (nat_le (length (put kept_key k o.numbers)) 1024)
  where
    by_room : (b : Bool) → KeepsSome (if b then record o { numbers = put kept_key k o.numbers } else without_least o (put kept_key k o.numbers))
    by_room true = inr (never_none k o.numbers)
    by_room false = least_some o (put kept_key k o.numbers) (never_none k o.numbers)

-- numbers that are kept have subjects of their kind
least_subjects : (o : KeptOwner) (ns : List KeptNumber) → AllByRecursion HasSubject o.numbers → AllByRecursion HasSubject ns → AllByRecursion HasSubject (without_least o ns).numbers
least_subjects o [] old all = old
least_subjects o (k ∷ ks) old all = all_without kept_key HasSubject (kept_key k) (k ∷ ks) all

noted_subjects : (k : KeptNumber) (o : KeptOwner) → HasSubject k → AllByRecursion HasSubject o.numbers → AllByRecursion HasSubject (noted k o).numbers
noted_subjects k o has all = by_room (nat_le (length (put kept_key k o.numbers)) 1024)
  where
    by_room : (b : Bool) → AllByRecursion HasSubject (if b then record o { numbers = put kept_key k o.numbers } else without_least o (put kept_key k o.numbers)).numbers
    by_room true = all_put kept_key HasSubject k o.numbers has all
    by_room false = least_subjects o (put kept_key k o.numbers) all (all_put kept_key HasSubject k o.numbers has all)

kept_subjects : (ks : List KeptOwner) (w : Owner) → AllByRecursion (λ o. AllByRecursion HasSubject o.numbers) ks → AllByRecursion HasSubject (kept_of ks w).numbers
kept_subjects ks w all = by_row (find kept_owner_key (owner_numbers w) ks) refl
  where
    by_row : (o : Option KeptOwner) → find kept_owner_key (owner_numbers w) ks ≡ o → AllByRecursion HasSubject (if_there o (record { owner = w; floor = 0; numbers = [] }) (λ x. x)).numbers
    by_row None e = tt
    by_row (Some k) e = all_found kept_owner_key (λ o. AllByRecursion HasSubject o.numbers) (owner_numbers w) k ks all e

after_storable : (s : State) (owner : Owner) (e : Entry) → ValidState s → IsStorable s → IsLawful e.edit → s.accepted < 2 ^ 64 - 1 → verdict_of s owner e.number e.edit ≡ Accepted → IsStorable (after s owner e)
after_storable s owner e v stores lawful room accepted =
    let a = accepted_parts s.registry (kept_of s.kept owner) owner e.number e.edit accepted in
    let k = kept_entry e (s.accepted + 1) in
    let has : HasSubject k = has_subject s.registry e.edit v.registry lawful a.lawful in
    record {
      accepted = omega (arith, room);
      some = all_put kept_owner_key KeepsSome (noted k (kept_of s.kept owner)) s.kept (noted_some k (kept_of s.kept owner)) stores.some;
      subjects = all_put kept_owner_key (λ o. AllByRecursion HasSubject o.numbers) (noted k (kept_of s.kept owner)) s.kept (noted_subjects k (kept_of s.kept owner) has (kept_subjects s.kept owner stores.subjects)) stores.subjects;
    }

pub still_storable : (s : State) (e : Entry) → ValidState s → IsStorable s → IsLawful e.edit → s.accepted < 2 ^ 64 - 1 → IsStorable (step s e)
still_storable s e v stores lawful room = by_case (either s e)
  where
    by_case : Acts s e ⊎ Rests s e → IsStorable (step s e)
    by_case (inl a) = subst IsStorable (sym a.3) (after_storable s a.0 e v stores lawful room a.2)
    by_case (inr r) = subst IsStorable (sym r.0) stores
