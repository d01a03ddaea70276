-- Edits of API keys.
use Rattle.std.proofs.Common.{◌≡◌, ℕ, true, not, ◌||◌, ◌==◌, List, [], ◌∷◌, None, refl, arith}
use Rattle.std.proofs.lemmas.Bool.{or_parts}
use Rattle.ixp_num_tables.specs.Tables.{find, put, without, same}
use Rattle.ixp_num_tables.proofs.TableLaws.{all_put, all_without, Ascends-put, Ascends-without}
use Rattle.ixp_num_tables.proofs.Counts.{often_put, often_fewer, none_counted}
use Rattle.ixp_registry.specs.declared.kind.Kind.TheVariants.{Members, Keys}
use Rattle.ixp_registry.specs.declared.members.ApiKey.{ApiKey}
use Rattle.ixp_registry.specs.declared.members.Member.{Member}
use Rattle.ixp_registry.specs.declared.members.Owner.{Owner}
use Rattle.ixp_registry.specs.declared.members.Owner.TheVariants.{Staff, Member as Of}
use Rattle.ixp_registry.specs.declared.registry.Registry.{Registry}
use Rattle.ixp_registry.specs.declared.refusal.Refusal.TheVariants.{BadText, BadRule}
use Rattle.ixp_registry.specs.declared.refusal.RowKey.TheVariants.{Number}
use Rattle.ixp_registry.specs.declared.refusal.TextField.TheVariants.{Secret}
use Rattle.ixp_registry.specs.Alphabets.{is_key_secret}
use Rattle.ixp_registry.specs.Keys.{member_key, api_key_key}
use Rattle.ixp_registry.specs.Lookups.{has_owner}
use Rattle.ixp_registry.specs.Valid.{Valid, ValidKey}
use Rattle.ixp_registry.specs.Widths.{IsNumber, owner_number}
use Rattle.ixp_registry.specs.Words.{owner_numbers, is_staff_number}
use Rattle.ixp_registry_laws.proofs.Truths.{holds as true_where}
use Rattle.ixp_machine_edits.specs.Tests.{first_refused}
use Rattle.ixp_machine_edits.specs.ApiKeys.{with_key, unless_owner_there, keys_of, add_key_tests, without_key}
use Rattle.ixp_machine_edits.proofs.Passing.{no_refusal, passed, holds, is_there, nobody_has, has_room}
use Rattle.ixp_machine_edits.proofs.Frames.{keys_on}

owner_there : (ms : List Member) (o : Owner) → unless_owner_there ms o ≡ None → has_owner ms o ≡ true
owner_there ms (Staff n) e = refl
owner_there ms (Of n) e = is_there (find member_key (n ∷ []) ms) Members (Number n) e

pub key_added : (r : Registry) (number : ℕ) (secret : List ℕ) (owner : Owner) → IsNumber number × IsNumber (owner_number owner) → Valid r → first_refused (add_key_tests r number secret owner) ≡ None → Valid (record r { keys = with_key number secret owner r.keys })
key_added r number secret owner fits s ok =
    let ks = r.keys in
    let k : ApiKey = record { number = number; owner = owner; secret = secret } in
    let t = no_refusal (add_key_tests r number secret owner) ok in
    let other = none_counted (λ j. same secret j.secret) ks (nobody_has Keys (λ k. Number k.number) (λ j. same secret j.secret) ks t.1.1.0) in
    let numbers = or_parts (number == 0) (not (is_staff_number owner)) (passed (number == 0 || not (is_staff_number owner)) (BadRule 0) t.1.1.1.1.0) in
    let few = has_room Keys (keys_of owner ks) 8 t.1.1.1.1.1.0 in
    keys_on r (put api_key_key k ks)
    (record {
      order = Ascends-put api_key_key k ks s.keys.order;
      each = all_put api_key_key ValidKey k ks (record { fits = fits; number = numbers.0; secret = holds (is_key_secret secret) (BadText Secret) t.1.0; staff = true_where (is_staff_number owner) numbers.1 }) s.keys.each;
      owners = all_put api_key_key (λ k. has_owner r.members k.owner ≡ true) k ks (owner_there r.members owner t.0) s.keys.owners;
      secrets = often_put api_key_key 1 (λ k. k.secret) k ks s.keys.order (omega (arith, other)) s.keys.secrets;
      few = often_put api_key_key 8 (λ k. owner_numbers k.owner) k ks s.keys.order few s.keys.few;
    }) s

pub key_dropped : (r : Registry) (key : ℕ) → Valid r → Valid (record r { keys = without_key key r.keys })
key_dropped r key s =
    let ks = r.keys in
    keys_on r (without api_key_key (key ∷ []) ks)
    (record {
      order = Ascends-without api_key_key (key ∷ []) ks s.keys.order;
      each = all_without api_key_key ValidKey (key ∷ []) ks s.keys.each;
      owners = all_without api_key_key (λ k. has_owner r.members k.owner ≡ true) (key ∷ []) ks s.keys.owners;
      secrets = often_fewer api_key_key 1 (λ k. k.secret) (key ∷ []) ks s.keys.order s.keys.secrets;
      few = often_fewer api_key_key 8 (λ k. owner_numbers k.owner) (key ∷ []) ks s.keys.order s.keys.few;
    }) s
