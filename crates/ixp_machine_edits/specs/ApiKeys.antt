-- Edits of API keys: the tests of each, and what it makes of the table.
use Rattle.std.specs.Prelude.{ℕ, List, [], ◌∷◌, Option, None, not, ◌||◌, ◌==◌, find as first_with}
use Rattle.ixp_num_tables.specs.Tables.{find, put, without, same}
use Rattle.ixp_num_tables.specs.Sums.{count}
use Rattle.ixp_registry.specs.declared.kind.Kind.TheVariants.{Members, Keys}
use Rattle.ixp_registry.specs.declared.members.ApiKey.{ApiKey}
use Rattle.ixp_registry.specs.declared.members.Member.{Member}
use Rattle.ixp_registry.specs.declared.members.Owner.{Owner}
use Rattle.ixp_registry.specs.declared.members.Owner.TheVariants.{Staff, Member as Of}
use Rattle.ixp_registry.specs.declared.refusal.Refusal.{Refusal}
use Rattle.ixp_registry.specs.declared.refusal.Refusal.TheVariants.{BadText, BadRule}
use Rattle.ixp_registry.specs.declared.refusal.RowKey.TheVariants.{Number}
use Rattle.ixp_registry.specs.declared.refusal.TextField.TheVariants.{Secret}
use Rattle.ixp_registry.specs.declared.registry.Registry.{Registry}
use Rattle.ixp_registry.specs.Alphabets.{is_key_secret}
use Rattle.ixp_registry.specs.Keys.{member_key, api_key_key}
use Rattle.ixp_registry.specs.Words.{owner_numbers, is_staff_number}
use Rattle.ixp_machine_edits.specs.Tests.{Tests, refused, unless_there, taken_by, exists, full}

-- AddKey
abbrev pub with_key : ℕ → List ℕ → Owner → List ApiKey → List ApiKey
with_key number secret owner ks =
    put api_key_key (record { number = number; owner = owner; secret = secret }) ks

-- staff owners have no row
abbrev pub unless_owner_there : List Member → Owner → Option Refusal
unless_owner_there ms (Staff n) = None
unless_owner_there ms (Of n) = unless_there (find member_key (n ∷ []) ms) Members (Number n)

abbrev pub keys_of : Owner → List ApiKey → ℕ
keys_of owner ks = count (λ k. same (owner_numbers owner) (owner_numbers k.owner)) ks

abbrev pub add_key_tests : Registry → ℕ → List ℕ → Owner → Tests
add_key_tests r number secret owner =
    unless_owner_there r.members owner
    ∷ refused (not (is_key_secret secret)) (BadText Secret)
    ∷ taken_by Keys (λ k. Number k.number) (first_with (λ k. same secret k.secret) r.keys)
    ∷ exists (λ k. Number k.number) (find api_key_key (number ∷ []) r.keys)
    ∷ refused (number == 0 || not (is_staff_number owner)) (BadRule 0)
    ∷ full Keys (keys_of owner r.keys) 8 ∷ []

-- DropKey
abbrev pub without_key : ℕ → List ApiKey → List ApiKey
without_key key ks = without api_key_key (key ∷ []) ks

abbrev pub drop_key_tests : Registry → ℕ → Tests
drop_key_tests r key = unless_there (find api_key_key (key ∷ []) r.keys) Keys (Number key) ∷ []
