-- What is answered to a request, by what is decided of it.
use Rattle.std.specs.Prelude.{◌≡◌, ℕ, [], ◌∷◌, nat_lt, Option, Some, None, if◌then◌else◌}
use Rattle.ixp_num_tables.specs.Tables.{find, if_there}
use Rattle.ixp_registry.specs.declared.members.Owner.{Owner}
use Rattle.ixp_registry.specs.declared.refusal.Refusal.TheVariants.{KeyReused}
use Rattle.ixp_registry.specs.declared.refusal.RowKey.{RowKey}
use Rattle.ixp_registry.specs.declared.refusal.RowKey.TheVariants as key
use Rattle.ixp_machine_steps.specs.declared.state.State.{State}
use Rattle.ixp_machine_steps.specs.declared.subject.Subject.{Subject}
use Rattle.ixp_machine_steps.specs.declared.subject.Subject.TheVariants.{Number, Pair, Handle, Public}
use Rattle.ixp_machine_steps.specs.Kept.{kept_key, kept_of}
use Rattle.ixp_machine_steps.specs.Steps.{Verdict, Accepted, Repeated, Reused, Refused}
use Rattle.ixp_machine.specs.declared.decision.Decision.{Decision}
use Rattle.ixp_machine.specs.declared.decision.Decision.TheVariants as decision

-- the key that a refusal carries says the subject
abbrev pub Names : RowKey → Subject → Type 0
Names (key.Number n) (Number m) = n ≡ m
Names (key.Pair a b) (Pair c d) = (a ≡ c) × (b ≡ d)
Names (key.Handle h) (Handle g) = h ≡ g
Names (key.Public p) (Public q) = p ≡ q
Names k subject = ⊥

-- what is answered to a request with the number
abbrev pub Says : ℕ → Verdict → Decision → Type 0
Says n Accepted d = (owner : Owner) × (d ≡ decision.Accepted owner)
Says n Repeated d = d ≡ decision.Repeated (record { number = n })
Says n (Reused kind subject) d = (k : RowKey) × (d ≡ decision.Refused (KeyReused kind k)) × Names k subject
Says n (Refused x) d = d ≡ decision.Refused x

-- an edit that may be made is made for this owner
abbrev pub IsFor : Option Owner → Decision → Type 0
IsFor owner (decision.Accepted found) = owner ≡ Some found
IsFor owner d = Unit {0}

-- after how many accepted requests one with the number was accepted
abbrev pub place_of : State → Owner → ℕ → Option ℕ
place_of s owner n =
    if_there (find kept_key (n ∷ []) (kept_of s.kept owner).numbers) (if nat_lt n (kept_of s.kept owner).floor
    then Some s.accepted else None) (λ k. Some k.place)
