-- Configurations that a desk hands out. The headline is `IsPublished`.
use Rattle.std.specs.Prelude.{◌≡◌, ◌≤◌, ◌⊎◌, ℕ, List, Option, Some, None, Result, Ok, Err}
use mathlib.Core.List.{IsPrefix}
use Rattle.ixp_num_tables.specs.Tables.{find}
use Rattle.ixp_registry.specs.declared.members.Owner.{Owner}
use Rattle.ixp_registry.specs.declared.members.Owner.TheVariants.{Staff, Member}
use Rattle.ixp_registry.specs.declared.refusal.Refusal.{Refusal}
use Rattle.ixp_registry.specs.declared.refusal.Refusal.TheVariants.{NoKey, Denied}
use Rattle.ixp_registry.specs.declared.refusal.Right.TheVariants as right
use Rattle.ixp_registry.specs.declared.registry.Registry.{Registry}
use Rattle.ixp_registry.specs.declared.router.Router.{Router}
use Rattle.ixp_registry.specs.Keys.{router_key}
use Rattle.ixp_members.specs.Owners.{owner_of}
use Rattle.ixp_compile_laws.specs.Right.{Gen, Right}
use Rattle.ixp_board.specs.Histories.{entries}
use Rattle.ixp_desk_history.specs.declared.turn.Answered.TheVariants.{Place}
use Rattle.ixp_desk_history.specs.declared.turn.Asked.TheVariants.{Seen}
use Rattle.ixp_desk_history.specs.declared.turn.First.{First}
use Rattle.ixp_desk_history.specs.declared.turn.Text.{Text}
use Rattle.ixp_desk_history.specs.declared.turn.Turn.{Turn}
use Rattle.ixp_desk_history.specs.Legal.{Legal}
use Rattle.ixp_desk_history.specs.Turns.{registry_of, IsVersion}
use Rattle.ixp_desk_lock.specs.declared.fault.PubFault.{PubFault}
use Rattle.ixp_desk_lock.specs.declared.fault.PubFault.TheVariants as pub_fault
use Rattle.ixp_desk_lock.specs.Calls.{AtMostOne, One, OtherCount, Own, SeatEnded}
use Rattle.ixp_desk_lock.specs.Facts.{HasAccepted, IsQuestion, Log}
use Rattle.ixp_desk_lock.specs.Published.{Publishes, ReadsAt}
use Rattle.ixp_desk_lock.specs.Sights.{Sight}

-- The text is the full generation from one version of the history `now`, which the reader has seen at the
-- return. That version contains every edit of the history `before`, which the reader had seen at the call's
-- start. For every session of the router and every route the text does what that version's rules say: it
-- accepts or rejects the route, tags it, and exports it to each other member with the attributes. The ROAs
-- are those of that version.
pub record IsPublished (before now : Log) (handle : List ℕ) (text : Text) : Type 0 where
  pub first : First
  pub turns : List Turn
  pub is : now ≡ entries first turns
  pub legal : Legal first turns
  pub registry : Registry
  pub version : IsVersion first turns text.built registry
  pub contains : (n : ℕ) → HasAccepted before n → n ≤ text.built
  pub router : Router
  pub is_there : find router_key handle registry.routers ≡ Some router
  pub bytes : text.bytes ≡ Gen registry router
  pub right : Right text.bytes registry router
  pub roas : text.roas ≡ registry.public.roas

-- who may read configurations: the staff; X0 where no key has the secret, X1 where it is a member's
abbrev pub reader_of : Option Owner → Result Owner Refusal
reader_of None = Err NoKey
reader_of (Some (Staff n)) = Ok (Staff n)
reader_of (Some (Member m)) = Err (Denied right.Staff)

-- who has the secret may read configurations or not, after this history
abbrev pub IsReader : Log → List ℕ → Result Owner Refusal → Type 0
IsReader log secret x = (f : First) (ts : List Turn) → log ≡ entries f ts
    → reader_of (owner_of (registry_of f ts) secret) ≡ x

-- A call looked: this is the history that it saw then, by which this owner may read.
pub record LookedFor (secret : List ℕ) (owner : Owner) (s t : Sight) : Type 0 where
  pub looked : Log
  pub later : IsPrefix s.2 looked
  pub begins : IsPrefix looked t.2
  pub reader : IsReader looked secret (Ok owner)

-- The look alone answers: no edit is named, no turn is made, and what is shown has all accepted edits that
-- the reader had seen.
abbrev pub ShowsText : ℕ → Option ℕ → List ℕ → Option Text → Sight → Sight → Type 0
ShowsText must seen handle o s t = (seen ≡ None) × (t.1 ≡ s.1) × ReadsAt t.2 must handle o

-- The text of the router, or none where the version has no such router: by the look alone, or by turns under
-- the lock. `must` is the count of accepted edits that the reader had seen.
pub record HandsOut (secret handle : List ℕ) (seen : Option ℕ) (o : Option Text) (s t : Sight) : Type 0 where
  pub owner : Owner
  pub looks : LookedFor secret owner s t
  pub must : ℕ
  pub is_must : HasAccepted s.2 must
  pub gives : ShowsText must seen handle o s t ⊎ Publishes owner must seen handle o s t

-- What is answered to who asks for a configuration, and with which turns.
abbrev pub Answers : List ℕ → List ℕ → Option ℕ → Result Text PubFault → Sight → Sight → Type 0
Answers secret handle seen (Ok text) s t = HandsOut secret handle seen (Some text) s t
Answers secret handle seen (Err pub_fault.NoRouter) s t = HandsOut secret handle seen None s t
Answers secret handle seen (Err (pub_fault.Refused x)) s t = (t.1 ≡ s.1) × IsReader t.2 secret (Err x)
Answers secret handle seen (Err (pub_fault.SeenUnknown n)) s t =
    (owner : Owner) × LookedFor secret owner s t × (seen ≡ Some n)
    × Own (One (IsQuestion (Seen owner n) (Place None))) s t
Answers secret handle seen (Err (pub_fault.SeatCount a b)) s t = OtherCount a b s t
Answers secret handle seen (Err (pub_fault.Ended n)) s t = SeatEnded n s t
Answers secret handle seen (Err pub_fault.NoMemory) s t = AtMostOne s t

-- the same of a call that tells a missing router by a missing text
abbrev pub Hands : List ℕ → List ℕ → Option ℕ → Result (Option Text) PubFault → Sight → Sight → Type 0
Hands secret handle seen (Ok o) s t = HandsOut secret handle seen o s t
Hands secret handle seen (Err x) s t = Answers secret handle seen (Err x) s t × (x ≡ pub_fault.NoRouter → ⊥)
