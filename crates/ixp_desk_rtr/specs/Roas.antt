-- The ROAs that a desk gives to routers.
use Rattle.std.specs.Prelude.{◌≡◌, ◌≤◌, ◌⊎◌, ℕ, Bool, List}
use mathlib.Core.List.{IsPrefix}
use Rattle.ixp_num.specs.declared.roa.Roa.{Roa}
use Rattle.ixp_num_sorted.specs.Keys.{roa_key}
use Rattle.ixp_num_sorted.specs.Sorted.{IsInOrder}
use Rattle.ixp_registry.specs.declared.registry.Registry.{Registry}
use Rattle.ixp_board.specs.Histories.{entries}
use Rattle.ixp_desk_history.specs.declared.turn.First.{First}
use Rattle.ixp_desk_history.specs.declared.turn.Turn.{Turn}
use Rattle.ixp_desk_history.specs.Legal.{Legal}
use Rattle.ixp_desk_history.specs.Turns.{IsVersion}
use Rattle.ixp_desk_lock.specs.declared.fault.TurnFault.{TurnFault}
use Rattle.ixp_desk_lock.specs.declared.fault.TurnFault.TheVariants.{SeatCount, Ended, NoMemory}
use Rattle.ixp_desk_lock.specs.Calls.{AtMostOne, One, OtherCount, Own, SeatEnded}
use Rattle.ixp_desk_lock.specs.Facts.{HasAccepted, Log}
use Rattle.ixp_desk_lock.specs.Published.{IsInstall}
use Rattle.ixp_desk_lock.specs.Sights.{Sight}
use Rattle.ixp_rtr.specs.declared.cache.RtrCache.{RtrCache}
use Rattle.ixp_rtr.specs.declared.pdu.Pdu.{Pdu}
use Rattle.ixp_rtr.specs.declared.query.Query.{Query}
use Rattle.ixp_rtr.specs.Answers.{answer}
use Rattle.ixp_rtr.specs.Caches.{Updates}
use Rattle.ixp_rtr.specs.Clients.{BringsPresent}

-- These are the ROAs of the version with this count of the history.
pub record AreRoasAt (log : Log) (count : ℕ) (roas : List Roa) : Type 0 where
  pub first : First
  pub turns : List Turn
  pub is : log ≡ entries first turns
  pub legal : Legal first turns
  pub registry : Registry
  pub version : IsVersion first turns count registry
  pub roas_are : roas ≡ registry.public.roas

-- The ROAs of one version of the history that the seat has seen at the return. It contains every edit of the
-- history that the call looked at, which begins with all that the seat had seen. The seat made no turn, or
-- one that installs texts.
pub record GivesRoas (count : ℕ) (roas : List Roa) (s t : Sight) : Type 0 where
  pub at : AreRoasAt t.2 count roas
  pub looked : Log
  pub later : IsPrefix s.2 looked
  pub begins : IsPrefix looked t.2
  pub contains : (n : ℕ) → HasAccepted looked n → n ≤ count
  pub contains_seen : (n : ℕ) → HasAccepted s.2 n → n ≤ count
  pub turns : (t.1 ≡ s.1) ⊎ Own (One IsInstall) s t

-- why no ROAs are given
abbrev pub RoasFault : TurnFault → Sight → Sight → Type 0
RoasFault (SeatCount a b) s t = OtherCount a b s t
RoasFault (Ended n) s t = SeatEnded n s t
RoasFault NoMemory s t = AtMostOne s t

-- the set has the ROAs of the version with this count, in order
abbrev pub HoldsRoas : Log → ℕ → List Roa → Type 0
HoldsRoas log count set = (roas : List Roa) × AreRoasAt log count roas × IsInOrder roa_key roas set

-- a cache, and what the seat that keeps it up to date has seen
abbrev pub Kept : Type 0
Kept = RtrCache × Sight

-- A cache after an update, or as it was.
abbrev pub IsUpdated : RtrCache → RtrCache → Type 0
IsUpdated before now = (set : List Roa) × (changed : Bool) × Updates before set changed now

-- The cache was brought to the ROAs of one version, which contains every edit that was accepted when the call
-- looked.
pub record IsFresh (before after : Kept) : Type 0 where
  pub count : ℕ
  pub roas : List Roa
  pub gives : GivesRoas count roas before.1 after.1
  pub present : IsInOrder roa_key roas after.0.present

-- A query was answered by a cache that was brought to the ROAs of one version in this way. A router that has
-- the set which its query names has exactly these ROAs after the answer.
pub record Answers (query : Query) (pdus : List Pdu) (before after : Kept) : Type 0 where
  pub fresh : IsFresh before after
  pub updated : IsUpdated before.0 after.0
  pub answered : pdus ≡ answer after.0 query
  pub brings : BringsPresent after.0 query
