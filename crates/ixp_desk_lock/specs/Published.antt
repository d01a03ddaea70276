-- Configurations that are handed out: of which version, and with which turns.
use Rattle.std.specs.Prelude.{◌≡◌, ◌≤◌, ◌<◌, ℕ, nat_lt, List, [], Option, Some, None, if◌then◌else◌}
use mathlib.Core.List.{IsPrefix}
use Rattle.ixp_num_tables.specs.Tables.{find}
use Rattle.ixp_print.specs.Texts.{config_text}
use Rattle.ixp_registry.specs.declared.members.Owner.{Owner}
use Rattle.ixp_registry.specs.declared.registry.Registry.{Registry}
use Rattle.ixp_registry.specs.declared.router.Router.{Router}
use Rattle.ixp_registry.specs.Keys.{router_key}
use Rattle.ixp_compile.specs.Generated.{generated}
use Rattle.ixp_board.specs.Histories.{entries}
use Rattle.ixp_build.specs.Bundles.{built_of, roas_of, text_of}
use Rattle.ixp_desk_history.specs.declared.turn.Answered.TheVariants.{Place}
use Rattle.ixp_desk_history.specs.declared.turn.Asked.TheVariants.{Seen}
use Rattle.ixp_desk_history.specs.declared.turn.Event.{Event}
use Rattle.ixp_desk_history.specs.declared.turn.Event.TheVariants.{Install}
use Rattle.ixp_desk_history.specs.declared.turn.First.{First}
use Rattle.ixp_desk_history.specs.declared.turn.Shown.{Shown}
use Rattle.ixp_desk_history.specs.declared.turn.Text.{Text}
use Rattle.ixp_desk_history.specs.declared.turn.Turn.{Turn}
use Rattle.ixp_desk_history.specs.Legal.{Legal}
use Rattle.ixp_desk_history.specs.Turns.{built_after, IsVersion}
use Rattle.ixp_desk_lock.specs.declared.fault.PubFault.{PubFault}
use Rattle.ixp_desk_lock.specs.declared.fault.PubFault.TheVariants as pub_fault
use Rattle.ixp_desk_lock.specs.declared.fault.TurnFault.{TurnFault}
use Rattle.ixp_desk_lock.specs.declared.fault.TurnFault.TheVariants as turn
use Rattle.ixp_desk_lock.specs.Calls.{AtMostOne, One, OtherCount, Own, SeatEnded}
use Rattle.ixp_desk_lock.specs.Facts.{HasAccepted, HasBuilt, IsQuestion, Log}
use Rattle.ixp_desk_lock.specs.Publishing.{Adds, Both}
use Rattle.ixp_desk_lock.specs.Sights.{Sight}

abbrev pub greater : ℕ → ℕ → ℕ
greater a b = if nat_lt a b then b else a

-- Of what is shown.

-- the text of the router with the handle, as the bundle has it
abbrev pub Reads : Shown → List ℕ → Option Text → Type 0
Reads v handle None = text_of v.bundle handle ≡ None
Reads v handle (Some t) = (text_of v.bundle handle ≡ Some t.bytes) × (t.built ≡ built_of v.bundle)
    × (t.roas ≡ roas_of v.bundle)

-- Of the history.

-- The text is that of full generation from one version of the history, which has at least so many accepted
-- edits.
pub record IsTextAt (now : Log) (need : ℕ) (handle : List ℕ) (text : Text) : Type 0 where
  pub first : First
  pub turns : List Turn
  pub is : now ≡ entries first turns
  pub legal : Legal first turns
  pub registry : Registry
  pub version : IsVersion first turns text.built registry
  pub must : need ≤ text.built
  pub router : Router
  pub is_there : find router_key handle registry.routers ≡ Some router
  pub bytes : text.bytes ≡ config_text (generated registry router)
  pub roas : text.roas ≡ registry.public.roas

-- One version of the history, which has at least so many accepted edits, has no router with the handle.
pub record HasNoRouter (now : Log) (need : ℕ) (handle : List ℕ) : Type 0 where
  pub first : First
  pub turns : List Turn
  pub is : now ≡ entries first turns
  pub legal : Legal first turns
  pub registry : Registry
  pub count : ℕ
  pub version : IsVersion first turns count registry
  pub must : need ≤ count
  pub none : find router_key handle registry.routers ≡ None

abbrev pub ReadsAt : Log → ℕ → List ℕ → Option Text → Type 0
ReadsAt now need handle None = HasNoRouter now need handle
ReadsAt now need handle (Some text) = IsTextAt now need handle text

-- the version that is shown has at least so many accepted edits
abbrev pub IsBuilt : ℕ → Log → Type 0
IsBuilt need log = (f : First) (ts : List Turn) → log ≡ entries f ts → need ≤ built_after f ts

-- no more than the accepted edits
abbrev pub IsLow : Log → ℕ → Type 0
IsLow log n = (m : ℕ) × HasAccepted log m × (n ≤ m)

-- Turns.

-- one turn asks after the edit that was seen, if one is named, and tells its place; 0 stands where none is
-- named
abbrev pub Places : Owner → Option ℕ → ℕ → List Event → Type 0
Places owner None place vs = (vs ≡ []) × (place ≡ 0)
Places owner (Some number) place vs = One (IsQuestion (Seen owner number) (Place (Some place))) vs

-- texts were installed
abbrev pub IsInstall : Event → Type 0
IsInstall v = (upto : ℕ) × (v ≡ Install upto)

-- one turn installs texts, where those that were shown at this history are older than what must be contained;
-- else there is none
pub record Brings (at : Log) (need : ℕ) (vs : List Event) : Type 0 where
  pub older : (built : ℕ) → HasBuilt at built → built < need → One IsInstall vs
  pub newer : (built : ℕ) → HasBuilt at built → need ≤ built → vs ≡ []

-- the turns of a publication: it asks, and then brings the texts up to what must be contained
pub record Publishes (owner : Owner) (must : ℕ) (seen : Option ℕ) (handle : List ℕ) (o : Option Text)
    (s t : Sight) : Type 0 where
  pub place : ℕ
  pub at : Log
  pub begins : IsPrefix at t.2
  pub turns : Own (Both (Places owner seen place) (Brings at (greater must place))) s t
  pub read : ReadsAt t.2 (greater must place) handle o

-- why nothing is handed out
abbrev pub PubSays : Owner → Option ℕ → PubFault → Sight → Sight → Type 0
PubSays owner seen (pub_fault.Refused x) s t = ⊥
PubSays owner seen (pub_fault.SeenUnknown n) s t =
    (seen ≡ Some n) × Own (One (IsQuestion (Seen owner n) (Place None))) s t
PubSays owner seen pub_fault.NoRouter s t = ⊥
PubSays owner seen (pub_fault.SeatCount a b) s t = OtherCount a b s t
PubSays owner seen (pub_fault.Ended n) s t = SeatEnded n s t
PubSays owner seen pub_fault.NoMemory s t = AtMostOne s t

-- what asking after an edit leaves, of a level seat
abbrev pub PlaceSays : Owner → Option ℕ → PubFault → Sight → Sight → Type 0
PlaceSays owner seen (pub_fault.SeenUnknown n) s t =
    (seen ≡ Some n) × Adds (One (IsQuestion (Seen owner n) (Place None))) s t
PlaceSays owner seen pub_fault.NoMemory s t = t ≡ s
PlaceSays owner seen x s t = ⊥

abbrev pub SamePub : TurnFault → PubFault → Type 0
SamePub (turn.SeatCount a b) f = f ≡ pub_fault.SeatCount a b
SamePub (turn.Ended n) f = f ≡ pub_fault.Ended n
SamePub turn.NoMemory f = f ≡ pub_fault.NoMemory
