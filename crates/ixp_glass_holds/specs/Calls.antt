-- What calls that hold routes do, and what a look gives.
use Rattle.std.specs.Prelude.{◌≡◌, ◌+◌, ℕ, Bool, not, ◌&&◌, nat_le, nat_lt, List, [], ◌∷◌, length, Option, Some, None, is_some, option_map, Result, Ok, Err, if◌then◌else◌}
use mathlib.Core.List.{IsPrefix}
use Rattle.ixp_num_tables.specs.Tables.{find}
use Rattle.ixp_num.specs.declared.family.Family.{Family}
use Rattle.ixp_num.specs.Families.{same_family}
use Rattle.ixp_lang.specs.declared.route.Route.{Route}
use Rattle.ixp_board.specs.declared.entry.Entry.{Entry}
use Rattle.ixp_board.specs.Histories.{entries, with_turn, IsLegal}
use Rattle.ixp_glass_holds.specs.declared.fault.HoldFault.{HoldFault}
use Rattle.ixp_glass_holds.specs.declared.fault.HoldFault.TheVariants as fault
use Rattle.ixp_glass_holds.specs.declared.hold.Hold.{Hold}
use Rattle.ixp_glass_holds.specs.declared.hold.TheConstants.{MOST_ROUTES, MOST_SESSIONS}
use Rattle.ixp_glass_holds.specs.Keys.{hold_key, session_key, session_of}
use Rattle.ixp_glass_holds.specs.Holds.{Legal, held_after}

-- the history of holds
abbrev pub Log : Type 0
Log = List (Entry (Unit {0}) Hold)

-- The history that a seat has seen begins with all that it had seen, and it is legal.
pub record Grows (before now : Log) : Type 0 where
  pub begins : IsPrefix before now
  pub legal : IsLegal Legal now

-- the router's session at the interface is to hold these routes
abbrev pub hold_of : List ℕ → ℕ → List Route → Hold
hold_of router interface routes = record { session = session_of router interface; routes = routes }

-- what the router's session at the interface holds
abbrev pub routes_of : List Hold → List ℕ → ℕ → Option (List Route)
routes_of rows router interface =
    option_map (λ h. h.routes) (find hold_key (session_key (session_of router interface)) rows)

-- after the history the session holds these routes, or nothing
abbrev pub IsHeld : Log → List ℕ → ℕ → Option (List Route) → Type 0
IsHeld log router interface x = (first : Unit {0}) (turns : List Hold) → log ≡ entries first turns
    → routes_of (held_after first turns) router interface ≡ x

-- the place of the first route of another family, where the first route is at this place
abbrev pub other_from : ℕ → Family → List Route → Option ℕ
other_from place family [] = None
other_from place family (r ∷ rs) =
    if same_family family r.net.family then other_from (place + 1) family rs else Some place

-- this session holds nothing, and as many others as may hold routes do
abbrev pub is_full : List Hold → Hold → Bool
is_full rows h = not (is_some (find hold_key (hold_key h) rows)) && nat_le MOST_SESSIONS (length rows)

-- too many routes, or routes of one session too many
abbrev pub is_crowded : List Hold → Hold → Bool
is_crowded rows h = nat_lt 0 (length h.routes) && is_full rows h

-- Why a session may not hold the routes, which are to be of the family, while sessions hold these: Z1 for the
-- routes, Z1 for the sessions, then Z2.
abbrev pub refusal : List Hold → Family → Hold → Option HoldFault
refusal rows family h =
    if nat_lt MOST_ROUTES (length h.routes) then Some (fault.TooMany (length h.routes) MOST_ROUTES)
    else (if is_crowded rows h then Some (fault.TooMany (MOST_SESSIONS + 1) MOST_SESSIONS)
    else option_map fault.Family (other_from 1 family h.routes))

-- what is held after the history tells this
abbrev pub IsRefused : Log → Family → Hold → Option HoldFault → Type 0
IsRefused log family h x = (first : Unit {0}) (turns : List Hold) → log ≡ entries first turns
    → refusal (held_after first turns) family h ≡ x

-- Where the routes are held, the seat has seen one turn that says so at the end of the history, and what was
-- held before it refuses nothing. Where they are refused, what is held after the history that the seat has
-- seen refuses them so. Where memory runs out the seat has seen nothing more.
abbrev pub MakesHold : Family → Hold → Result (Unit {0}) HoldFault → Log → Log → Type 0
MakesHold family h (Ok done) before now =
    (log : Log) × IsPrefix before log × (now ≡ with_turn log h) × IsRefused log family h None
MakesHold family h (Err fault.NoMemory) before now = now ≡ before
MakesHold family h (Err (fault.TooMany have limit)) before now =
    IsRefused now family h (Some (fault.TooMany have limit))
MakesHold family h (Err (fault.Family place)) before now = IsRefused now family h (Some (fault.Family place))
