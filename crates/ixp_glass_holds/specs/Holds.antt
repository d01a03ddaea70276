-- Histories of holds: which routes sessions are known to announce.
use Rattle.std.specs.Prelude.{◌≤◌, ◌<◌, List, [], ◌∷◌, length, Option, Some, None}
use Rattle.std.specs.List.{All, AllByRecursion}
use Rattle.ixp_num_tables.specs.Tables.{put, without}
use Rattle.ixp_lang.specs.declared.route.Route.{Route}
use Rattle.ixp_lang.specs.RouteAnswers.{IsOfOneFamily}
use Rattle.ixp_lang.specs.RouteTexts.{AsnFits, PairFits, TripleFits}
use Rattle.ixp_glass_holds.specs.declared.hold.Hold.{Hold}
use Rattle.ixp_glass_holds.specs.declared.hold.TheConstants.{MOST_ROUTES, MOST_SESSIONS}
use Rattle.ixp_glass_holds.specs.Keys.{hold_key}

-- A route that a session can announce: net and next hop are of one family, the numbers of its path and of its
-- large communities have 32 bits, and those of its communities 16. Every route that is read from a text is.
pub record IsWellFormed (r : Route) : Type 0 where
  pub one_family : IsOfOneFamily r
  pub path : AllByRecursion AsnFits r.path
  pub pairs : AllByRecursion PairFits r.pairs
  pub triples : AllByRecursion TripleFits r.triples

-- routes that a session may hold
pub record AreHoldable (routes : List Route) : Type 0 where
  pub few : length routes ≤ MOST_ROUTES
  pub formed : All IsWellFormed routes

-- what is held of a session that holds any
abbrev pub MayAnnounce : List Route → Type 0
MayAnnounce routes = (0 < length routes) × AreHoldable routes

-- what a session holds that was told to hold these routes
abbrev pub some_of : List Route → Option (List Route)
some_of [] = None
some_of (r ∷ rs) = Some (r ∷ rs)

abbrev pub instead : List Route → Hold → List Hold → List Hold
instead [] h rows = without hold_key (hold_key h) rows
instead (r ∷ rs) h rows = put hold_key h rows

-- what sessions hold once this one holds these routes and no others; without routes it holds nothing
abbrev pub with_hold : Hold → List Hold → List Hold
with_hold h rows = instead h.routes h rows

abbrev pub held_from : List Hold → List Hold → List Hold
held_from rows [] = rows
held_from rows (h ∷ hs) = held_from (with_hold h rows) hs

-- what sessions hold after these turns; at first they hold nothing
abbrev pub held_after : Unit {0} → List Hold → List Hold
held_after first turns = held_from [] turns

-- from what sessions hold each turn goes on: its routes may be held, and no more than 16 sessions hold any
-- then
abbrev pub GoesOn : List Hold → List Hold → Type 0
GoesOn rows [] = Unit {0}
GoesOn rows (h ∷ hs) = AreHoldable h.routes × (length (with_hold h rows) ≤ MOST_SESSIONS)
    × GoesOn (with_hold h rows) hs

abbrev pub Legal : Unit {0} → List Hold → Type 0
Legal first turns = GoesOn [] turns
