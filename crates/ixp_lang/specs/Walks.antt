-- A route's way through a configuration, from the session that brings it to all others (BIRD 2 User's Guide,
-- chapters "Architecture" and "Protocols", BGP and Pipe). The route is taken alone: no other route competes.
use Rattle.std.specs.Prelude.{ℕ, true, false, ◌&&◌, List, [], ◌∷◌, reverse, Option, Some, None, Result, Ok, Err, if◌then◌else◌}
use Rattle.ixp_num.specs.declared.roa.Roa.{Roa}
pub use Rattle.ixp_num.specs.Reading.{◌>>=◌}
use Rattle.ixp_lang.specs.declared.route.Route.{Route}
use Rattle.ixp_lang.specs.declared.route.Verdict.{Verdict}
use Rattle.ixp_lang.specs.declared.route.Verdict.TheVariants.{Accept, Reject}
use Rattle.ixp_lang.specs.declared.fate.Fate.{Fate}
use Rattle.ixp_lang.specs.declared.item.Use.{Use}
use Rattle.ixp_lang.specs.declared.item.Use.TheVariants.{All, Nothing, Named}
use Rattle.ixp_lang.specs.declared.item.Pipe.{Pipe}
use Rattle.ixp_lang.specs.declared.item.Bgp.{Bgp}
use Rattle.ixp_lang.specs.Faults.{Fault, no_filter}
use Rattle.ixp_lang.specs.Trees.{ItemTree, router_id_item, table_item, define_item, function_item, filter_item, device_item, pipe_item, bgp_item}
use Rattle.ixp_lang.specs.Meaning.{Environment, same_name, filter_end}

-- the sessions and the pipes, in the order of the text
abbrev pub bgp_sessions : List ItemTree → List Bgp
bgp_sessions [] = []
bgp_sessions (bgp_item b ∷ is) = b ∷ bgp_sessions is
bgp_sessions (router_id_item a ∷ is) = bgp_sessions is
bgp_sessions (table_item t n ∷ is) = bgp_sessions is
bgp_sessions (define_item n e ∷ is) = bgp_sessions is
bgp_sessions (function_item n ps ss ∷ is) = bgp_sessions is
bgp_sessions (filter_item n ss ∷ is) = bgp_sessions is
bgp_sessions (device_item n ∷ is) = bgp_sessions is
bgp_sessions (pipe_item p ∷ is) = bgp_sessions is

abbrev pub pipes_of : List ItemTree → List Pipe
pipes_of [] = []
pipes_of (pipe_item p ∷ is) = p ∷ pipes_of is
pipes_of (router_id_item a ∷ is) = pipes_of is
pipes_of (table_item t n ∷ is) = pipes_of is
pipes_of (define_item n e ∷ is) = pipes_of is
pipes_of (function_item n ps ss ∷ is) = pipes_of is
pipes_of (filter_item n ss ∷ is) = pipes_of is
pipes_of (device_item n ∷ is) = pipes_of is
pipes_of (bgp_item b ∷ is) = pipes_of is

-- the session of the name
abbrev pub session_named : List Bgp → List ℕ → Option Bgp
session_named [] n = None
session_named (b ∷ bs) n = if same_name b.name n then Some b else session_named bs n

-- the pipe that has the table as its peer
abbrev pub pipe_from : List Pipe → List ℕ → Option Pipe
pipe_from [] table = None
pipe_from (p ∷ ps) table = if same_name p.peer table then Some p else pipe_from ps table

-- the pipe between a primary table and a peer
abbrev pub pipe_between : List Pipe → List ℕ → List ℕ → Option Pipe
pipe_between [] primary peer = None
pipe_between (p ∷ ps) primary peer =
    if same_name p.table primary && same_name p.peer peer then Some p else pipe_between ps primary peer

-- the route in no other table
abbrev pub dropped : Fate
dropped = record { table = None; passed = false; sent = [] }

abbrev pub kept : Route → Fate
kept r = record { table = Some r; passed = false; sent = [] }

module _ (env : Environment) (items : List ItemTree) where
  -- what a protocol lets through
  abbrev pub through : Use → Route → Result Verdict Fault
  through All r = Ok (Accept r)
  through Nothing r = Ok Reject
  through (Named n) r = filter_end env (reverse items) n r

  -- through the receiving session's export
  abbrev pub sent_out : Verdict → Result (Option Route) Fault
  sent_out Reject = Ok None
  sent_out (Accept r) = Ok (Some r)

  abbrev pub from_pipe : Bgp → Verdict → Result (Option Route) Fault
  from_pipe receiver Reject = Ok None
  from_pipe receiver (Accept r) = through receiver.export r >>= sent_out

  abbrev pub into_pipe : Bgp → Option Pipe → Route → Result (Option Route) Fault
  into_pipe receiver None r = Ok None
  into_pipe receiver (Some p) r = through p.export r >>= from_pipe receiver

  -- what a session is sent of a route in the primary table: what the pipe to its table and its own export let
  -- through
  abbrev pub sent_through : List ℕ → Bgp → Route → Result (Option Route) Fault
  sent_through primary receiver r =
      into_pipe receiver (pipe_between (pipes_of items) primary receiver.table) r

  -- what each session but the sender is sent
  abbrev pub sent_to : List ℕ → List ℕ → List Bgp → Route → Result (List (List ℕ × Option Route)) Fault
  sent_to sender primary [] r = Ok []
  sent_to sender primary (b ∷ bs) r =
      if same_name b.name sender then sent_to sender primary bs r
      else (sent_through primary b r >>= λ x. sent_to sender primary bs r >>= λ xs. Ok ((b.name, x) ∷ xs))

  abbrev pub in_primary : Bgp → Pipe → Route → Verdict → Result Fate Fault
  in_primary sender p r Reject = Ok (kept r)
  in_primary sender p r (Accept q) =
      sent_to sender.name p.table (bgp_sessions items) q >>= λ xs. Ok
      (record { table = Some r; passed = true; sent = xs })

  abbrev pub to_primary : Bgp → Option Pipe → Route → Result Fate Fault
  to_primary sender None r = Ok (kept r)
  to_primary sender (Some p) r = through p.import r >>= in_primary sender p r

  abbrev pub in_table : Bgp → Verdict → Result Fate Fault
  in_table sender Reject = Ok dropped
  in_table sender (Accept r) = to_primary sender (pipe_from (pipes_of items) sender.table) r

  -- a route that a session brings
  abbrev pub brought : Bgp → Route → Result Fate Fault
  brought sender r = through sender.import r >>= in_table sender

abbrev pub walk_from : List ItemTree → List (List ℕ × List Roa) → List ℕ → Option Bgp → Route
    → Result Fate Fault
walk_from items roas session None r = Err (no_filter session)
walk_from items roas session (Some b) r = brought (record { from = b.neighbor; roas = roas }) items b r

-- what the configuration does with a route from the session of the name; the items stand in the order of the
-- text
abbrev pub walk : List ItemTree → List (List ℕ × List Roa) → List ℕ → Route → Result Fate Fault
walk items roas session r = walk_from items roas session (session_named (bgp_sessions items) session) r
