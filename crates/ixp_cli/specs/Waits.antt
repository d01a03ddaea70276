-- How the commands end that wait: `session` and `serve`.
use Rattle.std.specs.Prelude.{◌≡◌, ◌⊎◌, ℕ, Bool, true, false, List, [], ◌∷◌, ◌++◌, Option, None, Some, is_some, codes, decimal}
use Rattle.ixp_io.specs.Faults.{Rose}
use Rattle.ixp_io.specs.Told.{Takes, TakesPart}
use Rattle.ixp_io_workers.specs.Doors.{Gave}
use Rattle.ixp_desk_serve.specs.declared.server.ServerEnd.{ServerEnd}
use Rattle.ixp_desk_serve.specs.declared.server.ServerEnd.TheVariants as server
use Rattle.ixp_desk_serve.specs.declared.session.SessionEnd.{SessionEnd}
use Rattle.ixp_desk_serve.specs.declared.session.SessionEnd.TheVariants as session
use Rattle.ixp_desk_serve.specs.Servers.{ServerEnds}
use Rattle.ixp_desk_serve.specs.Sessions.{Objects, SessionEnds}
use Rattle.ixp_cli_plain.specs.declared.command.Command.{Command}
use Rattle.ixp_cli_plain.specs.declared.command.Command.TheVariants.{Ask, Ixf, Restore, Dump, Upgrade, Demo, Wait}
use Rattle.ixp_cli_plain.specs.declared.command.Waiting.{Waiting}
use Rattle.ixp_cli_plain.specs.declared.command.Waiting.TheVariants.{Session, Serve}
use Rattle.ixp_cli_plain.specs.declared.end.End.{End}
use Rattle.ixp_cli_plain.specs.declared.end.End.TheVariants.{Done, WriteFault, NoMemory, DoorFault}
use Rattle.ixp_cli_plain.specs.Restores.{Store}
use Rattle.ixp_cli_plain.specs.Runs.{Flow, IsTold, Outside, PlainRuns, waits}
use Rattle.ixp_cli_plain.specs.Sessions.{Unloaded}
use Rattle.ixp_cli.specs.Ends.{end_of}

-- how a run ends by how its session did
abbrev pub IsEndOf : SessionEnd → End → Type 0
IsEndOf (session.Unopened fault) end = Unloaded fault end
IsEndOf session.NoMemory end = end ≡ NoMemory
IsEndOf (session.Served served) end = end ≡ end_of served

-- A session was run, and the run ends as it did.
abbrev pub SessionRuns : Objects → Objects → End → Type 0
SessionRuns before after end = (e : SessionEnd) × SessionEnds before after e × IsEndOf e end

-- what a door tells at a moment: how many links it gave, and how many of its calls failed
pub record DoorAt : Type 0 where
  pub given : Option ℕ
  pub faults : ℕ

-- what is written once so many links were served
abbrev pub served_text : ℕ → List ℕ
served_text n = codes "served " ++ (decimal n ++ 10 ∷ [])

-- and once so many links of routers were, where there was a door for them
abbrev pub routers_text : Option ℕ → List ℕ
routers_text None = []
routers_text (Some n) = codes "rtr " ++ (decimal n ++ 10 ∷ [])

abbrev pub served_lines : ℕ → Option ℕ → List ℕ
served_lines n routers = served_text n ++ routers_text routers

-- the output took that so many links were served, and so many of routers, or a first part of it, and a write
-- failed
abbrev pub IsServed : ℕ → Option ℕ → Flow → Flow → End → Type 0
IsServed n routers output output' end =
    ((end ≡ Done) × Takes output.bytes output'.bytes (served_lines n routers))
    ⊎ ((end ≡ WriteFault) × TakesPart output.bytes output'.bytes (served_lines n routers)
    × Rose output.faults output'.faults)

-- how a run ends by how its server did, and what is written
abbrev pub IsServerEnd : ℕ → Flow → Flow → ServerEnd → End → Type 0
IsServerEnd n output output' (server.Served routers) end = IsServed n routers output output' end
IsServerEnd n output output' server.DoorFault end = (end ≡ DoorFault) × (output' ≡ output)
IsServerEnd n output output' server.NoMemory end = (end ≡ NoMemory) × (output' ≡ output)
IsServerEnd n output output' (server.Unopened fault) end = Unloaded fault end × (output' ≡ output)

-- A server of so many links was run, with a further door for routers or without one, and the run ends as it
-- did.
abbrev pub ServeRuns : Bool → ℕ → Flow → Flow → Store → Store → DoorAt → DoorAt → End → Type 0
ServeRuns further n output output' store store' door door' end =
    (e : ServerEnd) × ServerEnds further store.rows store'.rows store.faults store'.faults door.given door'.given door.faults door'.faults n e
    × IsServerEnd n output output' e end

-- the objects of a session
abbrev pub objects : Flow → Flow → Store → Option ℕ → Objects
objects input output store given = record {
  rows = store.rows;
  faults = store.faults;
  left = input.bytes;
  reads = input.faults;
  written = output.bytes;
  writes = output.faults;
  given = given;
}

-- How a command ends that waits. A session doesn't touch the door, and a server doesn't read.
abbrev pub WaitEnds : Waiting → Flow → Flow → Flow → Flow → Store → Store → Option ℕ → Option ℕ → DoorAt
    → DoorAt → End → Type 0
WaitEnds Session input input' output output' store store' given given' door door' end =
    SessionRuns (objects input output store given) (objects input' output' store' given') end × (door' ≡ door)
WaitEnds (Serve port workers links routers) input input' output output' store store' given given' door door' end =
    ServeRuns (is_some routers) links output output' store store' door door' end × (input' ≡ input)

-- A run of a command that waits: it ends in one way, which its status says, and of which a line on the errors
-- tells.
pub record WaitRuns (waiting : Waiting) (before after : Outside) (door door' : DoorAt)
    (status : ℕ) : Type 0 where
  pub end : End
  pub ends : WaitEnds waiting before.input after.input before.output after.output before.store after.store before.second after.second door door' end
  pub told : IsTold end before.errors after.errors (Some status)

-- A run: of a command that doesn't wait, which leaves the door alone, or of one that does.
abbrev pub AllRuns : Option Command → Outside → Outside → DoorAt → DoorAt → ℕ → Type 0
AllRuns command before after door door' status =
    (PlainRuns command before after (Some status) × (door' ≡ door))
    ⊎ ((waiting : Waiting) × (command ≡ Some (Wait waiting))
    × WaitRuns waiting before after door door' status)

-- The door gave as many links as were asked for, which is written. How many a further door gave is written
-- exactly where there was one.
abbrev pub ServedAll : Bool → ℕ → Flow → Flow → DoorAt → DoorAt → Type 0
ServedAll further n output output' door door' =
    Gave door.given door'.given n × ((routers : Option ℕ) × (is_some routers ≡ further)
    × Takes output.bytes output'.bytes (served_lines n routers))

-- All was served, or memory ran out.
abbrev pub ServesAll : Bool → ℕ → Outside → Outside → DoorAt → DoorAt → ℕ → Type 0
ServesAll further n before after door door' status =
    (status ≡ 8) ⊎ ((status ≡ 0) × ServedAll further n before.output after.output door door')

-- the command loads the store, of today's version
abbrev pub loads_store : Command → Bool
loads_store Dump = true
loads_store (Wait waiting) = true
loads_store (Ask question) = false
loads_store Ixf = false
loads_store Restore = false
loads_store Upgrade = false
loads_store (Demo members) = false
