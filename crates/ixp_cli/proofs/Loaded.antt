-- Of a store that can be loaded neither damage nor an older version is told.
use Rattle.std.proofs.Common.{◌≡◌, inl, inr, ℕ, Bool, true, false, Option, Some, None, is_some, Err, refl, sym, subst, arith, ◌∙◌, ap}
use Rattle.ixp_io.specs.Tables.{Table}
use Rattle.ixp_store_words.specs.Answers.{LoadsAll}
use Rattle.ixp_store_words.specs.declared.fault.LoadFault.{LoadFault}
use Rattle.ixp_desk_serve.specs.declared.server.ServerEnd.{ServerEnd}
use Rattle.ixp_desk_serve.specs.declared.server.ServerEnd.TheVariants as server
use Rattle.ixp_desk_serve.specs.declared.session.SessionEnd.{SessionEnd}
use Rattle.ixp_desk_serve.specs.declared.session.SessionEnd.TheVariants as session
use Rattle.ixp_desk_serve.specs.Servers.{ServerEnds}
use Rattle.ixp_desk_serve.specs.Sessions.{Objects, SessionEnds}
use Rattle.ixp_cli_plain.specs.declared.command.Command.{Command}
use Rattle.ixp_cli_plain.specs.declared.command.Waiting.{Waiting}
use Rattle.ixp_cli_plain.specs.declared.command.Waiting.TheVariants.{Session, Serve}
use Rattle.ixp_cli_plain.specs.declared.end.End.{End}
use Rattle.ixp_cli_plain.specs.declared.end.End.TheVariants.{Done, WriteFault, NoMemory}
use Rattle.ixp_cli_plain.specs.Restores.{Store}
use Rattle.ixp_cli_plain.specs.Runs.{CanBeLoaded, Flow, Outside, Runs, status_of}
use Rattle.ixp_cli_plain.specs.Sessions.{Unloaded}
use Rattle.ixp_cli_plain.proofs.Loadable.{of_store, one_status}
use Rattle.ixp_cli_plain.proofs.Loadable as plain
use Rattle.ixp_cli.specs.Waits.{AllRuns, DoorAt, IsEndOf, IsServerEnd, WaitEnds, objects}
use Rattle.ixp_cli.proofs.Statuses.{failed_status, fails, holds_at, served_status, serves}

no : false ≡ true → ⊥
no e = cc

fails_none : (s : Store) (fault : LoadFault) (end : End) (n : ℕ) → CanBeLoaded s → LoadsAll s.rows (Err fault) → fails n ≡ false → status_of end ≡ n → Unloaded fault end → ⊥
fails_none s fault end n can loads isnt is un = no (sym isnt ∙ holds_at fails end n is (failed_status fault end (of_store s fault can loads) un))

serves_none : (end : End) (n : ℕ) → serves n ≡ false → status_of end ≡ n → serves (status_of end) ≡ true → ⊥
serves_none end n isnt is holds = no (sym isnt ∙ holds_at serves end n is holds)

-- A status that neither a failing store brings, nor a session that was served, nor a door.
module _ (n : ℕ) (fails_not : fails n ≡ false) (serves_not : serves n ≡ false) (door_not : n ≡ 7 → ⊥) where
  by : (end e : End) → status_of end ≡ n → end ≡ e → serves (status_of e) ≡ true → ⊥
  by end e is same holds = serves_none end n serves_not is (subst (λ (x : End). serves (status_of x) ≡ true) (sym same) holds)

  session_status : (s : Store) (before after : Objects) (x : SessionEnd) (end : End) → CanBeLoaded s → before.rows ≡ s.rows → status_of end ≡ n
      → SessionEnds before after x → IsEndOf x end → ⊥
  session_status s before after (session.Unopened fault) end can rows is (unused, loads, same, cause) ends =
      fails_none s fault end n can (subst (λ (r : Option Table). LoadsAll r (Err fault)) rows loads.all) fails_not is ends
  session_status s before after session.NoMemory end can rows is e ends = by end NoMemory is ends refl
  session_status s before after (session.Served served) end can rows is e ends = serves_none end n serves_not is (served_status served end ends)

  server_status : (f : Bool) (k : ℕ) (o p : Flow) (s t : Store) (d e : DoorAt) (x : ServerEnd) (end : End) → CanBeLoaded s → status_of end ≡ n
      → ServerEnds f s.rows t.rows s.faults t.faults d.given e.given d.faults e.faults k x → IsServerEnd k o p x end → ⊥
  server_status f k o p s t d e (server.Served routers) end can is ends (inl (same, takes)) = by end Done is same refl
  server_status f k o p s t d e (server.Served routers) end can is ends (inr (same, part, rose)) = by end WriteFault is same refl
  server_status f k o p s t d e server.DoorFault end can is ends (same, output) = door_not (sym is ∙ ap status_of same)
  server_status f k o p s t d e server.NoMemory end can is ends (same, output) = by end NoMemory is same refl
  server_status f k o p s t d e (server.Unopened fault) end can is (loads, rows, cause, links, doors) (un, output) = fails_none s fault end n can loads.all fails_not is un

  wait_status : (w : Waiting) (before after : Outside) (d e : DoorAt) (end : End) → CanBeLoaded before.store → status_of end ≡ n
      → WaitEnds w before.input after.input before.output after.output before.store after.store before.second after.second d e end → ⊥
  wait_status Session before after d e end can is ((x, ends, same), door) =
      session_status before.store (objects before.input before.output before.store before.second) (objects after.input after.output after.store after.second) x end can refl is ends same
  wait_status (Serve port workers k routers) before after d e end can is ((x, ends, same), input) =
      server_status (is_some routers) k before.output after.output before.store after.store d e x end can is ends same

  never : (command : Option Command) (before after : Outside) (d e : DoorAt) → CanBeLoaded before.store → (Runs command before after (Some n) → ⊥) → AllRuns command before after d e n → ⊥
  never command before after d e can plain (inl ((still, runs), same)) = plain runs
  never command before after d e can plain (inr (waiting, is, r)) = wait_status waiting before after d e r.end can (sym (one_status n (status_of r.end) r.told.0)) r.ends

pub never_damaged : (command : Option Command) (before after : Outside) (d e : DoorAt) → CanBeLoaded before.store → AllRuns command before after d e 6 → ⊥
never_damaged command before after d e can = never 6 refl refl (λ s. omega (arith, s)) command before after d e can (λ r. plain.never_damaged command before after (Some 6) can r refl)

pub never_old : (command : Option Command) (before after : Outside) (d e : DoorAt) → CanBeLoaded before.store → AllRuns command before after d e 10 → ⊥
never_old command before after d e can = never 10 refl refl (λ s. omega (arith, s)) command before after d e can (λ r. plain.never_old command before after (Some 10) can r refl)
