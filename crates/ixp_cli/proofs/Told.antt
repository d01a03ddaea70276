-- Which stores are dumped whole, and which are told to be damaged or old.
use Rattle.std.proofs.Common.{◌≡◌, inl, inr, ℕ, Bool, true, false, Option, Some, is_some, Ok, Err, refl, sym, subst, arith, ◌∙◌, ap}
use Rattle.ixp_io.specs.Faults.{Rose}
use Rattle.ixp_io.specs.Tables.{Table}
use Rattle.ixp_io.specs.Told.{WhereTold}
use Rattle.ixp_machine_steps.specs.declared.state.State.{State}
use Rattle.ixp_store_words.specs.Answers.{LoadsAll, TellsVersion}
use Rattle.ixp_store_words.specs.declared.fault.LoadFault.{LoadFault}
use Rattle.ixp_store_words.specs.declared.fault.LoadFault.TheVariants as load
use Rattle.ixp_store_damage.specs.Damages.{TellsRow}
use Rattle.ixp_store_upgrade.specs.Upgrades.{FitsNoVersion}
use Rattle.ixp_desk.specs.Openings.{Loads}
use Rattle.ixp_desk_serve.specs.declared.server.ServerEnd.{ServerEnd}
use Rattle.ixp_desk_serve.specs.declared.server.ServerEnd.TheVariants as server
use Rattle.ixp_desk_serve.specs.declared.session.SessionEnd.{SessionEnd}
use Rattle.ixp_desk_serve.specs.declared.session.SessionEnd.TheVariants as session
use Rattle.ixp_desk_serve.specs.Servers.{ServerEnds}
use Rattle.ixp_desk_serve.specs.Sessions.{Objects, SessionEnds}
use Rattle.ixp_cli_plain.specs.declared.command.Command.{Command}
use Rattle.ixp_cli_plain.specs.declared.command.Command.TheVariants.{Ask, Ixf, Restore, Dump, Upgrade, Demo, Wait}
use Rattle.ixp_cli_plain.specs.declared.command.Waiting.{Waiting}
use Rattle.ixp_cli_plain.specs.declared.command.Waiting.TheVariants.{Session, Serve}
use Rattle.ixp_cli_plain.specs.declared.end.End.{End}
use Rattle.ixp_cli_plain.specs.declared.end.End.TheVariants.{Done, WriteFault, NoMemory}
use Rattle.ixp_cli_plain.specs.Demos.{demo_text}
use Rattle.ixp_cli_plain.specs.Dumps.{IsDamaged, IsOld, IsStatusOr, IsStoredAs, IsWhole, dump_of}
use Rattle.ixp_cli_plain.specs.Restores.{Store}
use Rattle.ixp_cli_plain.specs.Runs.{Flow, Holds, Outside, Runs, status_of}
use Rattle.ixp_cli_plain.specs.Sessions.{Unloaded}
use Rattle.ixp_cli_plain.specs.Upgraded.{Becomes, IsDamagedFor, IsWholeRaise}
use Rattle.ixp_cli_plain.proofs.Dumping as plain
use Rattle.ixp_cli_plain.proofs.Raising as raising
use Rattle.ixp_cli_plain.proofs.Loadable.{is_damage, is_version, one_status}
use Rattle.ixp_cli.specs.Waits.{AllRuns, DoorAt, IsEndOf, IsServerEnd, WaitEnds, loads_store, objects}
use Rattle.ixp_cli.proofs.Statuses.{holds_at, served_status, serves}

no : false ≡ true → ⊥
no e = cc

pub whole_dump : (s : State) (status : ℕ) (before after : Outside) (d e : DoorAt) → IsStoredAs before.store s → (Rose before.store.faults after.store.faults → ⊥)
    → (Rose before.output.faults after.output.faults → ⊥) → AllRuns (Some Dump) before after d e status → IsWhole (dump_of s) before after status
whole_dump s status before after d e stored store output (inl ((still, runs), same)) = plain.dump_is_whole s before after status stored store output runs
whole_dump s status before after d e stored store output (inr (waiting, is, r)) = let bad : ⊥ = cc in absurd bad

pub whole_demo : (n status : ℕ) (before after : Outside) (d e : DoorAt) → (Rose before.output.faults after.output.faults → ⊥) → AllRuns (Some (Demo n)) before after d e status
    → IsWhole (demo_text n) before after status
whole_demo n status before after d e output (inl ((still, runs), same)) = plain.demo_is_whole n before after status output runs
whole_demo n status before after d e output (inr (waiting, is, r)) = let bad : ⊥ = cc in absurd bad

pub whole_raise : (now : Table) (n status : ℕ) (before after : Outside) (d e : DoorAt) → Becomes before.store now n → (Rose before.store.faults after.store.faults → ⊥)
    → (Rose before.output.faults after.output.faults → ⊥) → AllRuns (Some Upgrade) before after d e status → IsWholeRaise now n before after status
whole_raise now n status before after d e becomes store output (inl ((still, runs), same)) = raising.raise_is_whole now n before after status becomes store output runs
whole_raise now n status before after d e becomes store output (inr (waiting, is, r)) = let bad : ⊥ = cc in absurd bad

pub refusal_told : (rows : Table) (status : ℕ) (before after : Outside) (d e : DoorAt) → before.store.rows ≡ Some rows → FitsNoVersion rows → AllRuns (Some Upgrade) before after d e status
    → IsStatusOr 6 before.store after.store (Some status)
refusal_told rows status before after d e there none (inl ((still, runs), same)) = raising.refusal_told rows before after (Some status) there none runs
refusal_told rows status before after d e there none (inr (waiting, is, r)) = let bad : ⊥ = cc in absurd bad

-- a status that comes of a store alone which isn't loaded, and what is told of its rows then
module _ (n : ℕ) (P : Table → Type 0) (serves_not : serves n ≡ false) (door_not : n ≡ 7 → ⊥)
    (told : (rows : Option Table) (fault : LoadFault) (end : End) → status_of end ≡ n → Unloaded fault end → WhereTold rows (TellsVersion (Err fault)) → LoadsAll rows (Err fault)
    → WhereTold rows (TellsRow (Err fault)) → WhereTold rows P) where
  by : (end e : End) → status_of end ≡ n → end ≡ e → serves (status_of e) ≡ true → ⊥
  by end e is same holds = no (sym serves_not ∙ holds_at serves end n is (subst (λ (x : End). serves (status_of x) ≡ true) (sym same) holds))

  by_session : (before after : Objects) (x : SessionEnd) (end : End) → status_of end ≡ n → SessionEnds before after x → IsEndOf x end → WhereTold before.rows P
  by_session before after (session.Unopened fault) end is (unused, loads, same, cause) ends = told before.rows fault end is ends loads.version loads.all loads.damage
  by_session before after session.NoMemory end is e ends = absurd (by end NoMemory is ends refl)
  by_session before after (session.Served served) end is e ends = absurd (no (sym serves_not ∙ holds_at serves end n is (served_status served end ends)))

  by_server : (f : Bool) (k : ℕ) (o p : Flow) (s t : Store) (d e : DoorAt) (x : ServerEnd) (end : End) → status_of end ≡ n
      → ServerEnds f s.rows t.rows s.faults t.faults d.given e.given d.faults e.faults k x → IsServerEnd k o p x end → WhereTold s.rows P
  by_server f k o p s t d e (server.Served routers) end is ends (inl (same, takes)) = absurd (by end Done is same refl)
  by_server f k o p s t d e (server.Served routers) end is ends (inr (same, part, rose)) = absurd (by end WriteFault is same refl)
  by_server f k o p s t d e server.DoorFault end is ends (same, output) = absurd (door_not (sym is ∙ ap status_of same))
  by_server f k o p s t d e server.NoMemory end is ends (same, output) = absurd (by end NoMemory is same refl)
  by_server f k o p s t d e (server.Unopened fault) end is (loads, rows, cause, links, doors) (un, output) = told s.rows fault end is un loads.version loads.all loads.damage

  by_wait : (w : Waiting) (before after : Outside) (d e : DoorAt) (end : End) → status_of end ≡ n
      → WaitEnds w before.input after.input before.output after.output before.store after.store before.second after.second d e end → WhereTold before.store.rows P
  by_wait Session before after d e end is ((x, ends, same), door) =
      by_session (objects before.input before.output before.store before.second) (objects after.input after.output after.store after.second) x end is ends same
  by_wait (Serve port workers k routers) before after d e end is ((x, ends, same), input) = by_server (is_some routers) k before.output after.output before.store after.store d e x end is ends same

  by_run : (command : Option Command) (before after : Outside) (d e : DoorAt) → (Runs command before after (Some n) → WhereTold before.store.rows P) → AllRuns command before after d e n
      → WhereTold before.store.rows P
  by_run command before after d e plainly (inl ((still, runs), same)) = plainly runs
  by_run command before after d e plainly (inr (waiting, is, r)) = by_wait waiting before after d e r.end (sym (one_status n (status_of r.end) r.told.0)) r.ends

damage_of : (rows : Option Table) (fault : LoadFault) (end : End) → status_of end ≡ 6 → Unloaded fault end → WhereTold rows (TellsVersion (Err fault)) → LoadsAll rows (Err fault)
    → WhereTold rows (TellsRow (Err fault)) → WhereTold rows IsDamaged
damage_of rows fault end is un version loads row =
    let x = is_damage end is in
    plain.damage_of rows fault x.0 (subst (λ (e : End). Unloaded fault e) x.1 un) version loads row

version_of : (rows : Option Table) (fault : LoadFault) (end : End) → status_of end ≡ 10 → Unloaded fault end → WhereTold rows (TellsVersion (Err fault)) → LoadsAll rows (Err fault)
    → WhereTold rows (TellsRow (Err fault)) → WhereTold rows IsOld
version_of rows fault end is un version loads row =
    let x = is_version end is in
    plain.version_of rows fault x.0 (subst (λ (e : End). Unloaded fault e) x.1 un) version

pub damaged : (command : Option Command) (before after : Outside) (d e : DoorAt) → AllRuns command before after d e 6 → WhereTold before.store.rows (IsDamagedFor command)
damaged command before after d e (inl ((still, runs), same)) = plain.damaged_run command before after runs
damaged command before after d e (inr (waiting, is, r)) =
    subst (λ (c : Option Command). WhereTold before.store.rows (IsDamagedFor c)) (sym is)
    (by_wait 6 IsDamaged refl (λ s. omega (arith, s)) damage_of waiting before after d e r.end (sym (one_status 6 (status_of r.end) r.told.0)) r.ends)

pub old : (command : Option Command) (before after : Outside) (d e : DoorAt) → AllRuns command before after d e 10 → WhereTold before.store.rows IsOld
old command before after d e runs = by_run 10 IsOld refl (λ s. omega (arith, s)) version_of command before after d e (λ r. plain.old_run command before after r) runs

-- a store that holds no state is told so by each command that loads it
holds : (s : Store) (st : State) → Loads s.rows (Ok st) → Holds s st
holds s st loads = record { valid = loads.valid; storable = loads.storable; state = loads.state; all = loads.all; version = loads.version }

module _ (n : ℕ) (s u : Store) (is_none : (st : State) → Holds s st → ⊥)
    (told : (end : End) (fault : LoadFault) → Unloaded fault end → (fault ≡ load.KeeperFault → Rose s.faults u.faults) → WhereTold s.rows (TellsVersion (Err fault))
    → IsStatusOr n s u (Some (status_of end))) where
  session_told : (before after : Objects) (x : SessionEnd) (end : End) → before.rows ≡ s.rows → before.faults ≡ s.faults → after.faults ≡ u.faults → SessionEnds before after x → IsEndOf x end
      → IsStatusOr n s u (Some (status_of end))
  session_told before after (session.Unopened fault) end rows now later (unused, loads, same, cause) ends =
      told end fault ends
      (λ k. subst (λ (x : ℕ). Rose x u.faults) now (subst (λ (x : ℕ). Rose before.faults x) later (cause k)))
      (subst (λ (t : Option Table). WhereTold t (TellsVersion (Err fault))) rows loads.version)
  session_told before after session.NoMemory end rows now later e ends = inr (inl (plain.status_at end NoMemory ends))
  session_told before after (session.Served served) end rows now later (first, loads, count, e) ends =
      absurd (is_none first.state (holds s first.state (subst (λ (t : Option Table). Loads t (Ok first.state)) rows loads)))

  server_told : (f : Bool) (k : ℕ) (o p : Flow) (d e : DoorAt) (x : ServerEnd) (end : End) → ServerEnds f s.rows u.rows s.faults u.faults d.given e.given d.faults e.faults k x
      → IsServerEnd k o p x end → IsStatusOr n s u (Some (status_of end))
  server_told f k o p d e (server.Served routers) end (st, loads, ends, keeps) is = absurd (is_none st (holds s st loads))
  server_told f k o p d e server.DoorFault end (st, loads, ends, keeps) is = absurd (is_none st (holds s st loads))
  server_told f k o p d e server.NoMemory end (st, loads, ends, keeps) is = absurd (is_none st (holds s st loads))
  server_told f k o p d e (server.Unopened fault) end (loads, rows, cause, links, doors) (un, output) = told end fault un cause loads.version

wait_told : (n : ℕ) (w : Waiting) (before after : Outside) (d e : DoorAt) (end : End) → ((st : State) → Holds before.store st → ⊥)
    → ((x : End) (fault : LoadFault) → Unloaded fault x → (fault ≡ load.KeeperFault → Rose before.store.faults after.store.faults) → WhereTold before.store.rows (TellsVersion (Err fault))
    → IsStatusOr n before.store after.store (Some (status_of x)))
    → WaitEnds w before.input after.input before.output after.output before.store after.store before.second after.second d e end
    → IsStatusOr n before.store after.store (Some (status_of end))
wait_told n Session before after d e end is_none told ((x, ends, same), door) =
    session_told n before.store after.store is_none told (objects before.input before.output before.store before.second) (objects after.input after.output after.store after.second) x end refl refl refl
    ends same
wait_told n (Serve port workers k routers) before after d e end is_none told ((x, ends, same), input) =
    server_told n before.store after.store is_none told (is_some routers) k before.output after.output d e x end ends same

run_told : (n : ℕ) (command : Command) (status : ℕ) (before after : Outside) (d e : DoorAt) → loads_store command ≡ true → ((st : State) → Holds before.store st → ⊥)
    → ((x : End) (fault : LoadFault) → Unloaded fault x → (fault ≡ load.KeeperFault → Rose before.store.faults after.store.faults) → WhereTold before.store.rows (TellsVersion (Err fault))
    → IsStatusOr n before.store after.store (Some (status_of x)))
    → (Runs (Some Dump) before after (Some status) → IsStatusOr n before.store after.store (Some status)) → AllRuns (Some command) before after d e status
    → IsStatusOr n before.store after.store (Some status)
run_told n Dump status before after d e is is_none told dump (inl ((still, runs), same)) = dump runs
run_told n (Wait waiting) status before after d e is is_none told dump (inl ((still, runs), same)) = absurd (no (sym still))
run_told n (Ask question) status before after d e is is_none told dump (inl runs) = absurd (no is)
run_told n Ixf status before after d e is is_none told dump (inl runs) = absurd (no is)
run_told n Restore status before after d e is is_none told dump (inl runs) = absurd (no is)
run_told n Upgrade status before after d e is is_none told dump (inl runs) = absurd (no is)
run_told n (Demo members) status before after d e is is_none told dump (inl runs) = absurd (no is)
run_told n command status before after d e is is_none told dump (inr (waiting, same, r)) =
    subst (λ (x : Option ℕ). IsStatusOr n before.store after.store x) (sym r.told.0) (wait_told n waiting before after d e r.end is_none told r.ends)

pub damage_told : (command : Command) (rows : Table) (status : ℕ) (before after : Outside) (d e : DoorAt) → loads_store command ≡ true → before.store.rows ≡ Some rows → IsDamaged rows
    → AllRuns (Some command) before after d e status → IsStatusOr 6 before.store after.store (Some status)
damage_told command rows status before after d e is there bad runs =
    run_told 6 command status before after d e is (λ st. plain.damaged_holds before.store rows st there bad)
    (λ x fault un cause version. plain.damage_status before.store after.store rows there x fault bad un cause version)
    (λ r. plain.damage_told rows before after (Some status) there bad r) runs

pub version_told : (command : Command) (rows : Table) (status : ℕ) (before after : Outside) (d e : DoorAt) → loads_store command ≡ true → before.store.rows ≡ Some rows → IsOld rows
    → AllRuns (Some command) before after d e status → IsStatusOr 10 before.store after.store (Some status)
version_told command rows status before after d e is there older runs =
    run_told 10 command status before after d e is (λ st. plain.old_holds before.store rows st there older)
    (λ x fault un cause version. plain.version_status before.store after.store rows there x fault older un cause version)
    (λ r. plain.version_told rows before after (Some status) there older r) runs
