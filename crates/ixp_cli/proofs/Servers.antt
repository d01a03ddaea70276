-- Servers that end with status 0, and faults of doors.
use Rattle.std.proofs.Common.{◌≡◌, inl, inr, ℕ, Bool, true, false, Option, Some, None, is_some, refl, sym, subst, arith, ◌∙◌, ap}
use Rattle.ixp_io.specs.Faults.{Rose}
use Rattle.ixp_io.specs.Told.{Takes}
use Rattle.ixp_desk_serve.specs.declared.server.ServerEnd.{ServerEnd}
use Rattle.ixp_desk_serve.specs.declared.server.ServerEnd.TheVariants as server
use Rattle.ixp_desk_serve.specs.declared.session.SessionEnd.{SessionEnd}
use Rattle.ixp_desk_serve.specs.declared.session.SessionEnd.TheVariants as session
use Rattle.ixp_desk_serve.specs.Servers.{ServerEnds}
use Rattle.ixp_cli_plain.specs.declared.command.Command.{Command}
use Rattle.ixp_cli_plain.specs.declared.command.Command.TheVariants.{Wait}
use Rattle.ixp_cli_plain.specs.declared.command.RtrPort.{RtrPort}
use Rattle.ixp_cli_plain.specs.declared.command.Waiting.{Waiting}
use Rattle.ixp_cli_plain.specs.declared.command.Waiting.TheVariants.{Session, Serve}
use Rattle.ixp_cli_plain.specs.declared.end.End.{End}
use Rattle.ixp_cli_plain.specs.Restores.{Store}
use Rattle.ixp_cli_plain.specs.Runs.{Flow, Outside, status_of}
use Rattle.ixp_cli_plain.proofs.NoDoor.{never_door}
use Rattle.ixp_cli_plain.proofs.Loadable.{one_status}
use Rattle.ixp_cli.specs.Waits.{AllRuns, DoorAt, IsEndOf, IsServed, IsServerEnd, ServedAll, WaitEnds, WaitRuns, served_lines}
use Rattle.ixp_cli.proofs.Statuses.{holds_at, one_wait, served_status, serves, unloaded_status, unloads}

no : false ≡ true → ⊥
no e = cc

told : (n : ℕ) (routers : Option ℕ) (o p : Flow) (end : End) → status_of end ≡ 0 → IsServed n routers o p end → Takes o.bytes p.bytes (served_lines n routers)
told n routers o p end zero (inl (is, takes)) = takes
told n routers o p end zero (inr (is, part, rose)) = let bad : 4 ≡ 0 = sym (ap status_of is) ∙ zero in absurd (omega (arith, bad))

by_server : (f : Bool) (n : ℕ) (o p : Flow) (s t : Store) (d e : DoorAt) (x : ServerEnd) (end : End) → status_of end ≡ 0
    → ServerEnds f s.rows t.rows s.faults t.faults d.given e.given d.faults e.faults n x → IsServerEnd n o p x end → ServedAll f n o p d e
by_server f n o p s t d e (server.Served routers) end zero (state, loads, (gave, asked), keeps) is = (gave, (routers, asked, told n routers o p end zero is))
by_server f n o p s t d e server.DoorFault end zero ends (is, same) = let bad : 7 ≡ 0 = sym (ap status_of is) ∙ zero in absurd (omega (arith, bad))
by_server f n o p s t d e server.NoMemory end zero ends (is, same) = let bad : 8 ≡ 0 = sym (ap status_of is) ∙ zero in absurd (omega (arith, bad))
by_server f n o p s t d e (server.Unopened fault) end zero ends (is, same) = absurd (no (holds_at unloads end 0 zero (unloaded_status fault end is)))

of_serve : (port workers n : ℕ) (routers : Option RtrPort) (before after : Outside) (d e : DoorAt) → WaitRuns (Serve port workers n routers) before after d e 0
    → ServedAll (is_some routers) n before.output after.output d e
of_serve port workers n routers before after d e r =
    by_server (is_some routers) n before.output after.output before.store after.store d e r.ends.0.0 r.end (sym (one_status 0 (status_of r.end) r.told.0)) r.ends.0.1 r.ends.0.2

pub all_served : (port workers n : ℕ) (routers : Option RtrPort) (before after : Outside) (d e : DoorAt) → AllRuns (Some (Wait (Serve port workers n routers))) before after d e 0
    → ServedAll (is_some routers) n before.output after.output d e
all_served port workers n routers before after d e (inl ((still, runs), same)) = absurd (no (sym still))
all_served port workers n routers before after d e (inr (waiting, is, r)) =
    of_serve port workers n routers before after d e (subst (λ (w : Waiting). WaitRuns w before after d e 0) (one_wait _ _ is) r)

failed_server : (f : Bool) (n : ℕ) (o p : Flow) (s t : Store) (d e : DoorAt) (x : ServerEnd) (end : End) → status_of end ≡ 7
    → ServerEnds f s.rows t.rows s.faults t.faults d.given e.given d.faults e.faults n x → IsServerEnd n o p x end → Rose d.faults e.faults
failed_server f n o p s t d e (server.Served routers) end seven ends (inl (is, takes)) = let bad : 0 ≡ 7 = sym (ap status_of is) ∙ seven in absurd (omega (arith, bad))
failed_server f n o p s t d e (server.Served routers) end seven ends (inr (is, part, rose)) = let bad : 4 ≡ 7 = sym (ap status_of is) ∙ seven in absurd (omega (arith, bad))
failed_server f n o p s t d e server.DoorFault end seven (state, loads, rose, keeps) is = rose
failed_server f n o p s t d e server.NoMemory end seven ends (is, same) = let bad : 8 ≡ 7 = sym (ap status_of is) ∙ seven in absurd (omega (arith, bad))
failed_server f n o p s t d e (server.Unopened fault) end seven ends (is, same) = absurd (no (holds_at unloads end 7 seven (unloaded_status fault end is)))

failed_session : (x : SessionEnd) (end : End) → status_of end ≡ 7 → IsEndOf x end → ⊥
failed_session (session.Unopened fault) end seven is = no (holds_at unloads end 7 seven (unloaded_status fault end is))
failed_session session.NoMemory end seven is = let bad : 8 ≡ 7 = sym (ap status_of is) ∙ seven in absurd (omega (arith, bad))
failed_session (session.Served s) end seven is = no (holds_at serves end 7 seven (served_status s end is))

failed_wait : (w : Waiting) (before after : Outside) (d e : DoorAt) (end : End) → status_of end ≡ 7
    → WaitEnds w before.input after.input before.output after.output before.store after.store before.second after.second d e end → Rose d.faults e.faults
failed_wait Session before after d e end seven ((x, ends, is), same) = absurd (failed_session x end seven is)
failed_wait (Serve port workers n routers) before after d e end seven ((x, ends, is), same) =
    failed_server (is_some routers) n before.output after.output before.store after.store d e x end seven ends is

pub door_failed : (command : Option Command) (before after : Outside) (d e : DoorAt) → AllRuns command before after d e 7 → Rose d.faults e.faults
door_failed command before after d e (inl ((still, runs), same)) = absurd (never_door command before after runs)
door_failed command before after d e (inr (waiting, is, r)) =
    failed_wait waiting before after d e r.end (sym (one_status 7 (status_of r.end) r.told.0)) r.ends
