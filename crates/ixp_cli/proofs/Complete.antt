-- A server over a store that can be loaded, of whose objects none fails.
use Rattle.std.proofs.Common.{◌≡◌, ◌⊎◌, inl, inr, ℕ, Bool, false, true, Option, Some, is_some, Err, refl, sym, subst, ◌∙◌, ap}
use Rattle.ixp_io.specs.Faults.{Rose}
use Rattle.ixp_store_words.specs.Faults.{IsKeepers}
use Rattle.ixp_store_words.specs.declared.fault.LoadFault.{LoadFault}
use Rattle.ixp_store_words.specs.declared.fault.LoadFault.TheVariants as load
use Rattle.ixp_desk_serve.specs.declared.server.ServerEnd.{ServerEnd}
use Rattle.ixp_desk_serve.specs.declared.server.ServerEnd.TheVariants as server
use Rattle.ixp_desk_serve.specs.Servers.{ServerEnds}
use Rattle.ixp_cli_plain.specs.declared.command.Command.{Command}
use Rattle.ixp_cli_plain.specs.declared.command.Command.TheVariants.{Wait}
use Rattle.ixp_cli_plain.specs.declared.command.RtrPort.{RtrPort}
use Rattle.ixp_cli_plain.specs.declared.command.Waiting.{Waiting}
use Rattle.ixp_cli_plain.specs.declared.command.Waiting.TheVariants.{Serve}
use Rattle.ixp_cli_plain.specs.declared.end.End.{End}
use Rattle.ixp_cli_plain.specs.Restores.{Store}
use Rattle.ixp_cli_plain.specs.Runs.{CanBeLoaded, Flow, Outside, status_of}
use Rattle.ixp_cli_plain.specs.Sessions.{Unloaded}
use Rattle.ixp_cli_plain.proofs.Loadable.{of_store, one_status}
use Rattle.ixp_cli.specs.Waits.{AllRuns, DoorAt, IsServerEnd, ServedAll, ServesAll, WaitRuns}
use Rattle.ixp_cli.proofs.Statuses.{one_wait}

no : false ≡ true → ⊥
no e = cc

-- how it ends, by the end's status
abbrev Well : Bool → ℕ → Flow → Flow → DoorAt → DoorAt → ℕ → Type 0
Well f n o p d e status = (status ≡ 8) ⊎ ((status ≡ 0) × ServedAll f n o p d e)

module _ (f : Bool) (n : ℕ) (o p : Flow) (d e : DoorAt) (end : End) where
  unopened : (fault : LoadFault) → IsKeepers fault → (fault ≡ load.KeeperFault → ⊥) → Unloaded fault end → Well f n o p d e (status_of end)
  unopened load.KeeperFault of stands un = absurd (stands refl)
  unopened (load.Damaged name damage) of stands un = absurd of
  unopened (load.OldVersion found) of stands un = absurd of
  unopened load.NoMemory of stands un = inl (ap status_of un)

  by_server : (s t : Store) (x : ServerEnd) → CanBeLoaded s → (Rose s.faults t.faults → ⊥) → (Rose o.faults p.faults → ⊥) → (Rose d.faults e.faults → ⊥)
      → ServerEnds f s.rows t.rows s.faults t.faults d.given e.given d.faults e.faults n x → IsServerEnd n o p x end → Well f n o p d e (status_of end)
  by_server s t (server.Served routers) can store output door (state, loads, (gave, asked), keeps) (inl (is, takes)) = inr (ap status_of is, (gave, (routers, asked, takes)))
  by_server s t (server.Served routers) can store output door (state, loads, gave, keeps) (inr (is, part, rose)) = absurd (output rose)
  by_server s t server.DoorFault can store output door (state, loads, rose, keeps) is = absurd (door rose)
  by_server s t server.NoMemory can store output door ends (is, same) = inl (ap status_of is)
  by_server s t (server.Unopened fault) can store output door (loads, rows, cause, links, doors) (un, same) =
      unopened fault (of_store s fault can loads.all) (λ k. store (cause k)) un

of_serve : (port workers n status : ℕ) (routers : Option RtrPort) (before after : Outside) (d e : DoorAt) → CanBeLoaded before.store → (Rose before.store.faults after.store.faults → ⊥)
    → (Rose before.output.faults after.output.faults → ⊥) → (Rose d.faults e.faults → ⊥) → WaitRuns (Serve port workers n routers) before after d e status
    → ServesAll (is_some routers) n before after d e status
of_serve port workers n status routers before after d e can store output door r =
    subst (λ (m : ℕ). Well (is_some routers) n before.output after.output d e m) (sym (one_status status (status_of r.end) r.told.0))
    (by_server (is_some routers) n before.output after.output d e r.end before.store after.store r.ends.0.0 can store output door r.ends.0.1 r.ends.0.2)

pub all_asked : (port workers n status : ℕ) (routers : Option RtrPort) (before after : Outside) (d e : DoorAt) → CanBeLoaded before.store → (Rose before.store.faults after.store.faults → ⊥)
    → (Rose before.output.faults after.output.faults → ⊥) → (Rose d.faults e.faults → ⊥) → AllRuns (Some (Wait (Serve port workers n routers))) before after d e status
    → ServesAll (is_some routers) n before after d e status
all_asked port workers n status routers before after d e can store output door (inl ((still, runs), same)) = absurd (no (sym still))
all_asked port workers n status routers before after d e can store output door (inr (waiting, is, r)) =
    of_serve port workers n status routers before after d e can store output door (subst (λ (w : Waiting). WaitRuns w before after d e status) (one_wait _ _ is) r)
