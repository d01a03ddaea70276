-- The statuses of runs that wait.
use Rattle.std.proofs.Common.{◌≡◌, inl, inr, ℕ, Bool, true, ◌||◌, ◌==◌, Option, Some, None, refl, sym, ap, subst}
use Rattle.ixp_http_link.specs.declared.ends.LinkEnd.{LinkEnd}
use Rattle.ixp_http_link.specs.declared.ends.LinkEnd.TheVariants as link
use Rattle.ixp_http_link.specs.declared.ends.Served.{Served}
use Rattle.ixp_store_words.specs.Faults.{IsKeepers}
use Rattle.ixp_store_words.specs.declared.fault.LoadFault.{LoadFault}
use Rattle.ixp_store_words.specs.declared.fault.LoadFault.TheVariants as load
use Rattle.ixp_cli_plain.specs.declared.command.Command.{Command}
use Rattle.ixp_cli_plain.specs.declared.command.Command.TheVariants.{Wait}
use Rattle.ixp_cli_plain.specs.declared.command.Waiting.{Waiting}
use Rattle.ixp_cli_plain.specs.declared.end.End.{End}
use Rattle.ixp_cli_plain.specs.Runs.{status_of}
use Rattle.ixp_cli_plain.specs.Sessions.{Unloaded}
use Rattle.ixp_cli.specs.Ends.{end_by}

-- a status of a run whose store can't be loaded
abbrev pub unloads : ℕ → Bool
unloads n = n == 5 || n == 6 || n == 8 || n == 10

-- the status of such a run whose store failed, or for which memory ran out
abbrev pub fails : ℕ → Bool
fails n = n == 5 || n == 8

-- a status of a run whose session was served
abbrev pub serves : ℕ → Bool
serves n = n == 0 || n == 2 || n == 3 || n == 4 || n == 8

by_end : (test : ℕ → Bool) (end e : End) → end ≡ e → test (status_of e) ≡ true → test (status_of end) ≡ true
by_end test end e is holds = subst (λ (x : End). test (status_of x) ≡ true) (sym is) holds

pub unloaded_status : (fault : LoadFault) (end : End) → Unloaded fault end → unloads (status_of end) ≡ true
unloaded_status load.KeeperFault end is = by_end unloads end _ is refl
unloaded_status (load.Damaged name damage) end (inl is) = by_end unloads end _ is refl
unloaded_status (load.Damaged name damage) end (inr is) = by_end unloads end _ is refl
unloaded_status (load.OldVersion found) end is = by_end unloads end _ is refl
unloaded_status load.NoMemory end is = by_end unloads end _ is refl

pub failed_status : (fault : LoadFault) (end : End) → IsKeepers fault → Unloaded fault end → fails (status_of end) ≡ true
failed_status load.KeeperFault end of is = by_end fails end _ is refl
failed_status (load.Damaged name damage) end of is = absurd of
failed_status (load.OldVersion found) end of is = absurd of
failed_status load.NoMemory end of is = by_end fails end _ is refl

served_by : (e : LinkEnd) (n : ℕ) → serves (status_of (end_by e n)) ≡ true
served_by link.Closed n = refl
served_by (link.BadMessage status) n = refl
served_by link.Cut n = refl
served_by link.Spent n = refl
served_by link.ReadFault n = refl
served_by link.WriteFault n = refl
served_by link.NoMemory n = refl

pub served_status : (s : Served) (end : End) → end ≡ end_by s.end s.requests → serves (status_of end) ≡ true
served_status s end is = by_end serves end _ is (served_by s.end s.requests)

-- two facts of one status
pub one_wait : (a b : Waiting) → ◌≡◌ {A = Option Command} (Some (Wait a)) (Some (Wait b)) → b ≡ a
one_wait a b e = cc

pub holds_at : (test : ℕ → Bool) (end : End) (n : ℕ) → status_of end ≡ n → test (status_of end) ≡ true → test n ≡ true
holds_at test end n is holds = subst (λ (x : ℕ). test x ≡ true) is holds
