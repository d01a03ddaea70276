-- How a run ends, and its status.
use Rattle.std.proofs.Common.{◌≡◌, ◌↔◌, inl, inr, ℕ, true, false, Option, Some, None, Result, Ok, Err, refl, sym, ap, ◌∙◌, subst}
use Rattle.ixp_store_words.specs.declared.fault.LoadFault.{LoadFault}
use Rattle.ixp_store_words.specs.declared.fault.LoadFault.TheVariants as load
use Rattle.ixp_cli_plain.specs.Sessions.{Unloaded}
use Rattle.ixp_cli_plain.specs.declared.command.Command.{Command}
use Rattle.ixp_cli_plain.specs.declared.command.Command.TheVariants.{Ask, Ixf, Restore, Dump, Upgrade, Demo, Wait}
use Rattle.ixp_cli_plain.specs.declared.command.Waiting.{Waiting}
use Rattle.ixp_cli_plain.specs.declared.end.End.{End}
use Rattle.ixp_cli_plain.specs.declared.end.End.TheVariants.{Done, Usage, BadInput, BadObjects, ReadFault, WriteFault, KeeperFault, NoMemory, UnknownRouter, NotEmpty, Damaged, OldVersion, DoorFault, BadLink}
use Rattle.ixp_cli_plain.specs.Restores.{Store}
use Rattle.ixp_cli_plain.specs.Runs.{Flow, Outside, Ends, CommandRuns, NotLoaded, NotUpgraded, PlainEnds, PlainRuns, waits, IsStatus, Runs, Tells, status_of, error_text}

pub a_run : (command : Option Command) (before after : Outside) (end : End) (status : Option ℕ)
    → Ends command before.input after.input before.output after.output before.store after.store before.second after.second end
    → status ≡ Some (status_of end) → Tells before.errors after.errors (error_text end) → Runs command before after status
a_run command before after end status ends is line = record { end = end; ends = ends; told = (is, line) }

-- a store that can't be loaded is no usage
never_usage : (fault : LoadFault) → Unloaded fault Usage → ⊥
never_usage load.KeeperFault e = let bad : ⊥ = cc in bad
never_usage (load.Damaged name damage) (inl e) = let bad : ⊥ = cc in bad
never_usage (load.Damaged name damage) (inr e) = let bad : ⊥ = cc in bad
never_usage (load.OldVersion found) e = let bad : ⊥ = cc in bad
never_usage load.NoMemory e = let bad : ⊥ = cc in bad

-- a command ends otherwise than as usage
no_usage : (i j k l : Flow) (s u : Store) → NotLoaded i j k l s u Usage → ⊥
no_usage i j k l s u (input, output, rows, (fault, is, cause, version, loads, row)) = never_usage fault is

upgrade_usage : (i j k l : Flow) (s u : Store) → NotUpgraded i j k l s u Usage → ⊥
upgrade_usage i j k l s u (input, output, rows, (fault, is, cause, young, upgrades, row)) = never_usage fault is

not_usage : (c : Command) (i j k l : Flow) (s u : Store) (g h : Option ℕ) → Ends (Some c) i j k l s u g h Usage → ⊥
not_usage (Ask question) i j k l s u g h (e, kept, clock) = e
not_usage Ixf i j k l s u g h ((second, gave, e), kept) = e
not_usage Restore i j k l s u g h (e, clock) = e
not_usage Dump i j k l s u g h (e, clock) = no_usage i j k l s u e
not_usage Upgrade i j k l s u g h (e, clock) = upgrade_usage i j k l s u e
not_usage (Demo members) i j k l s u g h (e, input, kept, clock) = e
not_usage (Wait waiting) i j k l s u g h e = e

other_status : (n : ℕ) (c : Command) → (◌≡◌ {A = Option ℕ} (Some n) (Some 1) → ⊥) → (◌≡◌ {A = Option ℕ} (Some n) (Some 1)) ↔ (◌≡◌ {A = Option Command} (Some c) None)
other_status n c never = ((λ e. absurd (never e)), λ e. absurd cc)

of_end : (o : Option Command) (i j k l : Flow) (s u : Store) (g h : Option ℕ) (end : End) → Ends o i j k l s u g h end → (◌≡◌ {A = Option ℕ} (Some (status_of end)) (Some 1)) ↔ (o ≡ None)
of_end None i j k l s u g h end (is, input, output, store, clock) = ((λ _. refl), λ _. ap (λ e. Some (status_of e)) is)
of_end (Some c) i j k l s u g h Done e = other_status 0 c (λ h. cc)
of_end (Some c) i j k l s u g h Usage e = absurd (not_usage c i j k l s u g h e)
of_end (Some c) i j k l s u g h (BadInput cause) e = other_status 2 c (λ h. cc)
of_end (Some c) i j k l s u g h (BadObjects cause) e = other_status 2 c (λ h. cc)
of_end (Some c) i j k l s u g h ReadFault e = other_status 3 c (λ h. cc)
of_end (Some c) i j k l s u g h WriteFault e = other_status 4 c (λ h. cc)
of_end (Some c) i j k l s u g h KeeperFault e = other_status 5 c (λ h. cc)
of_end (Some c) i j k l s u g h NoMemory e = other_status 8 c (λ h. cc)
of_end (Some c) i j k l s u g h (UnknownRouter router) e = other_status 9 c (λ h. cc)
of_end (Some c) i j k l s u g h NotEmpty e = other_status 11 c (λ h. cc)
of_end (Some c) i j k l s u g h (Damaged what) e = other_status 6 c (λ h. cc)
of_end (Some c) i j k l s u g h (OldVersion found) e = other_status 10 c (λ h. cc)
of_end (Some c) i j k l s u g h DoorFault e = other_status 7 c (λ h. cc)
of_end (Some c) i j k l s u g h (BadLink code requests) e = other_status 2 c (λ h. cc)

pub usage_is :
    (o : Option Command) (i j k l : Flow) (s u : Store) (g h : Option ℕ) (end : End) (status : Option ℕ) → Ends o i j k l s u g h end → status ≡ Some (status_of end) → (status ≡ Some 1) ↔ (o ≡ None)
usage_is o i j k l s u g h end status e is = subst (λ (x : Option ℕ). (x ≡ Some 1) ↔ (o ≡ None)) (sym is) (of_end o i j k l s u g h end e)

pub lawful : (end : End) → IsStatus (Some (status_of end))
lawful Done = refl
lawful Usage = refl
lawful (BadInput cause) = refl
lawful (BadObjects cause) = refl
lawful ReadFault = refl
lawful WriteFault = refl
lawful KeeperFault = refl
lawful NoMemory = refl
lawful (UnknownRouter router) = refl
lawful NotEmpty = refl
lawful (Damaged what) = refl
lawful (OldVersion found) = refl
lawful DoorFault = refl
lawful (BadLink code requests) = refl

pub is_status : (end : End) (status : Option ℕ) → status ≡ Some (status_of end) → IsStatus status
is_status end status is = subst IsStatus (sym is) (lawful end)

-- a run of a command that doesn't wait
pub command_run : (command : Option Command) (before after : Outside) (end : End) (status : ℕ)
    → PlainEnds command before.input after.input before.output after.output before.store after.store before.second after.second (Ok end)
    → status ≡ status_of end → Tells before.errors after.errors (error_text end) → CommandRuns command before after (Ok status)
command_run command before after end status (still, ends) is line = (still, a_run command before after end (Some status) ends (ap Some is) line)

ok_status : (n m : ℕ) → (◌≡◌ {A = Result ℕ Waiting} (Ok n) (Ok m)) → ◌≡◌ {A = Option ℕ} (Some n) (Some m)
ok_status n m e = cc

pub command_usage : (command : Option Command) (i j k l : Flow) (s u : Store) (g h : Option ℕ) (end : End) (status : ℕ) → PlainEnds command i j k l s u g h (Ok end) → status ≡ status_of end
    → (◌≡◌ {A = Result ℕ Waiting} (Ok status) (Ok 1)) ↔ (command ≡ None)
command_usage command i j k l s u g h end status (still, ends) is =
    let same = usage_is command i j k l s u g h end (Some status) ends (ap Some is) in
    ((λ e. same.0 (ok_status status 1 e)), λ e. let one : ◌≡◌ {A = Option ℕ} (Some status) (Some 1) = same.1 e in cc)

-- a command that comes back isn't missing
pub waiting_usage : (command : Option Command) (waiting : Waiting) → command ≡ Some (Wait waiting) → (◌≡◌ {A = Result ℕ Waiting} (Err waiting) (Ok 1)) ↔ (command ≡ None)
waiting_usage command waiting is = ((λ e. absurd (let bad : ⊥ = cc in bad)), λ e. absurd (let bad : ◌≡◌ {A = Option Command} (Some (Wait waiting)) None = sym is ∙ e in let none : ⊥ = cc in none))

-- nothing was done
pub nothing_done : (i j k l m : Flow) (s u : Store) (g h : Option ℕ) → j ≡ i → l ≡ k → u ≡ s → h ≡ g
    → ◌≡◌ {A = Outside} (record { input = j; output = l; errors = m; store = u; second = h }) (record { input = i; output = k; errors = m; store = s; second = g })
nothing_done i j k l m s u g h input output store clock = cc

-- a command that comes back is none that runs here
pub comes_back : (command : Option Command) (before after : Outside) (waiting : Waiting) → CommandRuns command before after (Err waiting) → PlainRuns command before after None
comes_back command before after waiting (is, same) = (ap waits is, same)
