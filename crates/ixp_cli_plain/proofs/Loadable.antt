-- Of a store that can be loaded neither damage nor an older version is told.
use Rattle.std.proofs.Common.{◌≡◌, ◌≢◌, inl, inr, ℕ, List, Option, Some, None, Err, refl, sym, ◌∙◌, subst, arith}
use Rattle.ixp_store_words.specs.Answers.{IsLoaded, LoadsAll, empty_registry}
use Rattle.ixp_store_words.specs.Faults.{IsKeepers}
use Rattle.ixp_store_words.specs.declared.fault.LoadFault.{LoadFault}
use Rattle.ixp_store_words.specs.declared.fault.LoadFault.TheVariants as load
use Rattle.ixp_store_upgrade.specs.Upgrades.{IsUpgraded, UpgradesAll}
use Rattle.ixp_machine_steps.specs.Openings.{first_state}
use Rattle.ixp_machine_steps.specs.declared.state.State.{State}
use Rattle.ixp_cli_plain.specs.declared.command.Command.{Command}
use Rattle.ixp_cli_plain.specs.declared.command.Command.TheVariants.{Ask, Ixf, Restore, Dump, Upgrade, Demo, Wait}
use Rattle.ixp_cli_plain.specs.declared.end.End.{End}
use Rattle.ixp_cli_plain.specs.declared.end.End.TheVariants.{Done, Usage, BadInput, BadObjects, ReadFault, WriteFault, KeeperFault, NoMemory, UnknownRouter, NotEmpty, Damaged, OldVersion, DoorFault, BadLink}
use Rattle.ixp_cli_plain.specs.Restores.{Store}
use Rattle.ixp_cli_plain.specs.Runs.{CanBeLoaded, Flow, Outside, Ends, NotLoaded, NotUpgraded, Runs, status_of}
use Rattle.ixp_cli_plain.specs.Sessions.{Unloaded}

-- what is told is the store's fault, or running out of memory
keepers : (s : State) (fault : LoadFault) → IsLoaded s (Err fault) → IsKeepers fault
keepers s load.KeeperFault is = tt
keepers s (load.Damaged name damage) is = absurd is
keepers s (load.OldVersion found) is = absurd is
keepers s load.NoMemory is = tt

pub of_store : (s : Store) (fault : LoadFault) → CanBeLoaded s → LoadsAll s.rows (Err fault) → IsKeepers fault
of_store s fault (inl none) loads = keepers (first_state empty_registry) fault (loads.nothing none)
of_store s fault (inr (state, valid, stores, rows)) loads = keepers state fault (loads.whole state valid stores rows)

no_damage : (fault : LoadFault) (what : List ℕ) → IsKeepers fault → Unloaded fault (Damaged what) → ⊥
no_damage load.KeeperFault what is e = let bad : ⊥ = cc in bad
no_damage (load.Damaged name damage) what is e = is
no_damage (load.OldVersion found) what is e = is
no_damage load.NoMemory what is e = let bad : ⊥ = cc in bad

no_version : (fault : LoadFault) (n : ℕ) → IsKeepers fault → Unloaded fault (OldVersion n) → ⊥
no_version load.KeeperFault n is e = let bad : ⊥ = cc in bad
no_version (load.Damaged name damage) n is e = is
no_version (load.OldVersion found) n is e = is
no_version load.NoMemory n is e = let bad : ⊥ = cc in bad

pub unloaded_damage : (i j k l : Flow) (s u : Store) (what : List ℕ) → CanBeLoaded s → NotLoaded i j k l s u (Damaged what) → ⊥
unloaded_damage i j k l s u what can (input, output, rows, (fault, is, cause, version, loads, row)) = no_damage fault what (of_store s fault can loads) is

-- nor is an upgrade of it refused but for the store's fault, or running out of memory
keepers_only : (n : ℕ) (fault : LoadFault) → IsUpgraded n (Err fault) → IsKeepers fault
keepers_only n load.KeeperFault is = tt
keepers_only n (load.Damaged name damage) is = absurd is
keepers_only n (load.OldVersion found) is = absurd is
keepers_only n load.NoMemory is = tt

of_upgrade : (s : Store) (fault : LoadFault) → CanBeLoaded s → UpgradesAll s.rows (Err fault) → IsKeepers fault
of_upgrade s fault (inl none) upgrades = keepers_only 0 fault (upgrades.nothing none)
of_upgrade s fault (inr (state, valid, stores, rows)) upgrades = keepers_only 0 fault (upgrades.today state valid stores rows)

upgrade_damage : (i j k l : Flow) (s u : Store) (what : List ℕ) → CanBeLoaded s → NotUpgraded i j k l s u (Damaged what) → ⊥
upgrade_damage i j k l s u what can (input, output, rows, (fault, is, cause, young, upgrades, row)) = no_damage fault what (of_upgrade s fault can upgrades) is

-- and an upgrade tells of no older version
never_older : (fault : LoadFault) (n : ℕ) → ((found : ℕ) → fault ≢ load.OldVersion found) → Unloaded fault (OldVersion n) → ⊥
never_older load.KeeperFault n young e = let bad : ⊥ = cc in bad
never_older (load.Damaged name damage) n young (inl e) = let bad : ⊥ = cc in bad
never_older (load.Damaged name damage) n young (inr e) = let bad : ⊥ = cc in bad
never_older (load.OldVersion found) n young e = young found refl
never_older load.NoMemory n young e = let bad : ⊥ = cc in bad

pub upgrade_version : (i j k l : Flow) (s u : Store) (n : ℕ) → NotUpgraded i j k l s u (OldVersion n) → ⊥
upgrade_version i j k l s u n (input, output, rows, (fault, is, cause, young, upgrades, row)) = never_older fault n young is

ends_damage : (o : Option Command) (i j k l : Flow) (s u : Store) (g h : Option ℕ) (what : List ℕ) → CanBeLoaded s → Ends o i j k l s u g h (Damaged what) → ⊥
ends_damage None i j k l s u g h what can (is, input, output, store, clock) = let bad : ⊥ = cc in bad
ends_damage (Some (Ask question)) i j k l s u g h what can (e, kept, clock) = e
ends_damage (Some Ixf) i j k l s u g h what can ((second, gave, e), kept) = e
ends_damage (Some Restore) i j k l s u g h what can (e, clock) = e
ends_damage (Some Dump) i j k l s u g h what can (e, clock) = unloaded_damage i j k l s u what can e
ends_damage (Some Upgrade) i j k l s u g h what can (e, clock) = upgrade_damage i j k l s u what can e
ends_damage (Some (Demo members)) i j k l s u g h what can (e, input, kept, clock) = e
ends_damage (Some (Wait waiting)) i j k l s u g h what can e = e

pub unloaded_version : (i j k l : Flow) (s u : Store) (found : ℕ) → CanBeLoaded s → NotLoaded i j k l s u (OldVersion found) → ⊥
unloaded_version i j k l s u found can (input, output, rows, (fault, is, cause, version, loads, row)) = no_version fault found (of_store s fault can loads) is

ends_version : (o : Option Command) (i j k l : Flow) (s u : Store) (g h : Option ℕ) (found : ℕ) → CanBeLoaded s → Ends o i j k l s u g h (OldVersion found) → ⊥
ends_version None i j k l s u g h found can (is, input, output, store, clock) = let bad : ⊥ = cc in bad
ends_version (Some (Ask question)) i j k l s u g h found can (e, kept, clock) = e
ends_version (Some Ixf) i j k l s u g h found can ((second, gave, e), kept) = e
ends_version (Some Restore) i j k l s u g h found can (e, clock) = e
ends_version (Some Dump) i j k l s u g h found can (e, clock) = unloaded_version i j k l s u found can e
ends_version (Some Upgrade) i j k l s u g h found can (e, clock) = upgrade_version i j k l s u found e
ends_version (Some (Demo members)) i j k l s u g h found can (e, input, kept, clock) = e
ends_version (Some (Wait waiting)) i j k l s u g h found can e = e

pub is_damage : (end : End) → status_of end ≡ 6 → (x : List ℕ) × (end ≡ Damaged x)
is_damage Done e = let bad : 0 ≡ 6 = e in absurd (omega (arith, bad))
is_damage Usage e = let bad : 1 ≡ 6 = e in absurd (omega (arith, bad))
is_damage (BadInput cause) e = let bad : 2 ≡ 6 = e in absurd (omega (arith, bad))
is_damage (BadObjects cause) e = let bad : 2 ≡ 6 = e in absurd (omega (arith, bad))
is_damage ReadFault e = let bad : 3 ≡ 6 = e in absurd (omega (arith, bad))
is_damage WriteFault e = let bad : 4 ≡ 6 = e in absurd (omega (arith, bad))
is_damage KeeperFault e = let bad : 5 ≡ 6 = e in absurd (omega (arith, bad))
is_damage NoMemory e = let bad : 8 ≡ 6 = e in absurd (omega (arith, bad))
is_damage (UnknownRouter router) e = let bad : 9 ≡ 6 = e in absurd (omega (arith, bad))
is_damage NotEmpty e = let bad : 11 ≡ 6 = e in absurd (omega (arith, bad))
is_damage (Damaged what) e = (what, refl)
is_damage (OldVersion found) e = let bad : 10 ≡ 6 = e in absurd (omega (arith, bad))
is_damage DoorFault e = let bad : 7 ≡ 6 = e in absurd (omega (arith, bad))
is_damage (BadLink code requests) e = let bad : 2 ≡ 6 = e in absurd (omega (arith, bad))

pub is_version : (end : End) → status_of end ≡ 10 → (x : ℕ) × (end ≡ OldVersion x)
is_version Done e = let bad : 0 ≡ 10 = e in absurd (omega (arith, bad))
is_version Usage e = let bad : 1 ≡ 10 = e in absurd (omega (arith, bad))
is_version (BadInput cause) e = let bad : 2 ≡ 10 = e in absurd (omega (arith, bad))
is_version (BadObjects cause) e = let bad : 2 ≡ 10 = e in absurd (omega (arith, bad))
is_version ReadFault e = let bad : 3 ≡ 10 = e in absurd (omega (arith, bad))
is_version WriteFault e = let bad : 4 ≡ 10 = e in absurd (omega (arith, bad))
is_version KeeperFault e = let bad : 5 ≡ 10 = e in absurd (omega (arith, bad))
is_version NoMemory e = let bad : 8 ≡ 10 = e in absurd (omega (arith, bad))
is_version (UnknownRouter router) e = let bad : 9 ≡ 10 = e in absurd (omega (arith, bad))
is_version NotEmpty e = let bad : 11 ≡ 10 = e in absurd (omega (arith, bad))
is_version (Damaged what) e = let bad : 6 ≡ 10 = e in absurd (omega (arith, bad))
is_version (OldVersion found) e = (found, refl)
is_version DoorFault e = let bad : 7 ≡ 10 = e in absurd (omega (arith, bad))
is_version (BadLink code requests) e = let bad : 2 ≡ 10 = e in absurd (omega (arith, bad))

pub one_status : (n m : ℕ) → ◌≡◌ {A = Option ℕ} (Some n) (Some m) → n ≡ m
one_status n m e = cc

pub never_damaged : (command : Option Command) (before after : Outside) (status : Option ℕ) → CanBeLoaded before.store → Runs command before after status → status ≡ Some 6 → ⊥
never_damaged command before after status can r is =
    let x = is_damage r.end (one_status (status_of r.end) 6 (sym r.told.0 ∙ is)) in
    ends_damage command before.input after.input before.output after.output before.store after.store before.second after.second x.0 can
    (subst (λ (end : End). Ends command before.input after.input before.output after.output before.store after.store before.second after.second end) x.1 r.ends)

pub never_old : (command : Option Command) (before after : Outside) (status : Option ℕ) → CanBeLoaded before.store → Runs command before after status → status ≡ Some 10 → ⊥
never_old command before after status can r is =
    let x = is_version r.end (one_status (status_of r.end) 10 (sym r.told.0 ∙ is)) in
    ends_version command before.input after.input before.output after.output before.store after.store before.second after.second x.0 can
    (subst (λ (end : End). Ends command before.input after.input before.output after.output before.store after.store before.second after.second end) x.1 r.ends)
