-- A command that doesn't wait ends in no fault of a door.
use Rattle.std.proofs.Common.{◌≡◌, inl, inr, ℕ, Option, Some, None, subst, ap, sym, ◌∙◌, arith, refl}
use Rattle.ixp_store_words.specs.declared.fault.LoadFault.{LoadFault}
use Rattle.ixp_store_words.specs.declared.fault.LoadFault.TheVariants as load
use Rattle.ixp_cli_plain.proofs.Loadable.{one_status}
use Rattle.ixp_cli_plain.specs.declared.command.Command.{Command}
use Rattle.ixp_cli_plain.specs.declared.command.Command.TheVariants.{Ask, Ixf, Restore, Dump, Upgrade, Demo, Wait}
use Rattle.ixp_cli_plain.specs.declared.end.End.{End}
use Rattle.ixp_cli_plain.specs.declared.end.End.TheVariants.{Done, Usage, BadInput, BadObjects, ReadFault, WriteFault, KeeperFault, NoMemory, UnknownRouter, NotEmpty, Damaged, OldVersion, DoorFault, BadLink}
use Rattle.ixp_cli_plain.specs.Restores.{Store}
use Rattle.ixp_cli_plain.specs.Runs.{Flow, Outside, Ends, NotLoaded, Runs, status_of}
use Rattle.ixp_cli_plain.specs.Sessions.{Unloaded}

not_unloaded : (fault : LoadFault) → Unloaded fault DoorFault → ⊥
not_unloaded load.KeeperFault e = let bad : ⊥ = cc in bad
not_unloaded (load.Damaged name damage) (inl e) = let bad : ⊥ = cc in bad
not_unloaded (load.Damaged name damage) (inr e) = let bad : ⊥ = cc in bad
not_unloaded (load.OldVersion found) e = let bad : ⊥ = cc in bad
not_unloaded load.NoMemory e = let bad : ⊥ = cc in bad

no_door : (o : Option Command) (i j k l : Flow) (s u : Store) (g h : Option ℕ) → Ends o i j k l s u g h DoorFault → ⊥
no_door None i j k l s u g h (is, input, output, store, clock) = let bad : ⊥ = cc in bad
no_door (Some (Ask question)) i j k l s u g h (e, kept, clock) = e
no_door (Some Ixf) i j k l s u g h ((second, gave, e), kept) = e
no_door (Some Restore) i j k l s u g h (e, clock) = e
no_door (Some Dump) i j k l s u g h ((input, output, rows, (fault, is, cause, version, loads, row)), clock) = not_unloaded fault is
no_door (Some Upgrade) i j k l s u g h ((input, output, rows, (fault, is, cause, young, upgrades, row)), clock) = not_unloaded fault is
no_door (Some (Demo members)) i j k l s u g h (e, input, kept, clock) = e
no_door (Some (Wait waiting)) i j k l s u g h e = e

pub is_door : (end : End) → status_of end ≡ 7 → end ≡ DoorFault
is_door Done e = let bad : 0 ≡ 7 = e in absurd (omega (arith, bad))
is_door Usage e = let bad : 1 ≡ 7 = e in absurd (omega (arith, bad))
is_door (BadInput cause) e = let bad : 2 ≡ 7 = e in absurd (omega (arith, bad))
is_door (BadObjects cause) e = let bad : 2 ≡ 7 = e in absurd (omega (arith, bad))
is_door ReadFault e = let bad : 3 ≡ 7 = e in absurd (omega (arith, bad))
is_door WriteFault e = let bad : 4 ≡ 7 = e in absurd (omega (arith, bad))
is_door KeeperFault e = let bad : 5 ≡ 7 = e in absurd (omega (arith, bad))
is_door NoMemory e = let bad : 8 ≡ 7 = e in absurd (omega (arith, bad))
is_door (UnknownRouter router) e = let bad : 9 ≡ 7 = e in absurd (omega (arith, bad))
is_door NotEmpty e = let bad : 11 ≡ 7 = e in absurd (omega (arith, bad))
is_door (Damaged what) e = let bad : 6 ≡ 7 = e in absurd (omega (arith, bad))
is_door (OldVersion found) e = let bad : 10 ≡ 7 = e in absurd (omega (arith, bad))
is_door DoorFault e = refl
is_door (BadLink code requests) e = let bad : 2 ≡ 7 = e in absurd (omega (arith, bad))

pub never_door : (command : Option Command) (before after : Outside) → Runs command before after (Some 7) → ⊥
never_door command before after r =
    no_door command before.input after.input before.output after.output before.store after.store before.second after.second
    (subst (λ (end : End). Ends command before.input after.input before.output after.output before.store after.store before.second after.second end)
    (is_door r.end (sym (one_status 7 (status_of r.end) r.told.0))) r.ends)
