-- How runs end that load the store.
use Rattle.std.proofs.Common.{◌≡◌, inl, inr, Err, IsErrOf, refl, ap}
use Rattle.ixp_io.specs.Faults.{Rose}
use Rattle.ixp_io.specs.Told.{WhereTold}
use Rattle.ixp_store_words.specs.Answers.{TellsVersion, LoadsAll}
use Rattle.ixp_store_damage.specs.Damages.{TellsRow}
use Rattle.ixp_store_words.specs.declared.fault.LoadFault.{LoadFault}
use Rattle.ixp_store_words.specs.declared.fault.LoadFault.TheVariants as load
use Rattle.ixp_machine_steps.specs.declared.state.State.{State}
use Rattle.ixp_cli_plain.specs.declared.end.End.{End}
use Rattle.ixp_cli_plain.specs.declared.end.End.TheVariants.{Done, Usage, BadInput, BadObjects, ReadFault, WriteFault, KeeperFault, NoMemory, UnknownRouter, NotEmpty, Damaged, OldVersion, DoorFault, BadLink}
use Rattle.ixp_cli_plain.specs.Restores.{Store}
use Rattle.ixp_cli_plain.specs.Runs.{Flow, NotLoaded, DumpEnds}
use Rattle.ixp_cli_plain.specs.Sessions.{Unloaded}

pub not_loaded :
    (i o : Flow) (s u : Store) (fault : LoadFault) (end : End) → (IsErrOf {T = State} (Err fault) load.KeeperFault → Rose s.faults u.faults)
    → WhereTold s.rows (TellsVersion (Err fault)) → LoadsAll s.rows (Err fault) → WhereTold s.rows (TellsRow (Err fault)) → u.rows ≡ s.rows → Unloaded fault end → NotLoaded i i o o s u end
not_loaded i o s u fault end cause version loads row rows un = (refl, refl, rows, (fault, un, (λ e. cause (ap Err e)), version, loads, row))

pub never_done : (fault : LoadFault) → Unloaded fault Done → ⊥
never_done load.KeeperFault e = let bad : ⊥ = cc in bad
never_done (load.Damaged name damage) (inl e) = let bad : ⊥ = cc in bad
never_done (load.Damaged name damage) (inr e) = let bad : ⊥ = cc in bad
never_done (load.OldVersion found) e = let bad : ⊥ = cc in bad
never_done load.NoMemory e = let bad : ⊥ = cc in bad

pub never_written : (fault : LoadFault) → Unloaded fault WriteFault → ⊥
never_written load.KeeperFault e = let bad : ⊥ = cc in bad
never_written (load.Damaged name damage) (inl e) = let bad : ⊥ = cc in bad
never_written (load.Damaged name damage) (inr e) = let bad : ⊥ = cc in bad
never_written (load.OldVersion found) e = let bad : ⊥ = cc in bad
never_written load.NoMemory e = let bad : ⊥ = cc in bad

dump_unloaded : (i j k l : Flow) (s u : Store) (end : End) → NotLoaded i j k l s u end → DumpEnds i j k l s u end
dump_unloaded i j k l s u Done (input, output, rows, (fault, is, cause, version, loads, row)) = absurd (never_done fault is)
dump_unloaded i j k l s u WriteFault (input, output, rows, (fault, is, cause, version, loads, row)) = absurd (never_written fault is)
dump_unloaded i j k l s u NoMemory (input, output, rows, (fault, is, cause, version, loads, row)) = (input, output, rows)
dump_unloaded i j k l s u Usage n = n
dump_unloaded i j k l s u (BadInput c) n = n
dump_unloaded i j k l s u (BadObjects c) n = n
dump_unloaded i j k l s u ReadFault n = n
dump_unloaded i j k l s u KeeperFault n = n
dump_unloaded i j k l s u (UnknownRouter r) n = n
dump_unloaded i j k l s u NotEmpty n = n
dump_unloaded i j k l s u (Damaged what) n = n
dump_unloaded i j k l s u (OldVersion found) n = n
dump_unloaded i j k l s u DoorFault n = n
dump_unloaded i j k l s u (BadLink code requests) n = n

pub unloaded_dump : (i o : Flow) (s u : Store) (fault : LoadFault) (end : End) → (IsErrOf {T = State} (Err fault) load.KeeperFault → Rose s.faults u.faults)
    → WhereTold s.rows (TellsVersion (Err fault)) → LoadsAll s.rows (Err fault) → WhereTold s.rows (TellsRow (Err fault)) → u.rows ≡ s.rows → Unloaded fault end → DumpEnds i i o o s u end
unloaded_dump i o s u fault end cause version loads row rows un = dump_unloaded i i o o s u end (not_loaded i o s u fault end cause version loads row rows un)
