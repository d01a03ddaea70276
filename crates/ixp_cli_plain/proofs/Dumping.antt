-- Which stores are dumped, and which are told to be damaged or old.
use Rattle.std.proofs.Common.{◌≡◌, ◌≢◌, ◌⊎◌, inl, inr, ℕ, List, Option, Some, None, Ok, Err, refl, sym, ap, ◌∙◌, subst}
use Rattle.std.specs.FinMap.{empty}
use Rattle.ixp_io.specs.Faults.{Rose}
use Rattle.ixp_io.specs.Tables.{Table}
use Rattle.ixp_io.specs.Told.{Takes, WhereTold}
use Rattle.ixp_machine_steps.specs.Openings.{first_state}
use Rattle.ixp_machine_steps.specs.declared.state.State.{State}
use Rattle.ixp_store_words.specs.Answers.{IsLoaded, IsStoreOf, LoadsAll, TellsVersion, empty_registry}
use Rattle.ixp_store_words.specs.declared.fault.LoadFault.{LoadFault}
use Rattle.ixp_store_words.specs.declared.fault.LoadFault.TheVariants as load
use Rattle.ixp_store_damage.specs.Damages.{TellsRow}
use Rattle.ixp_store_upgrade.specs.Upgrades.{FitsNoVersion, TellsDamaged}
use Rattle.ixp_cli_plain.specs.declared.command.Command.{Command}
use Rattle.ixp_cli_plain.specs.declared.command.Command.TheVariants.{Ask, Ixf, Restore, Dump, Upgrade, Demo, Wait}
use Rattle.ixp_cli_plain.specs.declared.end.End.{End}
use Rattle.ixp_cli_plain.specs.declared.end.End.TheVariants.{Done, Usage, BadInput, BadObjects, ReadFault, WriteFault, KeeperFault, NoMemory, UnknownRouter, NotEmpty, Damaged, OldVersion, DoorFault, BadLink}
use Rattle.ixp_cli_plain.specs.Demos.{demo_text}
use Rattle.ixp_cli_plain.specs.Dumps.{IsDamaged, IsDumped, IsOld, IsStatusOr, IsStoredAs, IsWhole, dump_of}
use Rattle.ixp_cli_plain.specs.Restores.{Store}
use Rattle.ixp_cli_plain.specs.Runs.{DemoEnds, DumpEnds, Ends, Flow, Holds, IsAnswered, IsTold, NotLoaded, Outside, Runs, status_of}
use Rattle.ixp_cli_plain.specs.Sessions.{Unloaded}
use Rattle.ixp_cli_plain.specs.Upgraded.{IsDamagedFor}
use Rattle.ixp_cli_plain.proofs.Loadable.{is_damage, is_version, one_status, upgrade_version}

-- how `dump` ends: the store isn't loaded, or memory ran out, or its registry is written, or a write failed
abbrev Dumps : Store → Flow → Flow → End → Type 0
Dumps s k l end =
    (st : State) × Holds s st × (((end ≡ Done) × Takes k.bytes l.bytes (dump_of st)) ⊎ ((end ≡ WriteFault) × Rose k.faults l.faults))

ways : (i j k l : Flow) (s u : Store) (end : End) → DumpEnds i j k l s u end → NotLoaded i j k l s u end ⊎ ((end ≡ NoMemory) ⊎ Dumps s k l end)
ways i j k l s u Done (st, holds, same, rows, took) = inr (inr (st, holds, inl (refl, took)))
ways i j k l s u WriteFault (st, holds, same, rows, took, rose) = inr (inr (st, holds, inr (refl, rose)))
ways i j k l s u NoMemory e = inr (inl refl)
ways i j k l s u Usage n = inl n
ways i j k l s u (BadInput c) n = inl n
ways i j k l s u (BadObjects c) n = inl n
ways i j k l s u ReadFault n = inl n
ways i j k l s u KeeperFault n = inl n
ways i j k l s u (UnknownRouter r) n = inl n
ways i j k l s u NotEmpty n = inl n
ways i j k l s u (Damaged what) n = inl n
ways i j k l s u (OldVersion found) n = inl n
ways i j k l s u DoorFault n = inl n
ways i j k l s u (BadLink code requests) n = inl n

-- what a store is loaded as is the state that it is the store of
loaded : (s : Store) (a b : State) → IsStoredAs s a → LoadsAll s.rows (Ok b) → b ≡ a
loaded s a b (inl (valid, stores, rows)) loads = loads.whole a valid stores rows
loaded s a b (inr (none, is)) loads = loads.nothing none ∙ sym is

-- of the store of a state the keeper's fault is told, or that memory ran out
unloaded : (s : Store) (a : State) (fault : LoadFault) → IsStoredAs s a → LoadsAll s.rows (Err fault) → (st : State) × IsLoaded st (Err fault)
unloaded s a fault (inl (valid, stores, rows)) loads = (a, loads.whole a valid stores rows)
unloaded s a fault (inr (none, is)) loads = (first_state empty_registry, loads.nothing none)

module _ (a : State) (before after : Outside) where
  at_end : (end e : End) → end ≡ e → IsDumped a before after e → IsDumped a before after end
  at_end end e is d = subst (λ (x : End). IsDumped a before after x) (sym is) d

  not_loaded : (end : End) (st : State) (fault : LoadFault) → IsLoaded st (Err fault) → Unloaded fault end
      → (fault ≡ load.KeeperFault → Rose before.store.faults after.store.faults) → IsDumped a before after end
  not_loaded end st load.KeeperFault is un rose = at_end end KeeperFault un (rose refl)
  not_loaded end st (load.Damaged name damage) is un rose = absurd is
  not_loaded end st (load.OldVersion found) is un rose = absurd is
  not_loaded end st load.NoMemory is un rose = at_end end NoMemory un tt

  dumped : (end : End) → IsStoredAs before.store a → DumpEnds before.input after.input before.output after.output before.store after.store end → IsDumped a before after end
  dumped end stored ends = by (ways before.input after.input before.output after.output before.store after.store end ends)
    where
      by : NotLoaded before.input after.input before.output after.output before.store after.store end ⊎ ((end ≡ NoMemory) ⊎ Dumps before.store before.output after.output end)
          → IsDumped a before after end
      by (inl (input, output, rows, (fault, un, rose, version, loads, row))) =
          let (st, is) = unloaded before.store a fault stored loads in
          not_loaded end st fault is un rose
      by (inr (inl is)) = at_end end NoMemory is tt
      by (inr (inr (st, holds, inl (is, took)))) =
          let same : st ≡ a = loaded before.store a st stored holds.all in
          at_end end Done is (subst (λ (x : State). Takes before.output.bytes after.output.bytes (dump_of x)) same took)
      by (inr (inr (st, holds, inr (is, rose)))) = at_end end WriteFault is rose

pub dumped_run : (s : State) (before after : Outside) (status : Option ℕ) → IsStoredAs before.store s → Runs (Some Dump) before after status
    → (end : End) × IsDumped s before after end × IsTold end before.errors after.errors status
dumped_run s before after status stored runs = (runs.end, dumped s before after runs.end stored runs.ends.0, runs.told)

-- where no object fails
whole_dump : (s : State) (before after : Outside) (status : ℕ) (end : End) → status ≡ status_of end → (Rose before.store.faults after.store.faults → ⊥)
    → (Rose before.output.faults after.output.faults → ⊥) → IsDumped s before after end → IsWhole (dump_of s) before after status
whole_dump s before after status Done at store output is = inr (at, is)
whole_dump s before after status WriteFault at store output is = absurd (output is)
whole_dump s before after status KeeperFault at store output is = absurd (store is)
whole_dump s before after status NoMemory at store output is = inl at
whole_dump s before after status Usage at store output is = absurd is
whole_dump s before after status (BadInput c) at store output is = absurd is
whole_dump s before after status (BadObjects c) at store output is = absurd is
whole_dump s before after status ReadFault at store output is = absurd is
whole_dump s before after status (UnknownRouter r) at store output is = absurd is
whole_dump s before after status NotEmpty at store output is = absurd is
whole_dump s before after status (Damaged what) at store output is = absurd is
whole_dump s before after status (OldVersion found) at store output is = absurd is
whole_dump s before after status DoorFault at store output is = absurd is
whole_dump s before after status (BadLink code requests) at store output is = absurd is

pub dump_is_whole : (s : State) (before after : Outside) (status : ℕ) → IsStoredAs before.store s → (Rose before.store.faults after.store.faults → ⊥)
    → (Rose before.output.faults after.output.faults → ⊥) → Runs (Some Dump) before after (Some status) → IsWhole (dump_of s) before after status
dump_is_whole s before after status stored store output runs =
    whole_dump s before after status runs.end (one_status status (status_of runs.end) runs.told.0) store output (dumped s before after runs.end stored runs.ends.0)

-- the demo exchange
written : (n : ℕ) (i j k l : Flow) (end : End) → DemoEnds n k l end → IsAnswered (demo_text n) i j k l end
written n i j k l Done e = e
written n i j k l WriteFault e = e.1
written n i j k l NoMemory e = tt
written n i j k l Usage e = absurd e
written n i j k l (BadInput c) e = absurd e
written n i j k l (BadObjects c) e = absurd e
written n i j k l ReadFault e = absurd e
written n i j k l KeeperFault e = absurd e
written n i j k l (UnknownRouter r) e = absurd e
written n i j k l NotEmpty e = absurd e
written n i j k l (Damaged what) e = absurd e
written n i j k l (OldVersion found) e = absurd e
written n i j k l DoorFault e = absurd e
written n i j k l (BadLink code requests) e = absurd e

pub demo_run : (n : ℕ) (before after : Outside) (status : Option ℕ) → Runs (Some (Demo n)) before after status
    → (end : End) × IsAnswered (demo_text n) before.input after.input before.output after.output end × IsTold end before.errors after.errors status
demo_run n before after status runs = (runs.end, written n before.input after.input before.output after.output runs.end runs.ends.0, runs.told)

whole_demo : (n : ℕ) (before after : Outside) (status : ℕ) (end : End) → status ≡ status_of end → (Rose before.output.faults after.output.faults → ⊥)
    → DemoEnds n before.output after.output end → IsWhole (demo_text n) before after status
whole_demo n before after status Done at output e = inr (at, e)
whole_demo n before after status WriteFault at output e = absurd (output e.1)
whole_demo n before after status NoMemory at output e = inl at
whole_demo n before after status Usage at output e = absurd e
whole_demo n before after status (BadInput c) at output e = absurd e
whole_demo n before after status (BadObjects c) at output e = absurd e
whole_demo n before after status ReadFault at output e = absurd e
whole_demo n before after status KeeperFault at output e = absurd e
whole_demo n before after status (UnknownRouter r) at output e = absurd e
whole_demo n before after status NotEmpty at output e = absurd e
whole_demo n before after status (Damaged what) at output e = absurd e
whole_demo n before after status (OldVersion found) at output e = absurd e
whole_demo n before after status DoorFault at output e = absurd e
whole_demo n before after status (BadLink code requests) at output e = absurd e

pub demo_is_whole : (n : ℕ) (before after : Outside) (status : ℕ) → (Rose before.output.faults after.output.faults → ⊥) → Runs (Some (Demo n)) before after (Some status)
    → IsWhole (demo_text n) before after status
demo_is_whole n before after status output runs =
    whole_demo n before after status runs.end (one_status status (status_of runs.end) runs.told.0) output runs.ends.0

-- what is told of a store that isn't loaded
no_rows : (rows : Option Table) (fault : LoadFault) (t : Table) → rows ≡ Some t → LoadsAll rows (Err fault) → ((st : State) → IsLoaded st (Err fault) → ⊥) → t ≢ empty
no_rows rows fault t is loads never none = never (first_state empty_registry) (loads.nothing (is ∙ ap Some none))

pub damage_of : (rows : Option Table) (fault : LoadFault) (what : List ℕ) → Unloaded fault (Damaged what) → WhereTold rows (TellsVersion (Err fault)) → LoadsAll rows (Err fault)
    → WhereTold rows (TellsRow (Err fault)) → WhereTold rows IsDamaged
damage_of None fault what un version loads row = tt
damage_of (Some t) load.KeeperFault what un version loads row = let bad : ⊥ = cc in absurd bad
damage_of (Some t) (load.Damaged name damage) what un version loads row =
    (no_rows (Some t) (load.Damaged name damage) t refl loads (λ st is. is), row.0, version)
damage_of (Some t) (load.OldVersion found) what un version loads row = let bad : ⊥ = cc in absurd bad
damage_of (Some t) load.NoMemory what un version loads row = let bad : ⊥ = cc in absurd bad

pub version_of : (rows : Option Table) (fault : LoadFault) (found : ℕ) → Unloaded fault (OldVersion found) → WhereTold rows (TellsVersion (Err fault)) → WhereTold rows IsOld
version_of None fault found un version = tt
version_of (Some t) load.KeeperFault found un version = let bad : ⊥ = cc in absurd bad
version_of (Some t) (load.Damaged name damage) found (inl un) version = let bad : ⊥ = cc in absurd bad
version_of (Some t) (load.Damaged name damage) found (inr un) version = let bad : ⊥ = cc in absurd bad
version_of (Some t) (load.OldVersion old) found un version = version.1
version_of (Some t) load.NoMemory found un version = let bad : ⊥ = cc in absurd bad

-- what an upgrade tells to be damaged
upgrade_damaged : (rows : Option Table) (fault : LoadFault) (what : List ℕ) → Unloaded fault (Damaged what) → WhereTold rows (TellsDamaged (Err fault)) → WhereTold rows FitsNoVersion
upgrade_damaged None fault what un row = tt
upgrade_damaged (Some t) load.KeeperFault what un row = let bad : ⊥ = cc in absurd bad
upgrade_damaged (Some t) (load.Damaged name damage) what un row = row.0
upgrade_damaged (Some t) (load.OldVersion found) what un row = let bad : ⊥ = cc in absurd bad
upgrade_damaged (Some t) load.NoMemory what un row = let bad : ⊥ = cc in absurd bad

ends_damaged : (o : Option Command) (i j k l : Flow) (s u : Store) (g h : Option ℕ) (what : List ℕ) → Ends o i j k l s u g h (Damaged what) → WhereTold s.rows (IsDamagedFor o)
ends_damaged None i j k l s u g h what (is, input, output, store, clock) = let bad : ⊥ = cc in absurd bad
ends_damaged (Some (Ask question)) i j k l s u g h what (e, kept, clock) = absurd e
ends_damaged (Some Ixf) i j k l s u g h what ((second, gave, e), kept) = absurd e
ends_damaged (Some Restore) i j k l s u g h what (e, clock) = absurd e
ends_damaged (Some Dump) i j k l s u g h what ((input, output, rows, (fault, un, rose, version, loads, row)), clock) = damage_of s.rows fault what un version loads row
ends_damaged (Some Upgrade) i j k l s u g h what ((input, output, rows, (fault, un, rose, young, upgrades, row)), clock) = upgrade_damaged s.rows fault what un row
ends_damaged (Some (Demo members)) i j k l s u g h what (e, input, kept, clock) = absurd e
ends_damaged (Some (Wait waiting)) i j k l s u g h what e = absurd e

ends_old : (o : Option Command) (i j k l : Flow) (s u : Store) (g h : Option ℕ) (found : ℕ) → Ends o i j k l s u g h (OldVersion found) → WhereTold s.rows IsOld
ends_old None i j k l s u g h found (is, input, output, store, clock) = let bad : ⊥ = cc in absurd bad
ends_old (Some (Ask question)) i j k l s u g h found (e, kept, clock) = absurd e
ends_old (Some Ixf) i j k l s u g h found ((second, gave, e), kept) = absurd e
ends_old (Some Restore) i j k l s u g h found (e, clock) = absurd e
ends_old (Some Dump) i j k l s u g h found ((input, output, rows, (fault, un, rose, version, loads, row)), clock) = version_of s.rows fault found un version
ends_old (Some Upgrade) i j k l s u g h found (e, clock) = absurd (upgrade_version i j k l s u found e)
ends_old (Some (Demo members)) i j k l s u g h found (e, input, kept, clock) = absurd e
ends_old (Some (Wait waiting)) i j k l s u g h found e = absurd e

pub damaged_run : (command : Option Command) (before after : Outside) → Runs command before after (Some 6) → WhereTold before.store.rows (IsDamagedFor command)
damaged_run command before after r =
    let x = is_damage r.end (sym (one_status 6 (status_of r.end) r.told.0)) in
    ends_damaged command before.input after.input before.output after.output before.store after.store before.second after.second x.0
    (subst (λ (end : End). Ends command before.input after.input before.output after.output before.store after.store before.second after.second end) x.1 r.ends)

pub old_run : (command : Option Command) (before after : Outside) → Runs command before after (Some 10) → WhereTold before.store.rows IsOld
old_run command before after r =
    let x = is_version r.end (sym (one_status 10 (status_of r.end) r.told.0)) in
    ends_old command before.input after.input before.output after.output before.store after.store before.second after.second x.0
    (subst (λ (end : End). Ends command before.input after.input before.output after.output before.store after.store before.second after.second end) x.1 r.ends)

-- a damaged store, or an old one, is loaded as no state
pub where_told : (P : Table → Type 0) (rows : Option Table) (t : Table) → rows ≡ Some t → WhereTold rows P → P t
where_told P None t is p = cc
where_told P (Some u) t is p = let same : u ≡ t = cc in subst P same p

pub damaged_holds : (s : Store) (t : Table) (st : State) → s.rows ≡ Some t → IsDamaged t → Holds s st → ⊥
damaged_holds s t st is d holds = by (where_told (IsStoreOf st) s.rows t is holds.state)
  where
    by : IsStoreOf st t → ⊥
    by (inl same) = d.1 st holds.valid holds.storable same
    by (inr (none, first)) = d.0 none

pub old_holds : (s : Store) (t : Table) (st : State) → s.rows ≡ Some t → IsOld t → Holds s st → ⊥
old_holds s t st is old holds = where_told (TellsVersion (Ok st)) s.rows t is holds.version old

pub status_at : (end e : End) → end ≡ e → ◌≡◌ {A = Option ℕ} (Some (status_of end)) (Some (status_of e))
status_at end e is = ap (λ (x : End). Some (status_of x)) is

module _ (s u : Store) (t : Table) (is : s.rows ≡ Some t) (end : End) where
  pub damage_status : (fault : LoadFault) → IsDamaged t → Unloaded fault end → (fault ≡ load.KeeperFault → Rose s.faults u.faults)
      → WhereTold s.rows (TellsVersion (Err fault)) → IsStatusOr 6 s u (Some (status_of end))
  damage_status load.KeeperFault d un rose version = inr (inr (status_at end KeeperFault un, rose refl))
  damage_status (load.Damaged name damage) d (inl un) rose version = inl (status_at end _ un)
  damage_status (load.Damaged name damage) d (inr un) rose version = inr (inl (status_at end NoMemory un))
  damage_status (load.OldVersion found) d un rose version = absurd (d.2 (where_told (TellsVersion (Err (load.OldVersion found))) s.rows t is version).1)
  damage_status load.NoMemory d un rose version = inr (inl (status_at end NoMemory un))

  pub version_status : (fault : LoadFault) → IsOld t → Unloaded fault end → (fault ≡ load.KeeperFault → Rose s.faults u.faults)
      → WhereTold s.rows (TellsVersion (Err fault)) → IsStatusOr 10 s u (Some (status_of end))
  version_status load.KeeperFault old un rose version = inr (inr (status_at end KeeperFault un, rose refl))
  version_status (load.Damaged name damage) old un rose version = absurd (where_told (TellsVersion (Err (load.Damaged name damage))) s.rows t is version old)
  version_status (load.OldVersion found) old un rose version = inl (status_at end _ un)
  version_status load.NoMemory old un rose version = inr (inl (status_at end NoMemory un))

pub at_status : (n : ℕ) (before after : Outside) (status : Option ℕ) (end : End) → status ≡ Some (status_of end) → IsStatusOr n before.store after.store (Some (status_of end))
    → IsStatusOr n before.store after.store status
at_status n before after status end is told = subst (λ (x : Option ℕ). IsStatusOr n before.store after.store x) (sym is) told

pub damage_told : (rows : Table) (before after : Outside) (status : Option ℕ) → before.store.rows ≡ Some rows → IsDamaged rows → Runs (Some Dump) before after status
    → IsStatusOr 6 before.store after.store status
damage_told rows before after status is d r =
    at_status 6 before after status r.end r.told.0 (by (ways before.input after.input before.output after.output before.store after.store r.end r.ends.0))
  where
    by : NotLoaded before.input after.input before.output after.output before.store after.store r.end ⊎ ((r.end ≡ NoMemory) ⊎ Dumps before.store before.output after.output r.end)
        → IsStatusOr 6 before.store after.store (Some (status_of r.end))
    by (inl (input, output, same, (fault, un, rose, version, loads, row))) = damage_status before.store after.store rows is r.end fault d un rose version
    by (inr (inl gone)) = inr (inl (status_at r.end NoMemory gone))
    by (inr (inr (st, holds, how))) = absurd (damaged_holds before.store rows st is d holds)

pub version_told : (rows : Table) (before after : Outside) (status : Option ℕ) → before.store.rows ≡ Some rows → IsOld rows → Runs (Some Dump) before after status
    → IsStatusOr 10 before.store after.store status
version_told rows before after status is old r =
    at_status 10 before after status r.end r.told.0 (by (ways before.input after.input before.output after.output before.store after.store r.end r.ends.0))
  where
    by : NotLoaded before.input after.input before.output after.output before.store after.store r.end ⊎ ((r.end ≡ NoMemory) ⊎ Dumps before.store before.output after.output r.end)
        → IsStatusOr 10 before.store after.store (Some (status_of r.end))
    by (inl (input, output, same, (fault, un, rose, version, loads, row))) = version_status before.store after.store rows is r.end fault old un rose version
    by (inr (inl gone)) = inr (inl (status_at r.end NoMemory gone))
    by (inr (inr (st, holds, how))) = absurd (old_holds before.store rows st is old holds)
