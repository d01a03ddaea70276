-- How `upgrade` ends, and with which stores.
use Rattle.std.proofs.Common.{◌≡◌, ◌≢◌, ◌⊎◌, inl, inr, ℕ, length, Option, Some, None, Result, Ok, Err, IsErrOf, refl, sym, ap, ◌∙◌, subst}
use Rattle.std.specs.FinMap.{empty}
use Rattle.ixp_io.specs.Faults.{Rose}
use Rattle.ixp_io.specs.Tables.{Table}
use Rattle.ixp_io.specs.Told.{Takes, TakesPart, Told, WhereTold}
use Rattle.ixp_machine_steps.specs.declared.state.State.{State}
use Rattle.ixp_store_rows.specs.States.{tables}
use Rattle.ixp_store_words.specs.declared.fault.LoadFault.{LoadFault}
use Rattle.ixp_store_words.specs.declared.fault.LoadFault.TheVariants as load
use Rattle.ixp_store_upgrade.specs.Upgrades.{FitsNoVersion, IsToday, IsUpgraded, TellsDamaged, Upgrades, UpgradesAll}
use Rattle.ixp_store_upgrade.specs.Versions.{IsFirst, tables_1}
use Rattle.ixp_store_upgrade.proofs.Outcomes.{never_today, one_upgrade}
use Rattle.ixp_cli_plain.specs.declared.command.Command.TheVariants.{Upgrade}
use Rattle.ixp_cli_plain.specs.declared.end.End.{End}
use Rattle.ixp_cli_plain.specs.declared.end.End.TheVariants.{Done, Usage, BadInput, BadObjects, ReadFault, WriteFault, KeeperFault, NoMemory, UnknownRouter, NotEmpty, Damaged, OldVersion, DoorFault, BadLink}
use Rattle.ixp_cli_plain.specs.Dumps.{IsStatusOr}
use Rattle.ixp_cli_plain.specs.Restores.{Store}
use Rattle.ixp_cli_plain.specs.Runs.{CanBeLoaded, Flow, IsTold, NotUpgraded, Outside, Runs, UpgradeEnds, status_of, upgraded_text}
use Rattle.ixp_cli_plain.specs.Sessions.{Unloaded}
use Rattle.ixp_cli_plain.specs.Upgraded.{Becomes, IsRaised, IsWholeRaise}
use Rattle.ixp_cli_plain.proofs.Dumping.{at_status, status_at, where_told}
use Rattle.ixp_cli_plain.proofs.Loadable.{one_status}
use Rattle.ixp_cli_plain.proofs.Loading.{never_done, never_written}

-- An upgrade that answered a fault
pub not_upgraded :
    (i o : Flow) (s u : Store) (fault : LoadFault) (end : End) → (IsErrOf {T = ℕ} (Err fault) load.KeeperFault → Rose s.faults u.faults)
    → ((found : ℕ) → ◌≢◌ {A = Result ℕ LoadFault} (Err fault) (Err (load.OldVersion found))) → UpgradesAll s.rows (Err fault) → WhereTold s.rows (TellsDamaged (Err fault)) → u.rows ≡ s.rows → Unloaded fault end
    → UpgradeEnds i i o o s u end
not_upgraded i o s u fault end cause young upgrades row rows un =
    by_end end (refl, refl, rows, (fault, un, (λ e. cause (ap Err e)), (λ found e. young found (ap Err e)), upgrades, row))
  where
    by_end : (e : End) → NotUpgraded i i o o s u e → UpgradeEnds i i o o s u e
    by_end Done (input, output, same, (f, is, rose, old, all, told)) = absurd (never_done f is)
    by_end WriteFault (input, output, same, (f, is, rose, old, all, told)) = absurd (never_written f is)
    by_end NoMemory (input, output, same, more) = (input, output, same)
    by_end Usage n = n
    by_end (BadInput c) n = n
    by_end (BadObjects c) n = n
    by_end ReadFault n = n
    by_end KeeperFault n = n
    by_end (UnknownRouter r) n = n
    by_end NotEmpty n = n
    by_end (Damaged what) n = n
    by_end (OldVersion found) n = n
    by_end DoorFault n = n
    by_end (BadLink code requests) n = n

-- how `upgrade` ends: the store isn't upgraded, or memory ran out, or it is, and the number is written, or a write failed
abbrev Raises : Store → Store → Flow → Flow → End → Type 0
Raises s u k l end =
    (n : ℕ) × Told s.rows u.rows (Upgrades n) × UpgradesAll s.rows (Ok n) × (((end ≡ Done) × Takes k.bytes l.bytes (upgraded_text n)) ⊎ ((end ≡ WriteFault) × Rose k.faults l.faults))

ways : (i j k l : Flow) (s u : Store) (end : End) → UpgradeEnds i j k l s u end → NotUpgraded i j k l s u end ⊎ ((end ≡ NoMemory) ⊎ Raises s u k l end)
ways i j k l s u Done (n, told, all, same, took) = inr (inr (n, told, all, inl (refl, took)))
ways i j k l s u WriteFault (n, told, all, same, took, rose) = inr (inr (n, told, all, inr (refl, rose)))
ways i j k l s u NoMemory e = inr (inl refl)
ways i j k l s u Usage n = inl n
ways i j k l s u (BadInput c) n = inl n
ways i j k l s u (BadObjects c) n = inl n
ways i j k l s u ReadFault n = inl n
ways i j k l s u KeeperFault n = inl n
ways i j k l s u (UnknownRouter r) n = inl n
ways i j k l s u NotEmpty n = inl n
ways i j k l s u (Damaged what) n = inl n
ways i j k l s u (OldVersion found) n = inl n
ways i j k l s u DoorFault n = inl n
ways i j k l s u (BadLink code requests) n = inl n

-- what is told before is told after
told_of : (P : Table → Table → Type 0) (old new : Option Table) (t : Table) → old ≡ Some t → Told old new P → (now : Table) × (new ≡ Some now) × P t now
told_of P None new t is told = absurd (let bad : ◌≡◌ {A = Option Table} None (Some t) = is in cc)
told_of P (Some u) None t is told = absurd told
told_of P (Some u) (Some now) t is told = let both : ◌≡◌ {A = Option Table} (Some u) (Some t) = is in let same : u ≡ t = cc in (now, refl, subst (λ (x : Table). P x now) same told)

-- the number and the rows of an upgrade that was done
module _ (s u : Store) (now : Table) (n m : ℕ) (told : Told s.rows u.rows (Upgrades m)) (all : UpgradesAll s.rows (Ok m)) where
  becomes_rows : Becomes s now n → (u.rows ≡ Some now) × (m ≡ n)
  becomes_rows (inl (st, first, rows, is, count)) =
      let after = told_of (Upgrades m) s.rows u.rows (tables_1 st) rows told in
      (after.1 ∙ ap Some (one_upgrade m st first after.0 after.2 ∙ sym is), all.first st first rows ∙ sym count)
  becomes_rows (inr (can, rows, none)) =
      let after = told_of (Upgrades m) s.rows u.rows now rows told in
      (after.1 ∙ ap Some (still now can rows after.0 after.2), by_can can ∙ sym none)
    where
      by_can : CanBeLoaded s → m ≡ 0
      by_can (inl empty_rows) = all.nothing empty_rows
      by_can (inr (st, valid, stores, there)) = all.today st valid stores there

      today : (t : Table) → CanBeLoaded s → s.rows ≡ Some t → IsToday t
      today t (inl empty_rows) is = let both : ◌≡◌ {A = Option Table} (Some t) (Some empty) = sym is ∙ empty_rows in let same : t ≡ empty = cc in inl same
      today t (inr (st, valid, stores, there)) is = let both : ◌≡◌ {A = Option Table} (Some t) (Some (tables st)) = sym is ∙ there in let same : t ≡ tables st = cc in inr (st, valid, stores, same)

      still : (t : Table) → CanBeLoaded s → s.rows ≡ Some t → (later : Table) → Upgrades m t later → later ≡ t
      still t can is later (inl (st, first, rows, new, count)) = absurd (never_today t (today t can is) st first rows)
      still t can is later (inr (day, same, count)) = same

-- the fault of such a store is the keeper's, or that memory ran out
abbrev IsSome : LoadFault → Type 0
IsSome fault = (n : ℕ) × IsUpgraded n (Err fault)

some_fault : (s : Store) (now : Table) (n : ℕ) (fault : LoadFault) → Becomes s now n → UpgradesAll s.rows (Err fault) → IsSome fault
some_fault s now n fault (inl (st, first, rows, is, count)) all = (length st.registry.routers, all.first st first rows)
some_fault s now n fault (inr (inl none, rows, zero)) all = (0, all.nothing none)
some_fault s now n fault (inr (inr (st, valid, stores, there), rows, zero)) all = (0, all.today st valid stores there)

module _ (now : Table) (n : ℕ) (before after : Outside) (becomes : Becomes before.store now n) where
  at_end : (end e : End) → end ≡ e → IsRaised now n before after e → IsRaised now n before after end
  at_end end e is r = subst (λ (x : End). IsRaised now n before after x) (sym is) r

  refused : (end : End) (m : ℕ) (fault : LoadFault) → IsUpgraded m (Err fault) → Unloaded fault end → (fault ≡ load.KeeperFault → Rose before.store.faults after.store.faults) → IsRaised now n before after end
  refused end m load.KeeperFault is un rose = at_end end KeeperFault un (rose refl)
  refused end m (load.Damaged name damage) is un rose = absurd is
  refused end m (load.OldVersion found) is un rose = absurd is
  refused end m load.NoMemory is un rose = at_end end NoMemory un tt

  raised : (end : End) → UpgradeEnds before.input after.input before.output after.output before.store after.store end → IsRaised now n before after end
  raised end ends = by (ways before.input after.input before.output after.output before.store after.store end ends)
    where
      by : NotUpgraded before.input after.input before.output after.output before.store after.store end ⊎ ((end ≡ NoMemory) ⊎ Raises before.store after.store before.output after.output end)
          → IsRaised now n before after end
      by (inl (input, output, rows, (fault, un, rose, young, all, row))) =
          let (m, is) = some_fault before.store now n fault becomes all in
          refused end m fault is un rose
      by (inr (inl is)) = at_end end NoMemory is tt
      by (inr (inr (m, told, all, inl (is, took)))) =
          let rows = becomes_rows before.store after.store now n m told all becomes in
          at_end end Done is (rows.0, subst (λ (x : ℕ). Takes before.output.bytes after.output.bytes (upgraded_text x)) rows.1 took)
      by (inr (inr (m, told, all, inr (is, rose)))) =
          let rows = becomes_rows before.store after.store now n m told all becomes in
          at_end end WriteFault is (rows.0, rose)

pub raised_run : (now : Table) (n : ℕ) (before after : Outside) (status : Option ℕ) → Becomes before.store now n → Runs (Some Upgrade) before after status
    → (end : End) × IsRaised now n before after end × IsTold end before.errors after.errors status
raised_run now n before after status becomes runs = (runs.end, raised now n before after becomes runs.end runs.ends.0, runs.told)

-- where no object fails
whole_raise : (now : Table) (n : ℕ) (before after : Outside) (status : ℕ) (end : End) → status ≡ status_of end → (Rose before.store.faults after.store.faults → ⊥)
    → (Rose before.output.faults after.output.faults → ⊥) → IsRaised now n before after end → IsWholeRaise now n before after status
whole_raise now n before after status Done at store output is = inr (at, is.0, is.1)
whole_raise now n before after status WriteFault at store output is = absurd (output is.1)
whole_raise now n before after status KeeperFault at store output is = absurd (store is)
whole_raise now n before after status NoMemory at store output is = inl at
whole_raise now n before after status Usage at store output is = absurd is
whole_raise now n before after status (BadInput c) at store output is = absurd is
whole_raise now n before after status (BadObjects c) at store output is = absurd is
whole_raise now n before after status ReadFault at store output is = absurd is
whole_raise now n before after status (UnknownRouter r) at store output is = absurd is
whole_raise now n before after status NotEmpty at store output is = absurd is
whole_raise now n before after status (Damaged what) at store output is = absurd is
whole_raise now n before after status (OldVersion found) at store output is = absurd is
whole_raise now n before after status DoorFault at store output is = absurd is
whole_raise now n before after status (BadLink code requests) at store output is = absurd is

pub raise_is_whole : (now : Table) (n : ℕ) (before after : Outside) (status : ℕ) → Becomes before.store now n → (Rose before.store.faults after.store.faults → ⊥)
    → (Rose before.output.faults after.output.faults → ⊥) → Runs (Some Upgrade) before after (Some status) → IsWholeRaise now n before after status
raise_is_whole now n before after status becomes store output runs =
    whole_raise now n before after status runs.end (one_status status (status_of runs.end) runs.told.0) store output (raised now n before after becomes runs.end runs.ends.0)

-- a store of a state in neither version is told to be damaged
module _ (s u : Store) (t : Table) (end : End) where
  refused_status : (fault : LoadFault) → Unloaded fault end → (fault ≡ load.KeeperFault → Rose s.faults u.faults) → ((found : ℕ) → fault ≢ load.OldVersion found) → IsStatusOr 6 s u (Some (status_of end))
  refused_status load.KeeperFault un rose young = inr (inr (status_at end KeeperFault un, rose refl))
  refused_status (load.Damaged name damage) (inl un) rose young = inl (status_at end _ un)
  refused_status (load.Damaged name damage) (inr un) rose young = inr (inl (status_at end NoMemory un))
  refused_status (load.OldVersion found) un rose young = absurd (young found refl)
  refused_status load.NoMemory un rose young = inr (inl (status_at end NoMemory un))

no_upgrade : (n : ℕ) (t now : Table) → FitsNoVersion t → Upgrades n t now → ⊥
no_upgrade n t now none (inl (st, first, rows, new, count)) = none.first st first rows
no_upgrade n t now none (inr (inl clear, same, count)) = none.some clear
no_upgrade n t now none (inr (inr (st, valid, stores, rows), same, count)) = none.today st valid stores rows

pub refusal_told : (rows : Table) (before after : Outside) (status : Option ℕ) → before.store.rows ≡ Some rows → FitsNoVersion rows → Runs (Some Upgrade) before after status
    → IsStatusOr 6 before.store after.store status
refusal_told rows before after status is none r =
    at_status 6 before after status r.end r.told.0 (by (ways before.input after.input before.output after.output before.store after.store r.end r.ends.0))
  where
    by : NotUpgraded before.input after.input before.output after.output before.store after.store r.end ⊎ ((r.end ≡ NoMemory) ⊎ Raises before.store after.store before.output after.output r.end)
        → IsStatusOr 6 before.store after.store (Some (status_of r.end))
    by (inl (input, output, same, (fault, un, rose, young, all, row))) = refused_status before.store after.store rows r.end fault un rose young
    by (inr (inl gone)) = inr (inl (status_at r.end NoMemory gone))
    by (inr (inr (n, told, all, how))) =
        let after_of = told_of (Upgrades n) before.store.rows after.store.rows rows is told in
        absurd (no_upgrade n rows after_of.0 none after_of.2)
