-- What an upgrade answers, by what its loads and its commit answered.
use Rattle.std.proofs.Common.{◌≡◌, ◌≢◌, ◌⊎◌, inl, inr, ℕ, List, [], ◌∷◌, map, length, codes, Option, Some, None, option_map, Result, Ok, Err, OnErr, refl, sym, ap, ◌∙◌, subst, arith}
use Rattle.std.specs.FinMap.{empty, get, get-empty}
use Rattle.ixp_io.specs.Tables.{Table, changed, name_cmp}
use Rattle.ixp_io.specs.Told.{Told, WhereTold}
use Rattle.ixp_rows_lines.specs.declared.version.Version.TheVariants.{Two}
use Rattle.ixp_machine_steps.specs.Openings.{first_state}
use Rattle.ixp_machine_steps.specs.declared.state.State.{State}
use Rattle.ixp_machine_steps.specs.States.{ValidState}
use Rattle.ixp_store_rows.specs.Names.{version_name}
use Rattle.ixp_store_rows.specs.States.{set_row, tables}
use Rattle.ixp_store_rows.proofs.RowsHeld.{rows_held}
use Rattle.ixp_store_words.specs.declared.fault.LoadFault.{LoadFault}
use Rattle.ixp_store_words.specs.declared.fault.LoadFault.TheVariants.{KeeperFault, Damaged, OldVersion, NoMemory}
use Rattle.ixp_store_words.specs.Answers.{IsLoaded, IsStoreOf, LoadsAll, TellsVersion, empty_registry}
use Rattle.ixp_store_words.specs.Faults.{IsKeepers}
use Rattle.ixp_store_words.specs.Storing.{IsStorable}
use Rattle.ixp_store_damage.specs.Damages.{TellsRow}
use Rattle.ixp_store_upgrade.specs.Upgrades.{FitsNoVersion, IsOld, IsToday, IsUpgraded, TellsDamaged, Upgrades, UpgradesAll}
use Rattle.ixp_store_upgrade.specs.Versions.{IsFirst, body_now, table_now, tables_1, version_rows}
use Rattle.ixp_store_upgrade.proofs.Images.{get_now}
use Rattle.ixp_store_upgrade.proofs.Stores.{Body, first_old, is_first, made_today, now_first, plain_routers}

abbrev first_byte : Body → ℕ
first_byte None = 0
first_byte (Some []) = 0
first_byte (Some (c ∷ cs)) = c

-- no store is of both versions
never_both : (o : Body) → o ≡ Some (codes "2") → o ≡ Some (codes "1") → ⊥
never_both o two one = let bad : 50 ≡ 49 = ap first_byte (sym two ∙ one) in omega (arith, bad)

today_young : (s : State) → ValidState s → IsOld (tables s) → ⊥
today_young s v old = never_both (get (tables s) version_name) (rows_held s v).0 old

some_rows : (t : Table) → IsOld t → t ≢ empty
some_rows t old none =
    let bad : ◌≡◌ {A = Body} (Some (codes "1")) None = sym old ∙ (ap (λ u. get u version_name) none ∙ get-empty name_cmp version_name) in
    cc

now_two : (t : Table) → IsOld t → get (table_now t) version_name ≡ Some (codes "2")
now_two t old = get_now t version_name ∙ ap (option_map (body_now version_name)) old

now_some : (t : Table) → IsOld t → table_now t ≢ empty
now_some t old none =
    let bad : ◌≡◌ {A = Body} (Some (codes "2")) None = sym (now_two t old) ∙ (ap (λ u. get u version_name) none ∙ get-empty name_cmp version_name) in
    cc

-- A store of the first version
table_upgraded : (t u : Table) (s : State) (k : ℕ) → IsOld t → ValidState s → IsStorable s → IsStoreOf s (table_now t) → u ≡ changed t (map set_row (version_rows Two s)) → k ≡ length s.registry.routers → Upgrades k t u
table_upgraded t u s k old v stores (inl now) is count =
    inl (s, record { valid = v; storable = stores; routers = plain_routers s v t old now }, is_first s v t old now, is ∙ made_today s v t old now, count)
table_upgraded t u s k old v stores (inr (none, first)) is count = absurd (now_some t old none)

told_upgraded : (o n : Option Table) (s : State) (k : ℕ) → WhereTold o IsOld → ValidState s → IsStorable s → WhereTold (option_map table_now o) (IsStoreOf s)
    → Told o n (λ before now. now ≡ changed before (map set_row (version_rows Two s))) → k ≡ length s.registry.routers → Told o n (Upgrades k)
told_upgraded None None s k old v stores is told count = tt
told_upgraded None (Some u) s k old v stores is told count = told
told_upgraded (Some t) None s k old v stores is told count = told
told_upgraded (Some t) (Some u) s k old v stores is told count = table_upgraded t u s k old v stores is told count

pub first_upgraded : (o m n : Option Table) (s : State) (k : ℕ) → WhereTold o IsOld → ValidState s → IsStorable s → WhereTold (option_map table_now o) (IsStoreOf s) → m ≡ o
    → Told m n (λ before now. now ≡ changed before (map set_row (version_rows Two s))) → k ≡ length s.registry.routers → Told o n (Upgrades k)
first_upgraded o m n s k old v stores is same told count =
    told_upgraded o n s k old v stores is (subst (λ (x : Option Table). Told x n (λ before now. now ≡ changed before (map set_row (version_rows Two s)))) same told) count

pub ok_told : (o : Option Table) (n : ℕ) → WhereTold o (TellsDamaged (Ok n))
ok_told None n = tt
ok_told (Some t) n = tt

pub keepers_told : (o : Option Table) (fault : LoadFault) → IsKeepers fault → WhereTold o (TellsDamaged (Err fault))
keepers_told None fault is = tt
keepers_told (Some t) KeeperFault is = tt
keepers_told (Some t) (Damaged name damage) is = absurd is
keepers_told (Some t) (OldVersion found) is = absurd is
keepers_told (Some t) NoMemory is = tt

pub keepers_upgraded : (n : ℕ) (fault : LoadFault) → IsKeepers fault → IsUpgraded n (Err fault)
keepers_upgraded n KeeperFault is = tt
keepers_upgraded n (Damaged name damage) is = absurd is
keepers_upgraded n (OldVersion found) is = absurd is
keepers_upgraded n NoMemory is = tt

pub keepers_young : (fault : LoadFault) → IsKeepers fault → (found : ℕ) → fault ≢ OldVersion found
keepers_young KeeperFault is found e = let bad : ⊥ = cc in bad
keepers_young (Damaged name damage) is found e = is
keepers_young (OldVersion n) is found e = is
keepers_young NoMemory is found e = let bad : ⊥ = cc in bad

-- the fault of a load of raised rows
abbrev pub Passes : LoadFault → LoadFault → Type 0
Passes fault told = ((found : ℕ) → fault ≢ OldVersion found) → told ≡ fault

table_damaged : (t : Table) (fault told : LoadFault) → IsOld t → TellsVersion (Err fault) (table_now t) → TellsRow (Err fault) (table_now t) → Passes fault told → TellsDamaged (Err told) t
table_damaged t KeeperFault told old version row passes = subst (λ (f : LoadFault). TellsDamaged (Err f) t) (sym (passes (λ found e. let bad : ⊥ = cc in bad))) tt
table_damaged t (Damaged name damage) told old version row passes =
    subst (λ (f : LoadFault). TellsDamaged (Err f) t) (sym (passes (λ found e. let bad : ⊥ = cc in bad))) (
      record {
        some = some_rows t old;
        today = λ s v stores is. today_young s v (subst IsOld is old);
        first = λ s f is. row.0 s f.valid f.storable (now_first s f t is);
      },
      inr (old, row),
    )
table_damaged t (OldVersion found) told old version row passes = absurd (never_both (get (table_now t) version_name) (now_two t old) version.1)
table_damaged t NoMemory told old version row passes = subst (λ (f : LoadFault). TellsDamaged (Err f) t) (sym (passes (λ found e. let bad : ⊥ = cc in bad))) tt

pub first_damaged :
    (o : Option Table) (fault told : LoadFault) → WhereTold o IsOld → WhereTold (option_map table_now o) (TellsVersion (Err fault)) → WhereTold (option_map table_now o) (TellsRow (Err fault)) → Passes fault told
    → WhereTold o (TellsDamaged (Err told))
first_damaged None fault told old version row passes = tt
first_damaged (Some t) fault told old version row passes = table_damaged t fault told old version row passes

loaded_young : (s : State) (fault : LoadFault) → IsLoaded s (Err fault) → IsKeepers fault
loaded_young s KeeperFault is = tt
loaded_young s (Damaged name damage) is = absurd is
loaded_young s (OldVersion found) is = absurd is
loaded_young s NoMemory is = tt

-- Of rows whose version is the first none are today's, and there are some.
abbrev LoadsNow : Option Table → Result State LoadFault → Type 0
LoadsNow o r = (s : State) → ValidState s → IsStorable s → option_map table_now o ≡ Some (tables s) → IsLoaded s r

first_all : (o : Option Table) (r : Result ℕ LoadFault) → WhereTold o IsOld → ((s : State) → IsFirst s → option_map table_now o ≡ Some (tables s) → IsUpgraded (length s.registry.routers) r) → UpgradesAll o r
first_all o r old is = record {
  first = λ s f rows. is s f (ap (option_map table_now) rows ∙ ap Some (now_first s f (tables_1 s) refl));
  today = λ s v stores rows. absurd (today_young s v (subst (λ (x : Option Table). WhereTold x IsOld) rows old));
  nothing = λ rows. absurd (some_rows empty (subst (λ (x : Option Table). WhereTold x IsOld) rows old) refl);
}

pub first_whole : (o : Option Table) (s : State) (k : ℕ) → WhereTold o IsOld → LoadsNow o (Ok s) → k ≡ length s.registry.routers → UpgradesAll o (Ok k)
first_whole o s k old loads count = first_all o (Ok k) old (λ r f rows. let same : s ≡ r = loads r f.valid f.storable rows in count ∙ ap (λ (x : State). length x.registry.routers) same)

pub first_keepers : (o : Option Table) (fault : LoadFault) → WhereTold o IsOld → IsKeepers fault → UpgradesAll o (Err fault)
first_keepers o fault old is = first_all o (Err fault) old (λ s f rows. keepers_upgraded (length s.registry.routers) fault is)

pub first_refused : (o : Option Table) (fault told : LoadFault) → WhereTold o IsOld → LoadsNow o (Err fault) → Passes fault told → UpgradesAll o (Err told)
first_refused o fault told old loads passes =
    first_all o (Err told) old (λ s f rows.
    let is = loaded_young s fault (loads s f.valid f.storable rows) in
    subst (λ (x : LoadFault). IsUpgraded (length s.registry.routers) (Err x)) (sym (passes (keepers_young fault is))) (keepers_upgraded (length s.registry.routers) fault is))

-- One of today's
table_today : (t : Table) (s : State) → ValidState s → IsStorable s → IsStoreOf s t → IsToday t
table_today t s v stores (inl is) = inr (s, v, stores, is)
table_today t s v stores (inr (none, first)) = inl none

told_today : (o : Option Table) (s : State) → ValidState s → IsStorable s → WhereTold o (IsStoreOf s) → Told o o (Upgrades 0)
told_today None s v stores is = tt
told_today (Some t) s v stores is = inr (table_today t s v stores is, refl, refl)

pub today_upgraded : (o n : Option Table) (s : State) → ValidState s → IsStorable s → WhereTold o (IsStoreOf s) → n ≡ o → Told o n (Upgrades 0)
today_upgraded o n s v stores is same = subst (λ (x : Option Table). Told o x (Upgrades 0)) (sym same) (told_today o s v stores is)

pub today_whole : (o : Option Table) (s : State) → WhereTold o (TellsVersion (Ok s)) → UpgradesAll o (Ok 0)
today_whole o s version = record {
  first = λ r f rows. absurd (subst (λ (x : Option Table). WhereTold x (TellsVersion (Ok s))) rows version (first_old r f (tables_1 r) refl));
  today = λ r v stores rows. refl;
  nothing = λ rows. refl;
}

-- a fault of a load of rows of no older version
abbrev pub NotOld : LoadFault → Type 0
NotOld (OldVersion found) = ⊥
NotOld fault = Unit {0}

today_table : (t : Table) (fault : LoadFault) → LoadsAll (Some t) (Err fault) → TellsVersion (Err fault) t → TellsRow (Err fault) t → TellsDamaged (Err fault) t
today_table t KeeperFault loads version row = tt
today_table t (Damaged name damage) loads version row = (
  record {
    some = λ none. loads.nothing (ap Some none);
    today = row.0;
    first = λ s f is. version (first_old s f t is);
  },
  inl (version, row),
)
today_table t (OldVersion found) loads version row = tt
today_table t NoMemory loads version row = tt

pub today_damaged : (o : Option Table) (fault : LoadFault) → LoadsAll o (Err fault) → WhereTold o (TellsVersion (Err fault)) → WhereTold o (TellsRow (Err fault)) → WhereTold o (TellsDamaged (Err fault))
today_damaged None fault loads version row = tt
today_damaged (Some t) fault loads version row = today_table t fault loads version row

young_upgraded : (n : ℕ) (s : State) (fault : LoadFault) → IsLoaded s (Err fault) → IsUpgraded n (Err fault)
young_upgraded n s fault is = keepers_upgraded n fault (loaded_young s fault is)

first_of_fault : (n : ℕ) (o : Option Table) (t : Table) (fault : LoadFault) → NotOld fault → WhereTold o (TellsVersion (Err fault)) → o ≡ Some t → IsOld t → IsUpgraded n (Err fault)
first_of_fault n o t KeeperFault is version rows old = tt
first_of_fault n o t (Damaged name damage) is version rows old = absurd (subst (λ (x : Option Table). WhereTold x (TellsVersion (Err (Damaged name damage)))) rows version old)
first_of_fault n o t (OldVersion found) is version rows old = absurd is
first_of_fault n o t NoMemory is version rows old = tt

pub today_refused : (o : Option Table) (fault : LoadFault) → NotOld fault → LoadsAll o (Err fault) → WhereTold o (TellsVersion (Err fault)) → UpgradesAll o (Err fault)
today_refused o fault is loads version = record {
  first = λ s f rows. first_of_fault (length s.registry.routers) o (tables_1 s) fault is version rows (first_old s f (tables_1 s) refl);
  today = λ s v stores rows. young_upgraded 0 s fault (loads.whole s v stores rows);
  nothing = λ rows. young_upgraded 0 (first_state empty_registry) fault (loads.nothing rows);
}

-- the row of the version says 1
pub is_old : (o n : Option Table) (found : ℕ) → n ≡ o → WhereTold o (TellsVersion (Err (OldVersion found))) → WhereTold n IsOld
is_old o n found same version = subst (λ (x : Option Table). WhereTold x IsOld) (sym same) (says o version)
  where
    says : (x : Option Table) → WhereTold x (TellsVersion (Err (OldVersion found))) → WhereTold x IsOld
    says None h = tt
    says (Some t) h = h.1

-- a store of the first version is none of today's
pub never_today : (t : Table) → IsToday t → (s : State) → IsFirst s → t ≡ tables_1 s → ⊥
never_today t (inl none) s first is = some_rows t (first_old s first t is) none
never_today t (inr (r, v, stores, rows)) s first is = today_young r v (subst IsOld rows (first_old s first t is))

-- and becomes today's store of its own state
pub one_upgrade : (n : ℕ) (s : State) → IsFirst s → (now : Table) → Upgrades n (tables_1 s) now → now ≡ tables s
one_upgrade n s first now (inl (r, other, rows, is, count)) = is ∙ (sym (now_first r other (tables_1 s) rows) ∙ now_first s first (tables_1 s) refl)
one_upgrade n s first now (inr (today, same, count)) = absurd (never_today (tables_1 s) today s first refl)
