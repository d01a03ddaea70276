-- A desk that is opened over a store.
use Rattle.std.specs.Prelude.{◌≡◌, ◌+◌, ℕ, List, [], ◌∷◌, Option, Result, Ok, Err, IfOk}
use Rattle.ixp_io.specs.Faults.{Rose}
use Rattle.ixp_io.specs.Tables.{Table}
use Rattle.ixp_io.specs.Told.{WhereTold}
use Rattle.ixp_board.specs.Histories.{entries}
use Rattle.ixp_machine_steps.specs.declared.state.State.{State}
use Rattle.ixp_machine_steps.specs.States.{ValidState}
use Rattle.ixp_store_words.specs.declared.fault.LoadFault.{LoadFault}
use Rattle.ixp_store_words.specs.declared.fault.LoadFault.TheVariants as load
use Rattle.ixp_store_words.specs.Answers.{IsStoreOf, LoadsAll, TellsVersion}
use Rattle.ixp_store_words.specs.Storing.{IsStorable}
use Rattle.ixp_store_damage.specs.Damages.{TellsRow}
use Rattle.ixp_desk_history.specs.declared.turn.First.{First}
use Rattle.ixp_desk_lock.specs.Facts.{Log}
use Rattle.ixp_desk_lock.specs.Sights.{Sight}

-- What a store with these rows is loaded as: the valid state whose rows they are, which can be stored again;
-- that of the registry without rows where there are none; or why not.
pub record Loads (rows : Option Table) (r : Result State LoadFault) : Type 0 where
  pub valid : IfOk r ValidState
  pub storable : IfOk r IsStorable
  pub state : IfOk r (λ s. WhereTold rows (IsStoreOf s))
  pub all : LoadsAll rows r
  pub version : WhereTold rows (TellsVersion r)
  pub damage : WhereTold rows (TellsRow r)

module _ {D P : Type 0} (history : D → Log) (rows : P → Option Table) (faults : P → ℕ) (keeper : P) where
  -- The history begins with the state that was loaded and the store's count of faults, and has no turn. Where
  -- there is no desk the store comes back with its rows as they were; its count rose where it failed.
  abbrev pub Comes : Result State LoadFault → Result D (LoadFault × P) → Type 0
  Comes (Ok s) (Ok d) = (first : First) × (history d ≡ entries first []) × (first.state ≡ s)
      × (first.faults ≡ faults keeper)
  Comes (Ok s) (Err e) = (e.0 ≡ load.NoMemory) × (rows e.1 ≡ rows keeper)
  Comes (Err x) (Ok d) = ⊥
  Comes (Err x) (Err e) = (e.0 ≡ x) × (rows e.1 ≡ rows keeper)
      × (x ≡ load.KeeperFault → Rose (faults keeper) (faults e.1))

  -- what opening a desk over the store ends in
  pub record Opens (r : Result D (LoadFault × P)) : Type 0 where
    pub loaded : Result State LoadFault
    pub loads : Loads (rows keeper) loaded
    pub comes : Comes loaded r

-- Seats with these numbers, from one on, that have made no turn and have all seen this history.
abbrev pub AreSeats : ℕ → Log → List Sight → Type 0
AreSeats n log [] = Unit {0}
AreSeats n log (s ∷ ss) = (s.0 ≡ n) × (s.1 ≡ 0) × (s.2 ≡ log) × AreSeats (n + 1) log ss
