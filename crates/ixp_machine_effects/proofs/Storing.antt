-- What a commit answers, and the store's count of faults.
use Rattle.std.proofs.Common.{◌≡◌, ℕ, zero, suc, ◌-◌, ◌≤◌, ◌<◌, ◌⊎◌, inl, inr, List, Option, Result, Ok, Err, refl, arith}
use Rattle.std.specs.Result.{OnOk, OnErr, IsErrOf}
use Rattle.ixp_io.specs.declared.keeper.Change.{Change}
use Rattle.ixp_io.specs.declared.keeper.KeepFault.{KeepFault}
use Rattle.ixp_io.specs.declared.keeper.KeepFault.TheVariants.{Failed, NoMemory}
use Rattle.ixp_io.specs.Faults.{Rose}
use Rattle.ixp_io.specs.Tables.{Table, changed}
use Rattle.ixp_io.specs.Told.{Told}
use Rattle.ixp_machine_effects.specs.Saving.{Saves}

-- a count that didn't rise stands still
still : (before now : ℕ) → before ≤ now → ((before < now) → ⊥) → now ≡ before
still before now up not = by (now - before) refl
  where
    by : (d : ℕ) → now - before ≡ d → now ≡ before
    by zero e = omega (arith, up, e)
    by (suc d) e = absurd (not (omega (arith, e)))

pub saves : {A : Type 0} (batch : List Change) (rows rows' : Option Table) (faults faults' : ℕ) (r : Result A KeepFault)
    → OnOk r (Told rows rows' (λ before now. now ≡ changed before batch)) → OnErr r (rows' ≡ rows) → faults ≤ faults'
    → (IsErrOf r Failed → Rose faults faults') → (Rose faults faults' → r ≡ Err Failed) → Saves batch rows rows' faults faults' r
saves batch rows rows' faults faults' (Ok a) made kept counts cause answered =
    (made, still faults faults' counts (λ up. let bad = answered (inl up) in let no : ⊥ = cc in no))
saves batch rows rows' faults faults' (Err Failed) made kept counts cause answered = (kept, cause refl)
saves batch rows rows' faults faults' (Err NoMemory) made kept counts cause answered =
    (kept, still faults faults' counts (λ up. let bad = answered (inl up) in let no : ⊥ = cc in no))
