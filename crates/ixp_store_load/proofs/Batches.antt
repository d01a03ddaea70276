-- The changes that set a state's rows, in the order of names.
use Rattle.std.proofs.Common.{◌≡◌, ◌≢◌, List, [], ◌∷◌, map, ap, subst}
use Rattle.std.specs.List.{AllByRecursion}
use Rattle.std.specs.List.Sorted.{IsPermutation}
use Rattle.std.specs.declared.cmp.Ordering.TheVariants.{Less}
use Rattle.ixp_io.specs.declared.keeper.Change.{Change}
use Rattle.ixp_num_tables.specs.Sums.{Pairs}
use Rattle.ixp_num_tables.specs.Tables.{order, Ascends}
use Rattle.ixp_machine_steps.specs.declared.state.State.{State}
use Rattle.ixp_machine_steps.specs.States.{ValidState}
use Rattle.ixp_store_rows.specs.Names.{Entry}
use Rattle.ixp_store_rows.specs.States.{set_row, stored_rows}
use Rattle.ixp_store_rows.proofs.Apart.{Differ}
use Rattle.ixp_store_rows.proofs.NamesOnce.{names_once}
use Rattle.ixp_store_words.specs.Opening.{AreAllRows, entry_name, change_name}
use Rattle.ixp_store_words.specs.Sorting.{Rises}
use Rattle.ixp_store_words.proofs.Sorting.{one_order, same_map, same_back}

set_apart : (es : List Entry) → Pairs Differ es → Pairs (λ a b. a ≢ b) (map set_row es)
set_apart [] apart = tt
set_apart (e ∷ es) apart = (each es apart.0, set_apart es apart.1)
  where
    each : (fs : List Entry) → AllByRecursion (Differ e) fs → AllByRecursion (λ c. set_row e ≢ c) (map set_row fs)
    each [] all = tt
    each (f ∷ fs) all = ((λ is. all.0 (ap (λ (c : Change). c.name) is)), each fs all.1)

set_up : (es : List Entry) → Ascends entry_name es → Ascends change_name (map set_row es)
set_up [] up = tt
set_up (e ∷ es) up = (each es up.0, set_up es up.1)
  where
    each : (fs : List Entry) → AllByRecursion (λ f. order (entry_name e) (entry_name f) ≡ Less) fs → AllByRecursion (λ c. order (change_name (set_row e)) (change_name c) ≡ Less) (map set_row fs)
    each [] all = tt
    each (f ∷ fs) all = (all.0, each fs all.1)

-- all rows of the state are those that its changes set, in this order
pub sets_all : (s : State) → ValidState s → (es : List Entry) → AreAllRows s es → (batch sorted : List Change) → batch ≡ map set_row (stored_rows s) → IsPermutation batch sorted → Rises change_name sorted → sorted ≡ map set_row es
sets_all s v es all batch sorted is moved rises =
    one_order change_name (map set_row (stored_rows s)) sorted (map set_row es) (subst (λ b. IsPermutation b sorted) is moved) rises (set_apart (stored_rows s) (names_once s v)) (set_up es all.order)
    (same_map set_row (stored_rows s) es (same_back es (stored_rows s) all.same))
