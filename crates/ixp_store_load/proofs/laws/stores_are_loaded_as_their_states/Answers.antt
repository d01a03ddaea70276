use Rattle.std.proofs.Common.{inl, inr, Result, Some, sym, ap, subst}
use Rattle.ixp_io.specs.Tables.{Table}
use Rattle.ixp_machine_steps.specs.declared.state.State.{State}
use Rattle.ixp_machine_steps.specs.States.{ValidState}
use Rattle.ixp_store_words.specs.declared.fault.LoadFault.{LoadFault}
use Rattle.ixp_store_words.specs.Answers.{IsLoaded, IsStoreOf, LoadsAll}
use Rattle.ixp_store_words.specs.Storing.{IsStorable}
use Rattle.ixp_store_load.proofs.laws.stores_are_loaded_as_their_states.Goals as goal

loaded : (s : State) (rows : Table) (r : Result State LoadFault) → ValidState s → IsStorable s → IsStoreOf s rows → LoadsAll (Some rows) r → IsLoaded s r
loaded s rows r valid stores (inl is) loads = loads.whole s valid stores (ap Some is)
loaded s rows r valid stores (inr (none, is)) loads = subst (λ (x : State). IsLoaded x r) (sym is) (loads.nothing (ap Some none))

pub returns : goal.returns
returns c = loaded
