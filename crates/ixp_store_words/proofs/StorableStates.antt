-- A state that can be stored, by what it keeps.
use Rattle.std.proofs.Common.{◌<◌, ◌^◌}
use Rattle.std.specs.List.{AllByRecursion}
use Rattle.ixp_num_tables.proofs.AllItems.{all_both}
use Rattle.ixp_num_tables.proofs.Orders.{all_weaker}
use Rattle.ixp_machine_steps.specs.declared.state.State.{State}
use Rattle.ixp_store_words.specs.Storing.{AreStorable, HasSubject, KeepsSome, IsStorable}

pub kept_of_storable : (s : State) → IsStorable s → AreStorable s.kept
kept_of_storable s stores = all_both KeepsSome (λ o. AllByRecursion HasSubject o.numbers) s.kept stores.some stores.subjects

pub storable_by_kept : (s : State) → s.accepted < 2 ^ 64 → AreStorable s.kept → IsStorable s
storable_by_kept s room kept = record {
  accepted = room;
  some = all_weaker (λ o. KeepsSome o × AllByRecursion HasSubject o.numbers) KeepsSome (λ o x. x.0) s.kept kept;
  subjects = all_weaker (λ o. KeepsSome o × AllByRecursion HasSubject o.numbers) (λ o. AllByRecursion HasSubject o.numbers) (λ o x. x.1) s.kept kept;
}
