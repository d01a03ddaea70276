use Rattle.std.proofs.Common.{rules}
use Rattle.ixp_store_words.specs.Opening.{change_name}
use Rattle.ixp_store_words.proofs.Sorting.{rises_by_closure}
use Rattle.ixp_store_load.proofs.checking.sort_changes.Goals as goal

pub returns-clause-rises : goal.returns-clause-rises
returns-clause-rises c = rises_by_closure change_name _ c.sort_unstable_by.ensures.sorted (λ a r f' k. search rules)
