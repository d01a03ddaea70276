use Rattle.std.proofs.Common.{rules}
use Rattle.ixp_store_words.proofs.Sorting.{rises_by_closure}
use Rattle.ixp_store_damage.proofs.sections.sort_placed.Goals as goal

pub returns-clause-rises : goal.returns-clause-rises
returns-clause-rises g c = rises_by_closure (λ p. g.R.Lined.key p.line) _ c.sort_unstable_by.ensures.sorted (λ a r f' k. search rules)
