use Rattle.std.specs.Ordering.{is_lt}
use Rattle.std.proofs.lemmas.List.Kept.{IsSortedBy-filter}
use Rattle.std.proofs.lemmas.List.Sorted.{ranks_by}
use Rattle.ixp_pfxset.proofs.ordered.left_in_order.Goals as goal

pub returns : goal.returns
returns g c = λ test xs sorted. IsSortedBy-filter (λ x y. is_lt (g.T.Ord.cmp x y)) (ranks_by g.met.T.Ord.total (λ x. x)) test xs sorted
