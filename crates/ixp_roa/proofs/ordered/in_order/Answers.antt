use Rattle.std.proofs.Common.{◌≡◌, rules}
use Rattle.std.proofs.lemmas.Fn.{always_returns_same}
use Rattle.ixp_roa.specs.Compacts.{roa_of}
use Rattle.ixp_roa.proofs.InOrder.{sorted}
use Rattle.ixp_roa.proofs.ordered.in_order.Goals as goal

pub returns-clause-sorted : goal.returns-clause-sorted
returns-clause-sorted c = sorted _ (c.sort_unstable_by_key.ensures.sorted roa_of (always_returns_same _ (λ a r. r ≡ roa_of a.0.now) _ (λ a r q k. search rules)))
