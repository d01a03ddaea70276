use Rattle.std.proofs.Common.{rules, ◌≡◌}
use Rattle.std.proofs.lemmas.Fn.{always_returns_same}
use Rattle.ixp_num.specs.declared.prefix.Prefix.{Prefix}
use Rattle.ixp_pfxset.proofs.Grouping.{group, ranks_up}
use Rattle.ixp_pfxset.proofs.groups.in_groups.Goals as goal

pub returns-clause-sorted : goal.returns-clause-sorted
returns-clause-sorted c = ranks_up _ (c.sort_unstable_by_key.ensures.sorted (λ (r : Prefix). (group r, r.value)) (always_returns_same _ (λ a r. r ≡ (group a.0.now, a.0.now.value)) _ (λ a r q k. search rules)))
