use Rattle.std.proofs.Common.{◌≤◌, ◌<◌, ltb, rules, sym, subst, arith}
use Rattle.std.specs.List.{All}
use Rattle.std.specs.List.Sorted.{IsNonDecreasingBy}
use Rattle.std.proofs.lemmas.List.Sorted.{IsNonDecreasingBy-take, IsNonDecreasingBy-drop, IsPartitionPoint-from_clause, IsPartitionedBy-ltb}
use Rattle.ixp_num.specs.declared.prefix.Prefix.{Prefix}
use Rattle.ixp_pfxset.specs.Groups.{group_of, rank}
use Rattle.ixp_pfxset.proofs.Grouping.{group, groups_up, below_part, above_part}
use Rattle.ixp_pfxset.proofs.groups.parted.Goals as goal

pub returns-clause-below : goal.returns-clause-below
returns-clause-below c =
    let list = c.args.list.now in
    let own = c.args.own in
    let place = c.partition_point-place.result in
    let at = IsPartitionPoint-from_clause (λ r. ltb (group r) own) list place c.partition_point-place.ensures.partitioned (IsPartitionedBy-ltb group list own (groups_up list c.requires)) (λ a r f call. search rules) in
    subst (All (λ (r : Prefix). group_of r.family r.len < own)) (sym c.split_at.ensures.front) (below_part list place own (omega arith) at.0)

pub returns-clause-above : goal.returns-clause-above
returns-clause-above c =
    let list = c.args.list.now in
    let own = c.args.own in
    let place = c.partition_point-place.result in
    let at = IsPartitionPoint-from_clause (λ r. ltb (group r) own) list place c.partition_point-place.ensures.partitioned (IsPartitionedBy-ltb group list own (groups_up list c.requires)) (λ a r f call. search rules) in
    subst (All (λ (r : Prefix). own ≤ group_of r.family r.len)) (sym c.split_at.ensures.back) (above_part list place own at.1)

pub returns-clause-first : goal.returns-clause-first
returns-clause-first c = subst (IsNonDecreasingBy rank) (sym c.split_at.ensures.front) (IsNonDecreasingBy-take rank _ c.args.list.now c.requires)

pub returns-clause-second : goal.returns-clause-second
returns-clause-second c = subst (IsNonDecreasingBy rank) (sym c.split_at.ensures.back) (IsNonDecreasingBy-drop rank _ c.args.list.now c.requires)
