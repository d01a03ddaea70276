use Rattle.std.proofs.Common.{◌≤◌, ◌<◌, ltb, rules, sym, subst, arith}
use Rattle.std.specs.List.{All}
use Rattle.std.proofs.lemmas.List.Sorted.{IsPartitionPoint-from_clause, IsPartitionedBy-ltb}
use Rattle.ixp_pfxset.proofs.Parting.{below_part, above_part}
use Rattle.ixp_pfxset.proofs.trie.parted.Goals as goal

pub returns-clause-below : goal.returns-clause-below
returns-clause-below c =
    let list = c.args.list.now in
    let middle = c.args.middle in
    let place = c.partition_point-place.result in
    let at = IsPartitionPoint-from_clause (λ r. ltb r.value middle) list place c.partition_point-place.ensures.partitioned (IsPartitionedBy-ltb (λ r. r.value) list middle c.requires) (λ a r f call. search rules) in
    subst (All (λ r. r.value < middle)) (sym c.split_at.ensures.front) (below_part list place middle (omega arith) at.0)

pub returns-clause-above : goal.returns-clause-above
returns-clause-above c =
    let list = c.args.list.now in
    let middle = c.args.middle in
    let place = c.partition_point-place.result in
    let at = IsPartitionPoint-from_clause (λ r. ltb r.value middle) list place c.partition_point-place.ensures.partitioned (IsPartitionedBy-ltb (λ r. r.value) list middle c.requires) (λ a r f call. search rules) in
    subst (All (λ r. middle ≤ r.value)) (sym c.split_at.ensures.back) (above_part list place middle at.1)
