use Rattle.std.proofs.Common.{rules, sym, subst}
use Rattle.std.proofs.lemmas.List.Sorted.{IsPartitionPoint-from_clause}
use Rattle.ixp_roa.specs.Climbs.{AreInOrder, IsPlace, is_upto}
use Rattle.ixp_roa.specs.Compacts.{roa_of}
use Rattle.ixp_roa.proofs.Climbing.{partitioned, placed}
use Rattle.ixp_roa.proofs.InOrder.{few, parted, point, roas}
use Rattle.ixp_roa.proofs.ordered.OrderedRoas.place_of.Goals as goal

pub returns : goal.returns
returns c =
    let rows = c.as_slice.result.now in
    let net = c.args.net.now in
    let place = c.partition_point.result in
    let up = subst (λ xs. AreInOrder (roas xs)) (sym c.as_slice.ensures.value) c.self.invariant in
    let at = IsPartitionPoint-from_clause (λ r. is_upto (roa_of r).prefix net) rows place c.partition_point.ensures.partitioned (parted (λ r. is_upto r.prefix net) rows (partitioned (roas rows) net up)) (λ a r f call. search rules) in
    subst (λ xs. IsPlace xs net place) c.self.view_is
    (subst (λ xs. IsPlace (roas xs) net place) c.as_slice.ensures.value (placed (roas rows) net place (few rows place c.partition_point.ensures.bound) (point (λ r. is_upto r.prefix net) rows place c.partition_point.ensures.bound at)))
