use Rattle.std.proofs.Common.{◌≡◌, ◌<◌, List, length, get_or, rules, sym, subst}
use Rattle.std.specs.List.{Contains}
use Rattle.std.proofs.lemmas.List.Sorted.{IsPartitionPoint-from_clause}
use Rattle.ixp_num.specs.declared.roa.Roa.{Roa}
use Rattle.ixp_roa.specs.Climbs.{AreInOrder}
use Rattle.ixp_roa.specs.Compacts.{roa_of}
use Rattle.ixp_roa.proofs.InOrder.{below_parted, found, is_below, parted, point, roas}
use Rattle.ixp_roa.proofs.ordered.OrderedRoas.place_of_roa.Goals as goal

pub returns-clause-within : goal.returns-clause-within
returns-clause-within c =
    let rows = c.as_slice.result.now in
    let roa = c.args.roa.now in
    let place = c.partition_point.result in
    let up = subst (λ xs. AreInOrder (roas xs)) (sym c.as_slice.ensures.value) c.self.invariant in
    let there = subst (λ xs. Contains (roas xs) roa) (sym c.as_slice.ensures.value) (subst (λ xs. Contains xs roa) (sym c.self.view_is) c.requires) in
    let at = IsPartitionPoint-from_clause (λ r. is_below roa (roa_of r)) rows place c.partition_point.ensures.partitioned (parted (is_below roa) rows (below_parted (roas rows) roa up)) (λ a r f call. search rules) in
    let is = found (roas rows) roa place up there (point (is_below roa) rows place c.partition_point.ensures.bound at) in
    subst (λ (xs : List Roa). place < length xs) c.self.view_is (subst (λ xs. place < length (roas xs)) c.as_slice.ensures.value is.0)

pub returns-clause-is : goal.returns-clause-is
returns-clause-is c =
    let rows = c.as_slice.result.now in
    let roa = c.args.roa.now in
    let place = c.partition_point.result in
    let up = subst (λ xs. AreInOrder (roas xs)) (sym c.as_slice.ensures.value) c.self.invariant in
    let there = subst (λ xs. Contains (roas xs) roa) (sym c.as_slice.ensures.value) (subst (λ xs. Contains xs roa) (sym c.self.view_is) c.requires) in
    let at = IsPartitionPoint-from_clause (λ r. is_below roa (roa_of r)) rows place c.partition_point.ensures.partitioned (parted (is_below roa) rows (below_parted (roas rows) roa up)) (λ a r f call. search rules) in
    let is = found (roas rows) roa place up there (point (is_below roa) rows place c.partition_point.ensures.bound at) in
    subst (λ (xs : List Roa). get_or xs place roa ≡ roa) c.self.view_is (subst (λ xs. get_or (roas xs) place roa ≡ roa) c.as_slice.ensures.value is.1)
