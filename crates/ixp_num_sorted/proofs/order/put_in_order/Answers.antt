use Rattle.std.specs.List.Sorted.{IsStrictlySortedBy}
use Rattle.std.proofs.lemmas.List.Filters.{dedup_is}
use Rattle.std.proofs.lemmas.List.Kept.{Any-dedup, Contains-from_dedup, IsStrictlySortedBy-dedup}
use Rattle.std.proofs.lemmas.List.Sorted.{Contains-permutation, IsPermutation-sym}
use Rattle.ixp_num_sorted.proofs.InOrder.{ascends, there}
use Rattle.ixp_num_sorted.proofs.order.put_in_order.Goals as goal

pub returns : goal.returns
returns g c =
    let is = dedup_is _ _ _ c.dedup.ensures.filtered in
    let moved = c.sort_unstable.ensures.permutation in
    let new = c.dedup.new.self.items in
    let up : IsStrictlySortedBy g.T.Ord.cmp new = rw is (IsStrictlySortedBy-dedup g.met.T.Ord.total g.met.T.Ord.matches_eq _ c.sort_unstable.ensures.sorted) in
    record {
      ascends = ascends g.T.Keyed.key g.T.Ord.cmp g.met.T.Keyed.ordered new up;
      keeps = λ x h. there g.T.Keyed.key g.T.Ord.cmp g.met.T.Keyed.ordered g.T.PartialEq.eq g.met.T.Ord.matches_eq g.T.Keyed.one x new (rw is (Any-dedup g.met.T.Eq.laws _ x (Contains-permutation _ _ x moved h)));
      adds_none = λ x h. Contains-permutation _ _ x (IsPermutation-sym _ _ moved) (Contains-from_dedup _ _ x (rw is at h));
    }
