use Rattle.std.proofs.Common.{rules, ◌≡◌, ◌++◌, ◌∷◌, [], subst, sym, ap, ◌∙◌, flat_map, map}
use Rattle.std.specs.List.{AllByRecursion}
use Rattle.ixp_num_tables.specs.Tables.{Ascends}
use Rattle.ixp_num_tables.proofs.Places.{Ascends_behind}
use Rattle.ixp_rows.proofs.Listed.{GroupsBelow, rows_moved, lists_ascend, groups_below, list_stands}
use Rattle.ixp_rows.proofs.gathering.lists_of.Goals as goal

pub lists-preserved : goal.lists-preserved
lists-preserved g c =
    let K = g.R.Row.key_of in
    let G = g.R.Listed.group in
    let I = g.R.Listed.item in
    let M = g.R.Listed.made in
    let LK = g.R.List.Row.key_of in
    let In = g.R.Listed.rows_in in
    let Is = g.R.Listed.IsList in
    let first = c.in-Some.first.now in
    let with = c.split_at.result.0.now in
    let rest = c.split_at.result.1.now in
    let e : c.lists.left.now ≡ first ∷ c.in-Some.others.now = search rules in
    let parts : c.in-Some.others.now ≡ with ++ rest = search rules in
    let whole : c.lists.left.now ≡ first ∷ (with ++ rest) = e ∙ ap (λ t. first ∷ t) parts in
    let up = subst (Ascends K) whole c.lists.invariant.up in
    let below = subst (GroupsBelow K G I M LK In Is c.lists.lists.items) whole c.lists.invariant.below in
    let same = subst (AllByRecursion (λ s. G s ≡ G first)) (sym c.split_at.ensures.front) c.run.ensures.group in
    let list = M first (map I (first ∷ with)) in
    let pushed : c.push.new.self.items ≡ c.lists.lists.items ++ list ∷ [] = search rules in
    record {
      rows = rw pushed (rows_moved K G I M LK In Is c.requires.listed c.lists.lists.items first with rest c.args.rows.now (ap (λ t. flat_map In c.lists.lists.items ++ t) (sym whole) ∙ c.lists.invariant.rows) same);
      up = Ascends_behind K (first ∷ with) rest up;
      ascends = rw pushed (lists_ascend K G I M LK In Is c.requires.listed c.lists.lists.items first (map I (first ∷ with)) c.lists.invariant.ascends below);
      stand = rw pushed (list_stands K G I M LK In Is c.requires.listed c.lists.lists.items first with rest c.lists.invariant.stand up same);
      below = rw pushed (groups_below K G I M LK In Is c.requires.listed c.lists.lists.items first with rest (map I (first ∷ with)) up below (λ s more is. c.run.ensures.end s more (sym c.split_at.ensures.back ∙ is)));
    }
