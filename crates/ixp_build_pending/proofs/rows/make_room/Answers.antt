use Rattle.std.proofs.Common.{rules, ◌≡◌, ◌∷◌, ◌∙◌, sym, subst}
use Rattle.std.specs.List.{AllByRecursion}
use Rattle.ixp_build_pending.specs.Rows.{HasRow}
use Rattle.ixp_build_pending.proofs.Room.{none_left}
use Rattle.ixp_build_pending.proofs.rows.make_room.Goals as goal

pub each-preserved : goal.each-preserved
each-preserved c =
    let left : c.each.left.now ≡ c.in-Some.row.now ∷ c.in-Some.others.now = search rules in
    record {
      same = c.in_ok-make_room_for.ensures.same ∙ c.each.invariant.same;
      there = λ now keeps others.
          c.each.invariant.there now (λ t has. keeps t (c.in_ok-make_room_for.ensures.others t has))
          (subst (AllByRecursion (HasRow now)) (sym left) (keeps c.in-Some.row.now.text c.in_ok-make_room_for.ensures.room, others));
    }

pub returns-clause-room : goal.returns-clause-room
returns-clause-room c = c.each.invariant.there c.each.rows (λ t has. has) (none_left (HasRow c.each.rows) c.each.left.now c.in_default.ensures.cases)
