use Rattle.std.proofs.Common.{◌≡◌, ◌++◌, ◌∷◌, ◌∙◌, ap, sym, arith}
use Rattle.ixp_num_tables.proofs.Places.{front_ascends, behind_ascends, on_behind, on_front, here}
use Rattle.ixp_num_tables.proofs.search.place_of.Goals as goal

pub halves-preserved-in-Less : goal.halves-preserved-in-Less
halves-preserved-in-Less g c =
    let parted : c.halves.left.now ≡ c.split_at.result.0.now ++ c.in-Some.row.now ∷ c.in-Some.behind.now = c.split_at.ensures.by_index.0 ∙ ap (λ zs. c.split_at.result.0.now ++ zs) c.in-Some.ensures.cases.0 in
    let behind = c.in-Some.ensures.cases.1 in
    record {
      room = omega arith;
      ascends = behind_ascends g.R.Row.key_of (g.A.Aim.aim c.args.aim.now) c.args.rows.now c.halves.left.now c.split_at.result.0.now c.in-Some.row.now c.in-Some.behind.now c.halves.before parted c.halves.invariant.ascends c.halves.invariant.goes_on;
      goes_on = on_behind g.R.Row.key_of (g.A.Aim.aim c.args.aim.now) c.args.rows.now c.halves.left.now c.split_at.result.0.now c.in-Some.row.now c.in-Some.behind.now c.halves.before parted c.halves.invariant.ascends c.halves.invariant.goes_on (sym c.in-Less.ensures);
    }

pub returns-in-Equal-clause-place : goal.returns-in-Equal-clause-place
returns-in-Equal-clause-place g c =
    let parted : c.halves.left.now ≡ c.split_at.result.0.now ++ c.in-Some.row.now ∷ c.in-Some.behind.now = c.split_at.ensures.by_index.0 ∙ ap (λ zs. c.split_at.result.0.now ++ zs) c.in-Some.ensures.cases.0 in
    sym (here g.R.Row.key_of (g.A.Aim.aim c.args.aim.now) c.args.rows.now c.halves.left.now c.split_at.result.0.now c.in-Some.row.now c.in-Some.behind.now c.halves.before parted c.halves.invariant.ascends c.halves.invariant.goes_on (sym c.in-Equal.ensures))

pub halves-preserved : goal.halves-preserved
halves-preserved g c =
    let parted : c.halves.left.now ≡ c.split_at.result.0.now ++ c.in-Some.row.now ∷ c.in-Some.behind.now = c.split_at.ensures.by_index.0 ∙ ap (λ zs. c.split_at.result.0.now ++ zs) c.in-Some.ensures.cases.0 in
    let behind = c.in-Some.ensures.cases.1 in
    record {
      room = omega arith;
      ascends = front_ascends g.R.Row.key_of (g.A.Aim.aim c.args.aim.now) c.args.rows.now c.halves.left.now c.split_at.result.0.now c.in-Some.row.now c.in-Some.behind.now c.halves.before parted c.halves.invariant.ascends c.halves.invariant.goes_on;
      goes_on = on_front g.R.Row.key_of (g.A.Aim.aim c.args.aim.now) c.args.rows.now c.halves.left.now c.split_at.result.0.now c.in-Some.row.now c.in-Some.behind.now c.halves.before parted c.halves.invariant.ascends c.halves.invariant.goes_on (sym c.in-Greater.ensures);
    }
