use Rattle.std.proofs.Common.{rules, ◌≡◌, ◌∷◌, arith, add-one, sym, ◌∙◌}
use Rattle.ixp_registry_breach.proofs.Lists.{drop_next}
use Rattle.ixp_rows.proofs.Gathered.{run_step}
use Rattle.ixp_rows.proofs.gathering.run.Goals as goal

pub rows-preserved : goal.rows-preserved
rows-preserved g c =
    let e : c.rows.left.now ≡ c.in-Some.row.now ∷ c.in-Some.rest.now = search rules in
    let h = sym e ∙ c.rows.invariant.rest in
    let q : g.R.Listed.group c.in-Some.row.now ≡ g.R.Listed.group c.args.first.now = search rules in
    record {
      rest = rw add-one (drop_next c.args.others.now c.rows.count c.in-Some.row.now c.in-Some.rest.now h);
      room = grind arith;
      same = run_step (λ s. g.R.Listed.group s ≡ g.R.Listed.group c.args.first.now) c.args.others.now c.rows.count c.in-Some.row.now c.in-Some.rest.now h c.rows.invariant.same q;
    }
