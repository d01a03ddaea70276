use Rattle.std.proofs.Common.{rules, ◌≡◌, ◌+◌, ◌∷◌, take, arith, add-one, sym, ◌∙◌, ap, false}
use Rattle.ixp_registry.specs.Places.{first_with_earlier_from}
use Rattle.ixp_registry_breach.proofs.Lists.{drop_next, earlier_on}
use Rattle.ixp_registry_breach.proofs.earlier.first_with_earlier.Goals as goal

pub rows-preserved : goal.rows-preserved
rows-preserved g c =
    let e : c.rows.left.now ≡ c.in-Some.row.now ∷ c.in-Some.others.now = search rules in
    let h = sym e ∙ c.rows.invariant.rest in
    let m : g.R.MeetsEarlier.meets (take c.rows.count c.args.rows.now) c.in-Some.row.now ≡ false = search rules in
    let step = earlier_on g.R.MeetsEarlier.meets c.args.start c.rows.count c.args.rows.now c.in-Some.row.now c.in-Some.others.now h m in
    record {
      rest = rw add-one (drop_next c.args.rows.now c.rows.count c.in-Some.row.now c.in-Some.others.now h);
      room = grind arith;
      same = sym step
          ∙ (ap (first_with_earlier_from (take c.rows.count c.args.rows.now) (c.args.start + c.rows.count) g.R.MeetsEarlier.meets) (sym e) ∙ c.rows.invariant.same);
    }
