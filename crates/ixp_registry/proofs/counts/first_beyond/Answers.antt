use Rattle.std.proofs.Common.{rules, ◌≡◌, ◌+◌, ◌∷◌, map, arith, sym, ◌∙◌, ap}
use Rattle.std.specs.Option.{unwrap_or}
use Rattle.std.specs.BTreeMap as tree
use Rattle.std.specs.Ordering.{is_eq}
use Rattle.std.proofs.lemmas.Grind.{common_steps}
use Rattle.ixp_registry.specs.Places.{first_beyond_from, times}
use Rattle.ixp_registry.proofs.Counting.{counted, beyond_on}
use Rattle.ixp_registry.proofs.counts.first_beyond.Goals as goal

pub rows-preserved : goal.rows-preserved
rows-preserved g c =
    let earlier = c.rows.invariant.seen.0 in
    let key = c.in_ok-key.key in
    let k = g.C.Key.Key.numbers key in
    let told : k ≡ g.C.Counted.numbers_of c.in-Some.row.now = c.in_ok-key.ensures in
    let count : c.unwrap_or-count.result ≡ times k earlier =
    let e : unwrap_or (tree.get g.C.Key.Ord.cmp c.rows.counts key) 0 ≡ times k earlier = c.rows.invariant.seen.1 key in grind (arith, common_steps, e) in
    let left : map g.C.Counted.numbers_of c.rows.left.now ≡ k ∷ map g.C.Counted.numbers_of c.in-Some.others.now =
    let e : c.rows.left.now ≡ c.in-Some.row.now ∷ c.in-Some.others.now = search rules in
    ap (map g.C.Counted.numbers_of) e ∙ ap (λ x. x ∷ map g.C.Counted.numbers_of c.in-Some.others.now) (sym told) in
    let step : first_beyond_from earlier c.args.most c.rows.at (k ∷ map g.C.Counted.numbers_of c.in-Some.others.now)
    ≡ first_beyond_from (k ∷ earlier) c.args.most (c.rows.at + 1) (map g.C.Counted.numbers_of c.in-Some.others.now) =
    beyond_on earlier c.args.most c.rows.at k (map g.C.Counted.numbers_of c.in-Some.others.now) (omega (arith, count)) in
    record {
      room = grind arith;
      seen = (
        k ∷ earlier,
        λ q. counted k (g.C.Key.Key.numbers q) earlier c.unwrap_or-count.result (is_eq (g.C.Key.Ord.cmp key q)) (tree.get g.C.Key.Ord.cmp c.rows.counts q)
            (tree.get g.C.Key.Ord.cmp c.insert.new.self q) (g.met.C.Key.Key.told key q) (c.in_ok-insert.ensures.updates.0 q) count (c.rows.invariant.seen.1 q),
        sym step ∙ (ap (first_beyond_from earlier c.args.most c.rows.at) (sym left) ∙ c.rows.invariant.seen.2),
      );
    }
