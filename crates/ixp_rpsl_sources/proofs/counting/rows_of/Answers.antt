use Rattle.std.proofs.Common.{rules, ◌≡◌, ◌++◌, ◌∷◌, [], sym, ap, ◌∙◌, subst}
use Rattle.ixp_rpsl_sources.specs.Counting.{rows}
use Rattle.ixp_rpsl_sources.specs.Told.{KeepsBest}
use Rattle.ixp_rpsl_sources.proofs.Claiming.{rows_put}
use Rattle.ixp_rpsl_sources.proofs.counting.rows_of.Goals as goal

pub sets-preserved : goal.sets-preserved
sets-preserved c = λ said same claims.
    let left : c.sets.left.items ≡ c.pop.new.self.items ++ c.in-Some.object ∷ [] = search rules in
    rows_put c.args.sources.now c.args.sets.items c.in_ok-index.index
    (subst (λ s. KeepsBest c.args.sources.now s c.in_ok-index.index) c.as_slice.ensures.value c.in_ok-index.ensures) c.in_ok-places.places c.args.claims.now c.in_ok-places.ensures
    said same claims c.in-Some.object c.sets.rows c.put_rows.new.rows c.pop.new.self.items c.in_ok-put_rows.ensures
    ∙ (ap (λ l. c.sets.rows ++ rows c.args.sources.now said l) (sym left) ∙ c.sets.invariant said same claims)
