use Rattle.std.proofs.Common.{rules, ◌≡◌, ◌++◌, ◌∷◌, [], sym, ap, ◌∙◌}
use Rattle.std.specs.BTreeMap.{get_by}
use Rattle.ixp_rpsl.specs.Lookups.{sought}
use Rattle.ixp_rpsl_sources.specs.Told.{kept_onto}
use Rattle.ixp_rpsl_sources.proofs.Keeping.{kept_append, kept_best, nothing_left}
use Rattle.ixp_rpsl_sources.proofs.best.best_of.Goals as goal

pub sets-preserved : goal.sets-preserved
sets-preserved c = λ q.
    let left : c.sets.left.now ≡ c.in-Some.front.now ++ c.in-Some.last.now ∷ [] = search rules in
    ap (λ k. kept_onto c.args.sources.now c.in-Some.front.now k q) (c.in_ok-keep_object.ensures q)
    ∙ (sym (kept_append c.args.sources.now c.in-Some.front.now c.in-Some.last.now (get_by (sought q) c.sets.index) q)
    ∙ (ap (λ l. kept_onto c.args.sources.now l (get_by (sought q) c.sets.index) q) (sym left) ∙ c.sets.invariant q))

pub returns : goal.returns
returns c = λ q.
    let none : c.sets.left.now ≡ [] = nothing_left c.sets.left.now c.in_default.ensures.cases in
    ap (λ l. kept_onto c.args.sources.now l (get_by (sought q) c.sets.index) q) (sym none) ∙ (c.sets.invariant q ∙ kept_best c.args.sources.now c.args.sets.now q)
