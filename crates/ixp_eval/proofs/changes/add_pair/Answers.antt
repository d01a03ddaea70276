use Rattle.std.proofs.Common.{◌∙◌, sym}
use Rattle.ixp_eval.proofs.Adding.{pair_added, pair_kept}
use Rattle.ixp_eval.proofs.changes.add_pair.Goals as goal

pub returns-in_ok-push : goal.returns-in_ok-push
returns-in_ok-push c =
    pair_added c.args.value.now c.in-Pair.a c.in-Pair.b c.args.route.now c.push.new.self c.in-Pair.is
    (sym c.has_pair.ensures ∙ c.if-not-has_pair.true) c.in_ok-push.ensures.ok

pub returns-else-not-has_pair : goal.returns-else-not-has_pair
returns-else-not-has_pair c =
    pair_kept c.args.value.now c.in-Pair.a c.in-Pair.b c.args.route.now c.in-Pair.is
    (sym c.has_pair.ensures ∙ c.if-not-has_pair.false)
