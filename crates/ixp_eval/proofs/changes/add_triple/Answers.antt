use Rattle.std.proofs.Common.{◌∙◌, sym}
use Rattle.ixp_eval.proofs.Adding.{triple_added, triple_kept}
use Rattle.ixp_eval.proofs.changes.add_triple.Goals as goal

pub returns-in_ok-push : goal.returns-in_ok-push
returns-in_ok-push c =
    triple_added c.args.value.now c.in-Triple.a c.in-Triple.b c.in-Triple.c c.args.route.now c.push.new.self c.in-Triple.is
    (sym c.has_triple.ensures ∙ c.if-not-has_triple.true) c.in_ok-push.ensures.ok

pub returns-else-not-has_triple : goal.returns-else-not-has_triple
returns-else-not-has_triple c =
    triple_kept c.args.value.now c.in-Triple.a c.in-Triple.b c.in-Triple.c c.args.route.now c.in-Triple.is
    (sym c.has_triple.ensures ∙ c.if-not-has_triple.false)
