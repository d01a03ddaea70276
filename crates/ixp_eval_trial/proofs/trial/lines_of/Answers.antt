use Rattle.std.proofs.Common.{◌+◌, arith, subst, sym}
use Rattle.ixp_eval_trial.specs.Lines.{lines}
use Rattle.ixp_eval_trial.specs.Trials.{Behind, IsRoaLine}
use Rattle.ixp_eval_trial.proofs.Standing.{one_more}
use Rattle.ixp_eval_trial.proofs.trial.lines_of.Goals as goal

pub each-preserved : goal.each-preserved
each-preserved c =
    let leads = c.in-Some.ensures in
    let less = leads.less in
    let room = c.each.invariant.1 in
    let roa = c.in-Ok-roa_of.roa in
    let line = subst (λ l. IsRoaLine l roa.0 roa.1) (sym c.in-Some-after_front.ensures) c.in-Ok-roa_of.ensures in
    let before = subst (Behind (lines c.args.behind.now) c.args.first c.each.roas c.each.number) leads.lines c.each.invariant.0 in
    let stand = one_more (lines c.args.behind.now) (lines c.in-Some.after.now) c.args.first c.each.number c.each.roas c.in-Some.line.now roa before line in
    (subst (λ rs. Behind (lines c.args.behind.now) c.args.first rs (c.each.number + 1) (lines c.in-Some.after.now)) (sym c.in-Ok-push.ensures.ok) stand, omega arith)
