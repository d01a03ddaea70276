use Rattle.std.proofs.Common.{Some, ◌∙◌, subst}
use Rattle.ixp_glass_holds.specs.Calls.{IsHeld}
use Rattle.ixp_desk_explain.specs.Explanations.{OrNoMemory}
use Rattle.ixp_desk_explain.specs.Glass.{at_place, place_says}
use Rattle.ixp_desk_explain.proofs.Reports.{or_left}
use Rattle.ixp_desk_explain.proofs.fates.told_held.Goals as goal

pub returns-in-Ok-Some-clause-shows : goal.returns-in-Ok-Some-clause-shows
returns-in-Ok-Some-clause-shows g c before now p =
    let held = subst (λ o. IsHeld c.held.new.seat c.args.router.now c.args.interface o) c.in-Ok-Some.field-0-is c.in-Ok-Some.ensures.held in
    or_left (λ is. (Some c.in-Ok-Some.routes, held, is))
    (subst (λ rs. OrNoMemory (place_says c.args.interface p (at_place c.args.place rs)) c.told_place.result) (c.as_slice.ensures ∙ c.get.ensures) (c.told_place.ensures before now p))
