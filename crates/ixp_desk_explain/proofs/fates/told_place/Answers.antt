use Rattle.std.proofs.Common.{subst}
use Rattle.ixp_desk_explain.specs.Explanations.{OrNoMemory}
use Rattle.ixp_desk_explain.specs.Glass.{place_says}
use Rattle.ixp_desk_explain.proofs.fates.told_place.Goals as goal

pub returns-in-Some : goal.returns-in-Some
returns-in-Some g c before now p = subst (λ o. OrNoMemory (place_says c.args.interface p o) c.told_fate.result) c.in-Some.ensures (c.told_fate.ensures before now p)
