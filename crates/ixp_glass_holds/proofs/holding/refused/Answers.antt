use Rattle.std.proofs.Common.{List, ◌∙◌, sym, subst}
use Rattle.ixp_board.specs.Histories.{IsViewOf}
use Rattle.ixp_glass_holds.specs.declared.hold.Hold.{Hold}
use Rattle.ixp_glass_holds.specs.Holds.{Legal, held_after}
use Rattle.ixp_glass_holds.proofs.Histories.{refuses}
use Rattle.ixp_glass_holds.proofs.holding.refused.Goals as goal

pub returns : goal.returns
returns g c =
    let view = subst (λ (rs : List Hold). IsViewOf Legal held_after c.args.pen.now rs) (sym (c.get-2.ensures ∙ c.get.ensures)) c.view.ensures in
    refuses c.args.pen.now c.get-2.result.now c.args.family c.args.hold.now c.refusal.result view c.refusal.ensures
