use Rattle.std.proofs.Common.{List, ◌∙◌, sym, subst}
use Rattle.ixp_board.specs.Histories.{IsViewOf}
use Rattle.ixp_glass_holds.specs.declared.hold.Hold.{Hold}
use Rattle.ixp_glass_holds.specs.Holds.{Legal, held_after}
use Rattle.ixp_glass_holds.proofs.Histories.{announced, finds}
use Rattle.ixp_glass_holds.proofs.looking.held.Goals as goal

pub returns-clause-held : goal.returns-clause-held
returns-clause-held g c =
    let view = subst (λ (rs : List Hold). IsViewOf Legal held_after c.refresh.new.self rs) (sym (c.get-2.ensures ∙ c.get.ensures)) c.view.ensures in
    finds c.refresh.new.self c.get-2.result.now c.args.router.now c.args.interface c.routes_of.result view c.routes_of.ensures

pub returns-clause-announced : goal.returns-clause-announced
returns-clause-announced g c =
    let view = subst (λ (rs : List Hold). IsViewOf Legal held_after c.refresh.new.self rs) (sym (c.get-2.ensures ∙ c.get.ensures)) c.view.ensures in
    announced c.refresh.new.self c.get-2.result.now c.args.router.now c.args.interface c.routes_of.result view c.routes_of.ensures
