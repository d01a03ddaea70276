use Rattle.std.proofs.Common.{rules, ◌≡◌, Ok, ap, sym, subst}
use Rattle.ixp_compile_text.proofs.Bounds.{all_fit}
use Rattle.ixp_build.specs.Bundles.{built_of}
use Rattle.ixp_build.specs.Orders.{HasBounds, made_from, order_of}
use Rattle.ixp_build.proofs.AfterEdits.{orders_bounded}
use Rattle.ixp_desk_lock.specs.Facts.{turn_in, reach_in}
use Rattle.ixp_desk_lock.proofs.Installs.{made_ordered}
use Rattle.ixp_desk_lock.proofs.Owing.{valid_now}
use Rattle.ixp_desk_lock.proofs.locked.Locked.order.Goals as goal

pub returns-clause-bounds : goal.returns-clause-bounds
returns-clause-bounds g c = subst HasBounds (sym c.in_ok-order.ensures)
    (orders_bounded c.in_ok-texts.texts c.get-2.result.now.built c.self.inside.state.accepted c.self.inside.state.registry
    (all_fit c.self.inside.state.registry (valid_now c.self.inside.pen (turn_in c.self.inside.owed) (reach_in c.self.inside.owed) c.self.inside.state c.self.inside.pending c.self.invariant.1).registry))

pub returns-clause-ordered : goal.returns-clause-ordered
returns-clause-ordered g c =
    let is : c.in_ok-order.order ≡ order_of (built_of c.view-view.result.now.bundle) c.self.inside.state.accepted c.self.inside.state.registry c.in_ok-texts.texts = search rules in
    made_ordered c.args.self.now c.self.inside.pen c.self.inside.owed c.self.inside.state c.self.inside.pending c.view-view.result.now c.self.view_is c.requires.none c.self.invariant.1 c.view-view.ensures (Ok (made_from c.in_ok-order.order))
    (record { texts = c.in_ok-texts.texts; listed = c.in_ok-texts.ensures; made = ap made_from is })
