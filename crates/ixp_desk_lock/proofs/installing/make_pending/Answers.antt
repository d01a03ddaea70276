use Rattle.std.proofs.Common.{sym, subst}
use Rattle.ixp_compile_text.proofs.Bounds.{all_fit}
use Rattle.ixp_build.specs.Orders.{HasBounds}
use Rattle.ixp_build.proofs.AfterEdits.{orders_bounded}
use Rattle.ixp_desk_lock.proofs.installing.make_pending.Goals as goal

pub make-requires : goal.make-requires
make-requires c = subst HasBounds (sym c.in_ok-order.ensures) (orders_bounded c.in_ok-texts.texts c.get-2.result.now.built c.args.state.now.accepted c.args.state.now.registry (all_fit c.args.state.now.registry c.requires))
