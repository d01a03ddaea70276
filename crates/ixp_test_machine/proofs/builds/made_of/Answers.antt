use Rattle.std.proofs.Common.{sym, subst}
use Rattle.ixp_build.specs.Bundles.{built_of}
use Rattle.ixp_build.specs.Orders.{HasBounds}
use Rattle.ixp_test_machine.proofs.builds.made_of.Goals as goal

pub make-requires : goal.make-requires
make-requires c =
    let s = c.args.state.now in
    subst HasBounds (sym c.in_ok-taken.ensures)
    (c.orders_have_bounds.ensures c.args.touch.now (built_of c.args.bundle.now) s.accepted s.registry c.requires)
