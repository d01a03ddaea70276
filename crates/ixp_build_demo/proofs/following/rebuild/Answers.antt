use Rattle.ixp_build_demo.proofs.AfterRequests.{has_bounds, rebuilt_whole}
use Rattle.ixp_build_demo.proofs.following.rebuild.Goals as goal

pub make-requires : goal.make-requires
make-requires c = has_bounds c.args.bundle.now c.args.state.now.registry c.args.state.now.accepted c.args.touch.now c.in_ok-order.order c.requires.valid c.in_ok-order.ensures

pub returns-in-Ok-clause-whole : goal.returns-in-Ok-clause-whole
returns-in-Ok-clause-whole c =
    rebuilt_whole c.args.bundle.now c.install.new.self c.args.state.now.registry c.args.state.now.accepted c.args.touch.now c.in_ok-order.order c.in_ok-made.made c.requires.touched c.in_ok-order.ensures
    c.in_ok-made.ensures c.in-Ok.ensures.ok
