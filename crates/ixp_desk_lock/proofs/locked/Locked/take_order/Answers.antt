use Rattle.std.proofs.Common.{rules, ◌≡◌, ◌≢◌}
use Rattle.ixp_desk_lock.proofs.Catching.{nothing_so, ordered_so}
use Rattle.ixp_desk_lock.proofs.locked.Locked.take_order.Goals as goal

pub returns-then-built-accepted-clause-taken : goal.returns-then-built-accepted-clause-taken
returns-then-built-accepted-clause-taken g c =
    let same : c.built.result ≡ c.accepted-accepted.result = search rules in
    nothing_so c.accepted-accepted.result c.built.result c.in_ok-built.built c.args.seat.now c.level.new.seat c.install_now.new.seat c.level.new.self c.install_now.new.self c.level.ensures.looks c.in_ok-level.ensures.ok
    c.accepted-accepted.ensures c.built.ensures same c.in_ok-built.ensures.ok c.in_ok-built.ensures.level c.in_ok-built.ensures.accepted c.in_ok-built.ensures.upto c.is_legal.ensures

pub returns-clause-taken : goal.returns-clause-taken
returns-clause-taken g c =
    let differ : c.built.result ≢ c.accepted-accepted.result = search rules in
    ordered_so c.accepted-accepted.result c.built.result c.in_ok-order.order c.args.seat.now c.level.new.seat c.level.new.self c.level.ensures.looks c.in_ok-level.ensures.ok c.accepted-accepted.ensures c.built.ensures
    differ c.in_ok-order.ensures.bounds c.in_ok-order.ensures.ordered
