use Rattle.std.proofs.Common.{rules, ◌≡◌}
use Rattle.ixp_desk_lock.proofs.Catching.{built_so, ordered_before}
use Rattle.ixp_desk_lock.proofs.locked.Locked.put_made.Goals as goal

pub install_made-requires-clause-ordered : goal.install_made-requires-clause-ordered
install_made-requires-clause-ordered g c = ordered_before c.args.made c.args.seat.now c.level.new.seat c.level.new.self c.level.ensures.looks c.in_ok-level.ensures.ok c.requires

pub returns-clause-put : goal.returns-clause-put
returns-clause-put g c =
    let same : c.built-current.result ≡ c.args.made.from = search rules in
    built_so c.args.made c.in_ok-upto.upto c.built-current.result c.args.seat.now c.level.new.seat c.install_made.new.seat c.level.new.self c.install_made.new.self c.level.ensures.looks c.in_ok-level.ensures.ok
    c.built-current.ensures same c.in_ok-upto.ensures.upto c.in_ok-upto.ensures.ok c.in_ok-upto.ensures.level
