use Rattle.std.proofs.Common.{rules, ◌≤◌, arith}
use Rattle.ixp_desk_lock.proofs.PublishLaws.{one_built}
use Rattle.ixp_desk_rtr.proofs.Shown.{caught_gives, shown_gives}
use Rattle.ixp_desk_rtr.proofs.roas.roas_now.Goals as goal

pub returns-then-accepted_seen-built_seen-clause-ok : goal.returns-then-accepted_seen-built_seen-clause-ok
returns-then-accepted_seen-built_seen-clause-ok g c =
    let new = c.look.ensures.legal in
    let le : c.accepted_seen.result ≤ c.built_seen.result = search rules in
    let same = one_built c.look.new.self.2 new.first new.turns c.built_seen.result c.in_ok-shown.shown.0 new.entries_are c.built_seen.ensures c.in_ok-shown.ensures.built in
    shown_gives c.in_ok-shown.shown.0 c.accepted_seen.result c.in_ok-shown.shown.1 c.args.seat.now c.look.new.self c.is_legal.ensures new c.look.ensures.looks c.accepted_seen.ensures (omega (arith, le, same))
    c.in_ok-shown.ensures.roas

pub returns-clause-ok : goal.returns-clause-ok
returns-clause-ok g c =
    caught_gives c.in_ok-shown-2.shown.0 c.in_ok-catch_up.field-0 c.in_ok-shown-2.shown.1 c.args.seat.now c.look.new.self c.catch_up.new.seat c.is_legal.ensures c.look.ensures.legal c.catch_up.ensures.grows.legal
    c.look.ensures.looks c.catch_up.ensures.grows.begins c.in_ok-catch_up.ensures.turns c.in_ok-shown-2.ensures.built c.in_ok-shown-2.ensures.roas
