use Rattle.std.proofs.Common.{rules, ◌≡◌, not, is_some, true, IfSome, subst}
use Rattle.ixp_desk_lock.specs.Published.{ReadsAt}
use Rattle.ixp_desk.specs.Publications.{IsReader}
use Rattle.ixp_desk.proofs.HandedOut.{hands, none_named, shows}
use Rattle.ixp_desk.proofs.Views.{low_seen}
use Rattle.ixp_desk.proofs.publishing.handed_out.Goals as goal

pub returns-in-Some-clause-hands : goal.returns-in-Some-clause-hands
returns-in-Some-clause-hands g c = shows c.args.secret.now c.args.router.now c.args.seen c.in-Ok.owner c.in_ok-must.must c.in-Some.text c.args.seat.now c.look.new.seat
    (let is : not (is_some c.args.seen) ≡ true = search rules in none_named c.args.seen is) c.look.ensures.looks (subst (IsReader c.look.new.seat.2 c.args.secret.now) c.in-Ok.is c.reader_seen.ensures) c.in_ok-must.ensures.must
    (subst (λ x. IfSome x (ReadsAt c.look.new.seat.2 c.in_ok-must.must c.args.router.now)) c.in-Some.is c.in_ok-text.ensures)

pub publish-requires-clause-must : goal.publish-requires-clause-must
publish-requires-clause-must g c = low_seen c.args.seat.now.2 c.look.new.seat.2 c.in_ok-must.must c.look.ensures.before c.look.ensures.legal c.look.ensures.looks.2 c.in_ok-must.ensures.must

pub returns-clause-hands : goal.returns-clause-hands
returns-clause-hands g c = hands c.args.secret.now c.args.router.now c.args.seen c.in-Ok.owner c.in_ok-must.must c.publish.result c.args.seat.now c.look.new.seat c.publish.new.seat c.look.ensures.looks
    (subst (IsReader c.look.new.seat.2 c.args.secret.now) c.in-Ok.is c.reader_seen.ensures) c.in_ok-must.ensures.must c.publish.ensures.grows.begins c.publish.ensures.ok c.publish.ensures.fault
