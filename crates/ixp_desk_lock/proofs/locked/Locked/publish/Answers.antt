use Rattle.std.proofs.Common.{rules, ◌≡◌, Err, IfErr, sym, subst}
use Rattle.ixp_desk_lock.specs.Published.{Brings, IsLow, PubSays, ReadsAt}
use Rattle.ixp_desk_lock.specs.Publishing.{Adds}
use Rattle.ixp_desk_lock.proofs.PublishLaws.{need_now, place_fault, place_seen, published_so, room_after}
use Rattle.ixp_desk_lock.proofs.locked.Locked.publish.Goals as goal

pub bring_text-requires-clause-room : goal.bring_text-requires-clause-room
bring_text-requires-clause-room g c = room_after c.args.owner c.args.seen c.in_ok-place.place c.level.new.seat c.seen_place.new.seat c.in_ok-level.ensures.room c.in_ok-place.ensures.ok

pub bring_text-requires-clause-low : goal.bring_text-requires-clause-low
bring_text-requires-clause-low g c = subst (IsLow c.seen_place.new.self.0) (sym c.greater-need.ensures)
    (need_now c.args.owner c.args.seen c.args.must c.in_ok-place.place c.args.seat.now c.level.new.seat c.seen_place.new.seat c.seen_place.new.self c.requires.legal c.requires.must c.level.ensures.looks c.in_ok-place.ensures.ok c.seen_place.ensures.level c.is_legal.ensures c.in_ok-place.ensures.low)

pub returns-clause-ok : goal.returns-clause-ok
returns-clause-ok g c = published_so c.args.owner c.args.must c.in_ok-place.place c.args.seen c.args.router.now c.in_ok-text.text c.args.seat.now c.level.new.seat c.seen_place.new.seat c.bring_text.new.seat c.seen_place.new.self c.bring_text.new.self
    c.level.ensures.looks c.in_ok-place.ensures.ok c.seen_place.ensures.level
    (subst (λ n. Adds (Brings c.seen_place.new.self.0 n) c.seen_place.new.seat c.bring_text.new.seat) c.greater-need.ensures c.in_ok-text.ensures.turns) c.bring_text.ensures.level
    (subst (λ n. ReadsAt c.bring_text.new.self.0 n c.args.router.now c.in_ok-text.text) c.greater-need.ensures c.in_ok-text.ensures.text)

pub returns-in_err-place-clause-seen : goal.returns-in_err-place-clause-seen
returns-in_err-place-clause-seen g c = place_seen c.args.owner c.args.seen c.in_err-place.field-0.0 c.args.seat.now c.level.new.seat c.seen_place.new.seat c.level.ensures.looks c.in_err-place.ensures.err

pub returns-in_err-place-clause-fault : goal.returns-in_err-place-clause-fault
returns-in_err-place-clause-fault g c =
    let is : c.from_residual-in_err-place.result ≡ Err c.in_err-place.field-0.0 = search rules in
    subst (λ r. IfErr r (λ x. PubSays c.args.owner c.args.seen x c.args.seat.now c.seen_place.new.seat)) (sym is)
    (place_fault c.args.owner c.args.seen c.in_err-place.field-0.0 c.args.seat.now c.level.new.seat c.seen_place.new.seat c.seen_place.new.self c.level.ensures.looks c.in_err-place.ensures.err c.in_err-place.ensures.level)
