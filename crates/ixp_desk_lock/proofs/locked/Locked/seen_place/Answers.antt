use Rattle.std.proofs.Common.{arith, sym, ◌∙◌}
use Rattle.ixp_desk_lock.proofs.PublishLaws.{low_later, low_of, place_low}
use Rattle.ixp_desk_lock.proofs.locked.Locked.seen_place.Goals as goal

pub returns-in_default-clause-low : goal.returns-in_default-clause-low
returns-in_default-clause-low g c = low_of c.args.self.now.0 c.state-state.result.now 0 c.state-state.ensures.state (omega arith)

pub returns-in-Some-place-clause-low : goal.returns-in-Some-place-clause-low
returns-in-Some-place-clause-low g c = low_later c.args.self.now.0 c.put_question.new.self.0 c.in-Some-place.place
    (low_of c.args.self.now.0 c.state-state.result.now c.in-Some-place.place c.state-state.ensures.state
    (place_low c.state-state.result.now c.args.owner c.in-Some.number c.in-Some-place.place c.state-state.ensures.valid (sym c.place_of-place.ensures ∙ c.in-Some-place.is))) c.in_ok-put_question.ensures.accepted
