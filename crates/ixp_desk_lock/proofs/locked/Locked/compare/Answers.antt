use Rattle.std.proofs.Common.{rules, ◌∙◌, ℕ, List, get_or, ap}
use Rattle.ixp_desk_lock.specs.Facts.{turn_in}
use Rattle.ixp_desk_lock.proofs.Owing.{kept_is, log_is, uncounted}
use Rattle.ixp_desk_lock.proofs.OwnTurns.{fits_now, other_count, seat_ended}
use Rattle.ixp_desk_lock.proofs.locked.Locked.compare.Goals as goal

pub returns-then-count-kept-clause-err : goal.returns-then-count-kept-clause-err
returns-then-count-kept-clause-err g c = other_count c.args.seat.now c.taught.new.self c.self.inside.pen c.count-count.result c.in-Some.kept c.count-count.ensures
    (c.in-Some.ensures.count ∙ (ap (λ (xs : List ℕ). get_or xs c.number.result 0) c.as_slice.ensures.value ∙ (ap (λ (n : ℕ). get_or c.self.inside.counts.items n 0) c.number.ensures
    ∙ kept_is c.self.inside.pen (g.P.Keeper.faults c.self.inside.keeper) c.self.inside.counts.items c.args.seat.now.0 (uncounted c.args.self.now c.self.inside.pen c.self.inside.owed (g.P.Keeper.faults c.self.inside.keeper) c.self.inside.counts.items c.self.view_is c.requires.none c.self.invariant.2)))) (search rules) c.in_ok-taught.ensures.ok

pub returns-then-count-clause-err : goal.returns-then-count-clause-err
returns-then-count-clause-err g c = seat_ended c.args.seat.now c.taught-then-count.new.self c.self.inside.pen c.count-count.result c.in-Some.kept c.count-count.ensures
    (c.in-Some.ensures.count ∙ (ap (λ (xs : List ℕ). get_or xs c.number.result 0) c.as_slice.ensures.value ∙ (ap (λ (n : ℕ). get_or c.self.inside.counts.items n 0) c.number.ensures
    ∙ kept_is c.self.inside.pen (g.P.Keeper.faults c.self.inside.keeper) c.self.inside.counts.items c.args.seat.now.0 (uncounted c.args.self.now c.self.inside.pen c.self.inside.owed (g.P.Keeper.faults c.self.inside.keeper) c.self.inside.counts.items c.self.view_is c.requires.none c.self.invariant.2)))) (search rules) (search rules) c.in_ok-taught-2.ensures.ok

pub returns-clause-ok : goal.returns-clause-ok
returns-clause-ok g c = fits_now c.args.seat.now c.self.inside.pen c.args.self.now.0 c.count-count.result c.in-Some.kept (log_is c.args.self.now c.self.inside.pen (turn_in c.self.inside.owed) c.self.view_is) c.count-count.ensures
    (c.in-Some.ensures.count ∙ (ap (λ (xs : List ℕ). get_or xs c.number.result 0) c.as_slice.ensures.value ∙ (ap (λ (n : ℕ). get_or c.self.inside.counts.items n 0) c.number.ensures
    ∙ kept_is c.self.inside.pen (g.P.Keeper.faults c.self.inside.keeper) c.self.inside.counts.items c.args.seat.now.0 (uncounted c.args.self.now c.self.inside.pen c.self.inside.owed (g.P.Keeper.faults c.self.inside.keeper) c.self.inside.counts.items c.self.view_is c.requires.none c.self.invariant.2)))) (search rules) (search rules) (search rules)
