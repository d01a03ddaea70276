use Rattle.std.proofs.Common.{ap}
use mathlib.Core.List.{IsPrefix}
use Rattle.ixp_board.proofs.Entries.{begin_by_turns}
use Rattle.ixp_board.proofs.front.Front.is_before.Goals as goal

pub returns : goal.returns
returns g c =
    let both = c.learn.new.self.log in
    let this : IsPrefix c.self.inside.seen.log both = rw (← ap (λ s. s.log) c.again-both.ensures) c.learn.ensures.2 in
    rw (← c.self.view_is, ← c.other.view_is)
    (begin_by_turns g.S.Story.legal c.self.inside.seen.log c.other.inside.seen.log both c.self.inside.turns c.other.inside.turns
    c.self.invariant.0 c.other.invariant.0 c.self.invariant.1 c.other.invariant.1 this c.learn.ensures.3)
