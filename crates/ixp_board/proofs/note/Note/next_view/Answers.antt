use Rattle.ixp_board.specs.Histories.{IsLegal, with_turn}
use Rattle.ixp_board.proofs.Entries.{may_step, stepped}
use Rattle.ixp_board.proofs.note.Note.next_view.Goals as goal

pub step-requires : goal.step-requires
step-requires g c =
    let stays : IsLegal g.S.Story.legal (with_turn c.self.inside.front c.args.op.now) = rw c.self.view_is c.requires in
    may_step g.S.Story.legal g.S.Story.fold c.self.inside.front c.self.inside.view c.args.op.now c.self.invariant stays

pub returns : goal.returns
returns g c =
    let stays : IsLegal g.S.Story.legal (with_turn c.self.inside.front c.args.op.now) = rw c.self.view_is c.requires in
    rw (← c.self.view_is)
    (stepped g.S.Story.legal g.S.Story.fold c.self.inside.front c.self.inside.view c.args.op.now c.in_ok-view.view c.self.invariant stays c.in_ok-view.ensures)
