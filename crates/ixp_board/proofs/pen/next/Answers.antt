use Rattle.ixp_board.proofs.pen.next.Goals as goal

pub new-published-requires : goal.new-published-requires
new-published-requires g c =
    rw (c.again.ensures, c.if-not-add.ensures, c.again-front.ensures, c.front.ensures, c.in_ok-published.ensures) (c.in_ok-view.ensures)

pub new-told-requires : goal.new-told-requires
new-told-requires g c =
    rw (c.again-2.ensures, c.if-not-add.ensures, c.again-front.ensures, c.front.ensures, c.in_ok-told.ensures) (c.in_ok-view.ensures)

pub new-requires : goal.new-requires
new-requires g c = rw (c.if-not-add.ensures, c.again-front.ensures, c.front.ensures) (c.in_ok-view.ensures)
