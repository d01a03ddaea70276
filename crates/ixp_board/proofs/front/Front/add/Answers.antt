use Rattle.std.proofs.Common.{◌≡◌, [], ◌∷◌, ◌++◌, sym, ◌∙◌, ap, arith}
use Rattle.ixp_board.specs.Histories.{IsLegal, with_turn}
use Rattle.ixp_board.proofs.Adding.{add_moves, added, told}
use Rattle.ixp_board.proofs.front.Front.add.Goals as goal

pub compare_exchange-found-requires : goal.compare_exchange-found-requires
compare_exchange-found-requires g c =
    let head = c.requires.head in
    let offer = c.plain-offer.ensures in
    let pen = c.no_pen-pen.ensures in
    let seen = c.self.inside.seen.log in
    let same = c.again-seen.ensures in
    let book = ap (λ s. s.book) same ∙ (c.self.invariant.2 ∙ sym (ap (λ w. w.book) head)) in
    let stays : IsLegal g.S.Story.legal (with_turn seen c.args.op.now) = rw c.self.view_is c.requires.legal in (
      ap (λ w. w.tracked) head,
      book,
      pen.0 ∙ book,
      offer.0,
      rw (ap (λ w. w.key) head, pen.1, offer.1, offer.3, ap (λ s. s.log) same)
          (add_moves g.S.Story.legal seen c.args.op.now c.self.inside.turns c.in-Some.next (sym c.self.invariant.0) (omega arith) stays c.self.invariant.1),
    )

pub invariant_of-self : goal.invariant_of-self
invariant_of-self g c =
    let seen = c.self.inside.seen.log in
    let log = c.compare_exchange-found.new.seen.log in
    let same = c.again-seen.ensures in
    let stays : IsLegal g.S.Story.legal (with_turn seen c.args.op.now) = rw c.self.view_is c.requires.legal in
    let after = told (log ≡ c.again-seen.result.log ++ c.plain-offer.result.ask ∷ []) c.compare_exchange-found.result c.self.inside.turns c.if-found-turns.false c.compare_exchange-found.ensures.7 in
    let is : log ≡ with_turn seen c.args.op.now = rw (← ap (λ s. s.log) same, ← c.plain-offer.ensures.1) after in
    let front = added g.S.Story.legal seen log c.args.op.now c.self.inside.turns c.in-Some.next is (sym c.self.invariant.0) (omega arith) stays in
    (front.0, front.1, c.compare_exchange-found.ensures.0 ∙ (ap (λ s. s.book) same ∙ c.self.invariant.2))
