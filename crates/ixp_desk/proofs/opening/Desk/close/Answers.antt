use Rattle.std.proofs.Common.{ℕ, None, ap, subst}
use Rattle.logbook.specs.Pages.{Book}
use Rattle.ixp_board.specs.Histories.{IsViewOf}
use Rattle.ixp_desk_history.specs.Legal.{Legal}
use Rattle.ixp_desk_history.specs.Turns.{shown_after}
use Rattle.ixp_desk_lock.specs.Facts.{KeepsStore, Log}
use Rattle.ixp_desk.proofs.Beginning.{closes}
use Rattle.ixp_desk.proofs.opening.Desk.close.Goals as goal

pub returns : goal.returns
returns g c =
    let rows = g.P.Keeper.table c.self.inside.keeper in
    let faults = g.P.Keeper.faults c.self.inside.keeper in
    let view : IsViewOf Legal shown_after c.self.inside.opened.1 c._opened.inside.view
    = subst (λ (l : Log). IsViewOf Legal shown_after l c._opened.inside.view) (ap (λ (x : Book × Log). x.1) c._opened.view_is) c._opened.invariant.0 in
    subst (λ (l : Log). KeepsStore (l, None) rows faults) (ap (λ (x : Book × Log × ℕ). x.1) c.self.view_is)
    (closes rows faults c.self.inside.state c.self.inside.opened.1 c._opened.inside.view view c.self.invariant.1 c.self.invariant.0)
