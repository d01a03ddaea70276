use Rattle.std.proofs.Common.{rules, ◌≤◌, ap, sym, ◌∙◌, subst}
use Rattle.ixp_board.specs.Histories.{IsViewOf}
use Rattle.ixp_build.specs.Bundles.{built_of}
use Rattle.ixp_desk_history.specs.declared.turn.Shown.{Shown}
use Rattle.ixp_desk_history.specs.Legal.{Legal}
use Rattle.ixp_desk_history.specs.Turns.{shown_after}
use Rattle.ixp_desk.proofs.Views.{text_seen}
use Rattle.ixp_desk.proofs.publishing.text_seen.Goals as goal

pub returns : goal.returns
returns g c =
    let late : c.args.must ≤ c.built.result = search rules in
    let view : IsViewOf Legal shown_after c.args.seat.now.2 c.get-shown.result.now
    = subst (λ (w : Shown). IsViewOf Legal shown_after c.args.seat.now.2 w) (sym c.get-shown.ensures) c.view.ensures in
    text_seen c.args.seat.now.2 c.get-shown.result.now view c.args.must c.args.router.now c.in_ok-text.text
    (subst (λ n. c.args.must ≤ n) (c.built.ensures ∙ ap built_of c.get.ensures) late) c.in_ok-text.ensures
