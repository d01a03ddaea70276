use Rattle.std.proofs.Common.{sym}
use Rattle.ixp_lang.specs.Trees.{stmts}
use Rattle.ixp_lang.specs.Views.{item_view, stmts_view}
use Rattle.ixp_eval.proofs.Found.{no_filter_place, no_filter_item, no_filter_part, filter_is_found}
use Rattle.ixp_eval.proofs.find.filter_of.Goals as goal

pub returns-in_err-place : goal.returns-in_err-place
returns-in_err-place c = rw c.from_residual.ensures (sym (no_filter_place c.args.name.now c.args.before (sym c.in_err-place.ensures)))

pub returns-in_err-item : goal.returns-in_err-item
returns-in_err-item c =
    no_filter_item c.args.name.now c.args.before c.in_ok-place.place (sym c.in_ok-place.ensures)
    (sym c.in_err-item.ensures)

pub returns-in_err-body : goal.returns-in_err-body
returns-in_err-body c =
    no_filter_part c.args.name.now c.args.before c.in_ok-place.place (item_view c.in_ok-item.item.now) (sym c.in_ok-place.ensures)
    (sym c.in_ok-item.ensures) (sym c.in_err-body.ensures)

pub returns : goal.returns
returns c =
    let found =
    filter_is_found c.args.name.now c.args.before c.in_ok-place.place (item_view c.in_ok-item.item.now) (stmts (stmts_view c.in_ok-body.body.now)) (sym c.in_ok-place.ensures)
    (sym c.in_ok-item.ensures) (sym c.in_ok-body.ensures)
    in
    rw (c.until.ensures.index, c.until.ensures.count) (sym found)
