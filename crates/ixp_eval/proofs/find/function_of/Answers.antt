use Rattle.std.proofs.Common.{sym}
use Rattle.ixp_lang.specs.Trees.{stmts}
use Rattle.ixp_lang.specs.Views.{item_view, stmts_view}
use Rattle.ixp_eval.proofs.Found.{no_function_place, no_function_item, no_function_part, function_is_found}
use Rattle.ixp_eval.proofs.find.function_of.Goals as goal

pub returns-in_err-place : goal.returns-in_err-place
returns-in_err-place c = rw c.from_residual.ensures (sym (no_function_place c.args.name.now c.args.before (sym c.in_err-place.ensures)))

pub returns-in_err-item : goal.returns-in_err-item
returns-in_err-item c =
    no_function_item c.args.name.now c.args.before c.in_ok-place.place (sym c.in_ok-place.ensures)
    (sym c.in_err-item.ensures)

pub returns-in_err-params : goal.returns-in_err-params
returns-in_err-params c =
    no_function_part c.args.name.now c.args.before c.in_ok-place.place (item_view c.in_ok-item.item.now) (sym c.in_ok-place.ensures)
    (sym c.in_ok-item.ensures) (sym c.in_err-params.ensures)

pub returns : goal.returns
returns c =
    let found =
    function_is_found c.args.name.now c.args.before c.in_ok-place.place (item_view c.in_ok-item.item.now) (c.in_ok-params.params.now, stmts (stmts_view c.in_ok-params.body.now)) (sym c.in_ok-place.ensures)
    (sym c.in_ok-item.ensures) (sym c.in_ok-params.ensures)
    in
    rw (c.until.ensures.index, c.until.ensures.count) (sym found)
