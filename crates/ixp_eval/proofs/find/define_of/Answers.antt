use Rattle.std.proofs.Common.{sym}
use Rattle.ixp_lang.specs.Views.{expr_view, item_view}
use Rattle.ixp_eval.proofs.Found.{no_define_place, no_define_item, no_define_part, define_is_found}
use Rattle.ixp_eval.proofs.find.define_of.Goals as goal

pub returns-in_err-place : goal.returns-in_err-place
returns-in_err-place c = rw c.from_residual.ensures (sym (no_define_place c.args.name.now c.args.before (sym c.in_err-place.ensures)))

pub returns-in_err-item : goal.returns-in_err-item
returns-in_err-item c =
    no_define_item c.args.name.now c.args.before c.in_ok-place.place (sym c.in_ok-place.ensures)
    (sym c.in_err-item.ensures)

pub returns-in_err-value : goal.returns-in_err-value
returns-in_err-value c =
    no_define_part c.args.name.now c.args.before c.in_ok-place.place (item_view c.in_ok-item.item.now) (sym c.in_ok-place.ensures)
    (sym c.in_ok-item.ensures) (sym c.in_err-value.ensures)

pub returns : goal.returns
returns c =
    let found =
    define_is_found c.args.name.now c.args.before c.in_ok-place.place (item_view c.in_ok-item.item.now) (expr_view c.in_ok-value.value.now) (sym c.in_ok-place.ensures)
    (sym c.in_ok-item.ensures) (sym c.in_ok-value.ensures)
    in
    rw (c.until.ensures.index, c.until.ensures.count) (sym found)
