use Rattle.std.proofs.Common.{ap, sym, subst, ◌∙◌}
use Rattle.ixp_num_tables.specs.Tables.{Ascends, find}
use Rattle.ixp_num_tables.proofs.Places.{find_here, find_gap}
use Rattle.ixp_num_tables.proofs.table.Table.find.Goals as goal

pub returns-in-Ok : goal.returns-in-Ok
returns-in-Ok g c =
    let up = subst (Ascends g.R.Row.key_of) (sym c.as_slice-rows.ensures.value) c.self.invariant in
    find_here g.R.Row.key_of (g.R.Row.named c.args.key.now) c.as_slice-rows.result.now c.in-Ok.at c.index-rows-at.result up c.in-Ok.ensures.place c.in-Ok.ensures.here c.index-rows-at.is
    ∙ ap (find g.R.Row.key_of (g.R.Row.named c.args.key.now)) (c.as_slice-rows.ensures.value ∙ c.self.view_is)

pub returns-in-Err : goal.returns-in-Err
returns-in-Err g c =
    let up = subst (Ascends g.R.Row.key_of) (sym c.as_slice-rows.ensures.value) c.self.invariant in
    find_gap g.R.Row.key_of (g.R.Row.named c.args.key.now) c.as_slice-rows.result.now c.in-Err.field-0 up c.in-Err.ensures.place
    ∙ ap (find g.R.Row.key_of (g.R.Row.named c.args.key.now)) (c.as_slice-rows.ensures.value ∙ c.self.view_is)
