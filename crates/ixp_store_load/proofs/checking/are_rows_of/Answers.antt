use Rattle.std.proofs.Common.{map, ◌∙◌}
use Rattle.ixp_io.specs.Tables.{row_entry}
use Rattle.ixp_store_load.proofs.Batches.{sets_all}
use Rattle.ixp_store_load.proofs.checking.are_rows_of.Goals as goal

pub returns-clause-complete : goal.returns-clause-complete
returns-clause-complete c = λ v all.
    c.are_set.ensures.1
    (c.as_slice.ensures.value
    ∙ sets_all c.args.state.now v (map row_entry c.args.rows.now) all c.in_ok-batch.batch.items c.sort_changes.new.batch.items c.in_ok-batch.ensures.rows c.sort_changes.ensures.moved c.sort_changes.ensures.rises)
