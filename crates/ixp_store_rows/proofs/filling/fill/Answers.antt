use Rattle.std.proofs.Common.{ap, ◌∙◌}
use Rattle.std.specs.FinMap.{empty}
use Rattle.ixp_io.specs.Tables.{changed}
use Rattle.ixp_store_rows.proofs.Empty.{filled, full}
use Rattle.ixp_store_rows.proofs.filling.fill.Goals as goal

pub returns-in-Some-clause-full : goal.returns-in-Some-clause-full
returns-in-Some-clause-full g c = λ _. full _ _ _ c.in-Some.is c.in_ok-next_row.ensures.row

pub returns-clause-filled : goal.returns-clause-filled
returns-clause-filled g c =
    filled _ _ _ c.in_ok-next_row.field-0 c.as_slice.result.now _ c.in-None.is c.in_ok-next_row.ensures.row c.next_row.ensures.kept c.in_ok-commit.ensures.made (ap (λ cs. changed empty cs) c.as_slice.ensures.value ∙ c.in_ok-batch.ensures.tables)
