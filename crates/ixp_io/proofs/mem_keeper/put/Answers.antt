use Rattle.std.proofs.Common.{◌∙◌, Some}
use Rattle.std.specs.FinMap.{insert}
use Rattle.ixp_io.specs.Tables.{table_of}
use Rattle.ixp_io.proofs.Rows.{set-table_of}
use Rattle.ixp_io.proofs.mem_keeper.put.Goals as goal

pub returns : goal.returns
returns c =
    set-table_of c.args.rows.now.entries c.insert.new.self.entries c.in_ok-name.name (Some c.in_ok-body.body) c.in_ok-insert.ensures.was_ordered c.in_ok-insert.ensures.ordered c.in_ok-insert.ensures.updates.0
    ∙ (λ i. insert (table_of c.args.rows.now) (c.in_ok-name.ensures i) (c.in_ok-body.ensures i))
