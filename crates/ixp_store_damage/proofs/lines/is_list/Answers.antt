use Rattle.std.proofs.Common.{◌≡◌, true, false}
use Rattle.ixp_io.specs.Tables.{row_entry}
use Rattle.ixp_store_damage.proofs.LineRows.{empty_list}
use Rattle.ixp_store_damage.proofs.lines.is_list.Goals as goal

pub returns-then-is_empty : goal.returns-then-is_empty
returns-then-is_empty g c = λ at. (
  (λ bad. absurd (let wrong : false ≡ true = bad in cc)),
  (λ is. absurd (empty_list g.R.Lined.row_kind (row_entry c.args.row.now) (c.is_empty.ensures.0 c.if-is_empty.true) is)),
)
