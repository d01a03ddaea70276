use Rattle.std.proofs.Common.{◌∙◌, sym}
use Rattle.std.specs.Option.{option_copied}
use Rattle.ixp_io.proofs.Rows.{after-table_of}
use Rattle.ixp_io.proofs.mem_keeper.find_next.Goals as goal

pub returns : goal.returns
returns c = c.seek.ensures.first ∙ sym (after-table_of (option_copied c.args.after) c.args.rows.now.entries c.seek.ensures.ordered)
