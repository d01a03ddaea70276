use Rattle.std.proofs.Common.{sym, subst}
use Rattle.ixp_num_tables.specs.Tables.{Ascends}
use Rattle.ixp_registry_demo.proofs.Numbering.{keyed_rise}
use Rattle.ixp_registry_demo.proofs.numbered.one_each.Goals as goal

pub from_ascending-requires : goal.from_ascending-requires
from_ascending-requires g c =
    let row = g.R.Numbered.row_of in
    let n = c.loop-before.before in
    subst (Ascends g.R.Row.key_of) (sym c.loop-before.invariant) (keyed_rise row g.R.Row.key_of g.R.Numbered.behind n g.met.R.Numbered.keyed)
