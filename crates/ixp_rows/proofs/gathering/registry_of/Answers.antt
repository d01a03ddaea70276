use Rattle.std.proofs.Common.{sym, ◌∙◌, subst}
use Rattle.ixp_num_tables.specs.Tables.{Ascends}
use Rattle.ixp_registry.specs.Keys.{interface_row_key}
use Rattle.ixp_rows.proofs.Gathered.{AreThere, all_there, bare_ascends}
use Rattle.ixp_rows.proofs.gathering.registry_of.Goals as goal

pub interfaces_of-requires-clause-there : goal.interfaces_of-requires-clause-there
interfaces_of-requires-clause-there c =
    subst (λ rows. AreThere rows c.into_rows.result.items) (sym c.as_slice.ensures.rows)
    (subst (λ addresses. AreThere c.args.rows.interfaces addresses) (sym c.into_rows.ensures.rows) (all_there c.args.rows c.requires))

pub from_ascending-requires : goal.from_ascending-requires
from_ascending-requires c =
    bare_ascends c.in_ok-with.with.items (subst (Ascends interface_row_key) (sym (c.in_ok-with.ensures.rows ∙ c.as_slice.ensures.rows)) c.as_slice.ensures.ascends)
