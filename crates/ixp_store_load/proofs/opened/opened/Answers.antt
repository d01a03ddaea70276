use Rattle.std.proofs.Common.{length, sym, ◌∙◌}
use Rattle.std.proofs.lemmas.Bool.{eqb-true}
use Rattle.ixp_rows.proofs.Gathered.{no_rows}
use Rattle.ixp_store_damage.proofs.WholeStates.{not_none}
use Rattle.ixp_store_load.proofs.opened.opened.Goals as goal

pub returns-then-is_empty-clause-complete : goal.returns-then-is_empty-clause-complete
returns-then-is_empty-clause-complete c = λ s v stores all old none.
    not_none s c.args.rows.now (no_rows c.args.rows.now (eqb-true (length c.args.rows.now) 0 (sym c.is_empty.ensures ∙ c.if-is_empty.true))) all
