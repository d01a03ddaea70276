use Rattle.std.proofs.Common.{◌≡◌, Option, Some, option_map, ap, subst}
use Rattle.std.specs.Option.{option_copied}
use Rattle.ixp_io.specs.declared.keeper.Row.{Row}
use Rattle.ixp_io.specs.Tables.{next_after, row_entry}
use Rattle.ixp_io.specs.Told.{WhereTold}
use Rattle.ixp_store_upgrade.proofs.Images.{next_told}
use Rattle.ixp_store_upgrade.proofs.raising.next_now.Goals as goal

pub returns-in_ok-row_now-in-Some-clause-row : goal.returns-in_ok-row_now-in-Some-clause-row
returns-in_ok-row_now-in-Some-clause-row g c =
    next_told (g.P.Keeper.table c.args.keeper.now) (option_copied c.args.after) (Some c.in-Some.row) (Some c.in_ok-row_now-in-Some.field-0)
    (subst (λ (o : Option Row). WhereTold (g.P.Keeper.table c.args.keeper.now) (λ rows. option_map row_entry o ≡ next_after (option_copied c.args.after) rows)) c.in-Some.is c.in_ok-row.ensures.row)
    (ap Some c.in_ok-row_now-in-Some.ensures)
