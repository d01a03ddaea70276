use Rattle.ixp_roa.proofs.CsvFields.{no_prefix}
use Rattle.ixp_roa.proofs.csv_rows.prefix_field.Goals as goal

pub returns-in-Err : goal.returns-in-Err
returns-in-Err c = no_prefix c.args.field.now c.in-Err.field-0 c.in-Err.ensures
