use Rattle.std.proofs.Common.{rules}
use Rattle.csv.specs.Records.{fields_of}
use Rattle.ixp_roa.proofs.CsvRows.{no_name, name_is}
use Rattle.ixp_roa.proofs.csv_text.is_header.Goals as goal

pub returns-in-Some : goal.returns-in-Some
returns-in-Some c = name_is (fields_of c.args.row.now) c.in-Some.field.now c.eq.result c.in-Some.ensures.value (search rules)

pub returns-in-None : goal.returns-in-None
returns-in-None c = no_name (fields_of c.args.row.now) c.in-None.ensures.value
