use Rattle.std.proofs.Common.{length}
use Rattle.std.specs.List.{AllByRecursion}
use Rattle.ixp_num_tables.specs.Tables.{Ascends}
use Rattle.ixp_rows.specs.Reading.{section}
use Rattle.ixp_rows.proofs.Sections.{Reads}
use Rattle.ixp_rows.proofs.section.section.Given as goal

abbrev pub invariant-each : goal.invariant-each
invariant-each g l = record {
  reads : Reads (g.K.Lined.fields l.version) g.K.Lined.key l.version g.K.Lined.row_kind (section l.version g.K.Lined.row_kind l.fn.text) l.rows.items l.rest;
  ascends : Ascends g.K.Lined.key l.rows.items;
  of_version : AllByRecursion (g.K.Lined.of_version l.version) l.rows.items;
}

abbrev pub decreases-each : goal.decreases-each
decreases-each g l = length l.rest
