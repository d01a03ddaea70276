use Rattle.std.proofs.Common.{◌≡◌, ◌++◌, List, length, map}
use Rattle.ixp_io.specs.Tables.{row_entry}
use Rattle.ixp_registry.specs.declared.kind.Kind.{Kind}
use Rattle.ixp_store_rows.specs.Names.{Entry}
use Rattle.ixp_store_damage.specs.Placing.{AllSaid, AreSections, ref_entry}
use Rattle.ixp_store_damage.proofs.breaking.add_kinds.Given as goal

abbrev pub invariant-each : goal.invariant-each
invariant-each l =
    ((kind : Kind) → AllSaid (map row_entry l.fn.rows) kind) → (own : List Entry) → AreSections (map row_entry l.fn.rows) l.left own
    → (all : List Entry) × AreSections (map row_entry l.fn.rows) l.fn.kinds all × (map ref_entry l.ordered.items ++ own ≡ map ref_entry l.fn.ordered.items ++ all)

abbrev pub decreases-each : goal.decreases-each
decreases-each l = length l.left
