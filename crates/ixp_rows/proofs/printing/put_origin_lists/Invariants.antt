use Rattle.std.proofs.Common.{◌≡◌, ◌++◌, drop, flat_map}
use Rattle.ixp_rows_lines.specs.Lines.{origin_line}
use Rattle.ixp_registry.specs.Registries.{origins_of}
use Rattle.ixp_rows.specs.Texts.{lines_by}
use Rattle.ixp_rows.proofs.printing.put_origin_lists.Given as goal

abbrev pub invariant-loop-list : goal.invariant-loop-list
invariant-loop-list l =
    l.out.items ++ lines_by origin_line (flat_map origins_of (drop l.list-index l.lists)) ≡ l.fn.out.items ++ lines_by origin_line (flat_map origins_of l.lists)
