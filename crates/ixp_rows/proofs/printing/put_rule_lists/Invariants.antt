use Rattle.std.proofs.Common.{◌≡◌, ◌++◌, drop, flat_map}
use Rattle.ixp_rows_lines.specs.Lines.{rule_line}
use Rattle.ixp_registry.specs.Registries.{rules_in}
use Rattle.ixp_rows.specs.Texts.{lines_by}
use Rattle.ixp_rows.proofs.printing.put_rule_lists.Given as goal

abbrev pub invariant-loop-list : goal.invariant-loop-list
invariant-loop-list l =
    l.out.items ++ lines_by rule_line (flat_map rules_in (drop l.list-index l.lists)) ≡ l.fn.out.items ++ lines_by rule_line (flat_map rules_in l.lists)
