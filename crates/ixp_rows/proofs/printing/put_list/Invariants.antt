use Rattle.std.proofs.Common.{◌≡◌, ◌++◌, drop, map}
use Rattle.ixp_rows_lines.specs.Lines.{prefix_line}
use Rattle.ixp_rows.specs.Texts.{lines_by}
use Rattle.ixp_rows.proofs.printing.put_list.Given as goal

abbrev pub invariant-loop-prefix : goal.invariant-loop-prefix
invariant-loop-prefix l =
    l.out.items ++ lines_by prefix_line (map (λ p. record { member = l.list.member; prefix = p }) (drop l.prefix-index l.list.prefixes))
    ≡ l.fn.out.items ++ lines_by prefix_line (map (λ p. record { member = l.list.member; prefix = p }) l.list.prefixes)
