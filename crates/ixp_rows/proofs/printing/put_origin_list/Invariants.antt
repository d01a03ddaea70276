use Rattle.std.proofs.Common.{◌≡◌, ◌++◌, drop, map}
use Rattle.ixp_rows_lines.specs.Lines.{origin_line}
use Rattle.ixp_rows.specs.Texts.{lines_by}
use Rattle.ixp_rows.proofs.printing.put_origin_list.Given as goal

abbrev pub invariant-loop-asn : goal.invariant-loop-asn
invariant-loop-asn l =
    l.out.items ++ lines_by origin_line (map (λ a. record { member = l.list.member; family = l.list.family; asn = a }) (drop l.asn-index l.list.asns))
    ≡ l.fn.out.items ++ lines_by origin_line (map (λ a. record { member = l.list.member; family = l.list.family; asn = a }) l.list.asns)
