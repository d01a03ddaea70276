use Rattle.std.proofs.Common.{◌≡◌, ◌++◌, drop, map, flat_map}
use Rattle.ixp_rows_lines.specs.Lines.{line_text, origin_line}
use Rattle.ixp_registry.specs.declared.lists.MemberOrigin.{MemberOrigin}
use Rattle.ixp_store_rows.proofs.lists.origins_body.Given as goal

abbrev pub invariant-loop-asn : goal.invariant-loop-asn
invariant-loop-asn l = l.text.items ++ flat_map (λ o. line_text (origin_line o)) (map (λ a. let row : MemberOrigin = record { member = l.list.member; family = l.list.family; asn = a } in row) (drop l.asn-index l.list.asns)) ≡ flat_map (λ o. line_text (origin_line o)) (map (λ a. let row : MemberOrigin = record { member = l.list.member; family = l.list.family; asn = a } in row) l.list.asns)
