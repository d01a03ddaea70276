use Rattle.std.proofs.Common.{◌≡◌, ◌++◌, drop, map, flat_map}
use Rattle.ixp_rows_lines.specs.Lines.{line_text, prefix_line}
use Rattle.ixp_registry.specs.declared.lists.MemberPrefix.{MemberPrefix}
use Rattle.ixp_store_rows.proofs.lists.irr_body.Given as goal

abbrev pub invariant-loop-prefix : goal.invariant-loop-prefix
invariant-loop-prefix l = l.text.items ++ flat_map (λ p. line_text (prefix_line p)) (map (λ p. let row : MemberPrefix = record { member = l.list.member; prefix = p } in row) (drop l.prefix-index l.list.prefixes)) ≡ flat_map (λ p. line_text (prefix_line p)) (map (λ p. let row : MemberPrefix = record { member = l.list.member; prefix = p } in row) l.list.prefixes)
