use Rattle.std.proofs.Common.{◌≡◌, ◌++◌, drop, flat_map}
use Rattle.percent_encoding.specs.Percent.{encode_byte}
use Rattle.ixp_rows_lines.specs.declared.free.TheConstants.{ESCAPED}
use Rattle.ixp_rows_lines.proofs.free.put_all_escaped.Given as goal

abbrev pub invariant-loop-byte : goal.invariant-loop-byte
invariant-loop-byte l = l.out.items ++ flat_map (encode_byte ESCAPED) (drop l.byte-index l.text) ≡ l.fn.out.items ++ flat_map (encode_byte ESCAPED) l.text
