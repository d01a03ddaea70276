use Rattle.std.proofs.Common.{◌≡◌, length, map}
use Rattle.ixp_rows_lines.specs.Fields.{OneOf}
use Rattle.ixp_rows_lines.specs.Reading.{value_of}
use Rattle.ixp_rows_lines.proofs.words.value_among.Given as goal

abbrev pub invariant-each : goal.invariant-each
invariant-each g l = value_of (OneOf (map g.W.Worded.word_of l.left)) l.field ≡ value_of (OneOf (map g.W.Worded.word_of l.fn.values)) l.field

abbrev pub decreases-each : goal.decreases-each
decreases-each g l = length l.left
