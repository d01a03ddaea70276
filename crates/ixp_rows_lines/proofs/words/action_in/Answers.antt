use Rattle.std.proofs.Common.{rules}
use Rattle.ixp_rows_lines.specs.Reading.{value_of}
use Rattle.ixp_rows_lines.proofs.DigitWords.{digit_1, digit_2, digit_3}
use Rattle.ixp_rows_lines.proofs.words.action_in.Goals as goal

pub returns-then-eq-2 : goal.returns-then-eq-2
unfolding value_of
returns-then-eq-2 c = rw digit_1 (search rules)

pub returns-then-eq-3 : goal.returns-then-eq-3
unfolding value_of
returns-then-eq-3 c = rw digit_2 (search rules)

pub returns-then-eq-4 : goal.returns-then-eq-4
unfolding value_of
returns-then-eq-4 c = rw digit_3 (search rules)
