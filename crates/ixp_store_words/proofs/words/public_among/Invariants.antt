use Rattle.std.proofs.Common.{◌≡◌, length, find as first_with}
use Rattle.ixp_registry.specs.Codes.{public_word}
use Rattle.ixp_num_tables.specs.Tables.{same}
use Rattle.ixp_store_words.proofs.words.public_among.Given as goal

abbrev pub invariant-each : goal.invariant-each
invariant-each l = first_with (λ kind. same (public_word kind) l.word) l.left ≡ first_with (λ kind. same (public_word kind) l.word) l.fn.kinds

abbrev pub decreases-each : goal.decreases-each
decreases-each l = length l.left
