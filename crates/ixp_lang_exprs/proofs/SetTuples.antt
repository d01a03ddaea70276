-- The tuples of a set, for laws of crates above.
use Rattle.std.proofs.Common.{ℕ, Option}
use Rattle.ixp_lang_exprs.specs.declared.elements.Tuple.{Tuple}
use Rattle.ixp_lang_exprs.specs.declared.elements.Tuple.TheVariants.{Pair, Triple}

abbrev pub SetTuple : Type 0
SetTuple = Tuple

pattern abbrev pub of_two : ℕ → Option ℕ → SetTuple
of_two a b = Pair a b

pattern abbrev pub of_three : ℕ → ℕ → Option ℕ → SetTuple
of_three a b c = Triple a b c
